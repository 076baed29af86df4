-- Texts with the policy or the first fault that they give.
use Rattle.std.specs.Prelude.{◌≡◌, ℕ, zero, suc, List, [], ◌∷◌, ◌++◌, Some, None, Ok, Err}
use Rattle.std.specs.Prelude.{codes, pos, negsuc}
use Rattle.mfotl_lex.specs.declared.fault.LexFaultKind.TheVariants.{BadByte}
use Rattle.mfotl_model.specs.declared.policy.Sort.{Sort}
use Rattle.mfotl_model.specs.declared.policy.Sort.TheVariants as sorts
use Rattle.mfotl_model.specs.declared.formula.Bound.{Bound}
use Rattle.mfotl_model.specs.declared.policy.Var.{Var}
use Rattle.mfotl_model.specs.declared.term.Sign.{Sign}
use Rattle.mfotl_model.specs.declared.term.Sign.TheVariants as signs
use Rattle.mfotl_model.specs.declared.term.Term.{Term}
use Rattle.mfotl_model.specs.declared.term.Term.TheVariants as terms
use Rattle.mfotl_model.specs.declared.value.Value.TheVariants as values
use Rattle.mfotl_model.specs.Formulas as forms
use Rattle.mfotl_model.specs.Formulas.{Form}
use Rattle.mfotl_parse.specs.Intervals.{distances, any_distance}
use Rattle.mfotl_sig.specs.Preds.{PredOf}
use Rattle.mfotl_parse.specs.declared.fault.PolicyFault.{PolicyFault}
use Rattle.mfotl_parse.specs.declared.fault.PolicyFault.TheVariants.{Lex, Syntax, EmptyInterval, BoundRange}
use Rattle.mfotl_parse.specs.declared.fault.PolicyFault.TheVariants.{UnknownPredicate, WrongArity, SortClash}
use Rattle.mfotl_parse.specs.declared.fault.PolicyFault.TheVariants.{TooManyVariables, TooDeep, TooManyNodes}
use Rattle.mfotl_parse.specs.Reading.{reading_on, reading}
use Rattle.mfotl_parse.specs.States.{no_names, ExpectOperand}

-- eight places for integers
abbrev pub eight_integers : List Sort
eight_integers = sorts.Int ∷ sorts.Int ∷ sorts.Int ∷ sorts.Int ∷ sorts.Int ∷ sorts.Int ∷ sorts.Int ∷ sorts.Int ∷ []

-- p(int), s(string), r(int,int), q of eight integers, and _(int)
abbrev pub preds : List PredOf
preds =
    record { number = 0; name = codes "p"; sorts = sorts.Int ∷ [] } ∷
    record { number = 1; name = codes "s"; sorts = sorts.Text ∷ [] } ∷
    record { number = 2; name = codes "r"; sorts = sorts.Int ∷ sorts.Int ∷ [] } ∷
    record { number = 3; name = codes "q"; sorts = eight_integers } ∷
    record { number = 4; name = codes "_"; sorts = sorts.Int ∷ [] } ∷ []

-- the text's first fault is this one
abbrev pub FailsWith : List ℕ → PolicyFault → Type 0
FailsWith text fault = reading text preds ≡ Err fault

-- faults that one token or the end shows
pub record FaultExamples : Type 0 where
  pub clash : FailsWith (codes "NOT (p(x) AND s(x))") (SortClash 16)
  pub arity : FailsWith (codes "NOT p(x,y)") (WrongArity 8)
  pub empty : FailsWith (codes "NOT ONCE[3,3) p(x)") (EmptyInterval 8)
  pub between : FailsWith (codes "NOT ONCE (0,1) p(x)") (EmptyInterval 9)
  pub bad_behind_name : FailsWith (codes "NOT zz $") (Lex (record { kind = BadByte; at = 7 }))
  pub name_alone : FailsWith (codes "NOT zz") (Syntax 6)
  pub unknown : FailsWith (codes "NOT zz( $") (UnknownPredicate 4)
  pub negative_paren : FailsWith (codes "NOT ONCE (-5,3) p(1)") (Syntax 12)
  pub negative_bracket : FailsWith (codes "NOT ONCE [-5,3] p(1)") (Syntax 10)
  pub range_in_paren : FailsWith (codes "NOT ONCE(4611686018427387905 $") (Lex (record { kind = BadByte; at = 29 }))
  pub second_argument : FailsWith (codes "NOT p(1,2 $") (WrongArity 8)
  pub comma_alone : FailsWith (codes "NOT p(1,)") (Syntax 8)
  pub empty_before_bad : FailsWith (codes "NOT ONCE[3,1] $") (EmptyInterval 8)
  pub bad_behind_comma : FailsWith (codes "NOT p(1,$") (Lex (record { kind = BadByte; at = 8 }))
  pub too_few : FailsWith (codes "NOT r(1)") (WrongArity 7)
  pub ninth : FailsWith (codes "NOT (q(a,b,c,d,e,f,g,h) AND p(i))") (TooManyVariables 30)
  pub too_long : FailsWith (codes "NOT ONCE[0,53375995583651d] p(1)") (BoundRange 11)
  pub blank_compared : FailsWith (codes "NOT _ = 1") (Syntax 6)
  pub no_dot : FailsWith (codes "EXISTS x p(x)") (Syntax 9)
  pub comment_at_end : FailsWith (codes "NOT p(x # no more") (Syntax 17)

-- where sorts clash: occurrences and constants in the order of the text, and then signs between variables
pub record ClashExamples : Type 0 where
  pub marked : FailsWith (codes "NOT r(x,?x) OR s(?x)") (SortClash 17)
  pub constant : FailsWith (codes "NOT p(\"a\")") (SortClash 6)
  pub compared : FailsWith (codes "x = \"a\" AND p(x)") (SortClash 14)
  pub constants : FailsWith (codes "1 = \"a\"") (SortClash 2)
  pub compared_pair : FailsWith (codes "x = y AND p(x) AND s(y)") (SortClash 2)
  pub occurrence_before_pair : FailsWith (codes "x = y AND p(x) AND s(y) AND s(x)") (SortClash 30)
  pub hidden : FailsWith (codes "(EXISTS x. p(x)) AND EXISTS x. (s(x) AND p(x))") (SortClash 43)
  pub left_constant : FailsWith (codes "\"a\" < x AND p(x)") (SortClash 14)
  pub inner_of_two : FailsWith (codes "EXISTS x, x. (p(x) AND s(x))") (SortClash 25)
  pub outer_again : FailsWith (codes "EXISTS x. (p(x) AND (EXISTS x. s(x)) AND s(x))") (SortClash 43)
  pub free_again : FailsWith (codes "s(x) AND (EXISTS x. p(x)) AND p(x)") (SortClash 32)
  pub bound_pair : FailsWith (codes "s(y) AND EXISTS x. (x = y AND p(x))") (SortClash 22)
  pub second_pair : FailsWith (codes "(x = y AND p(x)) OR EXISTS y. (x >= y AND s(y))") (SortClash 33)
  pub behind_blanks : FailsWith (codes "EXISTS x. (r(_,_) AND p(x) AND EXISTS y. (s(y) AND p(y)))") (SortClash 53)
  pub before_many : FailsWith (codes "NOT (q(a,b,c,d,e,f,g,h) AND s(i) AND s(a))") (SortClash 39)

-- the text spells this formula over these free variables
abbrev pub IsReadAs : List ℕ → Form → List Var → Type 0
IsReadAs text f vars = reading text preds ≡ Ok (record { formula = f; vars = vars })

-- p of this variable
abbrev pub variable : ℕ → Form
variable number = forms.Atom (record { pred = 0; args = terms.Var number ∷ [] })

-- s of this variable
abbrev pub text_variable : ℕ → Form
text_variable number = forms.Atom (record { pred = 1; args = terms.Var number ∷ [] })

-- r of these variables
abbrev pub pair : ℕ → ℕ → Form
pair left right = forms.Atom (record { pred = 2; args = terms.Var left ∷ terms.Var right ∷ [] })

-- the constant n
abbrev pub int_term : ℕ → Term
int_term n = terms.Const (values.Int (pos n))

-- 1 and 2, compared
abbrev pub one_and_two : Sign → Form
one_and_two sign = forms.Compare (record { sign = sign; left = int_term 1; right = int_term 2 })

-- a column of integers
abbrev pub integer : List ℕ → Var
integer name = record { name = name; sort = sorts.Int }

-- x, bound before all others
abbrev pub first_bound : Bound
first_bound = record { number = 8; name = codes "x" }

-- x, bound after one other
abbrev pub second_bound : Bound
second_bound = record { number = 9; name = codes "x" }

-- the only column is x
abbrev pub free_x : List Var
free_x = integer (codes "x") ∷ []

-- how operators group, and what intervals mean
pub record FormulaExamples : Type 0 where
  pub and_left : IsReadAs (codes "TRUE AND FALSE AND TRUE") (forms.And (forms.And forms.True forms.False) forms.True) []
  pub or_left : IsReadAs (codes "TRUE OR FALSE OR TRUE") (forms.Or (forms.Or forms.True forms.False) forms.True) []
  pub and_in_or : IsReadAs (codes "TRUE OR FALSE AND TRUE") (forms.Or forms.True (forms.And forms.False forms.True)) []
  pub implies_right : IsReadAs (codes "TRUE IMPLIES FALSE IMPLIES TRUE")
      (forms.Implies forms.True (forms.Implies forms.False forms.True)) []
  pub not_first : IsReadAs (codes "NOT TRUE SINCE FALSE")
      (forms.Since any_distance (forms.Not forms.True) forms.False) []
  pub body : IsReadAs (codes "EXISTS x. p(x) AND p(x)")
      (forms.Exists first_bound (forms.And (variable 8) (variable 8))) []
  pub free_behind : IsReadAs (codes "(EXISTS x. p(x)) AND p(x)")
      (forms.And (forms.Exists first_bound (variable 8)) (variable 0)) free_x
  pub marked : IsReadAs (codes "p(?x) OR p(x)") (forms.Or (variable 0) (variable 0)) free_x
  pub blank : IsReadAs (codes "p(_)") (forms.Exists (record { number = 8; name = codes "_" }) (variable 8)) []
  pub between : IsReadAs (codes "ONCE(1m,2h) TRUE") (forms.Once (distances 61 (Some 7199)) forms.True) []
  pub no_interval : IsReadAs (codes "ONCE (-5 < 3)")
      (forms.Once any_distance
      (forms.Compare
      (record {
        sign = signs.Less;
        left = terms.Const (values.Int (negsuc 4));
        right = terms.Const
            (values.Int (pos 3));
      }))) []
  pub since_right : IsReadAs (codes "TRUE SINCE FALSE UNTIL TRUE")
      (forms.Since any_distance forms.True (forms.Until any_distance forms.False forms.True)) []
  pub since_in_and : IsReadAs (codes "TRUE AND FALSE SINCE TRUE AND FALSE")
      (forms.And (forms.And forms.True (forms.Since any_distance forms.False forms.True)) forms.False) []
  pub equiv_left : IsReadAs (codes "TRUE EQUIV FALSE EQUIV TRUE")
      (forms.Equiv (forms.Equiv forms.True forms.False) forms.True) []
  pub implies_in_equiv : IsReadAs (codes "TRUE IMPLIES FALSE EQUIV TRUE OR FALSE")
      (forms.Equiv (forms.Implies forms.True forms.False) (forms.Or forms.True forms.False)) []
  pub one_operand : IsReadAs (codes "PREVIOUS NEXT ONCE HISTORICALLY EVENTUALLY ALWAYS NOT TRUE")
      (forms.Previous any_distance
      (forms.Next any_distance
      (forms.Once any_distance
      (forms.Historically any_distance
      (forms.Eventually any_distance (forms.Always any_distance (forms.Not forms.True))))))) []
  pub each_sign : IsReadAs (codes "1 = 2 OR 1 < 2 OR 1 <= 2 OR 1 > 2 OR 1 >= 2")
      (forms.Or (forms.Or
      (forms.Or (forms.Or (one_and_two signs.Equal) (one_and_two signs.Less)) (one_and_two signs.LessEqual))
      (one_and_two signs.Greater)) (one_and_two signs.GreaterEqual)) []
  pub each_unit : IsReadAs (codes "ONCE[1s,1m] ONCE[1h,1d] TRUE")
      (forms.Once (distances 1 (Some 60)) (forms.Once (distances 3600 (Some 86400)) forms.True)) []
  pub one_number : IsReadAs (codes "ONCE[3,3] ONCE(3,4] TRUE")
      (forms.Once (distances 3 (Some 3)) (forms.Once (distances 4 (Some 4)) forms.True)) []
  pub minus_zero : IsReadAs (codes "ONCE[-0,3] TRUE") (forms.Once (distances 0 (Some 3)) forms.True) []
  pub longest : IsReadAs (codes "ONCE[0,53375995583650d] TRUE")
      (forms.Once (distances 0 (Some 4611686018427360000)) forms.True) []
  pub past_longest : IsReadAs (codes "ONCE(4611686018427387904,*) TRUE")
      (forms.Once (distances 4611686018427387905 None) forms.True) []

-- which variable a name stands for, and its sort
pub record NameExamples : Type 0 where
  pub first_occurrence : IsReadAs (codes "r(y,x) AND p(y)") (forms.And (pair 0 1) (variable 0))
      (integer (codes "y") ∷ integer (codes "x") ∷ [])
  pub unsorted : IsReadAs (codes "x = y")
      (forms.Compare (record { sign = signs.Equal; left = terms.Var 0; right = terms.Var 1 }))
      (integer (codes "x") ∷ integer (codes "y") ∷ [])
  pub sorted : IsReadAs (codes "x = y AND s(x)")
      (forms.And (forms.Compare (record { sign = signs.Equal; left = terms.Var 0; right = terms.Var 1 }))
      (text_variable 0)) (record { name = codes "x"; sort = sorts.Text } ∷ integer (codes "y") ∷ [])
  pub several : IsReadAs (codes "FORALL x, y. r(x,y)")
      (forms.Forall first_bound (forms.Forall (record { number = 9; name = codes "y" }) (pair 8 9))) []
  pub twice : IsReadAs (codes "EXISTS x, x. p(x)")
      (forms.Exists first_bound (forms.Exists second_bound (variable 9))) []
  pub apart : IsReadAs (codes "p(x) AND EXISTS x. s(x)")
      (forms.And (variable 0) (forms.Exists first_bound (text_variable 8))) free_x
  pub hidden : IsReadAs (codes "EXISTS x. (EXISTS x. p(x)) AND p(x)")
      (forms.Exists first_bound (forms.And (forms.Exists second_bound (variable 9)) (variable 8))) []
  pub blanks : IsReadAs (codes "r(_,_)")
      (forms.Exists (record { number = 8; name = codes "_" })
      (forms.Exists (record { number = 9; name = codes "_" }) (pair 8 9))) []
  pub blank_name : IsReadAs (codes "_(x)") (forms.Atom (record { pred = 4; args = terms.Var 0 ∷ [] })) free_x

-- `NOT ` so many times, and then the text
abbrev pub denied : ℕ → List ℕ → List ℕ
denied zero text = text
denied (suc times) text = codes "NOT " ++ denied times text

-- NOT so many times around the formula
abbrev pub nots : ℕ → Form → Form
nots zero f = f
nots (suc times) f = forms.Not (nots times f)

-- p(1)
abbrev pub of_one : Form
of_one = forms.Atom (record { pred = 0; args = int_term 1 ∷ [] })

-- how much may be open at once
pub record DepthExamples : Type 0 where
  pub deepest : IsReadAs (denied 64 (codes "p(1)")) (nots 64 of_one) []
  pub too_deep : FailsWith (denied 65 (codes "p(1)")) (TooDeep 256)
  pub blank : IsReadAs (denied 64 (codes "p(_)"))
      (nots 64 (forms.Exists (record { number = 8; name = codes "_" }) (variable 8))) []
  pub marked : FailsWith (denied 64 (codes "EXISTS ?x. p(x)")) (TooDeep 263)
  pub paren : FailsWith (denied 63 (codes "ONCE (p(1))")) (TooDeep 257)
  pub bad_in_paren : FailsWith (denied 63 (codes "ONCE ($")) (Lex (record { kind = BadByte; at = 258 }))
  pub bad_behind_number : FailsWith (denied 63 (codes "ONCE (5 $")) (Lex (record { kind = BadByte; at = 260 }))
  pub compared : FailsWith (denied 63 (codes "ONCE (5 < 6)")) (TooDeep 257)
  pub interval : IsReadAs (denied 63 (codes "ONCE (5,6] p(1)")) (nots 63 (forms.Once (distances 6 (Some 6)) of_one)) []

-- where a bound is too long: by its number alone, by its unit, and behind `(` by the token that makes it a bound
pub record BoundExamples : Type 0 where
  pub number : FailsWith (codes "NOT ONCE[4611686018427387905 $") (BoundRange 9)
  pub number_fits : FailsWith (codes "NOT ONCE[53375995583651 $") (Lex (record { kind = BadByte; at = 24 }))
  pub unit : FailsWith (codes "NOT ONCE[53375995583651d $") (BoundRange 9)
  pub paren_number : FailsWith (codes "NOT ONCE(4611686018427387905, $") (BoundRange 9)
  pub paren_unit : FailsWith (codes "NOT ONCE(53375995583651d $") (BoundRange 9)
  pub paren_fits : FailsWith (codes "NOT ONCE(53375995583651 $") (Lex (record { kind = BadByte; at = 24 }))
  pub upper_number : FailsWith (codes "NOT ONCE[0,4611686018427387905 $") (BoundRange 11)
  pub upper_fits : FailsWith (codes "NOT ONCE[0,53375995583651 $") (Lex (record { kind = BadByte; at = 26 }))
  pub upper_unit : FailsWith (codes "NOT ONCE[0,53375995583651d $") (BoundRange 11)
  pub paren_upper : FailsWith (codes "NOT ONCE(0,4611686018427387905 $") (BoundRange 11)
  pub since : FailsWith (codes "TRUE SINCE[0,4611686018427387905] TRUE") (BoundRange 13)

-- the text's first fault, where so many nodes stand before it
abbrev pub FailsBehind : ℕ → List ℕ → PolicyFault → Type 0
FailsBehind nodes text fault =
    reading_on preds text
    (record { context = record { stack = []; nodes = nodes; names = no_names }; now = ExpectOperand }) ≡ Err fault

-- which token makes a node too many
pub record NodeExamples : Type 0 where
  pub fits : FailsBehind 4095 (codes "NOT $") (Lex (record { kind = BadByte; at = 4 }))
  pub truth : FailsBehind 4096 (codes "TRUE $") (TooManyNodes 0)
  pub negation : FailsBehind 4096 (codes "NOT $") (TooManyNodes 0)
  pub temporal : FailsBehind 4096 (codes "ONCE $") (TooManyNodes 0)
  pub operator : FailsBehind 4095 (codes "TRUE AND $") (TooManyNodes 5)
  pub since : FailsBehind 4095 (codes "TRUE SINCE $") (TooManyNodes 5)
  pub variable : FailsBehind 4096 (codes "EXISTS x $") (TooManyNodes 7)
  pub second_variable : FailsBehind 4095 (codes "EXISTS x, ?y $") (TooManyNodes 10)
  pub name : FailsBehind 4096 (codes "p( $") (TooManyNodes 0)
  pub blank : FailsBehind 4095 (codes "p(_ $") (TooManyNodes 2)
  pub sign : FailsBehind 4096 (codes "1 = $") (TooManyNodes 2)
  pub paren : FailsBehind 4096 (codes "( $") (Lex (record { kind = BadByte; at = 2 }))

-- of two faults that one token shows, which one is told
pub record OrderExamples : Type 0 where
  pub unknown_before_nodes : FailsBehind 4096 (codes "zz( $") (UnknownPredicate 0)
  pub arity_before_nodes : FailsBehind 4095 (codes "p(1,_ $") (WrongArity 4)
  pub deep_before_nodes : FailsBehind 4032 (denied 64 (codes "NOT $")) (TooDeep 256)
  pub deep_variable_before_nodes : FailsBehind 4032 (denied 64 (codes "EXISTS x $")) (TooDeep 263)
  pub deep_operator_before_nodes : FailsBehind 4031 (denied 64 (codes "(TRUE SINCE $")) (TooDeep 256)
  pub paren_before_own_level : FailsWith (denied 63 (codes "ONCE (NOT $")) (TooDeep 257)
  pub paren_before_nodes : FailsBehind 4032 (denied 63 (codes "ONCE (TRUE $")) (TooDeep 257)
  pub paren_before_sign : FailsBehind 4032 (denied 63 (codes "ONCE (5 < $")) (TooDeep 257)
  pub paren_before_unknown : FailsWith (denied 63 (codes "ONCE (zz( $")) (TooDeep 257)
