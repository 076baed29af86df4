-- The rules beside the grammar, and the strategy that a text spells.
use Rattle.std.specs.Prelude.{◌≡◌, ◌⊎◌, ◌≤◌, ℕ, Bool, true, false, List, [], ◌∷◌, ◌++◌, length, Option, Some, None}
use Rattle.std.specs.Prelude.{ℤ, pos, int_le, int_lt, unsigned_abs, position, replicate, slice_get, slice_set}
use Rattle.std.specs.Str.{bytes_eq}
use Rattle.mfotl_lex.specs.declared.fault.LexFault.{LexFault}
use Rattle.mfotl_lex.specs.declared.kind.Mode.TheVariants.{Plain}
use Rattle.mfotl_lex.specs.FirstFault as layer
use Rattle.mfotl_lex.specs.FirstFault.{End}
use Rattle.mfotl_lex.specs.Lexemes.{Lexeme}
use Rattle.mfotl_lex.specs.Numbers.{integer_value}
use Rattle.mfotl_lex.specs.Texts as texts
use Rattle.mfotl_model.specs.Strategies.{Entry, Strategy, workers_of}
use Rattle.mfotl_model.specs.Strategies.Entry.{Uncut, Hash as HashOf, Cut as CutOf}
use Rattle.mfotl_model.specs.declared.policy.Sort.{Sort}
use Rattle.mfotl_model.specs.declared.policy.Sort.TheVariants.{Int, Text}
use Rattle.mfotl_model.specs.declared.policy.Var.{Var}
use Rattle.slice_strategy.specs.declared.stage.Method.{Method}
use Rattle.slice_strategy.specs.declared.stage.Method.TheVariants.{Hash, Cut}
use Rattle.slice_strategy.specs.Grammar.{Integers, First, Next, Entries, NoEntry, Then, Spells}
use Rattle.slice_strategy.specs.Limits.{max_workers}

-- ---- variables

-- the variable of this name, by number
abbrev pub variable_of : List Var → List ℕ → Option ℕ
variable_of vars name = position (λ var. bytes_eq name var.name) vars

-- whether a variable is a string
abbrev pub is_text : Sort → Bool
is_text Text = true
is_text Int = false

-- the same of a variable that may not be free
abbrev pub holds_text : Option Var → Bool
holds_text None = false
holds_text (Some var) = is_text var.sort

-- a number, or 0 where there is none
abbrev pub or_zero : Option ℕ → ℕ
or_zero None = 0
or_zero (Some n) = n

-- the number of the variable that a Word names, where it names one
abbrev pub number_of : List Var → Lexeme → ℕ
number_of vars word = or_zero (variable_of vars word.text)

-- ---- what is written

-- the number that an Integer writes
abbrev pub number : Lexeme → ℤ
number t = integer_value t.text

-- the last of the integers
abbrev pub last_of : Integers → ℤ
last_of (First t) = number t
last_of (Next is comma t) = number t

-- all of them
abbrev pub numbers : Integers → List ℤ
numbers (First t) = number t ∷ []
numbers (Next is comma t) = numbers is ++ number t ∷ []

-- what an entry says
abbrev pub entry_by : Method → Integers → Entry
entry_by Hash is = HashOf (unsigned_abs (last_of is))
entry_by Cut is = CutOf (numbers is)

-- the strategy of the entries: a variable without one isn't cut
abbrev pub strategy_of : List Var → Entries → Strategy
strategy_of vars NoEntry = replicate (length vars) Uncut
strategy_of vars (Then es o is) =
    slice_set (strategy_of vars es) (number_of vars o.name) (entry_by o.method is)

-- one of the entries is this variable's
abbrev pub HasEntry : List Var → Entries → ℕ → Type 0
HasEntry vars NoEntry x = ⊥
HasEntry vars (Then es o is) x = HasEntry vars es x ⊎ (variable_of vars o.name.text ≡ Some x)

-- ---- the rules

-- the Word names a free variable that has no entry before
pub record IsNew (vars : List Var) (es : Entries) (name : Lexeme) : Type 0 where
  pub variable : ℕ
  pub free : variable_of vars name.text ≡ Some variable
  pub first : HasEntry vars es variable → ⊥

-- a string isn't cut
abbrev pub SuitsSort : List Var → Lexeme → Method → Type 0
SuitsSort vars name Hash = Unit {0}
SuitsSort vars name Cut = holds_text (slice_get vars (number_of vars name)) ≡ false

-- a count is at least 1; each cut is above the one before it
abbrev pub AreInOrder : Method → Integers → Type 0
AreInOrder Hash is = int_le (pos 1) (last_of is) ≡ true
AreInOrder Cut (First t) = Unit {0}
AreInOrder Cut (Next is comma t) = AreInOrder Cut is × (int_lt (last_of is) (number t) ≡ true)

-- the rules that the grammar doesn't say: behind each entry there are no more workers than there may be
abbrev pub KeepsRules : List Var → Entries → Type 0
KeepsRules vars NoEntry = Unit {0}
KeepsRules vars (Then es o is) =
    KeepsRules vars es × IsNew vars es o.name × SuitsSort vars o.name o.method × AreInOrder o.method is
    × (workers_of (strategy_of vars (Then es o is)) ≤ max_workers)

-- the tokens of a strategy's bytes, which are all there are
abbrev pub text_of : List ℕ → layer.Text Lexeme LexFault
text_of bytes = texts.text_of Plain bytes

-- the text is whole tokens that spell entries, they keep the rules, and this is their strategy
pub record IsValue (vars : List Var) (bytes : List ℕ) (strategy : Strategy) : Type 0 where
  pub written : Entries
  pub whole : (text_of bytes).tail ≡ End (length bytes)
  pub spelled : Spells (text_of bytes).list written
  pub rules : KeepsRules vars written
  pub value : strategy ≡ strategy_of vars written
