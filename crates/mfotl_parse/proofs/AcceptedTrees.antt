-- What the reader accepts is a formula: what is open is held as trees with a place for their right operand.
use Rattle.std.proofs.Common.{◌≡◌, ℕ, ◌<◌, ◌≤◌, true, List, [], ◌∷◌, ◌++◌, map, refl, ap, sym, ◌∙◌, ◌⊎◌, inl, inr}
use Rattle.std.proofs.Common.{arith}
use Rattle.std.proofs.lemmas.Bool.{cases_lt, le-ltb, lt-ltb}
use Rattle.std.proofs.lemmas.List.{append_assoc}
use Rattle.std.specs.Prelude.{cond, nat_lt}
use Rattle.mfotl_lex.specs.Lexemes.{Lexeme}
use Rattle.mfotl_model.specs.Formulas.{Form}
use Rattle.mfotl_parse.specs.declared.class.Class.TheVariants as classes
use Rattle.mfotl_parse.specs.declared.{class.Operator.Operator, class.Quantifier.Quantifier, class.Temporal.Temporal}
use Rattle.mfotl_parse.specs.{Classes.class_of, States.Frame}
use Rattle.mfotl_parse.specs.Grammar.{WrittenVariables, LastVariable, MoreVariables, WrittenInterval, Tree, Denied}
use Rattle.mfotl_parse.specs.Grammar.{Timed, Quantified, Joined, variables_spelling, interval_spelling, spelling}
use Rattle.mfotl_parse.specs.Grammar.{FitsVariables, FitsInterval, FitsOperator, left_precedence, is_shut, Fits}
use Rattle.mfotl_parse.specs.Grammar.{precedence, right_precedence, is_timed}
use Rattle.mfotl_parse.specs.Reduction.{reduce, hold, closed}
use Rattle.mfotl_parse.proofs.AcceptedIntervals.{push_ones}

-- what is open, with its tokens
pub data Held : Type 0 where
  HeldParens : (opening : Lexeme) → Held
  HeldNot : (token : Lexeme) → Held
  HeldTimed : (token : Lexeme) (operator : Temporal) (interval : WrittenInterval) → Held
  HeldBound : (token : Lexeme) (quantifier : Quantifier) (variables : WrittenVariables) (dot : Lexeme) → Held
  HeldLeft : (left : Tree) (token : Lexeme) (operator : Operator) (interval : WrittenInterval) → Held

abbrev pub own_tokens : Held → List Lexeme
own_tokens (HeldParens opening) = opening ∷ []
own_tokens (HeldNot token) = token ∷ []
own_tokens (HeldTimed token operator interval) = token ∷ interval_spelling interval
own_tokens (HeldBound token quantifier variables dot) = token ∷ (variables_spelling variables ++ dot ∷ [])
own_tokens (HeldLeft left token operator interval) = spelling left ++ token ∷ interval_spelling interval

-- the innermost stands first
abbrev pub held_tokens : List Held → List Lexeme
held_tokens [] = []
held_tokens (h ∷ hs) = held_tokens hs ++ own_tokens h

abbrev pub push_hold : Held → List ℕ → List ℕ
push_hold (HeldParens opening) holds = 0 ∷ holds
push_hold (HeldNot token) holds = 6 ∷ holds
push_hold (HeldTimed token operator interval) holds = 6 ∷ holds
push_hold (HeldBound token quantifier variables dot) holds = push_ones variables holds
push_hold (HeldLeft left token operator interval) holds = right_precedence operator ∷ holds

abbrev pub holds_of : List Held → List ℕ
holds_of [] = []
holds_of (h ∷ hs) = push_hold h (holds_of hs)

abbrev pub FitsHeld : Held → Type 0
FitsHeld (HeldParens opening) = class_of opening ≡ classes.OpenParen
FitsHeld (HeldNot token) = class_of token ≡ classes.Not
FitsHeld (HeldTimed token operator interval) = (class_of token ≡ classes.Temporal operator) × FitsInterval interval
FitsHeld (HeldBound token quantifier variables dot) =
    (class_of token ≡ classes.Quantifier quantifier) × FitsVariables variables × (class_of dot ≡ classes.Dot)
FitsHeld (HeldLeft left token operator interval) =
    Fits (left_precedence operator) left × (is_shut left ≡ true) × (class_of token ≡ classes.Operator operator)
    × FitsOperator (is_timed operator) interval

-- the rule of the operand that is wanted
abbrev pub wanted : List Held → ℕ
wanted [] = 1
wanted (HeldParens opening ∷ hs) = 1
wanted (HeldNot token ∷ hs) = 6
wanted (HeldTimed token operator interval ∷ hs) = 6
wanted (HeldBound token quantifier variables dot ∷ hs) = 1
wanted (HeldLeft left token operator interval ∷ hs) = right_precedence operator

abbrev pub FitsBelow : Held → List Held → Type 0
FitsBelow (HeldLeft left token operator interval) hs = wanted hs ≤ precedence operator
FitsBelow _ hs = Unit {0}

abbrev pub FitAll : List Held → Type 0
FitAll [] = Unit {0}
FitAll (h ∷ hs) = FitsHeld h × FitsBelow h hs × FitAll hs

-- what doesn't hold more tightly than the rule
abbrev pub drop_tight : ℕ → List ℕ → List ℕ
drop_tight rule [] = []
drop_tight rule (n ∷ ns) = cond (nat_lt rule n) (drop_tight rule ns) (n ∷ ns)

pub holds_reduced : (rule : ℕ) (f : Form) (stack : List Frame) → map hold (reduce rule f stack).stack
    ≡ drop_tight rule (map hold stack)
unfolding reduce
holds_reduced rule f [] = refl
holds_reduced rule f (frame ∷ stack) = grind (arith, holds_reduced rule (closed frame f) stack)

drops : (rule n : ℕ) (ns : List ℕ) → rule < n → drop_tight rule (n ∷ ns) ≡ drop_tight rule ns
drops rule n ns h = ap (λ b. cond b (drop_tight rule ns) (n ∷ ns)) (lt-ltb rule n h)

remains : (rule n : ℕ) (ns : List ℕ) → n ≤ rule → drop_tight rule (n ∷ ns) ≡ n ∷ ns
remains rule n ns h = ap (λ b. cond b (drop_tight rule ns) (n ∷ ns)) (le-ltb rule n h)

drops_ones : (rule : ℕ) (vs : WrittenVariables) (ns : List ℕ) → rule < 1 → drop_tight rule (push_ones vs ns)
    ≡ drop_tight rule ns
drops_ones rule (LastVariable v) ns h = drops rule 1 ns h
drops_ones rule (MoreVariables v comma rest) ns h = drops_ones rule rest (1 ∷ ns) h ∙ drops rule 1 ns h

pub first_one : (vs : WrittenVariables) (ns : List ℕ) → (more : List ℕ) × (push_ones vs ns ≡ 1 ∷ more)
first_one (LastVariable v) ns = (ns, refl)
first_one (MoreVariables v comma rest) ns = first_one rest (1 ∷ ns)

remain_ones : (rule : ℕ) (vs : WrittenVariables) (ns : List ℕ) → 1 ≤ rule → drop_tight rule (push_ones vs ns)
    ≡ push_ones vs ns
remain_ones rule vs ns h =
    let f = first_one vs ns in
    ap (drop_tight rule) f.1 ∙ remains rule 1 f.0 h ∙ sym f.1

-- ---- the rules of operators

-- what an operator closes may stand left of it
closes_left : (p o : Operator) → precedence p < right_precedence o → left_precedence p ≤ precedence o
closes_left p o h = grind arith

-- ---- closing

-- an operand, and what is open around it once all is closed that holds more tightly than the rule
pub record Closed (rule : ℕ) (hs : List Held) (tree : Tree) : Type 0 where
  pub whole : Tree
  pub around : List Held
  pub fit_all : FitAll around
  pub fits : Fits (wanted around) whole
  pub left : (o : Operator) → precedence o ≡ rule → Fits (left_precedence o) whole
  pub shut : 1 ≤ rule → is_shut whole ≡ true
  pub tokens : held_tokens hs ++ spelling tree ≡ held_tokens around ++ spelling whole
  pub holds : drop_tight rule (holds_of hs) ≡ holds_of around
  pub loose : wanted around ≤ rule ⊎ (rule ≡ 0)

module _ (rule : ℕ) (below_six : rule < 6) where
  stays : (hs : List Held) (tree : Tree) → FitAll hs → Fits (wanted hs) tree
      → ((o : Operator) → precedence o ≡ rule → Fits (left_precedence o) tree) → (1 ≤ rule → is_shut tree ≡ true)
      → drop_tight rule (holds_of hs) ≡ holds_of hs → wanted hs ≤ rule ⊎ (rule ≡ 0) → Closed rule hs tree
  stays hs tree fit fits left shut same loose = grind arith

  closes : (h : Held) (hs : List Held) (tree bigger : Tree) → (held_tokens hs ++ own_tokens h) ++ spelling tree
      ≡ held_tokens hs ++ spelling bigger
      → drop_tight rule (push_hold h (holds_of hs)) ≡ drop_tight rule (holds_of hs) → Closed rule hs bigger
      → Closed rule (h ∷ hs) tree
  closes h hs tree bigger tokens dropped c = grind arith

  one_or_zero : 1 ≤ rule ⊎ (rule ≡ 0)
  one_or_zero = elim (cases_lt rule 1) [ inl none ↦ inr (omega (arith, none)) | inr some ↦ inl some ]

  pub close : (hs : List Held) (tree : Tree) → FitAll hs → Fits (wanted hs) tree
      → ((o : Operator) → precedence o ≡ rule → Fits (left_precedence o) tree) → (1 ≤ rule → is_shut tree ≡ true)
      → Closed rule hs tree
  close [] tree fit fits left shut = stays [] tree fit fits left shut refl one_or_zero
  close (HeldParens opening ∷ hs) tree fit fits left shut = grind (arith, stays, remains, one_or_zero)
  close (HeldNot token ∷ hs) tree fit fits left shut =
      closes (HeldNot token) hs tree (Denied token tree) (append_assoc (held_tokens hs) (token ∷ []) (spelling tree))
      (drops rule 6 (holds_of hs) below_six)
      (close hs (Denied token tree) fit.2 (fit.0, fits) (λ o e. (fit.0, fits)) shut)
  close (HeldTimed token operator interval ∷ hs) tree fit fits left shut =
      closes (HeldTimed token operator interval) hs tree (Timed token operator interval tree)
      (append_assoc (held_tokens hs) (token ∷ interval_spelling interval) (spelling tree))
      (drops rule 6 (holds_of hs) below_six)
      (close hs (Timed token operator interval tree) fit.2 (fit.0.0, fit.0.1, fits)
      (λ o e. (fit.0.0, fit.0.1, fits)) shut)
  close (HeldBound token quantifier variables dot ∷ hs) tree fit fits left shut =
      elim one_or_zero [
        | inl some ↦ stays (HeldBound token quantifier variables dot ∷ hs) tree fit fits left shut
            (remain_ones rule variables (holds_of hs) some) (inl some)
        | inr none ↦
            closes (HeldBound token quantifier variables dot) hs tree (Quantified token quantifier variables dot tree)
            (grind (arith, append_assoc))
            (drops_ones rule variables (holds_of hs) (omega (arith, none)))
            (close hs (Quantified token quantifier variables dot tree) fit.2 (fit.0.0, fit.0.1, fit.0.2, fits)
            (λ o e. (fit.0.0, fit.0.1, fit.0.2, fits)) (λ some. absurd (omega (arith, some, none))))
      ]
  close (HeldLeft l token operator interval ∷ hs) tree fit fits left shut =
      elim (cases_lt rule (right_precedence operator)) [
        | inl tight ↦
            closes (HeldLeft l token operator interval) hs tree (Joined l token operator interval tree)
            (grind (arith, append_assoc))
            (drops rule (right_precedence operator) (holds_of hs) tight)
            (close hs (Joined l token operator interval tree) fit.2 (fit.1, fit.0.0, fit.0.1, fit.0.2, fit.0.3, fits)
            (λ o e. (closes_left o operator (omega (arith, e, tight)), fit.0.0, fit.0.1, fit.0.2, fit.0.3, fits)) shut)
        | inr loose ↦ stays (HeldLeft l token operator interval ∷ hs) tree fit fits left shut
            (remains rule (right_precedence operator) (holds_of hs) loose) (inl loose)
      ]
