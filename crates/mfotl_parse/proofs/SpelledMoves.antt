-- What several tokens do, one behind the other, and the rules that they have to keep.
use Rattle.std.proofs.Common.{◌≡◌, ℕ, ◌≤◌, false, List, [], ◌∷◌, ◌++◌, Option, Some, None, refl, ap, ◌∙◌, arith}
use Rattle.std.proofs.lemmas.List.{append-nil, append_assoc}
use Rattle.mfotl_lex.specs.Lexemes.{Lexeme}
use Rattle.mfotl_sig.specs.Preds.{PredOf}
use Rattle.mfotl_parse.specs.declared.class.Class.{Class}
use Rattle.mfotl_parse.specs.{Classes.class_of, Reading.transition_at, Reading.transition, Limits.max_levels}
use Rattle.mfotl_parse.specs.Transitions.{Rule, Transition, goes}
use Rattle.mfotl_parse.specs.States.{Frame, SymbolTable, Stage, Context, Partial}

abbrev pub at_place : Stage → List Frame → ℕ → SymbolTable → Partial
at_place now stack nodes names = record { context = record { stack = stack; nodes = nodes; names = names }; now = now }

abbrev pub context_at : List Frame → ℕ → SymbolTable → Context
context_at stack nodes names = record { stack = stack; nodes = nodes; names = names }

abbrev pub behind_move : Transition → Option Transition → Option Transition
behind_move m None = None
behind_move m (Some n) = goes (m.rules ++ n.rules) n.next

abbrev pub then_moves : Option Transition → (Partial → Option Transition) → Option Transition
then_moves None f = None
then_moves (Some m) f = behind_move m (f m.next)

-- where tokens lead as far as the grammar goes, with all rules on the way
unfoldable pub moves : List PredOf → List Lexeme → Partial → Option Transition
moves sig [] p = goes [] p
moves sig (t ∷ ts) p = then_moves (transition sig p t) (moves sig ts)

-- a token of this class
pub move_is : (sig : List PredOf) (p : Partial) (t : Lexeme) (c : Class) → class_of t ≡ c → transition sig p t
    ≡ transition_at p.now sig p.context t c
unfolding transition
move_is sig p t c e = ap (transition_at p.now sig p.context t) e

pub moves_nothing : (sig : List PredOf) (p : Partial) → moves sig [] p ≡ goes [] p
unfolding moves
moves_nothing sig p = refl

pub moves_first : (sig : List PredOf) (t : Lexeme) (ts : List Lexeme) (p q r : Partial) (rules others : List Rule)
    → transition sig p t ≡ goes rules q → moves sig ts q ≡ goes others r → moves sig (t ∷ ts) p
    ≡ goes (rules ++ others) r
unfolding moves
moves_first sig t ts p q r rules others e f =
    ap (λ m. then_moves m (moves sig ts)) e ∙ ap (behind_move (record { rules = rules; next = q })) f

pub moves_one : (sig : List PredOf) (t : Lexeme) (p q : Partial) (rules : List Rule)
    → transition sig p t ≡ goes rules q → moves sig (t ∷ []) p ≡ goes rules q
moves_one sig t p q rules e =
    moves_first sig t [] p q q rules [] e (moves_nothing sig q) ∙ ap (λ x. goes x q) (append-nil rules)

-- one list of tokens, and then another
pub moves_append : (sig : List PredOf) (a b : List Lexeme) (p : Partial) → moves sig (a ++ b) p
    ≡ then_moves (moves sig a p) (moves sig b)
unfolding moves
moves_append sig [] b p = grind arith
moves_append sig (t ∷ a) b p = grind (arith, moves_append sig a b, append_assoc)

pub moves_both : (sig : List PredOf) (a b : List Lexeme) (p q r : Partial) (rules others : List Rule)
    → moves sig a p ≡ goes rules q → moves sig b q ≡ goes others r → moves sig (a ++ b) p ≡ goes (rules ++ others) r
moves_both sig a b p q r rules others e f =
    moves_append sig a b p ∙ ap (λ m. then_moves m (moves sig b)) e
    ∙ ap (behind_move (record { rules = rules; next = q })) f

-- ---- the rules

-- none of the rules is broken
abbrev pub AreKept : List Rule → Type 0
AreKept [] = Unit {0}
AreKept (rule ∷ rules) = (rule.broken ≡ false) × AreKept rules

pub kept_both : (a b : List Rule) → AreKept a → AreKept b → AreKept (a ++ b)
kept_both [] b h k = k
kept_both (rule ∷ a) b h k = (h.0, kept_both a b h.1 k)

pub kept_front : (a b : List Rule) → AreKept (a ++ b) → AreKept a
kept_front [] b k = tt
kept_front (rule ∷ a) b k = (k.0, kept_front a b k.1)

pub kept_back : (a b : List Rule) → AreKept (a ++ b) → AreKept b
kept_back [] b k = k
kept_back (rule ∷ a) b k = kept_back a b k.1

-- the rules are kept exactly where this holds, if no more levels were open before than may be
abbrev pub Exactly : ℕ → Type 0 → List Rule → Type 0
Exactly levels keeps rules = (keeps → AreKept rules) × (levels ≤ max_levels → AreKept rules → keeps)

pub no_move : {q : Partial} {rules : List Rule} → None ≡ goes rules q → ⊥
no_move e = cc

next_or : Partial → Option Transition → Partial
next_or p None = p
next_or p (Some m) = m.next

rules_in : Option Transition → List Rule
rules_in None = []
rules_in (Some m) = m.rules

pub same_next : {rules others : List Rule} {p q : Partial} → goes rules p ≡ goes others q → p ≡ q
unfolding next_or
same_next {p = p} e = ap (next_or p) e

pub same_rules : {rules others : List Rule} {p q : Partial} → goes rules p ≡ goes others q → rules ≡ others
unfolding rules_in
same_rules e = ap rules_in e

-- the first token of some, and those behind it
pub record FirstMove (sig : List PredOf) (t : Lexeme) (ts : List Lexeme) (p q : Partial)
    (rules : List Rule) : Type 0 where
  pub between : Partial
  pub own : List Rule
  pub later : List Rule
  pub first : transition sig p t ≡ goes own between
  pub rest : moves sig ts between ≡ goes later q
  pub all : own ++ later ≡ rules

pub moves_cons : (sig : List PredOf) (t : Lexeme) (ts : List Lexeme) (p q : Partial) (rules : List Rule)
    → moves sig (t ∷ ts) p ≡ goes rules q → FirstMove sig t ts p q rules
unfolding moves
moves_cons sig t ts p q rules e = by_move (transition sig p t) refl e
  where
    by_rest : (m : Transition) (o : Option Transition) → transition sig p t ≡ Some m → moves sig ts m.next ≡ o
        → behind_move m o ≡ goes rules q → FirstMove sig t ts p q rules
    by_rest m None f g h = absurd (no_move h)
    by_rest m (Some n) f g h =
        record {
          between = m.next;
          own = m.rules;
          later = n.rules;
          first = f;
          rest = g ∙ ap (goes n.rules) (same_next h);
          all = same_rules h;
        }

    by_move : (o : Option Transition) → transition sig p t ≡ o → then_moves o (moves sig ts) ≡ goes rules q
        → FirstMove sig t ts p q rules
    by_move None f g = absurd (no_move g)
    by_move (Some m) f g = by_rest m (moves sig ts m.next) f refl g
