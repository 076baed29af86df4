-- The rules of a change script beside its grammar, and the changes that it spells.
use Rattle.std.specs.Prelude.{◌≡◌, ◌<◌, ◌≤◌, ℕ, List, [], ◌∷◌, ◌++◌, length, unsigned_abs}
use Rattle.mfotl_lex.specs.FirstFault.{End}
use Rattle.mfotl_lex.specs.Lexemes.{Lexeme}
use Rattle.mfotl_model.specs.declared.policy.Var.{Var}
use Rattle.slice_strategy.specs.declared.change.Change.{Change as ChangeOf}
use Rattle.slice_strategy.specs.ChangeGrammar.{Script, NoChange, Change, SpellsScript}
use Rattle.slice_strategy.specs.Limits.{max_changes}
use Rattle.slice_strategy.specs.Rules.{number, strategy_of, KeepsRules, text_of}

-- the number of a time-point
abbrev pub point_number : Lexeme → ℕ
point_number n = unsigned_abs (number n)

-- what is written, in its order
abbrev pub changes_of : List Var → Script → List ChangeOf
changes_of vars NoChange = []
changes_of vars (Change s word n es) =
    changes_of vars s ++ record { before = point_number n; strategy = strategy_of vars es } ∷ []

-- the number isn't below that of the last change
abbrev pub IsNotBelow : Script → Lexeme → Type 0
IsNotBelow NoChange n = Unit {0}
IsNotBelow (Change s word m es) n = point_number m ≤ point_number n

-- the numbers don't fall, there are not too many changes, and each strategy keeps its own rules
abbrev pub KeepsScript : List Var → Script → Type 0
KeepsScript vars NoChange = Unit {0}
KeepsScript vars (Change s word n es) =
    KeepsScript vars s × IsNotBelow s n × (length (changes_of vars s) < max_changes) × KeepsRules vars es

-- the text is whole tokens that spell changes, they keep the rules, and these are the changes
pub record IsValue (vars : List Var) (bytes : List ℕ) (changes : List ChangeOf) : Type 0 where
  pub written : Script
  pub whole : (text_of bytes).tail ≡ End (length bytes)
  pub spelled : SpellsScript (text_of bytes).list written
  pub rules : KeepsScript vars written
  pub value : changes ≡ changes_of vars written
