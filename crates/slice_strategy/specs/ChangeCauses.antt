-- What shows each fault of a change script, in the grammar's own words.
use Rattle.std.specs.Prelude.{◌≡◌, ◌≢◌, ◌⊎◌, ◌<◌, ◌≤◌, ℕ, false, List, [], ◌∷◌, ◌++◌, length}
use Rattle.mfotl_lex.specs.declared.fault.LexFault.{LexFault}
use Rattle.mfotl_lex.specs.declared.kind.Kind.TheVariants.{Comma, Equal}
use Rattle.mfotl_lex.specs.FirstFault.{Tail, Broken, End, More, EndsViability, EndsTooEarly}
use Rattle.mfotl_lex.specs.Lexemes.{Lexeme}
use Rattle.mfotl_model.specs.declared.policy.Var.{Var}
use Rattle.slice_strategy.specs.declared.change.ChangeFault.{ChangeFault}
use Rattle.slice_strategy.specs.declared.change.ChangeFault.TheVariants.{Strategy, FallingChange, TooManyChanges}
use Rattle.slice_strategy.specs.declared.fault.StrategyFault.{StrategyFault}
use Rattle.slice_strategy.specs.declared.fault.StrategyFault.TheVariants.{Syntax, UnknownVariable, RepeatedVariable}
use Rattle.slice_strategy.specs.declared.fault.StrategyFault.TheVariants.{TooManyWorkers, Memory}
use Rattle.slice_strategy.specs.Causes as strategy
use Rattle.slice_strategy.specs.Causes.{IsOver, IsTold}
use Rattle.slice_strategy.specs.ChangeGrammar.{Script, Change, is_before, IsBefore, IsNumber, FitsScript, spell_script}
use Rattle.slice_strategy.specs.ChangeGrammar.{IsScript, IsViableScript}
use Rattle.slice_strategy.specs.ChangeRules.{point_number, changes_of, IsNotBelow}
use Rattle.slice_strategy.specs.Grammar.{Entries, spell}
use Rattle.slice_strategy.specs.Limits.{max_changes}

-- behind whole changes, a `before` and a number stand these tokens
pub record InChange (front inner : List Lexeme) : Type 0 where
  pub whole : Script
  pub word : Lexeme
  pub count : Lexeme
  pub fits : FitsScript whole
  pub before : IsBefore word
  pub numbered : IsNumber count
  pub parts : front ≡ ((spell_script whole ++ word ∷ []) ++ count ∷ []) ++ inner

-- behind whole changes stands a `before`
pub record IsInterrupted (front : List Lexeme) (script : Script) (word : Lexeme) : Type 0 where
  pub fits : FitsScript script
  pub before : IsBefore word
  pub parts : front ≡ spell_script script ++ word ∷ []

-- with the last entry of the last strategy there are too many workers
pub record IsOverIn (vars : List Var) (front : List Lexeme) (at : ℕ) : Type 0 where
  pub inner : List Lexeme
  pub place : InChange front inner
  pub over : IsOver vars inner at

-- the last entry leaves no too many workers
abbrev pub IsClear : List Var → List Lexeme → Type 0
IsClear vars front = (at : ℕ) → IsOverIn vars front at → ⊥

-- the fault of a name isn't shown by a `before`, which may begin a change
abbrev pub IsOwn : Lexeme → StrategyFault → Type 0
IsOwn t (UnknownVariable at) = is_before t.kind t.text ≡ false
IsOwn t (RepeatedVariable at) = is_before t.kind t.text ≡ false
IsOwn t _ = Unit {0}

-- in the last strategy the token shows the fault
pub record IsCauseWithin (vars : List Var) (front : List Lexeme) (t : Lexeme) (fault : StrategyFault) : Type 0 where
  pub inner : List Lexeme
  pub place : InChange front inner
  pub cause : strategy.IsCause vars inner t fault
  pub own : IsOwn t fault

-- in the last strategy a `before` shows the fault, and the `=` shows that it is a name
pub record IsByEqual (vars : List Var) (front : List Lexeme) (t : Lexeme) (fault : StrategyFault) : Type 0 where
  pub script : Script
  pub first : Lexeme
  pub count : Lexeme
  pub entries : Entries
  pub word : Lexeme
  pub spelled : IsInterrupted front (Change script first count entries) word
  pub equal : t.kind ≡ Equal
  pub cause : strategy.IsCause vars (spell [] entries) word fault

-- the number is below that of the last change
pub record IsFalling (front : List Lexeme) (t : Lexeme) (at : ℕ) : Type 0 where
  pub script : Script
  pub first : Lexeme
  pub count : Lexeme
  pub entries : Entries
  pub word : Lexeme
  pub spelled : IsInterrupted front (Change script first count entries) word
  pub numbered : IsNumber t
  pub low : point_number t < point_number count
  pub place : at ≡ t.at

-- the number of one more change than there may be; the fault stands at its `before`
pub record IsOneTooMany (vars : List Var) (front : List Lexeme) (t : Lexeme) (at : ℕ) : Type 0 where
  pub script : Script
  pub word : Lexeme
  pub spelled : IsInterrupted front script word
  pub numbered : IsNumber t
  pub kept : IsNotBelow script t
  pub many : max_changes ≤ length (changes_of vars script)
  pub place : at ≡ word.at

-- the token ends viability, and too many workers aren't shown before
pub record IsSyntax (vars : List Var) (front : List Lexeme) (t : Lexeme) (at : ℕ) : Type 0 where
  pub ends : EndsViability IsViableScript (λ t. t.at) front t at
  pub clear : t.kind ≢ Comma → IsClear vars front

-- the token shows the fault, behind the front
abbrev pub IsCause : List Var → List Lexeme → Lexeme → ChangeFault → Type 0
IsCause vars front t (Strategy (Syntax at)) = IsSyntax vars front t at
IsCause vars front t (Strategy Memory) = ⊥
IsCause vars front t (Strategy fault) = IsCauseWithin vars front t fault ⊎ IsByEqual vars front t fault
IsCause vars front t (FallingChange at) = IsFalling front t at
IsCause vars front t (TooManyChanges at) = IsOneTooMany vars front t at

-- what stands behind all tokens shows Syntax here
abbrev pub StopsAt : List Lexeme → Tail LexFault → ℕ → Type 0
StopsAt ts (Broken fault) at = at ≡ fault.at
StopsAt ts (End end) at = EndsTooEarly {L = LexFault} IsScript ts (End end) at
StopsAt ts More at = ⊥

-- what stands behind all tokens shows the fault
abbrev pub IsLast : List Var → List Lexeme → Tail LexFault → ChangeFault → Type 0
IsLast vars ts tail (Strategy (Syntax at)) = StopsAt ts tail at × IsClear vars ts
IsLast vars ts tail (Strategy (TooManyWorkers at)) = IsOverIn vars ts at × IsTold tail
IsLast vars ts tail _ = ⊥
