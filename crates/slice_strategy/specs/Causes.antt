-- What shows each fault, in the grammar's own words.
use Rattle.std.specs.Prelude.{◌≡◌, ◌≢◌, ◌<◌, ◌≤◌, ℕ, true, false, List, Some, None, pos, int_le, int_lt}
use Rattle.std.specs.Prelude.{slice_get}
use Rattle.mfotl_lex.specs.declared.fault.LexFault.{LexFault}
use Rattle.mfotl_lex.specs.declared.kind.Kind.TheVariants.{Word, Integer, Comma}
use Rattle.mfotl_lex.specs.FirstFault.{Tail, Broken, End, More, EndsViability, EndsTooEarly}
use Rattle.mfotl_lex.specs.Lexemes.{Lexeme}
use Rattle.mfotl_model.specs.Strategies.{workers_of}
use Rattle.mfotl_model.specs.declared.policy.Var.{Var}
use Rattle.slice_strategy.specs.declared.fault.StrategyFault.{StrategyFault}
use Rattle.slice_strategy.specs.declared.fault.StrategyFault.TheVariants.{Syntax, UnknownVariable, RepeatedVariable}
use Rattle.slice_strategy.specs.declared.fault.StrategyFault.TheVariants.{BadCount, CutSort, CutOrder, TooManyWorkers}
use Rattle.slice_strategy.specs.declared.stage.Method.TheVariants.{Hash, Cut}
use Rattle.slice_strategy.specs.Grammar.{Integers, Opening, Entries, Then, ToEqual, ToColon, ToComma, IsPart, Spells}
use Rattle.slice_strategy.specs.Grammar.{IsAccepted, IsViable, method_of}
use Rattle.slice_strategy.specs.Limits.{max_workers}
use Rattle.slice_strategy.specs.Rules.{variable_of, holds_text, number_of, number, last_of, strategy_of, HasEntry}

-- with the last entry, whose Word stands at the offset, there are too many workers
pub record IsOver (vars : List Var) (front : List Lexeme) (at : ℕ) : Type 0 where
  pub before : Entries
  pub opening : Opening
  pub integers : Integers
  pub spelled : Spells front (Then before opening integers)
  pub many : max_workers < workers_of (strategy_of vars (Then before opening integers))
  pub place : at ≡ opening.name.at

-- the last entry leaves no too many workers
abbrev pub IsClear : List Var → List Lexeme → Type 0
IsClear vars front = (at : ℕ) → IsOver vars front at → ⊥

-- the name of an entry is no free variable's
pub record IsUnknown (vars : List Var) (front : List Lexeme) (t : Lexeme) (at : ℕ) : Type 0 where
  pub entries : Entries
  pub spelled : Spells front entries
  pub few : workers_of (strategy_of vars entries) ≤ max_workers
  pub kind : t.kind ≡ Word
  pub unknown : variable_of vars t.text ≡ None
  pub place : at ≡ t.at

-- the name of an entry is a variable's that has one
pub record IsRepeated (vars : List Var) (front : List Lexeme) (t : Lexeme) (at : ℕ) : Type 0 where
  pub entries : Entries
  pub spelled : Spells front entries
  pub few : workers_of (strategy_of vars entries) ≤ max_workers
  pub kind : t.kind ≡ Word
  pub variable : ℕ
  pub free : variable_of vars t.text ≡ Some variable
  pub had : HasEntry vars entries variable
  pub place : at ≡ t.at

-- a count below 1
pub record IsLow (front : List Lexeme) (t : Lexeme) (at : ℕ) : Type 0 where
  pub entries : Entries
  pub opening : Opening
  pub spelled : IsPart front (ToColon entries opening)
  pub hash : opening.method ≡ Hash
  pub kind : t.kind ≡ Integer
  pub low : int_le (pos 1) (number t) ≡ false
  pub place : at ≡ t.at

-- the `cut` of a string
pub record CutsText (vars : List Var) (front : List Lexeme) (t : Lexeme) (at : ℕ) : Type 0 where
  pub entries : Entries
  pub name : Lexeme
  pub equal : Lexeme
  pub spelled : IsPart front (ToEqual entries name equal)
  pub kind : t.kind ≡ Word
  pub cut : method_of t.text ≡ Some Cut
  pub string : holds_text (slice_get vars (number_of vars name)) ≡ true
  pub place : at ≡ t.at

-- a cut that isn't above the one before it
pub record IsNotAbove (front : List Lexeme) (t : Lexeme) (at : ℕ) : Type 0 where
  pub entries : Entries
  pub opening : Opening
  pub integers : Integers
  pub comma : Lexeme
  pub spelled : IsPart front (ToComma entries opening integers comma)
  pub kind : t.kind ≡ Integer
  pub low : int_lt (last_of integers) (number t) ≡ false
  pub place : at ≡ t.at

-- the token ends viability, and too many workers aren't shown before: a comma leaves the entry open
pub record IsSyntax (vars : List Var) (front : List Lexeme) (t : Lexeme) (at : ℕ) : Type 0 where
  pub ends : EndsViability IsViable (λ t. t.at) front t at
  pub clear : t.kind ≢ Comma → IsClear vars front

-- with the token the last entry is at its end, and there are too many workers
pub record IsEndOfOver (vars : List Var) (front : List Lexeme) (t : Lexeme) (at : ℕ) : Type 0 where
  pub over : IsOver vars front at
  pub behind : t.kind ≢ Comma

-- the token shows the fault, behind the front
abbrev pub IsCause : List Var → List Lexeme → Lexeme → StrategyFault → Type 0
IsCause vars front t (Syntax at) = IsSyntax vars front t at
IsCause vars front t (UnknownVariable at) = IsUnknown vars front t at
IsCause vars front t (RepeatedVariable at) = IsRepeated vars front t at
IsCause vars front t (BadCount at) = IsLow front t at
IsCause vars front t (CutSort at) = CutsText vars front t at
IsCause vars front t (CutOrder at) = IsNotAbove front t at
IsCause vars front t (TooManyWorkers at) = IsEndOfOver vars front t at
IsCause vars front t _ = ⊥

-- what stands behind all tokens shows Syntax here
abbrev pub StopsAt : List Lexeme → Tail LexFault → ℕ → Type 0
StopsAt ts (Broken fault) at = at ≡ fault.at
StopsAt ts (End end) at = EndsTooEarly {L = LexFault} IsAccepted ts (End end) at
StopsAt ts More at = ⊥

-- more bytes may come
abbrev pub IsTold : Tail LexFault → Type 0
IsTold More = ⊥
IsTold _ = Unit {0}

-- what stands behind all tokens shows the fault
abbrev pub IsLast : List Var → List Lexeme → Tail LexFault → StrategyFault → Type 0
IsLast vars ts tail (Syntax at) = StopsAt ts tail at × IsClear vars ts
IsLast vars ts tail (TooManyWorkers at) = IsOver vars ts at × IsTold tail
IsLast vars ts tail _ = ⊥
