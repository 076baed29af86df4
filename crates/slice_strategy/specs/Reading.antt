-- Reading a strategy token by token, up to the first fault.
use Rattle.std.specs.Prelude.{◌<◌, ℕ, pos, ℤ, Bool, List, [], ◌∷◌, ◌++◌, length, Option, Some, None, Result, Ok}
use Rattle.std.specs.Prelude.{Err, if◌then◌else◌, nat_le, int_le, replicate, slice_get, slice_set, codes}
use Rattle.std.specs.Prelude.{unsigned_abs, int_lt, true, ◌-◌}
use Rattle.std.specs.Str.{bytes_eq}
use Rattle.mfotl_lex.specs.declared.fault.LexFault.{LexFault}
use Rattle.mfotl_lex.specs.declared.kind.Kind.{Kind}
use Rattle.mfotl_lex.specs.declared.kind.Kind.TheVariants.{Word, Integer, Comma, Colon, Equal}
use Rattle.mfotl_lex.specs.FirstFault as layer
use Rattle.mfotl_lex.specs.FirstFault.{◌>>=◌, Tail, Broken, End, More}
use Rattle.mfotl_lex.specs.Lexemes.{Lexeme}
use Rattle.mfotl_lex.specs.Numbers.{integer_value}
use Rattle.mfotl_model.specs.Strategies.{Entry, Strategy, parts_of, workers_of}
use Rattle.mfotl_model.specs.Strategies.Entry.{Uncut, Hash, Cut}
use Rattle.mfotl_model.specs.declared.policy.Var.{Var}
use Rattle.slice_strategy.specs.declared.fault.StrategyFault.{StrategyFault}
use Rattle.slice_strategy.specs.declared.fault.StrategyFault.TheVariants.{Syntax, UnknownVariable, RepeatedVariable}
use Rattle.slice_strategy.specs.declared.fault.StrategyFault.TheVariants.{BadCount, CutSort, CutOrder, TooManyWorkers}
use Rattle.slice_strategy.specs.declared.stage.Head.{Head}
use Rattle.slice_strategy.specs.declared.stage.Method.{Method}
use Rattle.slice_strategy.specs.declared.stage.Method.TheVariants as method
use Rattle.slice_strategy.specs.Entries.{HasWorkers}
use Rattle.slice_strategy.specs.Limits.{max_workers}
use Rattle.slice_strategy.specs.Rules.{variable_of, holds_text, text_of}

-- the place of the last token in an entry, and what was read of that entry
pub data StageOf : Type 0 where
  -- no entry is open
  Between : StageOf
  -- behind its variable, the `=`, the method and the `:`
  Named : Head → StageOf
  Chosen : Head → StageOf
  Divided : Head → Method → StageOf
  Counting : Head → StageOf
  -- behind the `:`, or behind a comma, with the cuts before it
  Cutting : Head → List ℤ → StageOf
  -- behind an integer, which ends the entry unless a comma follows
  Behind : Head → Entry → StageOf

-- the entries that are settled, by variable, and the place of the last token
pub record Partial : Type 0 where
  pub entries : Strategy
  pub stage : StageOf

-- the grammar can't go on with the token
abbrev pub syntax_at : {A : Type 0} → Lexeme → Result A StrategyFault
syntax_at t = Err (Syntax t.at)

-- a Word of the policy's variable, where it has no entry yet
abbrev pub fresh : Option Entry → ℕ → Lexeme → Result StageOf StrategyFault
fresh (Some Uncut) variable t = Ok (Named (record { variable = variable; at = t.at }))
fresh _ variable t = Err (RepeatedVariable t.at)

-- a Word where an entry may begin
abbrev pub entry_named : Strategy → Option ℕ → Lexeme → Result StageOf StrategyFault
entry_named entries None t = Err (UnknownVariable t.at)
entry_named entries (Some variable) t = fresh (slice_get entries variable) variable t

-- where an entry may begin
abbrev pub begins : List Var → Strategy → Lexeme → Kind → Result StageOf StrategyFault
begins vars entries t Word = entry_named entries (variable_of vars t.text) t
begins vars entries t _ = syntax_at t

-- behind a variable stands a `=`
abbrev pub after_name : Head → Lexeme → Kind → Result StageOf StrategyFault
after_name head t Equal = Ok (Chosen head)
after_name head t _ = syntax_at t

-- a method, which for a string is no cut
abbrev pub chosen_method : List Var → Head → Lexeme → Result StageOf StrategyFault
chosen_method vars head t =
    if bytes_eq t.text (codes "hash") then Ok (Divided head method.Hash)
    else if bytes_eq t.text (codes "cut") then
    (if holds_text (slice_get vars head.variable) then Err (CutSort t.at) else Ok (Divided head method.Cut))
    else syntax_at t

-- behind the `=` stands a method
abbrev pub after_equal : List Var → Head → Lexeme → Kind → Result StageOf StrategyFault
after_equal vars head t Word = chosen_method vars head t
after_equal vars head t _ = syntax_at t

-- where the integers begin
abbrev pub opened : Head → Method → StageOf
opened head method.Hash = Counting head
opened head method.Cut = Cutting head []

-- behind a method stands a `:`
abbrev pub after_method : Head → Method → Lexeme → Kind → Result StageOf StrategyFault
after_method head m t Colon = Ok (opened head m)
after_method head m t _ = syntax_at t

-- a count of parts is at least 1
abbrev pub with_count : Head → ℤ → ℕ → Result StageOf StrategyFault
with_count head n at = if int_le (pos 1) n then Ok (Behind head (Hash (unsigned_abs n))) else Err (BadCount at)

abbrev pub count_step : Head → Lexeme → Kind → Result StageOf StrategyFault
count_step head t Integer = with_count head (integer_value t.text) t.at
count_step head t _ = syntax_at t

-- a cut is above the one before it
abbrev pub is_above : Option ℤ → ℤ → Bool
is_above None n = true
is_above (Some last) n = int_lt last n

abbrev pub divided : Head → List ℤ → ℤ → ℕ → Result StageOf StrategyFault
divided head cuts n at =
    if is_above (slice_get cuts (length cuts - 1)) n then Ok (Behind head (Cut (cuts ++ n ∷ []))) else Err (CutOrder at)

abbrev pub cut_step : Head → List ℤ → Lexeme → Kind → Result StageOf StrategyFault
cut_step head cuts t Integer = divided head cuts (integer_value t.text) t.at
cut_step head cuts t _ = syntax_at t

-- a comma behind an integer: one more cut is due, but no more counts
abbrev pub goes_on : Head → Entry → Lexeme → Result StageOf StrategyFault
goes_on head (Cut cuts) t = Ok (Cutting head cuts)
goes_on head _ t = syntax_at t

-- what the next token, of this kind, makes of an entry
abbrev pub stage_step : List Var → Strategy → StageOf → Lexeme → Kind → Result StageOf StrategyFault
stage_step vars entries Between t kind = begins vars entries t kind
stage_step vars entries (Named head) t kind = after_name head t kind
stage_step vars entries (Chosen head) t kind = after_equal vars head t kind
stage_step vars entries (Divided head m) t kind = after_method head m t kind
stage_step vars entries (Counting head) t kind = count_step head t kind
stage_step vars entries (Cutting head cuts) t kind = cut_step head cuts t kind
stage_step vars entries (Behind head entry) t kind = goes_on head entry t

-- an entry that is at its end is its variable's, if there are not too many workers then
abbrev pub with_entry : Strategy → Head → Entry → Result Partial StrategyFault
with_entry entries head entry =
    if nat_le (workers_of (slice_set entries head.variable entry)) max_workers
    then Ok (record { entries = slice_set entries head.variable entry; stage = Between })
    else Err (TooManyWorkers head.at)

-- no more of the entry comes
abbrev pub ended : Strategy → StageOf → Result Partial StrategyFault
ended entries (Behind head entry) = with_entry entries head entry
ended entries stage = Ok (record { entries = entries; stage = stage })

-- only a comma leaves the entry open
abbrev pub entry_settled : Partial → Kind → Result Partial StrategyFault
entry_settled p Comma = Ok p
entry_settled p _ = ended p.entries p.stage

abbrev pub with_stage : Strategy → Result StageOf StrategyFault → Result Partial StrategyFault
with_stage entries stage = stage >>= λ next. Ok (record { entries = entries; stage = next })

-- what the next token makes of what was read
unfoldable pub step : List Var → Partial → Lexeme → Result Partial StrategyFault
step vars p t = entry_settled p t.kind >>= λ q. with_stage q.entries (stage_step vars q.entries q.stage t t.kind)

-- the input's end stands at the offset `end`: behind an entry, or too early
abbrev pub complete : ℕ → Strategy → StageOf → Result Strategy StrategyFault
complete end entries Between = Ok entries
complete end entries _ = Err (Syntax end)

abbrev pub at_end : ℕ → Partial → Result Strategy StrategyFault
at_end end p = ended p.entries p.stage >>= λ q. complete end q.entries q.stage

-- a fault of the lexer stands at this offset
abbrev pub broken_at : Partial → ℕ → Result Strategy StrategyFault
broken_at p at = ended p.entries p.stage >>= λ q. Err (Syntax at)

-- behind the whole tokens: a fault of the lexer, the end, or the entries so far where more may come
abbrev pub at_tail : Tail LexFault → Partial → Result Strategy StrategyFault
at_tail (Broken fault) p = broken_at p fault.at
at_tail (End end) p = at_end end p
at_tail More p = Ok p.entries

-- no token was read
abbrev pub nothing_read : List Var → Partial
nothing_read vars = record { entries = replicate (length vars) Uncut; stage = Between }

-- the strategy of a text, or its first fault
unfoldable pub reading : List Var → List ℕ → Result Strategy StrategyFault
reading vars bytes = layer.reading (step vars) (nothing_read vars) at_tail (text_of bytes)

-- the variable of the open entry is one of n, and an entry has parts
abbrev pub StageFits : ℕ → StageOf → Type 0
StageFits n Between = Unit {0}
StageFits n (Named head) = head.variable < n
StageFits n (Chosen head) = head.variable < n
StageFits n (Divided head m) = head.variable < n
StageFits n (Counting head) = head.variable < n
StageFits n (Cutting head cuts) = head.variable < n
StageFits n (Behind head entry) = (head.variable < n) × (0 < parts_of entry)

-- what is true of all that a reader has read
pub record PartialFits (p : Partial) : Type 0 where
  pub within : HasWorkers p.entries
  pub fits : StageFits (length p.entries) p.stage
