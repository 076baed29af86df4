-- Reading a change script token by token, up to the first fault: behind `before` and a number the reader of strategies.
use Rattle.std.specs.Prelude.{ℕ, pos, ℤ, Bool, true, false, ◌&&◌, List, [], ◌∷◌, ◌++◌, length, Option, Some, None}
use Rattle.std.specs.Prelude.{Result, Ok, Err, if◌then◌else◌, nat_le, nat_lt, int_lt, unsigned_abs}
use Rattle.mfotl_lex.specs.declared.fault.LexFault.{LexFault}
use Rattle.mfotl_lex.specs.declared.kind.Kind.{Kind}
use Rattle.mfotl_lex.specs.declared.kind.Kind.TheVariants.{Integer, Equal}
use Rattle.mfotl_lex.specs.FirstFault as layer
use Rattle.mfotl_lex.specs.FirstFault.{◌>>=◌, Tail, Broken, End, More}
use Rattle.mfotl_lex.specs.Lexemes.{Lexeme}
use Rattle.mfotl_lex.specs.Numbers.{integer_value}
use Rattle.mfotl_model.specs.Strategies.{Strategy}
use Rattle.mfotl_model.specs.declared.policy.Var.{Var}
use Rattle.slice_strategy.specs.declared.change.Change.{Change}
use Rattle.slice_strategy.specs.declared.change.ChangeFault.{ChangeFault}
use Rattle.slice_strategy.specs.declared.change.ChangeFault.TheVariants.{Strategy as Within, FallingChange}
use Rattle.slice_strategy.specs.declared.change.ChangeFault.TheVariants.{TooManyChanges}
use Rattle.slice_strategy.specs.declared.fault.StrategyFault.{StrategyFault}
use Rattle.slice_strategy.specs.declared.fault.StrategyFault.TheVariants.{Syntax}
use Rattle.slice_strategy.specs.declared.script.Current.{Current}
use Rattle.slice_strategy.specs.ChangeGrammar.{is_before}
use Rattle.slice_strategy.specs.Limits.{max_changes}
use Rattle.slice_strategy.specs.Reading as strategy
use Rattle.slice_strategy.specs.Reading.{Partial, StageOf, Between, Behind, ended, at_end, broken_at}
use Rattle.slice_strategy.specs.Rules.{text_of}

-- whole changes, a part of the one behind them, and a Word `before` that may begin the next one
pub record ScriptOf : Type 0 where
  pub done : List Change
  pub current : Option Current
  pub before : Option Lexeme

-- a fault of a strategy is one of the script
abbrev pub lifted : {A : Type 0} → Result A StrategyFault → Result A ChangeFault
lifted (Ok x) = Ok x
lifted (Err fault) = Err (Within fault)

-- the grammar can't go on with the token
abbrev pub syntax_at : {A : Type 0} → Lexeme → Result A ChangeFault
syntax_at t = Err (Within (Syntax t.at))

-- whether an entry may begin behind what was read
abbrev pub may_begin : StageOf → Bool
may_begin Between = true
may_begin (Behind head entry) = true
may_begin _ = false

-- in front of the first change
abbrev pub starts : List Change → Lexeme → Result ScriptOf ChangeFault
starts done t =
    if is_before t.kind t.text then Ok (record { done = done; current = None; before = Some t }) else syntax_at t

-- the change of this number goes on with what was read
abbrev pub change_goes_on : List Change → ℕ → Partial → ScriptOf
change_goes_on done number p =
    record { done = done; current = Some (record { number = number; reader = p }); before = None }

-- the same, and behind it stands a `before`
abbrev pub interrupted : List Change → ℕ → Lexeme → Partial → ScriptOf
interrupted done number t p =
    record { done = done; current = Some (record { number = number; reader = p }); before = Some t }

-- in the strategy of a change
abbrev pub within_change : List Var → List Change → ℕ → Partial → Lexeme → Result ScriptOf ChangeFault
within_change vars done number p t =
    if is_before t.kind t.text && may_begin p.stage
    then (lifted (ended p.entries p.stage) >>= λ q. Ok (interrupted done number t q))
    else (lifted (strategy.step vars p t) >>= λ q. Ok (change_goes_on done number q))

-- the `before` is an entry's name, as a `=` shows
abbrev pub named_before : List Var → List Change → Option Current → Lexeme → Lexeme → Result ScriptOf ChangeFault
named_before vars done None word t = syntax_at t
named_before vars done (Some c) word t =
    lifted (strategy.step vars c.reader word >>= λ q. strategy.step vars q t)
    >>= λ q. Ok (change_goes_on done c.number q)

-- a change as it is given
abbrev pub given_change : Current → Change
given_change c = record { before = c.number; strategy = c.reader.entries }

-- the whole changes with the one that was open
abbrev pub with_current : List Change → Option Current → List Change
with_current done None = done
with_current done (Some c) = done ++ given_change c ∷ []

-- whether a number is below that of the change before
abbrev pub falls : Option Current → ℕ → Bool
falls None n = false
falls (Some c) n = nat_lt n c.number

-- a change of this number, which stands at the second offset, and its `before` at the first
abbrev pub change_opened : List Var → List Change → Option Current → ℕ → ℕ → ℕ → Result ScriptOf ChangeFault
change_opened vars done current word at n =
    if falls current n then Err (FallingChange at)
    else if nat_le max_changes (length (with_current done current)) then Err (TooManyChanges word)
    else Ok (change_goes_on (with_current done current) n (strategy.nothing_read vars))

-- no number is negative
abbrev pub numbered_change : List Var → List Change → Option Current → ℕ → Lexeme → ℤ → Result ScriptOf ChangeFault
numbered_change vars done current word t n =
    if int_lt n (pos 0) then syntax_at t else change_opened vars done current word t.at (unsigned_abs n)

-- behind a `before`
abbrev pub decided : List Var → List Change → Option Current → Lexeme → Lexeme → Kind → Result ScriptOf ChangeFault
decided vars done current word t Integer = numbered_change vars done current word.at t (integer_value t.text)
decided vars done current word t Equal = named_before vars done current word t
decided vars done current word t _ = syntax_at t

-- what the next token makes of what was read
abbrev pub step_from : List Var → List Change → Option Current → Option Lexeme → Lexeme → Result ScriptOf ChangeFault
step_from vars done current (Some word) t = decided vars done current word t t.kind
step_from vars done None None t = starts done t
step_from vars done (Some c) None t = within_change vars done c.number c.reader t

unfoldable pub step : List Var → ScriptOf → Lexeme → Result ScriptOf ChangeFault
step vars s t = step_from vars s.done s.current s.before t

-- behind all tokens, in the strategy of a change
abbrev pub last_change : List Change → ℕ → Result Strategy StrategyFault → Result (List Change) ChangeFault
last_change done number r = lifted r >>= λ s. Ok (done ++ record { before = number; strategy = s } ∷ [])

-- the input's end stands at the offset
abbrev pub ends : ℕ → List Change → Option Current → Option Lexeme → Result (List Change) ChangeFault
ends end done current (Some word) = Err (Within (Syntax end))
ends end done None None = Ok done
ends end done (Some c) None = last_change done c.number (at_end end c.reader)

-- a fault of the lexer stands at the offset
abbrev pub breaks : ℕ → List Change → Option Current → Option Lexeme → Result (List Change) ChangeFault
breaks at done current (Some word) = Err (Within (Syntax at))
breaks at done None None = Err (Within (Syntax at))
breaks at done (Some c) None = last_change done c.number (broken_at c.reader at)

-- behind the whole tokens; where more may come, the whole changes
abbrev pub at_tail : Tail LexFault → ScriptOf → Result (List Change) ChangeFault
at_tail (Broken fault) s = breaks fault.at s.done s.current s.before
at_tail (End end) s = ends end s.done s.current s.before
at_tail More s = Ok s.done

-- no token was read
abbrev pub nothing_read : ScriptOf
nothing_read = record { done = []; current = None; before = None }

-- the changes of a text, or its first fault
unfoldable pub reading : List Var → List ℕ → Result (List Change) ChangeFault
reading vars bytes = layer.reading (step vars) nothing_read at_tail (text_of bytes)
