-- Where the reader stands behind each part of a strategy, and what each token makes of it there.
use Rattle.std.proofs.Common.{◌≡◌, ◌≢◌, ◌≤◌, true, if◌then◌else◌, List, Option, Some, None, Result, Ok, Err, slice_get}
use Rattle.std.proofs.Common.{ap, refl, arith}
use Rattle.std.proofs.{lemmas.Bool.cases_Bool, lemmas.Bool.Decides.leb_tells, lemmas.Option.same_Some}
use Rattle.std.specs.Prelude.{int_lt}
use Rattle.mfotl_lex.specs.declared.kind.Kind.{Kind}
use Rattle.mfotl_lex.specs.declared.kind.Kind.TheVariants.{Word, Integer, Comma}
use Rattle.mfotl_lex.specs.{FirstFault.◌>>=◌, Lexemes.Lexeme}
use Rattle.mfotl_lex.proofs.Verdicts as layer
use Rattle.mfotl_lex.proofs.Verdicts.{breaks, then_judged}
use Rattle.mfotl_model.specs.Strategies.{workers_of}
use Rattle.mfotl_model.specs.declared.policy.Var.{Var}
use Rattle.slice_strategy.specs.declared.{fault.StrategyFault.StrategyFault, fault.StrategyFault.TheVariants.Syntax}
use Rattle.slice_strategy.specs.declared.{fault.StrategyFault.TheVariants.CutSort, stage.Head.Head, stage.Method.Method}
use Rattle.slice_strategy.specs.declared.stage.Method.TheVariants as method
use Rattle.slice_strategy.specs.{Causes.IsCause, ChangeReading.may_begin, Limits.max_workers}
use Rattle.slice_strategy.specs.Grammar.{Integers, First, Next, Opening, Entries, NoEntry, Then, Part, Whole, ToName}
use Rattle.slice_strategy.specs.Grammar.{ToEqual, ToMethod, ToColon, ToComma, FitsPart, Fits, spell_part, method_of}
use Rattle.slice_strategy.specs.Grammar.{IsPart}
use Rattle.slice_strategy.specs.Reading.{StageOf, Named, Chosen, Between, Divided, Cutting, Behind, Partial}
use Rattle.slice_strategy.specs.Reading.{entry_named, opened, stage_step, ended, entry_settled, with_stage, step}
use Rattle.slice_strategy.specs.Reading.{nothing_read, syntax_at, chosen_method}
use Rattle.slice_strategy.specs.Rules.{variable_of, holds_text, number_of, number, numbers, last_of, entry_by}
use Rattle.slice_strategy.specs.Rules.{strategy_of, IsNew, SuitsSort, AreInOrder}
use Rattle.slice_strategy.proofs.EntryLaws.{AreKnown, cases_Option, had_or_free, named_low, one_worker, last_number}

-- a fault of the rules beside the grammar
abbrev pub IsRule : StrategyFault → Type 0
IsRule (Syntax at) = ⊥
IsRule _ = Unit {0}

-- any fault but Syntax, of which the token is the cause
abbrev pub IsCaused : List Var → List Lexeme → Lexeme → StrategyFault → Type 0
IsCaused vars front t fault = IsRule fault × IsCause vars front t fault

-- the tokens of a part spell it
pub itself : (p : Part) → FitsPart p → IsPart (spell_part p) p
itself p fits = record { fits = fits; spelled = refl }

module _ (vars : List Var) where
  abbrev pub head_of : Lexeme → Head
  head_of n = record { variable = number_of vars n; at = n.at }

  abbrev pub so_far : Entries → StageOf → Partial
  so_far es stage = record { entries = strategy_of vars es; stage = stage }

  -- where the reader stands
  abbrev pub behind : Part → Partial
  behind (Whole NoEntry) = nothing_read vars
  behind (Whole (Then es o is)) = so_far es (Behind (head_of o.name) (entry_by o.method is))
  behind (ToName es n) = so_far es (Named (head_of n))
  behind (ToEqual es n e) = so_far es (Chosen (head_of n))
  behind (ToMethod es n e w m) = so_far es (Divided (head_of n) m)
  behind (ToColon es o) = so_far es (opened (head_of o.name) o.method)
  behind (ToComma es o is comma) = so_far es (Cutting (head_of o.name) (numbers is))

  -- a token of this kind
  abbrev pub step_by : Partial → Lexeme → Kind → Result Partial StrategyFault
  step_by p t k = entry_settled p k >>= λ q. with_stage q.entries (stage_step vars q.entries q.stage t k)

  pub stepped : (p : Partial) (t : Lexeme) (k : Kind) → t.kind ≡ k → step vars p t ≡ step_by p t k
  unfolding step
  stepped p t k kind = ap (step_by p t) kind

  -- where an entry may begin, stand whole entries
  pub whole_begins : (es : Entries) → may_begin (behind (Whole es)).stage ≡ true
  whole_begins es = grind arith

  pub begins_whole : (p : Part) → may_begin (behind p).stage ≡ true → (es : Entries) × (p ≡ Whole es)
  begins_whole p e = grind arith

  abbrev pub Judged : List Lexeme → Lexeme → Type 0 → Result Partial StrategyFault → Partial → Type 0
  Judged front t rules r q = layer.Judged (IsCaused vars front t) rules r q

  pub settled_other : (p : Partial) (k : Kind) → k ≢ Comma → entry_settled p k ≡ ended p.entries p.stage
  settled_other p k other = grind arith

  -- there are not too many workers
  abbrev pub AreFew : Entries → Type 0
  AreFew es = workers_of (strategy_of vars es) ≤ max_workers

  -- no more of the last entry comes
  pub ended_judged : (es : Entries) → Fits es → (t : Lexeme) → t.kind ≢ Comma
      → Judged (spell_part (Whole es)) t (AreFew es) (ended (behind (Whole es)).entries (behind (Whole es)).stage)
      (so_far es Between)
  ended_judged es fits t other = grind (arith, one_worker, leb_tells, itself, breaks)

  -- a name where an entry may begin
  new_judged : (es : Entries) → Fits es → AreKnown vars es → AreFew es → (t : Lexeme) → t.kind ≡ Word
      → Judged (spell_part (Whole es)) t (IsNew vars es t)
      (with_stage (strategy_of vars es) (entry_named (strategy_of vars es) (variable_of vars t.text) t))
      (behind (ToName es t))
  new_judged es fits known few t kind = grind (arith, itself, cases_Option, breaks, had_or_free, named_low, same_Some)

  -- one judgement behind another, for the same fault
  pub name_judged : (es : Entries) → Fits es → AreKnown vars es → (t : Lexeme) → t.kind ≡ Word
      → Judged (spell_part (Whole es)) t (AreFew es × IsNew vars es t) (step_by (behind (Whole es)) t Word)
      (behind (ToName es t))
  name_judged es fits known t kind =
      let next = λ (q : Partial). with_stage q.entries (stage_step vars q.entries q.stage t Word) in
      then_judged _ (AreFew es) (ended (behind (Whole es)).entries (behind (Whole es)).stage) (so_far es Between)
      (IsNew vars es t) (AreFew es × IsNew vars es t) next (behind (ToName es t))
      (λ few new. (few, new)) (λ both. both)
      (ended_judged es fits t (λ comma. cc (kind, comma)))
      (λ few. new_judged es fits known few t kind)

  -- what a Word behind the `=` makes of an entry
  abbrev pub divided_by : Head → Lexeme → Option Method → Result StageOf StrategyFault
  divided_by head t None = syntax_at t
  divided_by head t (Some method.Hash) = Ok (Divided head method.Hash)
  divided_by head t (Some method.Cut) =
      if holds_text (slice_get vars head.variable) then Err (CutSort t.at) else Ok (Divided head method.Cut)

  pub chosen_by : (head : Head) (t : Lexeme) → chosen_method vars head t ≡ divided_by head t (method_of t.text)
  chosen_by head t = grind (arith, cases_Bool)

  -- a method
  pub method_judged : (es : Entries) (n e : Lexeme) → FitsPart (ToEqual es n e) → (t : Lexeme) (m : Method)
      → t.kind ≡ Word → method_of t.text ≡ Some m
      → Judged (spell_part (ToEqual es n e)) t (SuitsSort vars n m) (step_by (behind (ToEqual es n e)) t Word)
      (behind (ToMethod es n e t m))
  method_judged es n e fits t m kind is = grind (arith, chosen_by, cases_Bool, slice_get, itself, breaks)

  -- the first integer
  pub first_judged : (es : Entries) (o : Opening) → FitsPart (ToColon es o) → (t : Lexeme) → t.kind ≡ Integer
      → Judged (spell_part (ToColon es o)) t (AreInOrder o.method (First t)) (step_by (behind (ToColon es o)) t Integer)
      (behind (Whole (Then es o (First t))))
  first_judged es o fits t kind = grind (arith, itself, cases_Bool, breaks)

  -- one more integer
  pub next_judged : (es : Entries) (o : Opening) (is : Integers) (c : Lexeme) → FitsPart (ToComma es o is c)
      → (t : Lexeme) → t.kind ≡ Integer
      → Judged (spell_part (ToComma es o is c)) t (int_lt (last_of is) (number t) ≡ true)
      (step_by (behind (ToComma es o is c)) t Integer) (behind (Whole (Then es o (Next is c t))))
  next_judged es o is c fits t kind = grind (arith, cases_Bool, last_number, itself, breaks)

  pub comma_step : (es : Entries) (o : Opening) (is : Integers) (t : Lexeme) → o.method ≡ method.Cut
      → step_by (behind (Whole (Then es o is))) t Comma ≡ Ok (behind (ToComma es o is t))
  comma_step es o is t cut = rw cut
