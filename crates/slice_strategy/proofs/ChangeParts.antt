-- Where the reader stands behind each part of a change script, and what its tokens show.
use Rattle.std.proofs.Common.{◌≡◌, inl, ◌<◌, nat_le, Bool, if◌then◌else◌, List, [], ◌∷◌, ◌++◌, length, Some, None}
use Rattle.std.proofs.Common.{Option, Result, Ok, Err, arith}
use Rattle.mfotl_lex.specs.declared.kind.Kind.TheVariants.{Word}
use Rattle.mfotl_lex.specs.{FirstFault.◌>>=◌, FirstFault.run, Lexemes.Lexeme}
use Rattle.mfotl_lex.proofs.FirstFaultLaws.{run-append, run_none}
use Rattle.mfotl_lex.proofs.Verdicts as layer
use Rattle.mfotl_lex.proofs.Verdicts.{breaks, then_judged, judged_ok, judged_rule}
use Rattle.mfotl_model.specs.declared.policy.Var.{Var}
use Rattle.slice_strategy.specs.declared.{change.Change.Change as ChangeOf, change.ChangeFault.ChangeFault}
use Rattle.slice_strategy.specs.declared.{fault.StrategyFault.StrategyFault, script.Current.Current}
use Rattle.slice_strategy.specs.declared.change.ChangeFault.TheVariants.{Strategy, FallingChange, TooManyChanges}
use Rattle.slice_strategy.specs.Causes as strategy_causes
use Rattle.slice_strategy.specs.{ChangeCauses.IsCause, Limits.max_changes, Reading.Between, Reading.ended}
use Rattle.slice_strategy.specs.ChangeGrammar.{Script, NoChange, Change, IsBefore, IsNumber, FitsScript, spell_script}
use Rattle.slice_strategy.specs.ChangeReading.{ScriptOf, lifted, change_goes_on, interrupted, with_current, falls, step}
use Rattle.slice_strategy.specs.ChangeReading.{nothing_read}
use Rattle.slice_strategy.specs.ChangeRules.{point_number, changes_of, IsNotBelow, KeepsScript}
use Rattle.slice_strategy.specs.Grammar.{NoEntry, Part, Whole, FitsPart, spell_part}
use Rattle.slice_strategy.proofs.Moves as strategies
use Rattle.slice_strategy.proofs.Moves.{AreFew, so_far, behind, ended_judged, whole_begins}
use Rattle.slice_strategy.proofs.PartReads.{KeepsPart, few_kept, kept_whole, few_of, part_read}
use Rattle.slice_strategy.proofs.ChangeRuns.{IsNoBefore, alike, before_step}
use Rattle.slice_strategy.proofs.TokenRuns.{then_token, told}
use Rattle.std.proofs.lemmas.Bool.Decides.{leb_tells}

-- a fault of a rule beside the grammar
abbrev pub IsRule : ChangeFault → Type 0
IsRule (Strategy fault) = strategies.IsRule fault
IsRule _ = Unit {0}

-- no token; whole changes and a `before`; or whole changes, a `before`, a number and a part of a strategy
pub data Place : Type 0 where
  Outside : Place
  ToBefore : Script → Lexeme → Place
  Inside : Script → Lexeme → Lexeme → Part → Place

abbrev pub FitsPlace : Place → Type 0
FitsPlace Outside = Unit {0}
FitsPlace (ToBefore s w) = FitsScript s × IsBefore w
FitsPlace (Inside s w n p) = FitsScript s × IsBefore w × IsNumber n × FitsPart p × IsNoBefore p

-- up to the number
abbrev pub spell_number : Script → Lexeme → Lexeme → List Lexeme
spell_number s w n = (spell_script s ++ w ∷ []) ++ n ∷ []

abbrev pub spell_place : Place → List Lexeme
spell_place Outside = []
spell_place (ToBefore s w) = spell_script s ++ w ∷ []
spell_place (Inside s w n p) = spell_number s w n ++ spell_part p

module _ (vars : List Var) where
  -- the changes before the last one, and the last one at its end
  abbrev pub done_of : Script → List ChangeOf
  done_of NoChange = []
  done_of (Change s w n es) = changes_of vars s

  abbrev pub current_of : Script → Option Current
  current_of NoChange = None
  current_of (Change s w n es) = Some (record { number = point_number n; reader = so_far vars es Between })

  abbrev pub stopped : Script → Lexeme → ScriptOf
  stopped s w = record { done = done_of s; current = current_of s; before = Some w }

  abbrev pub inside_of : Script → Lexeme → Part → ScriptOf
  inside_of s n p = change_goes_on (changes_of vars s) (point_number n) (behind vars p)

  -- where the reader stands
  abbrev pub at_place : Place → ScriptOf
  at_place Outside = nothing_read
  at_place (ToBefore s w) = stopped s w
  at_place (Inside s w n p) = inside_of s n p

  -- a change of this number may come
  abbrev pub MayCome : Script → Lexeme → Type 0
  MayCome s n = IsNotBelow s n × (length (changes_of vars s) < max_changes)

  -- the rules that are kept, where the last entry isn't at its end
  abbrev pub KeepsPlace : Place → Type 0
  KeepsPlace Outside = Unit {0}
  KeepsPlace (ToBefore s w) = KeepsScript vars s
  KeepsPlace (Inside s w n p) = KeepsScript vars s × MayCome s n × KeepsPart vars p

  pub with_last : (s : Script) → with_current (done_of s) (current_of s) ≡ changes_of vars s
  with_last s = grind arith

  abbrev Told : List Lexeme → Result ScriptOf ChangeFault
  Told ts = run (step vars) ts nothing_read

  abbrev pub Judged : Type 0 → Result ScriptOf ChangeFault → ScriptOf → Type 0
  Judged rules r s = layer.Judged IsRule rules r s

  -- with the cause
  abbrev pub IsCaused : List Lexeme → Lexeme → ChangeFault → Type 0
  IsCaused front t fault = IsRule fault × IsCause vars front t fault

  -- what the reader of strategies shows, the reader of scripts does
  pub lifted_judged : {A : Type 0} (rules : Type 0) (r : Result A StrategyFault) (x : A) (f : A → ScriptOf)
      → layer.Judged strategies.IsRule rules r x → Judged rules (lifted r >>= λ q. Ok (f q)) (f x)
  lifted_judged rules r x f h = grind (arith, breaks)

  -- the changes that are whole, up to the end of the last entry
  abbrev pub at_whole : Script → ScriptOf
  at_whole NoChange = nothing_read
  at_whole (Change s w n es) = inside_of s n (Whole es)

  abbrev pub KeepsWhole : Script → Type 0
  KeepsWhole NoChange = Unit {0}
  KeepsWhole (Change s w n es) = KeepsScript vars s × MayCome s n × KeepsPart vars (Whole es)

  abbrev pub FewIn : Script → Type 0
  FewIn NoChange = Unit {0}
  FewIn (Change s w n es) = AreFew vars es

  pub kept_of : (s : Script) → KeepsWhole s → FewIn s → KeepsScript vars s
  kept_of s k few = grind (arith, few_kept)

  pub whole_of : (s : Script) → KeepsScript vars s → KeepsWhole s × FewIn s
  whole_of s k = grind (arith, kept_whole, few_of)

  -- a `before` behind whole changes
  starts_so : (w : Lexeme) → IsBefore w → step vars nothing_read w ≡ Ok (stopped NoChange w)
  unfolding step
  starts_so w is = rw is

  before_read : (s : Script) (w : Lexeme) → FitsScript s → IsBefore w
      → Judged (FewIn s) (step vars (at_whole s) w) (stopped s w)
  before_read NoChange w fits is = inl (tt, starts_so w is)
  before_read (Change s v n es) w fits is =
      let done = changes_of vars s in
      let p = behind vars (Whole es) in
      let t : Lexeme = record { kind = Word; at = 0; text = [] } in
      rw (before_step vars done (point_number n) p w is (whole_begins vars es))
      (lifted_judged (AreFew vars es) (ended p.entries p.stage) (so_far vars es Between)
      (interrupted done (point_number n) w)
      (told strategies.IsRule (strategy_causes.IsCause vars (spell_part (Whole es)) t) _ _ _
      (ended_judged vars es fits.3 t (λ comma. cc))))

  -- a number behind a `before`
  abbrev pub due_by : Script → Lexeme → Lexeme → Bool → Bool → Result ScriptOf ChangeFault
  due_by s w t low full =
      if low then Err (FallingChange t.at)
      else if full then Err (TooManyChanges w.at)
      else Ok (inside_of s t (Whole NoEntry))

  pub number_due : (s : Script) (w t : Lexeme) → IsNumber t → step vars (stopped s w) t
      ≡ due_by s w t (falls (current_of s) (point_number t)) (nat_le max_changes (length (changes_of vars s)))
  unfolding step
  number_due s w t is = rw (is.0, is.1, with_last s)

  pub number_judged : (s : Script) (w t : Lexeme) → FitsScript s → IsBefore w → IsNumber t
      → layer.Judged (IsCaused (spell_script s ++ w ∷ []) t) (MayCome s t) (step vars (stopped s w) t)
      (inside_of s t (Whole NoEntry))
  number_judged s w t fits before is = grind (arith, number_due, leb_tells, breaks)

  stop_read : (s : Script) (w : Lexeme) → FitsScript s → IsBefore w → Judged (KeepsWhole s) (Told
      (spell_script s)) (at_whole s) → Judged (KeepsScript vars s) (Told (spell_script s ++ w ∷ [])) (stopped s w)
  stop_read s w fits is before =
      then_token (step vars) nothing_read IsRule (spell_script s) w (KeepsWhole s) (FewIn s) (KeepsScript vars s)
      (at_whole s) (stopped s w) (kept_of s) (whole_of s) before (λ k. before_read s w fits is)

  number_read : (s : Script) (w n : Lexeme) → FitsScript s → IsBefore w → IsNumber n
      → Judged (KeepsScript vars s) (Told (spell_script s ++ w ∷ [])) (stopped s w)
      → Judged (KeepsScript vars s × MayCome s n) (Told (spell_number s w n)) (inside_of s n (Whole NoEntry))
  number_read s w n fits is count before =
      then_token (step vars) nothing_read IsRule (spell_script s ++ w ∷ []) n (KeepsScript vars s) (MayCome s n)
      (KeepsScript vars s × MayCome s n) (stopped s w) (inside_of s n (Whole NoEntry)) (λ a b. (a, b)) (λ k. (k.0, k.1))
      before
      (λ k. told IsRule (IsCause vars (spell_script s ++ w ∷ []) n) _ _ _ (number_judged s w n fits is count))

  inside_read : (s : Script) (w n : Lexeme) (p : Part) → FitsPlace (Inside s w n p)
      → Judged (KeepsWhole s) (Told (spell_script s)) (at_whole s)
      → Judged (KeepsPlace (Inside s w n p)) (Told (spell_place (Inside s w n p))) (inside_of s n p)
  inside_read s w n p fits before =
      grind (arith, number_read, stop_read, run-append, then_judged, alike, lifted_judged, behind, part_read)

  pub script_read : (s : Script) → FitsScript s → Judged (KeepsWhole s) (Told (spell_script s)) (at_whole s)
  script_read NoChange fits = inl (tt, run_none (step vars) nothing_read)
  script_read (Change s w n es) fits =
      inside_read s w n (Whole es) (fits.0, fits.1, fits.2, fits.3, tt) (script_read s fits.0)

  -- every place
  pub place_read : (p : Place) → FitsPlace p → Judged (KeepsPlace p) (Told (spell_place p)) (at_place p)
  place_read p fits = grind (arith, run_none, stop_read, script_read, inside_read)

  -- where the reader stands that shows no fault
  pub stands_at : (p : Place) (s : ScriptOf) → FitsPlace p → Told (spell_place p) ≡ Ok s
      → KeepsPlace p × (s ≡ at_place p)
  stands_at p s fits ran = grind (arith, judged_ok, place_read)

  -- the tokens of whole changes show no Syntax
  pub shows_rule : (s : Script) (fault : ChangeFault) → FitsScript s → Told (spell_script s) ≡ Err fault → IsRule fault
  shows_rule s fault fits ran = grind (arith, judged_rule, script_read)
