-- The laws of the reader of change scripts: what it reads is what a text spells, and each fault is the first
-- that is shown.
use Rattle.std.proofs.Common.{◌≡◌, ◌≢◌, ◌∙◌, ℕ, true, List, [], ◌∷◌, ◌++◌, length, Some, None, Option, Result, Ok, Err}
use Rattle.std.proofs.Common.{IfOk, IfErr, refl, ap, sym, subst, arith}
use Rattle.std.specs.List.{AllByRecursion}
use Rattle.std.proofs.SliceLists.{all_by_recursion_push}
use Rattle.mfotl_lex.specs.declared.{fault.LexFault.LexFault, kind.Mode.TheVariants.Plain}
use Rattle.mfotl_lex.specs.FirstFault as layer
use Rattle.mfotl_lex.specs.FirstFault.{Broken, End, run}
use Rattle.mfotl_lex.specs.{Lexemes.tokens, Places.beginning, Texts.tail_of}
use Rattle.mfotl_lex.proofs.FirstFaultLaws as firsts
use Rattle.mfotl_lex.proofs.{FirstFaultLaws.bind_ok, Verdicts.kept_ok}
use Rattle.mfotl_lex.proofs.TextLaws as texts
use Rattle.mfotl_model.specs.Strategies.{Strategy as StrategyOf}
use Rattle.mfotl_model.specs.declared.policy.Var.{Var}
use Rattle.slice_strategy.specs.declared.{change.Change.Change as ChangeOf, change.ChangeFault.ChangeFault}
use Rattle.slice_strategy.specs.declared.{change.ChangeFault.TheVariants.Strategy as Within}
use Rattle.slice_strategy.specs.declared.{fault.StrategyFault.StrategyFault, fault.StrategyFault.TheVariants.Memory}
use Rattle.slice_strategy.specs.{ChangeAnswers.Gives, ChangeCauses.IsCause, ChangeCauses.IsLast, Grammar.Whole}
use Rattle.slice_strategy.specs.{Entries.HasWorkers, Grammar.spell_part, Rules.strategy_of, Rules.text_of}
use Rattle.slice_strategy.specs.ChangeGrammar.{Script, NoChange, Change, FitsScript, spell_script, IsViableScript}
use Rattle.slice_strategy.specs.ChangeLaws.{OneAnswer, IsShown, ExactFaults, ExactSoundness, StaysShown}
use Rattle.slice_strategy.specs.ChangeReading.{ScriptOf, last_change, step, nothing_read, at_tail, reading}
use Rattle.slice_strategy.specs.ChangeRules.{point_number, changes_of, KeepsScript, IsValue}
use Rattle.slice_strategy.specs.Reading as strategy
use Rattle.slice_strategy.specs.Reading.{Partial, complete, ended}
use Rattle.slice_strategy.proofs.CauseLaw.{closed_few, ends_accepted, few_closed, part_stands}
use Rattle.slice_strategy.proofs.{EntryLaws.kept_workers, Moves.behind, PartReads.few_kept, PartReads.few_of}
use Rattle.slice_strategy.proofs.ChangeCauseLaw.{follows, stands, place_stands, inner_ran, IsPlace}
use Rattle.slice_strategy.proofs.ChangeParts.{IsRule, Place, Outside, ToBefore, Inside, spell_number, at_place}
use Rattle.slice_strategy.proofs.ChangeParts.{at_whole, KeepsWhole, whole_of, script_read}

module _ (vars : List Var) (bytes : List ℕ) where
  abbrev end : ℕ
  end = length bytes

  -- ---- what is read is spelled

  last_is : (done : List ChangeOf) (n : ℕ) (r : Result StrategyOf StrategyFault) (changes : List ChangeOf)
      → last_change done n r ≡ Ok changes
      → (s : StrategyOf) × (r ≡ Ok s) × (done ++ record { before = n; strategy = s } ∷ [] ≡ changes)
  last_is done n (Ok s) changes e = (s, refl, cc)
  last_is done n (Err fault) changes e = absurd cc

  place_value : (s : ScriptOf) → run (step vars) (text_of bytes).list nothing_read ≡ Ok s
      → (text_of bytes).tail ≡ End end → (p : Place) → IsPlace vars (text_of bytes).list p
      → (changes : List ChangeOf) → at_tail (End end) (at_place vars p) ≡ Ok changes → IsValue vars bytes changes
  place_value s ran whole Outside is changes e =
      record {
        written = NoChange;
        whole = whole;
        spelled = record { fits = tt; spelled = is.spelled };
        rules = tt;
        value = cc;
      }
  place_value s ran whole (ToBefore r w) is changes e = absurd cc
  place_value s ran whole (Inside r w n p) is changes e =
      let last = last_is (changes_of vars r) (point_number n) (strategy.at_end end (behind vars p)) changes e in
      let q =
      bind_ok (ended (behind vars p).entries (behind vars p).stage)
      (λ q. complete end q.entries q.stage) last.0 last.1 in
      let ts = spell_part p in
      let ran_in = inner_ran vars (text_of bytes).list s ran r w n p is in
      let accepted = ends_accepted vars ts (behind vars p) ran_in end q.0 last.0 q.1 q.2 in
      let es = accepted.0 in
      let at = part_stands vars ts (behind vars p) (Whole es) ran_in accepted.1 in
      let few =
      closed_few vars es accepted.1.fits q.0 (ap (λ (x : Partial). ended x.entries x.stage) (sym at.1) ∙ q.1) in
      let kept = (place_stands vars (text_of bytes).list s (Inside r w n p) ran is).0 in
      let value : last.0 ≡ strategy_of vars es = cc (rw few.1 at q.2) in
      record {
        written = Change r w n es;
        whole = whole;
        spelled = record {
          fits = (is.fits.0, is.fits.1, is.fits.2, accepted.1.fits);
          spelled = is.spelled ∙ ap (λ us. spell_number r w n ++ us) accepted.1.spelled;
        };
        rules = (kept.0, kept.1.0, kept.1.1, few_kept vars es at.0 few.0);
        value = sym last.2 ∙ ap (λ v. changes_of vars r ++ record { before = point_number n; strategy = v } ∷ []) value;
      }

  broken_never : (x : LexFault) (p : Place) (changes : List ChangeOf)
      → at_tail (Broken x) (at_place vars p) ≡ Ok changes → ⊥
  broken_never x Outside changes e = cc
  broken_never x (ToBefore r w) changes e = cc
  broken_never x (Inside r w n p) changes e =
      let last = last_is (changes_of vars r) (point_number n) (strategy.broken_at (behind vars p) x.at) changes e in
      (grind arith)

  tail_by : (fault : Option LexFault) (p : Place) (changes : List ChangeOf)
      → at_tail (tail_of true end fault) (at_place vars p) ≡ Ok changes
      → (tail_of true end fault ≡ End end) × (at_tail (End end) (at_place vars p) ≡ Ok changes)
  tail_by None p changes e = (refl, e)
  tail_by (Some x) p changes e = absurd (broken_never x p changes e)

  pub read_is_spelled : (changes : List ChangeOf) → reading vars bytes ≡ Ok changes → IsValue vars bytes changes
  unfolding reading layer.reading
  read_is_spelled changes e =
      let x = text_of bytes in
      let read = bind_ok (run (step vars) x.list nothing_read) (λ s. at_tail x.tail s) changes e in
      let here = stands vars x.list read.0 read.1 in
      let last =
      tail_by (tokens (beginning Plain bytes)).fault here.place changes
      (sym (ap (λ (s : ScriptOf). at_tail x.tail s) here.here) ∙ read.2) in
      place_value read.0 read.1 last.0 here.place here.is_place changes last.1

  -- ---- what is spelled is read

  whole_given : (s : Script) → FitsScript s → KeepsScript vars s
      → at_tail (End end) (at_whole vars s) ≡ Ok (changes_of vars s)
  whole_given NoChange fits kept = refl
  whole_given (Change s w n es) fits kept = rw (few_closed vars es fits.3 (few_of vars es kept.3))

  pub spelled_is_read : (changes : List ChangeOf) → IsValue vars bytes changes → reading vars bytes ≡ Ok changes
  unfolding reading layer.reading
  spelled_is_read changes v =
      let s = v.written in
      let kept =
      kept_ok IsRule (KeepsWhole vars s) (run (step vars) (spell_script s) nothing_read) (at_whole vars s)
      (script_read vars s v.spelled.fits) (whole_of vars s v.rules).0 in
      rw (v.spelled.spelled, kept, v.whole, whole_given s v.spelled.fits v.rules, v.value)

pub one_answer : OneAnswer
one_answer vars =
    firsts.one_answer (reading vars) (IsValue vars) (λ bytes changes e. read_is_spelled vars bytes changes e)
    (λ bytes changes v. spelled_is_read vars bytes changes v)

-- ---- faults

pub exact_faults : ExactFaults
unfolding reading
exact_faults vars bytes fault =
    firsts.exact_faults (step vars) nothing_read at_tail IsViableScript (IsCause vars) (IsLast vars) (follows vars)
    (text_of bytes) fault

pub exact_soundness : ExactSoundness
exact_soundness vars =
    firsts.exact_soundness (step vars) nothing_read at_tail IsViableScript (IsCause vars) (IsLast vars) (follows vars)

pub stays_shown : StaysShown
stays_shown vars = texts.stays_shown (step vars) nothing_read at_tail (λ s fault e. absurd cc)

-- ---- what the reader answers

pub value_given : {X : Type 0} (view : X → List ChangeOf) (vars : List Var) (bytes : List ℕ)
    (result : Result X ChangeFault)
    → Gives view result (reading vars bytes) → IfOk result (λ x. IsValue vars bytes (view x))
value_given view vars bytes (Ok x) given = read_is_spelled vars bytes (view x) given
value_given view vars bytes (Err fault) given = tt

pub fault_shown : {X : Type 0} (view : X → List ChangeOf) (vars : List Var) (bytes : List ℕ)
    (result : Result X ChangeFault) → Gives view result (reading vars bytes)
    → IfErr result (λ fault. fault ≢ Within Memory → IsShown vars bytes fault)
fault_shown view vars bytes (Ok x) given = tt
fault_shown view vars bytes (Err (Within Memory)) given = λ other. absurd (other refl)
fault_shown view vars bytes (Err fault) given = λ _. (exact_faults vars bytes fault).0 given

-- each strategy has workers, and no more than there may be
abbrev HaveWorkers : List ChangeOf → Type 0
HaveWorkers changes = AllByRecursion (λ (c : ChangeOf). HasWorkers c.strategy) changes

kept_script : (vars : List Var) (s : Script) → KeepsScript vars s → HaveWorkers (changes_of vars s)
kept_script vars NoChange kept = tt
kept_script vars (Change s w n es) kept =
    all_by_recursion_push (λ (c : ChangeOf). HasWorkers c.strategy) (changes_of vars s) _ (kept_script vars s kept.0)
    (kept_workers vars es kept.3)

pub workers_given : {X : Type 0} (view : X → List ChangeOf) (vars : List Var) (bytes : List ℕ)
    (result : Result X ChangeFault)
    → Gives view result (reading vars bytes) → IfOk result (λ x. HaveWorkers (view x))
workers_given view vars bytes (Ok x) given =
    let v = read_is_spelled vars bytes (view x) given in
    subst HaveWorkers (sym v.value) (kept_script vars v.written v.rules)
workers_given view vars bytes (Err fault) given = tt
