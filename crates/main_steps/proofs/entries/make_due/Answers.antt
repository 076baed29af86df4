use Rattle.std.proofs.Common.{◌≡◌, ◌∙◌, ◌+◌, ◌⊎◌, ap, arith, inl, inr, refl, rules}
use Rattle.lone_worker.proofs.ErrorLemmas.{on_err}
use Rattle.rescale_core.specs.Waiting.{most_waiting}
use Rattle.main_steps.specs.{Changes.IsDue, Writing.WaitAtMost}
use Rattle.main_steps.specs.declared.schedule.Schedule.{Schedule}
use Rattle.main_steps.proofs.ChangeLemmas.{adds_falls, all_made, none_made, one_made, seated_later, seated_now}
use Rattle.main_steps.proofs.ChangeLemmas.{suits_later}
use Rattle.main_steps.proofs.{WaitLemmas.narrow_behind, WritingLemmas.runs_with}
use Rattle.main_steps.proofs.entries.make_due.Goals as goal

pub loop-init : goal.loop-init
loop-init g c =
    let none : (c.args.schedule.now ≡ c.args.schedule.now) ⊎ WaitAtMost (most_waiting + 1) c.args.driver.now =
    inl refl in
    search (rules, none_made)

-- the first change was made, and those behind it are left
pub loop-preserved : goal.loop-preserved
loop-preserved g c =
    let inv = c.loop.invariant in
    let due = c.in-Some-next_due.ensures in
    let made = c.in_ok-make_change-in-Some-next_due.ensures in
    record {
      made = one_made inv.made due made.ok;
      narrow = inr made.narrow;
      suits = suits_later c.loop.schedule c.next_due.new.self c.in-Some-next_due.strategy due
          (runs_with inv.made.adds c.requires.runs) made.ok inv.suits;
      seated = seated_later c.args.context.now.cells c.loop.schedule c.next_due.new.self c.in-Some-next_due.strategy due
          inv.seated;
      main = made.main;
      hands = c.make_change.ensures.hands;
      later = omega (arith, inv.later, c.make_change.ensures.later);
      can = tt;
      finite = tt;
    }

pub make_change-requires-clause-runs : goal.make_change-requires-clause-runs
make_change-requires-clause-runs g c = runs_with c.loop.invariant.made.adds c.requires.runs

pub make_change-requires-clause-seated : goal.make_change-requires-clause-seated
make_change-requires-clause-seated g c =
    seated_now c.args.context.now.cells c.loop.schedule c.next_due.new.self c.in-Some-next_due.strategy
    c.in-Some-next_due.ensures c.loop.invariant.seated

-- none is due any more
pub returns-in-None-next_due : goal.returns-in-None-next_due
returns-in-None-next_due g c =
    let none = c.in-None-next_due.ensures in
    let all = all_made c.loop.invariant.made none.0 in
    let left = ap (λ (s : Schedule). s.changes.items) none.1 ∙ all.1 in
    let routed = ap (λ (s : Schedule). s.routed) none.1 ∙ c.loop.invariant.made.routed in
    let narrow : IsDue c.args.schedule.now → WaitAtMost (most_waiting + 1) c.loop.driver =
    narrow_behind c.args.schedule.now c.loop.schedule c.loop.driver c.loop.invariant.narrow none.0 in
    search rules

pub returns-in_err-make_change-in-Some-next_due : goal.returns-in_err-make_change-in-Some-next_due
returns-in_err-make_change-in-Some-next_due g c =
    let made = c.loop.invariant.made in
    let routed = c.in-Some-next_due.ensures.3 ∙ made.routed in
    let err = on_err c.from_residual.result _
    (adds_falls made.none made.adds c.in_err-make_change-in-Some-next_due.ensures.err) in
    search rules
