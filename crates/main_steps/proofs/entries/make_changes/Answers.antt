use Rattle.std.proofs.Common.{◌+◌, rules, subst}
use Rattle.rescale_core.specs.Waiting.{most_waiting}
use Rattle.main_steps.specs.{Changes.DueTells, Changes.IsDue, Writing.WaitAtMost}
use Rattle.main_steps.proofs.{ChangeLemmas.all_made, ChangeLemmas.none_made, WaitLemmas.due_or_none}
use Rattle.main_steps.proofs.entries.make_changes.Goals as goal

pub returns : goal.returns
returns g c =
    let schedule = c.args.schedule.now in
    let none = subst (DueTells schedule) c.if-is_due.false c.is_due.ensures in
    let narrow : IsDue schedule → WaitAtMost (most_waiting + 1) c.args.driver.now =
    λ due. absurd (due_or_none schedule due none) in
    let all =
    all_made (none_made schedule c.args.driver.now (g.O.Sink.written c.args.out.now) c.args.writer.now.tally) none in
    search rules
