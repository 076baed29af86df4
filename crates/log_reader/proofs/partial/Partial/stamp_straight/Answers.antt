use Rattle.std.proofs.Common.{◌≤◌, ℕ, ap, subst}
use Rattle.log_reader.specs.declared.stage.Stage.TheVariants.{AfterStamp}
use Rattle.log_reader.specs.Partials.{Partial}
use Rattle.log_reader.proofs.QuickLemmas.{stamp_takes}
use Rattle.log_reader.proofs.partial.Partial.stamp_straight.Goals as goal

pub returns-in-Some : goal.returns-in-Some
returns-in-Some c = λ sig limits.
    stamp_takes sig limits c.args.self.now _ c.args._at c.args.bytes.now c.in-Some.time c.in-Some.count
    c.in-Some.ensures c.requires
    (subst (λ (time : ℕ). time ≤ c.in-Some.time) (ap (λ (p : Partial). p.time) c.self.view_is) c.if-time-self.true)
    (ap (λ (p : Partial). record p { stage = AfterStamp; time = c.in-Some.time }) c.self.view_is)
