use Rattle.std.proofs.Common.{◌≡◌, sym, subst}
use Rattle.verdict_merge.specs.{Gathers.GatherOf, Gathers.workers_in, Generations.AreBegun}
use Rattle.verdict_merge.proofs.BegunLemmas.{begun_push}
use Rattle.verdict_merge.proofs.gather.Gather.begin.Goals as goal

pub invariant_of-self-2 : goal.invariant_of-self-2
invariant_of-self-2 c =
    let none = subst (λ (g : GatherOf). workers_in g.begun c.args.generation ≡ 0) (sym c.self.view_is) c.requires.new in
    subst AreBegun (sym c.in_ok-push.ensures.items)
    (begun_push c.self.inside.begun.items _ c.self.invariant none c.requires.some)
