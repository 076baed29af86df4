use Rattle.std.proofs.Common.{refl}
use Rattle.rescale_core.proofs.RouterLemmas.{outs_collected, outs_may_add, taken_less}
use Rattle.rescale_core.proofs.router.Router.collect.Goals as goal

pub collect_all-requires : goal.collect_all-requires
collect_all-requires c =
    let t = c.requires.taken in
    outs_may_add c.args.self.now t.0 c.args.worker c.args.taken c.args.outs.items t.1 t.2

pub returns : goal.returns
returns c = λ w is taken.
    let all = c.in_ok-collect_all.ensures in
    outs_collected c.args.self.now _ w is c.args.worker c.args.taken c.args.outs.items taken refl
    all.len all.filled c.lower.ensures.len c.lower.ensures.less all.gathered

pub lower-requires : goal.lower-requires
lower-requires c =
    let t = c.requires.taken in
    taken_less c.args.self.now t.0 c.args.worker c.args.taken c.args.outs.items t.1 t.2
