use Rattle.std.proofs.Common.{refl}
use Rattle.rescale_core.proofs.ReadingLemmas.{point_read}
use Rattle.rescale_core.proofs.router.Router.read_point.Goals as goal

pub returns : goal.returns
returns c = λ w is may.
    point_read c.args.self.now _ w c.args.point is may refl c.in_ok-push_point.ensures.len
    c.in_ok-push_point.ensures.queued
