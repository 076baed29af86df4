use Rattle.std.proofs.Common.{◌<◌, refl, ap, ◌∙◌, arith}
use Rattle.mfotl_model.specs.Strategies.{workers_of}
use Rattle.verdict_merge.specs.Gathers.{workers_in}
use Rattle.rescale_core.proofs.{ChangeLemmas.change_read, ChangeLemmas.not_begun}
use Rattle.rescale_worker.proofs.{Chains.some_workers}
use Rattle.rescale_core.proofs.router.Router.read_change.Goals as goal

pub begin-requires-clause-new : goal.begin-requires-clause-new
begin-requires-clause-new c =
    ap (workers_in c.args.self.now.gather.begun) c.in_ok-generation.ensures
    ∙ not_begun c.args.self.now c.requires.0 c.requires.1

pub begin-requires-clause-some : goal.begin-requires-clause-some
begin-requires-clause-some c =
    let h : 0 < workers_of c.args.strategy = some_workers _ c.args.strategy c.requires.2 in
    let m = c.workers.ensures.count in
    omega arith

pub returns : goal.returns
returns c = λ w is may.
    let g = c.in_ok-generation.ensures in
    let m = c.workers.ensures.count in
    let e = c.in_ok-push_change.ensures in
    let counts = c.in_ok-grow_counts.ensures in
    let len = c.len.ensures in
    let size = counts.len in
    change_read c.args.self.now _ w c.args.strategy is may refl g e.wide (λ q. rw (e.queued q, g)) (omega arith)
    counts.same (rw (c.in_ok-begin.ensures, g, m))
