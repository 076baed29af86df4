use Rattle.mfotl_model.proofs.RunLemmas.{run_is, run_starts}
use Rattle.mfotl_model.proofs.event.run_of.Goals as goal

pub slice_bounds-result-start : goal.slice_bounds-result-start
slice_bounds-result-start c =
    run_starts c.args.pred c.args.events.now c.count_below-start.result c.count_up_to-end.result
    c.count_below-start.ensures.within c.count_up_to-end.ensures.within
    c.count_below-start.ensures.parted c.count_up_to-end.ensures.parted

pub slice_bounds-result-count : goal.slice_bounds-result-count
slice_bounds-result-count c =
    run_starts c.args.pred c.args.events.now c.count_below-start.result c.count_up_to-end.result
    c.count_below-start.ensures.within c.count_up_to-end.ensures.within
    c.count_below-start.ensures.parted c.count_up_to-end.ensures.parted

pub returns : goal.returns
returns c = search (run_is)
