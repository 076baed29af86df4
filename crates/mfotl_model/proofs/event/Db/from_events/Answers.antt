use Rattle.mfotl_model.proofs.{EventLemmas.events_moved, RunLemmas.sorted_by_pred}
use Rattle.mfotl_model.proofs.event.Db.from_events.Goals as goal

pub invariant_of-result-2 : goal.invariant_of-result-2
invariant_of-result-2 c = sorted_by_pred c.sort_unstable.new.self.items c.sort_unstable.ensures.sorted

pub returns : goal.returns
returns c = events_moved c.args.events.items c.sort_unstable.new.self.items c.sort_unstable.ensures.permutation
