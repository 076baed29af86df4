use Rattle.std.proofs.Common.{sym, subst, rules, tests}
use Rattle.std.proofs.{lemmas.Fn.filter_same, lemmas.List.Kept.IsNonDecreasingBy-filter}
use Rattle.mfotl_model.proofs.EventLemmas.{events_filtered}
use Rattle.mfotl_model.specs.{Events.StandByPred, Matching.is_seen}
use Rattle.mfotl_model.proofs.event.Db.seen_by.Goals as goal

pub invariant_of-result : goal.invariant_of-result
invariant_of-result c =
    let seen = is_seen c.args.atoms.now in
    let kept = filter_same _ seen _ (λ x b f h. search (rules, tests)) _ _ c.retain.ensures.filtered in
    subst StandByPred (sym kept) (IsNonDecreasingBy-filter (λ e. e.pred) seen _ c.self.invariant)

pub returns : goal.returns
returns c =
    let seen = is_seen c.args.atoms.now in
    let kept = filter_same _ seen _ (λ x b f h. search (rules, tests)) _ _ c.retain.ensures.filtered in
    cc (events_filtered seen c.self.inside.events.items)
