use Rattle.std.proofs.Common.{◌≡◌, sym, subst, ap, ◌∙◌, rules, arith}
use Rattle.std.specs.List.{insert}
use Rattle.mfotl_model.proofs.{EventLemmas.event_among, RunLemmas.still_by_pred}
use Rattle.mfotl_model.specs.Events.{StandByPred}
use Rattle.mfotl_model.proofs.event.Db.insert.Goals as goal
use Rattle.std.proofs.lemmas.Grind.{common_steps}

pub invariant_of-self-2 : goal.invariant_of-self-2
invariant_of-self-2 c =
    let same : c.as_slice.result.now ≡ c.if-is_empty.self-inside.events.items = search rules in
    let place = c.count_up_to-place.result in
    subst StandByPred
    (ap (λ xs. insert xs place c.args.event) same ∙ sym c.in_ok-insert.ensures.items)
    (still_by_pred c.as_slice.result.now place c.args.event
    (subst StandByPred (sym c.as_slice.ensures.value) c.self.invariant)
    c.count_up_to-place.ensures.within c.count_up_to-place.ensures.parted)

pub returns-clause-inserts : goal.returns-clause-inserts
returns-clause-inserts c = grind (arith, common_steps, event_among)
