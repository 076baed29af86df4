use Rattle.std.proofs.{Common.nat_le, Common.rules, lemmas.Fn.always_returns_same}
use Rattle.mfotl_model.proofs.RunLemmas.{tested_by_pred}
use Rattle.mfotl_model.specs.declared.event.Event.{Event}
use Rattle.mfotl_model.proofs.event.stand_by_pred.Goals as goal

pub returns : goal.returns
returns c =
    tested_by_pred c.args.events.now c.is_sorted_by.result
    (c.is_sorted_by.ensures.cases (λ (x y : Event). nat_le x.pred y.pred)
    (always_returns_same _ _ _ (λ a r f k. search rules)))
