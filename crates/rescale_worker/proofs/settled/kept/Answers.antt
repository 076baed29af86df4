use Rattle.std.proofs.Common.{◌≡◌, Bool, ◌&&◌, List, length, nat_eq, rules, subst, sym, tests, true, ◌∙◌}
use Rattle.std.proofs.lemmas.Fn.{filter_same}
use Rattle.mfotl_model.specs.Tables.{all_sized}
use Rattle.mfotl_model.specs.declared.value.Value.{Value}
use Rattle.rescale_worker.specs.Workers.{owner}
use Rattle.rescale_worker.proofs.OwnedLemmas.{owned_all, owned_sized}
use Rattle.rescale_worker.proofs.settled.kept.Goals as goal

pub returns-then-workers-eq1 : goal.returns-then-workers-eq1
returns-then-workers-eq1 c =
    c.new.ensures
    ∙ owned_all c.args.strategy.now c.args.worker (sym c.workers.ensures.count ∙ c.if-workers-eq1.true)
    c.if-worker-eq0.true c.args.rows.items

pub returns : goal.returns
returns c =
    let sized : List Value → Bool = (λ row. nat_eq (length row) c.args.width
    && nat_eq (owner c.args.strategy.now row) c.args.worker) in
    c.new-2.ensures
    ∙ filter_same _ sized _ (λ x b f h. search (rules, tests)) c.args.rows.items c.retain.new.self.items
    c.retain.ensures.filtered
    ∙ owned_sized c.args.strategy.now c.args.worker c.args.width c.args.rows.items
    (subst (λ n. all_sized n c.args.rows.items ≡ true) (sym c.requires.width) c.requires.sized)
