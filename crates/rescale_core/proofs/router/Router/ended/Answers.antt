use Rattle.std.proofs.Common.{ap, sym, ◌∙◌}
use Rattle.std.proofs.lemmas.Bool.{not-true, not_from_false}
use Rattle.std.specs.List.{list_all}
use Rattle.rescale_core.specs.Queues.{is_clear}
use Rattle.rescale_core.proofs.RouterEnds.{ended_clear, ended_unready, ended_zero, router_ended}
use Rattle.rescale_core.proofs.router.Router.ended.Goals as goal

pub returns-then-not-none_wait-clause-open : goal.returns-then-not-none_wait-clause-open
returns-then-not-none_wait-clause-open c = λ w is end.
    sym c.if-not-none_wait.true ∙ c.none_wait.ensures
    ∙ ap (list_all is_clear) c.deref.ensures.value ∙ ended_clear c.args.self.now w is end

pub returns-then-not-none_outstanding-clause-open : goal.returns-then-not-none_outstanding-clause-open
returns-then-not-none_outstanding-clause-open c = λ w is end.
    sym c.if-not-none_outstanding.true ∙ c.none_outstanding.ensures
    ∙ ap (list_all _) c.deref-2.ensures.value ∙ ended_zero c.args.self.now w is end

pub returns-clause-ended : goal.returns-clause-ended
returns-clause-ended c = λ w is ready.
    router_ended c.args.self.now w is
    (ap (list_all is_clear) (sym c.deref.ensures.value) ∙ sym c.none_wait.ensures ∙ c.if-not-none_wait.false)
    (ap (list_all _) (sym c.deref-2.ensures.value) ∙ sym c.none_outstanding.ensures
    ∙ c.if-not-none_outstanding.false)
    (sym c.is_ready.ensures ∙ not-true c.is_ready.result ready)

pub returns-clause-open : goal.returns-clause-open
returns-clause-open c = λ w is end.
    not_from_false c.is_ready.result (c.is_ready.ensures ∙ ended_unready c.args.self.now w is end)
