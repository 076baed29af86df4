use Rattle.std.proofs.Common.{ap, sym, ◌∙◌}
use Rattle.std.specs.List.{list_all}
use Rattle.rescale_core.specs.Waiting.{is_short}
use Rattle.rescale_core.proofs.Waits.{room_router, router_room}
use Rattle.rescale_core.proofs.router.Router.has_room.Goals as goal

pub returns-clause-room : goal.returns-clause-room
returns-clause-room c = λ w is h.
    router_room c.args.self.now w is
    (ap (list_all is_short) (sym c.deref.ensures.value) ∙ sym c.all_short.ensures ∙ h)

pub returns-clause-none : goal.returns-clause-none
returns-clause-none c = λ w is h.
    c.all_short.ensures ∙ ap (list_all is_short) c.deref.ensures.value ∙ room_router c.args.self.now w is h
