use Rattle.std.proofs.Common.{◌∙◌, ◌++◌, ap, sym, set}
use Rattle.std.specs.List.{position}
use Rattle.monitor_state.specs.declared.state.Piece.{Piece}
use Rattle.rescale_core.specs.{Queues.queue_filled, Slots.lacks, Slots.sure}
use Rattle.rescale_core.proofs.{SlotLemmas.unfilled, SlotLemmas.filled_at, SureLemmas.sure_filled}
use Rattle.rescale_core.proofs.queue.Queue.fill.Goals as goal

pub returns-in_default : goal.returns-in_default
returns-in_default c =
    let front = c.self.inside.front.items in
    let slots = c.self.inside.slots.items in
    sym c.self.view_is
    ∙ ap (λ xs. sure front ++ xs) (unfilled c.args.piece slots
    (ap (λ (p : Piece). position (lacks p.generation) slots) (sym c.get.ensures.same) ∙ sym c.in_default.ensures))
    ∙ sure_filled c.args.piece front slots
    ∙ ap (queue_filled c.args.piece) c.self.view_is

pub returns : goal.returns
returns c =
    let front = c.self.inside.front.items in
    let slots = c.self.inside.slots.items in
    ap (λ xs. sure front ++ xs) (ap (set slots c.in-Some.at) c.put.ensures
    ∙ filled_at c.args.piece slots c.in-Some.at c.index_mut-slot.result.now
    (ap (λ (p : Piece). position (lacks p.generation) slots) (sym c.get.ensures.same) ∙ sym c.in-Some.ensures)
    c.index_mut-slot.ensures.value)
    ∙ sure_filled c.args.piece front slots
    ∙ ap (queue_filled c.args.piece) c.self.view_is
