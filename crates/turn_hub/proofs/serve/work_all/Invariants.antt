use Rattle.std.proofs.Common.{◌≡◌, ◌++◌, List}
use Rattle.turn_hub.specs.Work.{Takes, Leads}
use Rattle.turn_hub.proofs.serve.work_all.Given as goal

abbrev pub invariant-loop-item : goal.invariant-loop-item
invariant-loop-item g l = (l.fn.cell.items.items ≡ l.yielded ++ l.item-iterator.rest.items)
    × (l.cell.count ≡ l.fn.cell.count)
    × Takes g.W.Work.stands g.W.Work.may l.cell.work l.item-iterator.rest.items
    × ((gave : List g.row.W-Out.Denot) × (l.cell.outs.items ≡ l.fn.cell.outs.items ++ gave)
    × Leads g.W.Work.stands g.W.Work.may l.fn.cell.work l.yielded l.cell.work gave)
