use Rattle.std.proofs.Common.{sym, ap, ◌∙◌}
use Rattle.mfotl_model.specs.Tables.{has_row, part}
use Rattle.relations.proofs.AscendingRows.{has_ascending}
use Rattle.eval_since.specs.LeftOperand.{grouping}
use Rattle.row_times.proofs.{GroupLemmas.group_is}
use Rattle.eval_since.proofs.{StepLemmas.sized_reached}
use Rattle.eval_since.proofs.window.Window.table.Goals as goal

pub from_rows-requires : goal.from_rows-requires
from_rows-requires c = rw (c.in_ok-columns.ensures.ok, c.as_slice.ensures.value) (
    let k = c.self.inside in
    record {
      apart = c.self.invariant.apart;
      sized = sized_reached k.interval k.last k.right.items (grouping k.left.items k.keys.items) k.contents.groups
          c.push_reaching.new.out.items c.self.invariant.sized (λ u there. sym (
          rw (
            c.new-rows.ensures.items,
            group_is k.interval k.last
                (part k.right.items (grouping k.left.items k.keys.items) u) u k.contents.groups
                c.push_reaching.ensures.differ (λ q. c.self.invariant.placed q u),
          )
          at (c.in_ok-push_reaching.ensures.rows u)) ∙ there);
    })

pub returns-clause-rows : goal.returns-clause-rows
returns-clause-rows c = rw (← c.self.view_is) (
    let k = c.self.inside in
    λ u. ap (λ rows. has_row rows u) c.from_rows.ensures.rows
    ∙ has_ascending c.push_reaching.new.out.items u
    ∙ (rw (
      c.new-rows.ensures.items,
      group_is k.interval k.last
          (part k.right.items (grouping k.left.items k.keys.items) u) u k.contents.groups
          c.push_reaching.ensures.differ (λ q. c.self.invariant.placed q u),
    ) at (c.in_ok-push_reaching.ensures.rows u)))
