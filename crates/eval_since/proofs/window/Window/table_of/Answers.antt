use Rattle.std.proofs.Common.{sym, ap, ◌∙◌}
use Rattle.std.proofs.lemmas.Bool.{and_parts}
use Rattle.mfotl_model.specs.Tables.{has_row, part}
use Rattle.relations.proofs.AscendingRows.{has_ascending}
use Rattle.eval_since.specs.{LeftOperand.grouping, WindowView.within}
use Rattle.eval_since.proofs.StepLemmas.{sized_reached}
use Rattle.eval_since.proofs.window.Window.table_of.Goals as goal

pub from_rows-requires : goal.from_rows-requires
from_rows-requires c = rw (c.in_ok-columns.ensures.ok, c.as_slice.ensures.value) (
    let k = c.self.inside in
    record {
      apart = c.self.invariant.apart;
      sized = sized_reached k.interval k.last k.right.items (grouping k.left.items k.keys.items) k.contents.groups
          c.push_table_of.new.out.items c.self.invariant.sized
          (λ u there. rw (← c.self.view_is) at ((and_parts (within c.args.self.now c.args.self.now.last u)
          (has_row c.args.keys.now.rows (part c.args.self.now.right c.args.keys.now.columns u))
          (sym (rw c.new-rows.ensures.items at (c.in_ok-push_table_of.ensures u)) ∙ there)).0));
    })

pub returns-clause-rows : goal.returns-clause-rows
returns-clause-rows c = λ u.
    ap (λ rows. has_row rows u) c.from_rows.ensures.rows
    ∙ has_ascending c.push_table_of.new.out.items u
    ∙ (rw c.new-rows.ensures.items at (c.in_ok-push_table_of.ensures u))
