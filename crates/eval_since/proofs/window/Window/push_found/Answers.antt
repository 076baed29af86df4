use Rattle.std.proofs.Common.{◌&&◌, ◌||◌, ℕ, List, sym, ap, ap₂, ◌∙◌}
use Rattle.std.proofs.lemmas.Result.{on_ok_weaker}
use Rattle.mfotl_model.specs.Tables.{has_row, part}
use Rattle.mfotl_model.specs.declared.value.Value.{Value}
use Rattle.row_times.specs.{Groups.times_at, Times.reaches}
use Rattle.eval_since.specs.{LeftOperand.grouping}
use Rattle.eval_since.proofs.KeyLemmas.{found_at}
use Rattle.eval_since.proofs.window.Window.push_found.Goals as goal

pub returns : goal.returns
returns c =
    let same = rw (← c.self.view_is) at c.requires.same in
    rw (← c.self.view_is) (
    let k = c.self.inside in
    on_ok_weaker c.push_found.result (λ e u. e u ∙ ap (λ b. has_row c.args.out.now.items u || b)
    (found_at k.interval k.last (part k.right.items (grouping k.left.items k.keys.items) u) u c.rows.result.now
    k.contents.groups (λ q. c.self.invariant.placed q u)
    ∙ ap₂ (λ (rows : List (List Value)) (columns : List ℕ).
    reaches k.interval
    (times_at k.contents.groups (part k.right.items (grouping k.left.items k.keys.items) u) u) k.last
    && has_row rows (part k.right.items columns u)) c.rows.ensures.rows (sym same)))
    c.push_found.ensures)
