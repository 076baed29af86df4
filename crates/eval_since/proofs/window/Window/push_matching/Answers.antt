use Rattle.std.proofs.Common.{◌||◌, ap, ◌∙◌}
use Rattle.std.proofs.lemmas.Result.{on_ok_weaker}
use Rattle.mfotl_model.specs.Tables.{has_row, part}
use Rattle.eval_since.specs.LeftOperand.{grouping}
use Rattle.eval_since.proofs.KeyLemmas.{matches_at}
use Rattle.eval_since.proofs.window.Window.push_matching.Goals as goal

pub returns : goal.returns
returns c = rw (← c.self.view_is) (
    let k = c.self.inside in
    on_ok_weaker c.push_matching.result (λ e u. e u ∙ ap (λ b. has_row c.args.out.now.items u || b)
    (matches_at k.interval k.last (part k.right.items (grouping k.left.items k.keys.items) u) u
    (has_row c.args.keys.now.rows (part k.right.items c.args.keys.now.columns u)) k.contents.groups
    c.push_matching.ensures.differ
    (λ q. c.self.invariant.placed q u)))
    (rw c.as_slice-right.ensures.value at c.push_matching.ensures.rows))
