use Rattle.std.proofs.Common.{◌≡◌, ◌+◌, ◌∷◌, ◌++◌, [], ap, ◌∙◌, sym, subst, length, length-append, ℕ, List, ⊎_elim}
use Rattle.monitorable.specs.Cores.{core_form}
use Rattle.rescale_core.specs.{Cells.IsCellOf, Handing.nth, Worlds.World, Worlds.first_world}
use Rattle.rescale_core.specs.declared.cell.Cell.{Cell}
use Rattle.rescale_core.proofs.CellLemmas.{nth_last}
use Rattle.rescale_core.proofs.machine_start.new_cells.Goals as goal

pub loop-k-preserved : goal.loop-k-preserved
loop-k-preserved c =
    let old : List Cell = c.loop-k.cells.items in
    let new : Cell = c.in_ok-cell.cell in
    let w : World = first_world (core_form c.args.core.now) c.args.strategy.now in
    let items : c.push.new.self.items ≡ old ++ new ∷ [] = c.in_ok-push.ensures.items in
    record {
      len = ap length items ∙ length-append old (new ∷ []) ∙ ap (λ n. n + 1) c.loop-k.invariant.len;
      cells = λ k cell e.
          ⊎_elim (λ h. c.loop-k.invariant.cells k cell h)
          (λ h. subst (IsCellOf w k) h.1
          (subst (λ (x : ℕ). IsCellOf w x new) (sym (h.0 ∙ c.loop-k.invariant.len)) c.in_ok-cell.ensures))
          (nth_last old new k cell (sym (ap (λ (xs : List Cell). nth xs k) items) ∙ e));
    }
