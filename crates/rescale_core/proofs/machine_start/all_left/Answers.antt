use Rattle.std.proofs.Common.{◌≡◌, ◌≤◌, ◌∷◌, ◌++◌, [], List, ap, sym, append_assoc, subst, ◌∙◌, arith}
use Rattle.std.proofs.Permutation.{every_append}
use Rattle.rescale_core.specs.Cells.{AreWithin, workers_for}
use Rattle.rescale_worker.specs.declared.item.Entry.{Entry}
use Rattle.rescale_core.proofs.Fitting.{every_map}
use Rattle.rescale_core.proofs.machine_start.all_left.Goals as goal

pub loop-entry-preserved : goal.loop-entry-preserved
loop-entry-preserved c =
    let i = c.loop-entry.invariant in
    let done : List Entry = c.loop-entry.left.items in
    let old : List Entry = c.loop-entry.entry-iterator.rest.items in
    let rest : List Entry = c.next.new.self.rest.items in
    let entry : Entry = c.in-Some.entry in
    let e : old ≡ entry ∷ rest = c.in-Some.ensures.steps.0 in
    let items : c.push_back.new.self.items ≡ done ++ entry ∷ [] = c.in_ok-push_back.ensures.items in
    let top = c.max-most.ensures in
    let needs = c.workers_for.ensures in
    let first : c.loop-entry.most ≤ c.max-most.result = omega (arith, top) in
    let second : workers_for entry ≤ c.max-most.result = omega (arith, top, needs) in
    record {
      left = ap (λ x. x ++ rest) items ∙ append_assoc done (entry ∷ []) rest ∙ ap (λ x. done ++ x) (sym e) ∙ i.left;
      wide = (let h = i.wide in omega arith);
      within = subst (AreWithin c.max-most.result) (sym items)
          (every_append (λ (x : Entry). workers_for x ≤ c.max-most.result) done (entry ∷ [])
          (every_map (λ (x : Entry). workers_for x ≤ c.loop-entry.most)
          (λ (x : Entry). workers_for x ≤ c.max-most.result) done (λ x h. (omega arith)) i.within)
          (second, tt));
    }
