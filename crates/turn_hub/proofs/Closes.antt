-- What a hub that is closed gives.
use Rattle.std.proofs.Common.{arith, ◌≡◌, ℕ, List, length, ◌∙◌, ⊎_elim, Option, Some, None, append-nil}
use mathlib.Core.Option.{some}
use lib.ListN.{get_elem?}
use Rattle.atomic_table.specs.Table.{Final, Seen}
use Rattle.turn_hub.specs.declared.{view.Cell.Cell, view.Line.Line, view.View.View}
use Rattle.turn_hub.specs.Rule.{Ruled}
use Rattle.turn_hub.specs.Ends.{AllMine, AllHaveCells, HaveWorks, StandEach}
use Rattle.turn_hub.proofs.Keeps.{there}

module _ {W S I O : Type 0} (stands : S → List I → List O → W → Type 0) (may : S → List I → Type 0)
    (refused : W → Type 0) where
  -- each slot has the cell of its line, and the works of the slots stand for the lines
  pub settled : (words : List ℕ) (slots : List (Option (Cell W I O))) (id : ℕ) (v : View W S I O) → id ≡ 0
      → v.has ≡ None → AllMine v → Final (Seen (Ruled stands may refused) id v) words slots
      → AllHaveCells slots × ((works : List W) → HaveWorks slots works → StandEach stands v.lines works)
  settled words slots id v is_first nothing mine f =
      let r = f.1.0 in
      let is : r.main ≡ v = grind arith in
      let long : length slots ≡ length v.lines = grind arith in
      let cell : (k : ℕ) (l : Line S I O) → get_elem? v.lines k ≡ some l
      → (c : Cell W I O) × (get_elem? slots k ≡ some (Some c)) × stands l.seed l.handed l.back c.work = λ k l e.
      let ok = r.each_cell k l (rw is e) in
      let m = mine k l e in ⊎_elim
      (λ t. (t.0, f.4 k (Some t.0) t.1, simp (t.2.2 m, append-nil) at t.2.0))
      (λ t. absurd (t.0 (rw is nothing))) (ok.ready (ok.mine m)) in (
        λ k near. let t = there v.lines k (omega arith) in let c = cell k t.0 t.1 in (c.0, c.1),
        λ works w. (w.0 ∙ long, λ k l e. let c = cell k l e in (c.0.work, w.1 k c.0 c.1, c.2)),
      )
