-- What a seat has after it moved the cell of its slot out, and another in.
use Rattle.std.proofs.Common.{◌≡◌, ℕ, List, ◌∷◌, Option, Some, None, arith}
use Rattle.atomic_table.specs.Table.{Me, rest}

module _ {C V : Type 0} {k : ℕ} {v : V} {x y : C} {xs : List (ℕ × Option C)} {me : Me (Option C) V} where
  -- out comes what lay there
  pub same_slot : me ≡ (v, (k, Some x) ∷ xs) → me.1 ≡ (k, Some y) ∷ rest me.1 → y ≡ x
  same_slot held out = grind arith

  -- and another cell is in after both moves
  pub swapped_out : {z : C} {me' me'' : Me (Option C) V} → me ≡ (v, (k, Some x) ∷ xs)
      → me.1 ≡ (k, Some y) ∷ rest me.1 → me' ≡ (me.0, (k, None) ∷ rest me.1)
      → me'' ≡ (me'.0, (k, Some z) ∷ rest me'.1) → (y ≡ x) × (me'' ≡ (v, (k, Some z) ∷ xs))
  swapped_out held out gone put = (same_slot held out, rw (put, gone, held))
