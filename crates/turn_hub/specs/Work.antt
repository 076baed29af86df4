-- When a work may take items, and what it is led to.
use Rattle.std.specs.Prelude.{List, ◌++◌}

module _ {W S I O : Type 0} (stands : S → List I → List O → W → Type 0) (may : S → List I → Type 0) where
  -- for some seed and lists the work stands for them, and the items may be handed over next
  abbrev pub Takes : W → List I → Type 0
  Takes w items = (s : S) × (t : List I) × (g : List O) × stands s t g w × may s (t ++ items)

  -- whatever the work w stood for, where the items may be handed over next, x stands for that and the items and outs
  abbrev pub Leads : W → List I → W → List O → Type 0
  Leads w items x outs = (s : S) (t : List I) (g : List O)
      → stands s t g w → may s (t ++ items) → stands s (t ++ items) (g ++ outs) x
