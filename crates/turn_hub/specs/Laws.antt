-- The laws of taking items and of being led by them.
use Rattle.std.specs.Prelude.{List, [], ◌++◌}
use Rattle.turn_hub.specs.Work.{Takes, Leads}

module _ {W S I O : Type 0} (stands : S → List I → List O → W → Type 0) (may : S → List I → Type 0) where
  -- a work that stands for lists takes what may be handed over after them
  abbrev pub StandsTakes : Type 0
  StandsTakes = (s : S) (t : List I) (g : List O) (w : W) (items : List I)
      → stands s t g w → may s (t ++ items) → Takes stands may w items

  -- and what it is led to stands for them and the items and outs
  abbrev pub StandsOn : Type 0
  StandsOn = (s : S) (t : List I) (g : List O) (w : W) (items : List I) (x : W) (outs : List O)
      → stands s t g w → may s (t ++ items) → Leads stands may w items x outs → stands s (t ++ items) (g ++ outs) x

  -- no items lead to the work itself
  abbrev pub LeadsNone : Type 0
  LeadsNone = (w : W) → Leads stands may w [] w []

  -- where a leads from w to x, and b from x to y, both lead from w to y
  abbrev pub LeadsOn : Type 0
  LeadsOn = (w : W) (a : List I) (x : W) (p : List O) (b : List I) (y : W) (q : List O)
      → Leads stands may w a x p → Leads stands may x b y q → Leads stands may w (a ++ b) y (p ++ q)

  -- who takes a list takes each front of it
  abbrev pub TakesLess : Type 0
  TakesLess = (w : W) (a b : List I) → Takes stands may w (a ++ b) → Takes stands may w a

  -- and what it is led to by the front takes the others
  abbrev pub TakesOn : Type 0
  TakesOn = (w : W) (a b : List I) (x : W) (outs : List O)
      → Takes stands may w (a ++ b) → Leads stands may w a x outs → Takes stands may x b
