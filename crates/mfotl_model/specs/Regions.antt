-- Regions of rows: what a worker, or a part of its state, answers for.
use Rattle.std.specs.Prelude.{◌≡◌, ℕ, ◌+◌, ◌/◌, ◌%◌, Bool, true, not, ◌&&◌, ◌||◌, nat_eq, List, [], ◌∷◌}
use Rattle.mfotl_model.specs.FreeVariables.{among}
use Rattle.mfotl_model.specs.Satisfaction.{Valuation}
use Rattle.mfotl_model.specs.Strategies.{Strategy, strategy_part, workers_of}

-- whether the row that a valuation gives to some variables is near
abbrev pub Region : Type 0
Region = List ℕ → Valuation → Bool

-- Near passes to each row that binds no more of the free variables, and those alike. So it passes to
-- parts of a row, and variables that aren't free don't matter.
abbrev pub Passes : List ℕ → Region → Type 0
Passes free near =
    (vs ws : List ℕ) (v w : Valuation)
    → ((y : ℕ) → among y ws ≡ true → among y free ≡ true → (among y vs ≡ true) × (v y ≡ w y))
    → near vs v ≡ true → near ws w ≡ true

-- the region that each row is in: that of one worker alone
abbrev pub everywhere : Region
everywhere vs v = true

-- the rows that are in both regions
abbrev pub in_both : Region → Region → Region
in_both a b vs v = a vs v && b vs v

-- the same as below, of the variables from y on
abbrev pub near_from : ℕ → Strategy → ℕ → Region
near_from y [] k vs v = nat_eq k 0
near_from y (e ∷ es) k vs v =
    (not (among y vs) || nat_eq (strategy_part e (v y)) (k / workers_of es))
    && near_from (y + 1) es (k % workers_of es) vs v

-- the rows whose values are all in the parts that worker k has; of a variable that the row doesn't bind
-- nothing is asked
abbrev pub near_of : Strategy → ℕ → Region
near_of strategy k = near_from 0 strategy k
