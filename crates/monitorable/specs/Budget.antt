-- Spending from a budget.
use Rattle.std.specs.Prelude.{ℕ, ◌-◌, cond, nat_le, Option, Some, None}

-- what is left of a budget after n more were spent, if there was enough
abbrev pub spent : ℕ → Option ℕ → Option ℕ
spent n None = None
spent n (Some budget) = cond (nat_le n budget) (Some (budget - n)) None
