-- Spending twice is spending the sum.
use Rattle.std.proofs.Common.{◌≡◌, ℕ, ◌+◌, Option, arith}
use Rattle.monitorable.specs.Budget.{spent}

pub spent_twice : (a b : ℕ) (budget : Option ℕ) → spent b (spent a budget) ≡ spent (a + b) budget
spent_twice a b budget = grind arith
