-- The first numbers that pass a test, as they are found digit by digit.
use Rattle.std.specs.Prelude.{◌≡◌, ◌<◌, ◌≤◌, ◌+◌, ◌*◌, ℕ, Bool, true, false, Option, Some, None, IfSome, nat_eq}
use Rattle.slice_strategy.specs.Slicers.{NoneFrom, end_of}

-- of the numbers below count, the least that passes the test, and the least from `from` on if there is any
pub record IsNearest (test : ℕ → Bool) (from count least : ℕ) (next : Option ℕ) : Type 0 where
  pub low : least < count
  pub near : test least ≡ true
  pub least_first : NoneFrom 0 least test
  pub found : IfSome next (λ k. (from ≤ k) × (k < count) × (test k ≡ true))
  pub next_first : NoneFrom from (end_of count next) test

-- whether a digit may stand where a row holds one, or none
abbrev pub may_be : Option ℕ → ℕ → Bool
may_be None d = true
may_be (Some a) d = nat_eq a d

-- with the digit above or with none, and then the least
abbrev pub raised : ℕ → ℕ → Option ℕ → Option ℕ
raised place least None = None
raised place least (Some above) = Some (above * place + least)

-- The next number: with this digit if it may stay and something follows, else with the digit above.
abbrev pub next_number : Bool → ℕ → ℕ → ℕ → Option ℕ → Option ℕ → Option ℕ
next_number true digit place least (Some rest) above = Some (digit * place + rest)
next_number true digit place least None above = raised place least above
next_number false digit place least next above = raised place least above
