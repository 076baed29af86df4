-- One worker after another is given something, until all that pass a test have it.
use Rattle.std.proofs.Common.{◌≡◌, ◌∙◌, ap, refl, arith, ℕ, zero, suc, ◌+◌, ◌<◌, ◌≤◌, Bool, true, false, ◌&&◌, cond}
use Rattle.std.proofs.Common.{nat_lt, List, [], ◌∷◌, length, set, get_or, add-zero}
use Rattle.std.proofs.{lemmas.Bool.cases_lt, Math.Bool.and-false, Math.Bool.and-true}
use Rattle.slice_strategy.specs.{Sharing.given_to, Slicers.NoneFrom}

-- only those below `from` are asked
abbrev pub up_to : (ℕ → Bool) → ℕ → ℕ → Bool
up_to test from k = test k && nat_lt k from

module _ {P : Type 0} (give : P → P) where
  given_alike : (p q : ℕ → Bool) (y : ℕ) (parts : List P) → ((k : ℕ) → y ≤ k → k < y + length parts → p k ≡ q k)
      → given_to give p y parts ≡ given_to give q y parts
  given_alike p q y [] same = refl
  given_alike p q y (part ∷ parts) same =
      rw (
        same y (omega arith) (omega arith),
        given_alike p q (y + 1) parts (λ k up low. same k (omega (arith, up)) (omega (arith, low))),
      )

  -- where none passes, nothing is given
  pub given_none : (p : ℕ → Bool) (y : ℕ) (parts : List P)
      → ((k : ℕ) → y ≤ k → k < y + length parts → p k ≡ false) → parts ≡ given_to give p y parts
  given_none p y [] never = refl
  given_none p y (part ∷ parts) never =
      rw (never y (omega arith) (omega arith)) (ap (λ rest. part ∷ rest)
      (given_none p (y + 1) parts (λ k up low. never k (omega (arith, up)) (omega (arith, low)))))

  -- one part more is given it
  given_at : (p q : ℕ → Bool) (y i : ℕ) (parts : List P) (other : P) → i < length parts
      → p (y + i) ≡ false → q (y + i) ≡ true → ((k : ℕ) → y ≤ k → k < y + length parts → (k ≡ y + i → ⊥) → p k ≡ q k)
      → set (given_to give p y parts) i (give (get_or (given_to give p y parts) i other)) ≡ given_to give q y parts
  given_at p q y i [] other low no_p is_q same = absurd (omega arith)
  given_at p q y zero (part ∷ parts) other low no_p is_q same = grind (arith, given_alike, add-zero)
  given_at p q y (suc i) (part ∷ parts) other low no_p is_q same =
      let next : y + suc i ≡ y + 1 + i = omega arith in
      rw (same y (omega arith) (omega arith) (λ e. absurd (omega (arith, e))))
      (ap (λ rest. cond (q y) (give part) part ∷ rest)
      (given_at p q (y + 1) i parts other (omega (arith, low)) (rw next at no_p) (rw next at is_q)
      (λ k up k_low apart. same k (omega (arith, up)) (omega (arith, k_low)) (λ e. apart (e ∙ next)))))

  -- none below the first is given it
  pub given_start : (test : ℕ → Bool) (first : ℕ) (parts : List P) → NoneFrom 0 first test
      → parts ≡ given_to give (up_to test first) 0 parts
  given_start test first parts none = grind (arith, given_none, cases_lt, and-false)

  -- the next one is given it
  pub given_next : (test : ℕ → Bool) (from k next : ℕ) (parts : List P) (other : P) → from ≤ k → k < length parts
      → k < next → test k ≡ true → NoneFrom from k test → NoneFrom (k + 1) next test
      → set (given_to give (up_to test from) 0 parts) k
      (give (get_or (given_to give (up_to test from) 0 parts) k other)) ≡ given_to give (up_to test next) 0 parts
  given_next test from k next parts other high low up is before behind =
      grind (arith, given_at, cases_lt, and-false, and-true)

  -- no more of them pass
  pub given_end : (test : ℕ → Bool) (from : ℕ) (parts : List P) → NoneFrom from (length parts) test
      → given_to give (up_to test from) 0 parts ≡ given_to give test 0 parts
  given_end test from parts none = grind (arith, given_alike, cases_lt, and-true)

  pub given_size : (test : ℕ → Bool) (y : ℕ) (parts : List P) → length (given_to give test y parts) ≡ length parts
  given_size test y [] = refl
  given_size test y (part ∷ parts) = ap suc (given_size test (y + 1) parts)
