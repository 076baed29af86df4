-- The remainder of an integer, as the machine takes it.
use Rattle.std.proofs.Common.{◌≡◌, ◌∙◌, ℕ, ◌+◌, ◌-◌, ◌*◌, ◌<◌, ◌≤◌, ap, refl, arith, ℤ, pos, negsuc, ◌+ℤ◌}
use Rattle.std.proofs.{lemmas.Int.int_rem_euclid_is, lemmas.Int.ints, lemmas.Nat.mul-le}
use Rattle.std.proofs.Math.Nat.{mul_comm, zero-mul, one-mul}
use Rattle.std.specs.Int.{int_rem_euclid}
use Rattle.mfotl_model.specs.Strategies.{remainder}

lifted : (m p : ℕ) → m + 1 ≤ p → negsuc m +ℤ pos p ≡ pos (p - (m + 1))
lifted m p h = omega (arith, ints)

pub euclid : (z : ℤ) (count : ℕ) → 0 < count → int_rem_euclid z (pos count) ≡ pos (remainder z count)
euclid (pos n) count some = omega (arith, int_rem_euclid_is, pos n, pos count, ints, zero-mul count)
euclid (negsuc n) count some =
    let high : 1 * (n + 1) ≤ count * (n + 1) = mul-le 1 (n + 1) count (n + 1) (omega arith) (omega arith) in
    let one : 1 * (n + 1) ≡ n + 1 = one-mul (n + 1) in
    int_rem_euclid_is (negsuc n) (pos count) count (n + 1) (count * (n + 1) - (n + 1)) some refl
    (ap (λ p. negsuc n +ℤ pos p) (mul_comm (n + 1) count) ∙ lifted n (count * (n + 1)) (omega (arith, high, one)))
