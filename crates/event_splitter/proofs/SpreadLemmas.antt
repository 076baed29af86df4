-- The first worker that one of several readings concerns.
use Rattle.std.proofs.Common.{◌≡◌, arith, ℕ, ◌+◌, ◌<◌, Bool, ◌||◌, List, length, get_or, take, Option}
use Rattle.std.proofs.{lemmas.List.take_more, lemmas.List.Folds.list_any-append, Math.Bool.or-false}
use Rattle.std.proofs.{lemmas.Grind.common_steps}
use Rattle.std.specs.List.{range_with_len}
use Rattle.mfotl_model.specs.Regions.{Region}
use Rattle.mfotl_model.proofs.LogicLemmas.{among_range}
use Rattle.slice_strategy.specs.{Slicers.BindsAll, Sharing.IsFirst}
use Rattle.event_splitter.specs.Readings.{ReadingOf, earlier, is_near, some_near}

-- the first that passes either of two tests
pub first_of_both : (p q : ℕ → Bool) (from count : ℕ) (a b : Option ℕ) → IsFirst p from count a → IsFirst q from count b
    → IsFirst (λ k. p k || q k) from count (earlier a b)
first_of_both p q from count a b at_a at_b = grind arith

first_same : (p q : ℕ → Bool) (from count : ℕ) (found : Option ℕ) → ((k : ℕ) → p k ≡ q k) → IsFirst p from count found
    → IsFirst q from count found
first_same p q from count found same at = grind arith

-- one reading more
pub first_more : (near : ℕ → Region) (readings : List ReadingOf) (i from count : ℕ) (found next : Option ℕ)
    (reading : ReadingOf) → i < length readings → reading ≡ get_or readings i reading
    → IsFirst (λ k. some_near (take i readings) (near k)) from count found
    → IsFirst (λ k. is_near (near k) reading) from count next
    → IsFirst (λ k. some_near (take (i + 1) readings) (near k)) from count (earlier found next)
first_more near readings i from count found next reading low is so_far here =
    grind (arith, common_steps, first_same, take_more, list_any-append, or-false, first_of_both)

-- the first n numbers bind the first n variables
pub range_binds : (n : ℕ) → BindsAll n (range_with_len 0 n)
range_binds n y low = among_range 0 n y (omega arith) (omega arith)
