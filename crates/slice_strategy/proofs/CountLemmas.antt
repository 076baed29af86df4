-- The workers of entries, as a loop counts them.
use Rattle.std.proofs.Common.{◌≡◌, ℕ, zero, ◌+◌, ◌*◌, ◌-◌, ◌^◌, ◌<◌, ◌≤◌, min, List, length, get_or, arith}
use Rattle.std.proofs.{lemmas.Bool.cases_lt, lemmas.Nat.mul-le}
use Rattle.std.proofs.Math.Nat.{mul_assoc, mul-zero, mul-one, one-mul, min-eq_left, min-eq_right, min-le_right}
use Rattle.mfotl_model.specs.Strategies.{parts_of, workers_of}
use Rattle.slice_strategy.specs.declared.entry.Entry.{Entry}
use Rattle.slice_strategy.specs.Entries.{entry_of, entries_of}
use Rattle.slice_strategy.proofs.EntryLemmas.{behind, entry_next, none_behind, up_to}

-- a factor that is above the cap may be cut down to it
capped : (m n w : ℕ) → min (min n m * w) m ≡ min (n * w) m
capped m n w = grind (arith, zero, mul-zero, cases_lt, up_to, mul-le, min-eq_right, min-eq_left)

-- the most that a count may be
abbrev pub cap : ℕ
cap = 2 ^ 64 - 1

-- the workers counted so far, and those of the entries behind
pub record Counts (items : List Entry) (workers i : ℕ) : Type 0 where
  pub few : workers ≤ cap
  pub counted : min (workers * workers_of (behind items i)) cap ≡ min (workers_of (entries_of items)) cap

pub counts_all : (items : List Entry) → Counts items 1 0
counts_all items = omega (arith, one-mul (workers_of (entries_of items)))

pub counts_next : (items : List Entry) (workers i : ℕ) (e : Entry) → Counts items workers i → i < length items
    → e ≡ get_or items i e → Counts items (min (workers * parts_of (entry_of e)) cap) (i + 1)
counts_next items workers i e counts low is = grind (arith, behind, min-le_right, capped, mul_assoc, entry_next)

pub counts_done : (items : List Entry) (workers i : ℕ) → Counts items workers i → length items ≤ i
    → workers ≡ min (workers_of (entries_of items)) cap
counts_done items workers i counts past = cc (min-eq_left counts.few, none_behind items i past, mul-one workers)
