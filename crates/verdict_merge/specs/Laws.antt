-- Laws of merged rows.
use Rattle.std.specs.Prelude.{◌≡◌, ℕ, ◌<◌, true, nat_eq, List, length, map, filter, Option}
use Rattle.std.specs.List.{AllByRecursion, list_any}
use Rattle.std.specs.List.Sorted.{IsPermutation, IsStrictlySortedBy}
use Rattle.mfotl_model.specs.Ascending.{ascending}
use Rattle.mfotl_model.specs.Numbers.{AllBelow, Apart}
use Rattle.mfotl_model.specs.Values.{row_cmp}
use Rattle.mfotl_model.specs.declared.value.Value.{Value}
use Rattle.verdict_merge.specs.declared.rows.Rows.{Rows}
use Rattle.verdict_merge.specs.declared.rows.Verdict.{Verdict}
use Rattle.verdict_merge.specs.Emitted.{Emits}
use Rattle.verdict_merge.specs.Gathers.{GatherOf, gathered_rows}

-- where the Rows are a partition of an ascending list, the merged rows are that list
abbrev pub PartitionMerges : Type 0
PartitionMerges =
    (given : List Rows) (all : List (List Value)) → IsStrictlySortedBy row_cmp all
    → IsPermutation (gathered_rows given) all → ascending row_cmp (gathered_rows given) ≡ all

-- the Rows of so many workers are by owner a partition of a list: each worker's Rows are there once, with the
-- rows of the list that the worker owns
pub record IsPartition (owner : List Value → ℕ) (count : ℕ) (given : List Rows) (all : List (List Value)) : Type 0 where
  pub owned : AllByRecursion (λ row. owner row < count) all
  pub parts : AllByRecursion (λ (r : Rows). r.rows ≡ filter (λ row. nat_eq (owner row) r.worker) all) given
  pub near : AllBelow count (map (λ (r : Rows). r.worker) given)
  pub apart : Apart (map (λ (r : Rows). r.worker) given)
  pub whole : length (map (λ (r : Rows). r.worker) given) ≡ count

-- where the Rows are by owner a partition of an ascending list, the merged rows are that list
abbrev pub OwnersMerge : Type 0
OwnersMerge =
    (owner : List Value → ℕ) (count : ℕ) (given : List Rows) (all : List (List Value)) → IsStrictlySortedBy row_cmp all
    → IsPartition owner count given all → ascending row_cmp (gathered_rows given) ≡ all

-- so many Rows of workers below a number as the number, no worker's twice, are the Rows of every one of them
abbrev pub EveryWorker : Type 0
EveryWorker =
    (count : ℕ) (workers : List ℕ) → Apart workers → AllBelow count workers → length workers ≡ count
    → (k : ℕ) → k < count → list_any (nat_eq k) workers ≡ true

-- what was gathered settles what comes out, and what is gathered then
abbrev pub EmitsOne : Type 0
EmitsOne =
    (old new other : GatherOf) (given found : Option Verdict) → Emits old given new → Emits old found other
    → (given ≡ found) × (new ≡ other)
