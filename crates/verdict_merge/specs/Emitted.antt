-- What comes out where a time-point has the Rows of all workers.
use Rattle.std.specs.Prelude.{ℕ, ◌≡◌, ◌+◌, Option, Some, None}
use Rattle.mfotl_model.specs.Ascending.{ascending}
use Rattle.mfotl_model.specs.Values.{row_cmp}
use Rattle.verdict_merge.specs.declared.rows.Verdict.{Verdict}
use Rattle.verdict_merge.specs.Gathers.{GatherOf, gathered_rows, complete_ts, rows_after, rows_at}

-- the verdict on the next time-point: all rows of its Rows in ascending order, each once
abbrev pub merged : GatherOf → ℕ → Verdict
merged g ts = record { point = g.next; ts = ts; rows = ascending row_cmp (gathered_rows (rows_at g.next g.added)) }

-- what is gathered when the next time-point has its verdict
abbrev pub after_emit : GatherOf → GatherOf
after_emit g = record { begun = g.begun; next = g.next + 1; added = rows_after g.next g.added }

-- a verdict comes exactly where the Rows of all workers are there; where none comes, nothing changes
abbrev pub Emits : GatherOf → Option Verdict → GatherOf → Type 0
Emits old None new = (complete_ts old ≡ None) × (new ≡ old)
Emits old (Some verdict) new =
    (ts : ℕ) × (complete_ts old ≡ Some ts) × (verdict ≡ merged old ts) × (new ≡ after_emit old)
