-- Worked examples: when a time-point has its verdict, what comes out, and what goes on waiting.
use Rattle.std.specs.Prelude.{◌≡◌, ℕ, true, false, List, [], ◌∷◌, map, Some, None}
use Rattle.mfotl_model.specs.Samples.{int}
use Rattle.verdict_merge.specs.declared.rows.Rows.{Rows}
use Rattle.verdict_merge.specs.Gathers.{GatherOf, complete_ts, is_from}
use Rattle.verdict_merge.specs.Emitted.{Emits, merged}

-- what a worker of a generation says of a time-point: rows of one number each
abbrev pub said : (generation worker point ts : ℕ) → List ℕ → Rows
said generation worker point ts numbers =
    record { point = point; ts = ts; generation = generation; worker = worker; rows = map (λ n. int n ∷ []) numbers }

-- what is gathered before the verdict on a time-point: these Rows wait, the generation 3 has two workers, and the
-- generation 4 has one
abbrev pub gathered : ℕ → List Rows → GatherOf
gathered next added = record {
  begun = record { generation = 3; workers = 2 } ∷ record { generation = 4; workers = 1 } ∷ [];
  next = next;
  added = added;
}

-- the Rows for 5 of the worker 1
abbrev pub early : Rows
early = said 3 1 5 70 (2 ∷ [])

-- those for 6, which the generation 4 settled
abbrev pub later : Rows
later = said 4 0 6 80 (9 ∷ [])

-- those for 5 of the worker 0
abbrev pub late : Rows
late = said 3 0 5 70 (1 ∷ 3 ∷ [])

-- all three, as they came
abbrev pub all_three : List Rows
all_three = early ∷ later ∷ late ∷ []

-- one of two workers is not enough, though two Rows wait
abbrev pub OneIsMissing : Type 0
OneIsMissing = complete_ts (gathered 5 (early ∷ later ∷ [])) ≡ None

-- both are
abbrev pub BothAreThere : Type 0
BothAreThere = complete_ts (gathered 5 all_three) ≡ Some 70

-- the rows of 5 come out in ascending order, whoever said them first
abbrev pub MergedRowsInOrder : Type 0
MergedRowsInOrder = merged (gathered 5 all_three) 70
    ≡ record { point = 5; ts = 70; rows = (int 1 ∷ []) ∷ (int 2 ∷ []) ∷ (int 3 ∷ []) ∷ [] }

-- and those of 6 wait
abbrev pub VerdictComes : Type 0
VerdictComes = Emits (gathered 5 all_three) (Some (merged (gathered 5 all_three) 70)) (gathered 6 (later ∷ []))

-- 6 is complete then, since its generation has one worker
abbrev pub NextIsComplete : Type 0
NextIsComplete = complete_ts (gathered 6 (later ∷ [])) ≡ Some 80

-- Rows of a generation that was not begun are never complete
abbrev pub NoneBegun : Type 0
NoneBegun = complete_ts (gathered 5 (said 7 0 5 70 [] ∷ [])) ≡ None

-- Rows are from the same when worker, generation and time-point are, whatever they say
abbrev pub SameWorker : Type 0
SameWorker =
    (is_from early (said 3 1 5 71 []) ≡ true) × (is_from early late ≡ false)
    × (is_from early (said 4 1 5 70 []) ≡ false) × (is_from early (said 3 1 6 70 []) ≡ false)
