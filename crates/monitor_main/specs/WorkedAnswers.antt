-- How much a file may have and what a run tells, worked out in full.
use Rattle.std.specs.Prelude.{◌≡◌, [], ◌∷◌, codes, map, true, false}
use Rattle.mfotl_model.specs.declared.policy.Sort.TheVariants as sorts
use Rattle.monitor_main.specs.declared.status.Status.TheVariants.{Clean, Violated, Usage}
use Rattle.monitor_main.specs.declared.status.Status.TheVariants.{Signature, Policy, Strategy, Log}
use Rattle.monitor_main.specs.declared.status.Status.TheVariants.{Read, Write, Memory}
use Rattle.monitor_main.specs.Answer.{demo_line, verdict_status}
use Rattle.monitor_main.specs.CheckLine.{monitorable_line}
use Rattle.monitor_main.specs.Limits.{max_file}
use Rattle.monitor_main.specs.Status.{code_of}

-- the exit status of each end
abbrev pub StatusNumbers : Type 0
StatusNumbers =
    map code_of
    (Clean ∷ Violated ∷ Usage ∷ Signature ∷ Policy ∷ Strategy ∷ Log ∷ Read ∷ Write ∷ Memory ∷ [])
    ≡ 0 ∷ 1 ∷ 2 ∷ 3 ∷ 4 ∷ 5 ∷ 6 ∷ 7 ∷ 8 ∷ 9 ∷ []

-- a log of which some verdict has a row is violated, and another one clean
abbrev pub VerdictStatuses : Type 0
VerdictStatuses = (verdict_status true ≡ Violated) × (verdict_status false ≡ Clean)

-- the line for a policy with a free integer i and a free string w
abbrev pub ColumnsInFull : Type 0
ColumnsInFull =
    monitorable_line
    (record { name = codes "i"; sort = sorts.Int } ∷ record { name = codes "w"; sort = sorts.Text } ∷ [])
    ≡ codes "monitorable (i:int,w:string)\n"

-- the line of demo 7
abbrev pub DemoInFull : Type 0
DemoInFull = demo_line 7 1987 1173 1932 ≡ codes "demo 7: settled 1987 violated 1173 rows 1932\n"

-- how many bytes a file may have
abbrev pub LimitsInFull : Type 0
LimitsInFull = max_file ≡ 1048576
