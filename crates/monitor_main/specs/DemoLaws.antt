-- The texts of a demo are accepted: what is read of them, and what comes of it.
use Rattle.std.specs.Prelude.{◌≡◌, ℕ, List, [], ◌∷◌, map, codes, false, Some, None, Ok, pos}
use Rattle.mon_outside.specs.Files.{Files, content}
use Rattle.log_reader.specs.DemoEvents.{moments}
use Rattle.log_reader.specs.DemoPoints.{demo_preds, point_of}
use Rattle.log_reader.specs.DemoTexts.{signature_text, policy_text, changes_text, log_text}
use Rattle.mfotl_model.specs.Formulas.{Form, Atom, Not, And, Implies, Once, Eventually}
use Rattle.mfotl_model.specs.VerdictText.{text, verdicts}
use Rattle.mfotl_model.specs.declared.event.TimePoint.{TimePoint}
use Rattle.mfotl_model.specs.Strategies.{Strategy}
use Rattle.mfotl_model.specs.Strategies.Entry.{Uncut, Hash, Cut}
use Rattle.mfotl_model.specs.declared.policy.Sort.TheVariants as sorts
use Rattle.mfotl_model.specs.declared.policy.Var.{Var}
use Rattle.mfotl_model.specs.declared.term.Term.TheVariants as terms
use Rattle.mfotl_parse.specs.Intervals.{distances}
use Rattle.mfotl_parse.specs.Reading.{PolicyOf}
use Rattle.monitorable.specs.Fragment.{frag_fault, free_names}
use Rattle.monitorable.specs.Laws.{log_of}
use Rattle.lone_worker.specs.Texts.{tally_of}
use Rattle.monitor_main.specs.declared.status.Status.TheVariants.{Clean}
use Rattle.monitor_main.specs.Answer.{command_answer, demo_answer, demo_line}
use Rattle.monitor_main.specs.AnswerLaws.{IsDividedBy}
use Rattle.command_line.specs.Words.{RunOptions, Sources, Run}
use Rattle.monitor_main.specs.Tasks.{CheckedPolicy, divided_texts, is_long, signature_of, policy_in}
use Rattle.slice_strategy.specs.ChangeReading.{reading as changes_read}
use Rattle.slice_strategy.specs.declared.change.Change.{Change}

-- a predicate of i
abbrev pub at_i : ℕ → Form
at_i pred = Atom (record { pred = pred; args = terms.Var 0 ∷ [] })

-- a request of i by w
abbrev pub request : Form
request = Atom (record { pred = 0; args = terms.Var 0 ∷ terms.Var 1 ∷ [] })

-- its variables are an integer i and a string w
abbrev pub demo_vars : List Var
demo_vars =
    record { name = codes "i"; sort = sorts.Int } ∷ record { name = codes "w"; sort = sorts.Text } ∷ []

-- what is requested, and was not dropped in the 50 units before, is granted within 20
abbrev pub demo_policy : PolicyOf
demo_policy = record {
  formula = Implies (And request (Not (Once (distances 0 (Some 50)) (at_i 2))))
      (Eventually (distances 0 (Some 20)) (at_i 1));
  vars = demo_vars;
}

-- a change
abbrev pub change : ℕ → Strategy → Change
change before strategy = record { before = before; strategy = strategy }

-- the changes, one behind another
abbrev pub demo_changes : List Change
demo_changes =
    change 250 (Hash 4 ∷ Uncut ∷ [])
    ∷ change 500 (Hash 2 ∷ Hash 3 ∷ [])
    ∷ change 750 (Uncut ∷ Hash 5 ∷ [])
    ∷ change 1000 (Cut (pos 25 ∷ pos 50 ∷ pos 75 ∷ []) ∷ Uncut ∷ [])
    ∷ change 1250 (Hash 1 ∷ Uncut ∷ [])
    ∷ change 1500 (Hash 8 ∷ Uncut ∷ []) ∷ []

-- the signature is read
abbrev pub DemoSignatureIsAccepted : Type 0
DemoSignatureIsAccepted = signature_of signature_text ≡ Ok demo_preds

-- the policy is read over it, and can be monitored
abbrev pub DemoPolicyIsAccepted : Type 0
DemoPolicyIsAccepted = policy_in demo_preds policy_text ≡ Ok demo_policy

-- the fragment accepts it
abbrev pub DemoPolicyIsMonitorable : Type 0
DemoPolicyIsMonitorable = frag_fault (free_names demo_policy.vars) demo_policy.formula ≡ None

-- the changes are not too long, and are read over its variables
abbrev pub DemoChangesAreAccepted : Type 0
DemoChangesAreAccepted =
    (is_long changes_text ≡ false) × (changes_read demo_policy.vars changes_text ≡ Ok demo_changes)

-- ---- the whole demo

-- its policy over its signature
abbrev pub demo_checked : CheckedPolicy
demo_checked = record { sig = demo_preds; policy = demo_policy }

-- the policy is accepted, and with it the division by the changes
abbrev pub DemoIsDivided : Type 0
DemoIsDivided = divided_texts signature_text policy_text changes_text ≡ Ok demo_checked

-- the time-points that are drawn from a seed
abbrev pub demo_points : ℕ → List TimePoint
demo_points seed = map point_of (moments 2000 0 seed)

-- for each seed the demo is clean, and tells the numbers of the verdicts on its time-points
abbrev pub DemoIsAnswered : Type 0
DemoIsAnswered =
    (seed : ℕ)
    → demo_answer seed
    ≡ record {
      status = Clean;
      out =
          let tally = tally_of (verdicts (log_of (demo_points seed)) demo_policy.formula) in
          demo_line seed tally.settled tally.violated tally.rows;
      err = [];
    }

-- these files of a run have the demo's texts
pub record HoldsDemo (seed : ℕ) (sources : Sources) (options : RunOptions) (files : Files) : Type 0 where
  pub sig : content files sources.sig ≡ signature_text
  pub policy : content files sources.policy ≡ policy_text
  pub log : content files options.log ≡ log_text seed

-- `run` on them writes the lines of just these verdicts, by whatever division is accepted
abbrev pub DemoIsRun : Type 0
DemoIsRun =
    (seed : ℕ) (sources : Sources) (options : RunOptions) (files : Files) → HoldsDemo seed sources options files
    → IsDividedBy demo_checked options files
    → (command_answer (Run sources options) files).out ≡ text (log_of (demo_points seed)) demo_policy.formula
