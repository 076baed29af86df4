-- A policy that can be monitored, and how it is made of a signature and a policy.
use Rattle.std.specs.Prelude.{◌≡◌, List, length, Result, Ok, Err}
use Rattle.std.specs.List.{range_with_len}
use Rattle.mfotl_model.specs.FreeVariables.{fv}
use Rattle.mfotl_model.specs.declared.policy.Var.{Var}
use Rattle.mfotl_parse.specs.Views.{policy_of}
use Rattle.monitorable.specs.CoreForms.{CoreForm, meaning}
use Rattle.slice_strategy.specs.Entries.{HasWorkers}
use Rattle.mfotl_model.specs.Strategies.{Strategy}
use Rattle.monitor_main.specs.declared.checked_policy.CheckedPolicy.{CheckedPolicy as CheckedValue}
use Rattle.monitor_main.specs.declared.refusal.Refusal.{Refusal}
use Rattle.monitor_main.specs.declared.refusal.Refusal.TheVariants.{Usage, Read, Write, Memory}
use Rattle.monitor_main.specs.Tasks.{CheckedPolicy}

-- the policy that is seen, without its core
abbrev pub checked_in : CheckedValue → CheckedPolicy
checked_in checked = record { sig = checked.sig; policy = policy_of checked.policy }

-- the core's free variables are the policy's, numbered from 0
abbrev pub HasVariables : List Var → CoreForm → Type 0
HasVariables vars core = fv (meaning core) ≡ range_with_len 0 (length vars)

-- the refusal is the one due; want of memory may come at any time
abbrev pub Fails : {Y : Type 0} → Refusal → Result Y Refusal → Type 0
Fails Memory due = Unit {0}
Fails r due = due ≡ Err r

-- the value or the refusal is the one due
abbrev pub Gives : {X Y : Type 0} → (X → Y) → Result X Refusal → Result Y Refusal → Type 0
Gives view (Ok x) due = due ≡ Ok (view x)
Gives view (Err r) due = Fails r due

-- no call of the outside failed, and the words are not at fault
abbrev pub IsInside : Refusal → Type 0
IsInside Usage = ⊥
IsInside (Read name) = ⊥
IsInside Write = ⊥
IsInside r = Unit {0}

-- the strategy has an entry for each of the variables, and there are as many workers as there may be
abbrev pub Divides : List Var → Strategy → Type 0
Divides vars strategy = (length strategy ≡ length vars) × HasWorkers strategy
