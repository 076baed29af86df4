-- What a division is made of, and that strategies that are read are for the core of their policy.
use Rattle.std.proofs.Common.{◌≡◌, ℕ, List, [], ◌∷◌, length, arith}
use Rattle.std.proofs.Permutation.{every_append}
use Rattle.std.specs.{List.AllByRecursion, Prelude.Result, Prelude.Ok}
use Rattle.mfotl_model.specs.{Strategies.Strategy, Formulas.Form}
use Rattle.mfotl_model.specs.declared.policy.Var.{Var}
use Rattle.monitorable.specs.{CoreForms.CoreForm, Cores.core_form}
use Rattle.rescale_worker.specs.Workers.{IsFor}
use Rattle.slice_strategy.specs.ChangeGrammar.{Script, NoChange, Change}
use Rattle.slice_strategy.specs.{ChangeRules.IsValue, ChangeRules.changes_of, Entries.HasWorkers}
use Rattle.slice_strategy.specs.declared.change.Change.{Change as ChangeOf}
use Rattle.slice_strategy.proofs.EntryLaws.{strategy_size}
use Rattle.lone_worker.specs.Policies.{IsCoreOf}
use Rattle.main_steps.specs.Changes.{AllSuit}
use Rattle.monitor_main.specs.CheckedPolicies.{Divides, Fails, HasVariables, checked_in}
use Rattle.monitor_main.specs.ReadyTasks.{IsReady}
use Rattle.monitor_main.specs.Tasks.{◌>>=◌, Division, divided_by}
use Rattle.monitor_main.specs.declared.{refusal.Refusal.Refusal, task.Task.Task}

-- ---- the strategy, then the changes

module _ (first : Result Strategy Refusal) (changes : Result (List ChangeOf) Refusal) where
  pub strategy_fails : (r : Refusal) → Fails r first → Fails r (first >>= divided_by changes)
  strategy_fails r h = grind arith

  pub changes_fail : {strategy : Strategy} → first ≡ Ok strategy → (r : Refusal) → Fails r changes
      → Fails r (first >>= divided_by changes)
  changes_fail taken r h = grind arith

  -- an accepted division is made of both
  pub both_accepted : {division : Division} → (first >>= divided_by changes) ≡ Ok division
      → (first ≡ Ok division.first) × (changes ≡ Ok division.changes)
  both_accepted is = grind arith

-- ---- each strategy has an entry for each variable

all_sized : (vars : List Var) (s : Script) → AllByRecursion (λ c. length c.strategy ≡ length vars) (changes_of vars s)
all_sized vars NoChange = tt
all_sized vars (Change s word n es) = search (every_append, strategy_size, all_sized vars s)

pair_all : (vars : List Var) (cs : List ChangeOf) → AllByRecursion (λ c. length c.strategy ≡ length vars) cs
    → AllByRecursion (λ c. HasWorkers c.strategy) cs → AllByRecursion (λ c. Divides vars c.strategy) cs
pair_all vars [] h k = tt
pair_all vars (c ∷ cs) h k = ((h.0, k.0), pair_all vars cs h.1 k.1)

-- the changes that a script spells
pub all_divide : (vars : List Var) (bytes : List ℕ) (cs : List ChangeOf) → IsValue vars bytes cs
    → AllByRecursion (λ c. HasWorkers c.strategy) cs → AllByRecursion (λ c. Divides vars c.strategy) cs
all_divide vars bytes cs v workers = grind (arith, pair_all, all_sized)

-- ---- they are for the core

module _ (core : CoreForm) (policy : Form) (is : IsCoreOf core policy) (vars : List Var)
    (has : HasVariables vars core) where
  pub first_for : (s : Strategy) → Divides vars s → IsFor core s
  first_for s d = grind arith

  pub all_for : (cs : List ChangeOf) → AllByRecursion (λ c. Divides vars c.strategy) cs → AllSuit core cs
  all_for [] h = tt
  all_for (c ∷ cs) h = (first_for c.strategy h.0, all_for cs h.1)

-- a task whose strategies divide the work on its policy is ready
pub ready_by : {task : Task} → IsCoreOf (core_form task.checked.core) (checked_in task.checked).policy.formula
    → HasVariables task.checked.policy.vars (core_form task.checked.core) → Divides task.checked.policy.vars task.first
    → AllByRecursion (λ c. Divides task.checked.policy.vars c.strategy) task.changes.items → IsReady task
ready_by {task = task} is has first changes = search (first_for, all_for)
