-- That the work on a task is divided among workers as it was asked for.
use Rattle.std.specs.Prelude.{◌≡◌, ℕ, List, [], Option, Some, None, Ok}
use Rattle.std.specs.List.{AllByRecursion}
use Rattle.mon_outside.specs.Files.{Files, ToldFiles, content}
use Rattle.mon_outside.specs.Inputs.{Name}
use Rattle.mfotl_model.specs.declared.policy.Var.{Var}
use Rattle.slice_strategy.specs.declared.change.Change.{Change}
use Rattle.monitor_main.specs.declared.division.Division.{Division as DivisionValue}
use Rattle.monitor_main.specs.declared.task.Task.{Task}
use Rattle.monitor_main.specs.CheckedPolicies.{Divides}
use Rattle.monitor_main.specs.Tasks.{Division, changes_in, strategy_in}

-- the division that is seen
abbrev pub division_in : DivisionValue → Division
division_in division = record { first = division.first; changes = division.changes.items }

-- each strategy of the division is one for these variables
pub record AllDivide (vars : List Var) (division : DivisionValue) : Type 0 where
  pub first : Divides vars division.first
  pub changes : AllByRecursion (λ c. Divides vars c.strategy) division.changes.items

-- the first strategy is the one that this text stands for
abbrev pub BeginsBy : List ℕ → Task → Type 0
BeginsBy text task = strategy_in task.checked.policy.vars text ≡ Ok task.first

-- the changes are those that this script stands for
abbrev pub ChangesBy : List ℕ → Task → Type 0
ChangesBy script task = changes_in task.checked.policy.vars script ≡ Ok task.changes.items

-- the changes are those in the file of this name, where files are told, and none where no file is named
abbrev pub AreChangesAt : List Var → Option Name → Option Files → List Change → Type 0
AreChangesAt vars None told changes = changes ≡ []
AreChangesAt vars (Some name) told changes = ToldFiles told (λ files. changes_in vars (content files name) ≡ Ok changes)

-- the same of a task's changes
abbrev pub ChangesAt : Option Name → Option Files → Task → Type 0
ChangesAt name told task = AreChangesAt task.checked.policy.vars name told task.changes.items
