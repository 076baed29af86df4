-- A merge as contracts see it.
use Rattle.std.specs.Prelude.{ℕ, Option}
use Rattle.monitorable.specs.CoreForms.{CoreForm}
use Rattle.monitorable.specs.Cores.{core_form}
use Rattle.monitor_state.specs.declared.state.State.{State}
use Rattle.state_merge.specs.declared.merging.Merging.{Merging}

-- the core, how many pieces there are, how many were adopted, and what was merged of them
pub record MergingOf : Type 0 where
  pub core : CoreForm
  pub count : ℕ
  pub adopted : ℕ
  pub merged : Option State

-- a merge, seen as this
abbrev pub merging_of : Merging → MergingOf
merging_of m = record { core = core_form m.core; count = m.count; adopted = m.adopted; merged = m.merged }
