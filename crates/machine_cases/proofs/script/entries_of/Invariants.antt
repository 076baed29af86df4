use Rattle.monitorable.specs.Cores.{core_form}
use Rattle.machine_cases.specs.Scripts.{AreReadable}
use Rattle.machine_cases.proofs.script.entries_of.Given as goal

abbrev pub invariant-loop-entry : goal.invariant-loop-entry
invariant-loop-entry l = AreReadable (core_form l.setting.core) l.entries.items l.last
