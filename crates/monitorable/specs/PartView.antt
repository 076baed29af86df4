-- A part of a conjunction as the code lends it.
use Rattle.monitorable.specs.Conjuncts.{PartForm}
use Rattle.monitorable.specs.Conjuncts.PartForm.{Child as ChildPart, Test as TestPart}
use Rattle.monitorable.specs.CoreForms.{node_form}
use Rattle.monitorable.specs.declared.conjunction.Part.{Part}
use Rattle.monitorable.specs.declared.conjunction.Part.TheVariants.{Child, Test}

-- the part without its references
abbrev pub part_form : Part → PartForm
part_form (Child node negated) = ChildPart (node_form node.now) negated
part_form (Test comparison wanted) = TestPart comparison.now wanted
