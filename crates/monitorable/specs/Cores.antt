-- The tree that a policy's core is, and what the policy is judged by.
use Rattle.std.specs.Prelude.{Option}
use Rattle.mfotl_model.specs.Formulas.{Form, form}
use Rattle.mfotl_model.specs.declared.policy.Policy.{Policy}
use Rattle.monitorable.specs.CoreForms.{CoreForm, node_form}
use Rattle.monitorable.specs.Fragment.{frag_fault, free_names}
use Rattle.monitorable.specs.declared.fault.FragmentFault.{FragmentFault}
use Rattle.monitorable.specs.declared.policy_core.Core.{Core}

-- the tree of a core
abbrev pub core_form : Core → CoreForm
core_form core = node_form core.root

-- the formula of a policy
abbrev pub policy_form : Policy → Form
policy_form policy = form policy.formula

-- the first reason why a policy can't be monitored, if there is one
abbrev pub policy_fault : Policy → Option FragmentFault
policy_fault policy = frag_fault (free_names policy.vars) (form policy.formula)
