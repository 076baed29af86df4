use Rattle.monitor_main.proofs.DemoTexts.{changes_accepted, policy_accepted, policy_monitorable, signature_accepted}
use Rattle.monitor_main.proofs.demo_laws.demo_texts_are_accepted.Goals as goal

pub returns-clause-signature : goal.returns-clause-signature
returns-clause-signature c = signature_accepted

pub returns-clause-policy : goal.returns-clause-policy
returns-clause-policy c = policy_accepted

pub returns-clause-fragment : goal.returns-clause-fragment
returns-clause-fragment c = policy_monitorable

pub returns-clause-changes : goal.returns-clause-changes
returns-clause-changes c = changes_accepted
