use Rattle.turn_hub.proofs.WorkLemmas.{leads_on, takes_less, takes_on}
use Rattle.turn_hub.proofs.laws.takes_and_leads.Goals as goal

pub returns-clause-leads_on : goal.returns-clause-leads_on
returns-clause-leads_on g c = leads_on g.W.Work.stands g.W.Work.may g.met.W.Work.may_less

pub returns-clause-takes_less : goal.returns-clause-takes_less
returns-clause-takes_less g c = takes_less g.W.Work.stands g.W.Work.may g.met.W.Work.may_less

pub returns-clause-takes_on : goal.returns-clause-takes_on
returns-clause-takes_on g c = takes_on g.W.Work.stands g.W.Work.may g.met.W.Work.may_less
