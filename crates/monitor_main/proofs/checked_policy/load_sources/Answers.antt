use Rattle.std.proofs.lemmas.Result.{IfErr-weaker, IfOk-weaker, err_from_is_err_and}
use Rattle.mon_outside.specs.Views.{inputs_view}
use Rattle.monitor_main.proofs.LoadLemmas.{no_policy, no_signature, policy_made}
use Rattle.monitor_main.proofs.checked_policy.load_sources.Goals as goal

pub returns-in_err-sig-clause-refused : goal.returns-in_err-sig-clause-refused
returns-in_err-sig-clause-refused g c =
    let p = err_from_is_err_and c.from_residual.result c.from_residual.ensures.1 in
    rw (p.1, p.2) (no_signature c.in_err-sig.ensures.asks c.in_err-sig.ensures.refused)

pub returns-clause-ok : goal.returns-clause-ok
returns-clause-ok g c =
    let s = c.in_ok-sig.ensures in
    let made = c.load_policy.ensures in
    let mid = inputs_view g.I.Inputs c.load_signature.new.inputs in
    IfOk-weaker c.load_policy.result _ _ (λ checked. policy_made _ _ mid _ _ s.files s.later s.asks made.asks s.ok)
    made.ok

pub returns-clause-refused : goal.returns-clause-refused
returns-clause-refused g c =
    let s = c.in_ok-sig.ensures in
    let made = c.load_policy.ensures in
    let mid = inputs_view g.I.Inputs c.load_signature.new.inputs in
    IfErr-weaker c.load_policy.result _ _ (λ refusal. no_policy _ _ mid _ _ s.files s.later s.asks made.asks s.ok)
    made.refused
