use Rattle.std.proofs.Common.{◌≡◌, ap}
use Rattle.log_reader.specs.{Limits.standard, Progress.Progress}
use Rattle.monitor_main.proofs.monitoring.follow_plan.Goals as goal

pub returns-clause-follows : goal.returns-clause-follows
returns-clause-follows g c policy is =
    let sig_is : c.reader_over-log.result.sig ≡ c.args.sig.now =
    ap (λ (p : Progress). p.sig) c.reader_over-log.ensures.fresh in
    let limits_is : c.reader_over-log.result.limits ≡ standard =
    ap (λ (p : Progress). p.limits) c.reader_over-log.ensures.fresh in
    rw (sig_is, limits_is) at (c.monitor.ensures.follows policy is)
