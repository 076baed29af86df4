use Rattle.log_reader.specs.{Laws.IsShown, Readers.progress}
use Rattle.log_reader.proofs.AnswerLemmas.{value_due, points_due, shown_due}
use Rattle.log_reader.proofs.{Fewness.given_few, ReaderLemmas.each_err, ReaderLemmas.kept_reads}
use Rattle.log_reader.proofs.reader.LogReader.next.Goals as goal

pub returns-clause-value : goal.returns-clause-value
returns-clause-value c = λ is log reads.
    value_due (progress c.args.self.now log) c.read_point.result (c.read_point.ensures.answer log reads) is

pub returns-clause-points : goal.returns-clause-points
returns-clause-points c = λ log reads.
    let old = c.args.self.now in
    points_due (progress old log)
    (given_few old.sig old.limits old.is_ended old.given old.kept.stretch old.kept.at old.kept.partial log
    (kept_reads old log reads))
    c.read_point.result (c.read_point.ensures.answer log reads)

pub returns-clause-shown : goal.returns-clause-shown
returns-clause-shown c =
    let old = c.args.self.now in
    each_err old (λ fault log. IsShown old.sig old.limits log old.is_ended fault) c.read_point.result
    (λ log reads. shown_due (progress old log) c.read_point.result (c.read_point.ensures.answer log reads))
