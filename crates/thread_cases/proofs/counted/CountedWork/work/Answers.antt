use Rattle.std.proofs.Common.{[], sym, append-nil}
use Rattle.thread_cases.proofs.counted.CountedWork.work.Goals as goal

-- it gives nothing
pub returns-clause-did : goal.returns-clause-did
returns-clause-did c = ([], sym (append-nil c.args._outs.now.items), λ name took gave s m. tt)
