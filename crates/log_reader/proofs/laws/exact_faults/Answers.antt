use Rattle.log_reader.proofs.FaultLaws.{exact_faults_law}
use Rattle.log_reader.proofs.laws.exact_faults.Goals as goal

pub returns : goal.returns
returns c = exact_faults_law
