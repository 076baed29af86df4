use Rattle.log_reader.proofs.LogLaws.{value_is_read}
use Rattle.log_reader.proofs.laws.spelled_is_read.Goals as goal

pub returns : goal.returns
returns c = value_is_read
