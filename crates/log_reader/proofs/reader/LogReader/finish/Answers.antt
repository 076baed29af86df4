use Rattle.log_reader.specs.Readers.{Reads}
use Rattle.log_reader.proofs.ReaderLemmas.{for_each, reads_kept, stands_ended}
use Rattle.log_reader.proofs.reader.LogReader.finish.Goals as goal

pub returns-clause-reads : goal.returns-clause-reads
returns-clause-reads c =
    for_each _ _ c.self.view_is (Reads _) (λ log st. reads_kept _ log (stands_ended _ _ _ _ _ _ _ _ st))
