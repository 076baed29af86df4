use Rattle.lone_worker.specs.Effects.{effect}
use Rattle.lone_worker.proofs.ChunkLemmas.{chunk_reads_on}
use Rattle.lone_worker.proofs.reading_on.read_on.Goals as goal

pub returns-in-Ok-clause-reads : goal.returns-in-Ok-clause-reads
returns-in-Ok-clause-reads g c =
    let step = effect g.I.Inputs g.O.Sink c.args.inputs.now c.read_chunk.new.inputs c.args.out.now c.flush.new.self in
    chunk_reads_on step c.read_chunk.result c.read_chunk.ensures.reads
