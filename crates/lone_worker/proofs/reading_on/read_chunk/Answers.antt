use Rattle.std.proofs.{Common.take, Common.arith, Common.length-take-le, lemmas.Result.err_from_is_err_and}
use Rattle.lone_worker.proofs.{ChunkLemmas.fed, ChunkLemmas.moved}
use Rattle.lone_worker.proofs.reading_on.read_chunk.Goals as goal

pub returns-in_ok-feed-in-Ok-clause-reads : goal.returns-in_ok-feed-in-Ok-clause-reads
returns-in_ok-feed-in-Ok-clause-reads g c =
    let long = length-take-le c.in-Ok.count c.read.new.buffer c.in-Ok.ensures.within in
    record {
      chunk = take c.in-Ok.count c.read.new.buffer;
      taken = moved _ _ _ _ c.in-Ok.ensures.moves;
      ok = fed _ _ _ _ c.requires.open (omega (arith, long, c.in-Ok.count-test.1)) c.in_ok-feed-in-Ok.ensures.ok
          c.in_ok-feed-in-Ok.ensures.reads;
      failed = tt;
    }

pub returns-in_err-feed-in-Ok-clause-reads : goal.returns-in_err-feed-in-Ok-clause-reads
returns-in_err-feed-in-Ok-clause-reads g c =
    let p = err_from_is_err_and c.from_residual.result c.from_residual.ensures.1 in
    rw (p.1, p.2) (record {
      chunk = take c.in-Ok.count c.read.new.buffer;
      taken = moved _ _ _ _ c.in-Ok.ensures.moves;
      ok = tt;
      failed = tt;
    })
