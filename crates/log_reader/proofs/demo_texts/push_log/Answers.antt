use Rattle.std.proofs.Common.{arith}
use Rattle.log_reader.proofs.DemoLemmas.{moment_written, moments_written}
use Rattle.log_reader.proofs.demo_texts.push_log.Goals as goal

pub loop-preserved : goal.loop-preserved
loop-preserved c = record {
  lines =
      moment_written _ _ _ _ _ _ _ _ _ _ (omega arith) c.below-time.ensures.drawn c.below-time.ensures.state
      c.in_ok-push_line.ensures.line c.in_ok-push_line.ensures.draws c.loop.invariant.lines;
  early = omega (arith, c.below-time.ensures.below, c.loop.invariant.early);
}

pub returns : goal.returns
returns c = moments_written _ _ _ _ _ (omega arith) c.loop.invariant.lines
