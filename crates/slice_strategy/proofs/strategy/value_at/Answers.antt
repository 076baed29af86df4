use Rattle.std.proofs.Common.{arith, pos}
use Rattle.mfotl_model.specs.declared.value.Value.TheVariants.{Int}
use Rattle.slice_strategy.proofs.PartialLemmas.{reads_next}
use Rattle.slice_strategy.proofs.strategy.value_at.Goals as goal

pub loop-i-preserved : goal.loop-i-preserved
loop-i-preserved c =
    reads_next c.args.part.now.cols.now c.args.part.now.row.now c.args.variable c.loop-i.i (Int (pos 0))
    c.loop-i-test.true (omega (arith, c.requires, c.loop-i-test.true)) c.loop-i.invariant c.if-part-i.false
