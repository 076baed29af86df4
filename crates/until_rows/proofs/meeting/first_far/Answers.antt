use Rattle.std.proofs.Common.{◌+◌, ◌-◌, ◌/◌, sym, ◌∙◌, arith}
use Rattle.until_rows.proofs.LevelLemmas.{far_behind, near_before}
use Rattle.until_rows.proofs.meeting.first_far.Goals as goal

pub loop-low-preserved-then-is_far : goal.loop-low-preserved-then-is_far
loop-low-preserved-then-is_far c =
    let within = c.loop-low.invariant.within in
    let test = c.loop-low-test.true in
    record {
      ordered = omega arith;
      within = omega arith;
      near = c.loop-low.invariant.near;
      far = λ k d l m. far_behind c.args.interval.now c.args.i c.args.x c.args.list.now c.requires.places
          c.requires.times (c.loop-low.low + (c.loop-low.high - c.loop-low.low) / 2) k c.get.result d l m
          c.get.ensures (sym c.is_far.ensures ∙ c.if-is_far.true);
    }

pub loop-low-preserved : goal.loop-low-preserved
loop-low-preserved c =
    let within = c.loop-low.invariant.within in
    let test = c.loop-low-test.true in
    record {
      ordered = omega arith;
      within = within;
      near = λ k d z l. near_before c.args.interval.now c.args.i c.args.x c.args.list.now c.requires.places
          c.requires.times k (c.loop-low.low + (c.loop-low.high - c.loop-low.low) / 2) c.get.result d (omega arith)
          (omega arith) c.get.ensures (sym c.is_far.ensures ∙ c.if-is_far.false);
      far = c.loop-low.invariant.far;
    }
