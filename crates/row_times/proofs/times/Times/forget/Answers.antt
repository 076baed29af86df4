use Rattle.std.proofs.Common.{◌-◌, ◌<◌, arith, sym, ap, length, slice_index, ◌∙◌}
use Rattle.row_times.proofs.TimesLemmas.{recent_all, recent_pop, increasing_drop}
use Rattle.row_times.proofs.times.Times.forget.Goals as goal

pub returns-then-saturating_sub-hi : goal.returns-then-saturating_sub-hi
returns-then-saturating_sub-hi c =
    let first = ap (λ ys. slice_index ys 0) c.in-Some.ensures in
    sym (recent_all c.args.hi c.args.now c.loop-first.self-inside.list c.loop-first.invariant.ascends
    (λ n. omega (arith, first))) ∙ c.loop-first.invariant.same

pub loop-first-preserved : goal.loop-first-preserved
loop-first-preserved c =
    let first = ap (λ ys. slice_index ys 0) c.in-Some.ensures in
    let far : c.args.hi < c.args.now - slice_index c.loop-first.self-inside.list 0 = omega (arith, first) in
    record {
      ascends = rw c.pop_front.ensures.rest (increasing_drop c.loop-first.self-inside.list
          c.loop-first.invariant.ascends);
      same = rw c.pop_front.ensures.rest (recent_pop c.args.hi c.args.now c.loop-first.self-inside.list far
          ∙ c.loop-first.invariant.same);
    }

pub returns : goal.returns
returns c =
    sym (recent_all c.args.hi c.args.now c.loop-first.self-inside.list c.loop-first.invariant.ascends
    (λ n. absurd (omega (arith, ap length c.in_default.ensures)))) ∙ c.loop-first.invariant.same
