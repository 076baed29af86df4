use Rattle.std.proofs.Common.{sym}
use Rattle.mfotl_model.proofs.LogicLemmas.{truths_more}
use Rattle.mfotl_model.specs.Satisfaction.{sat}
use Rattle.mfotl_plain.proofs.PlainLemmas.{negated}
use Rattle.mfotl_plain.proofs.satisfaction.Interpretation.+satisfaction.Goals as goal

pub holds_over_time-returns-in-Historically : goal.holds_over_time-returns-in-Historically
unfolding sat
holds_over_time-returns-in-Historically t c =
    rw (c.in-Historically.is, ← c.deref-in-Historically.ensures)
    (rw negated at c.holds_in_time-in-Historically.ensures)

pub holds_over_time-returns-in-Always : goal.holds_over_time-returns-in-Always
unfolding sat
holds_over_time-returns-in-Always t c =
    rw (c.in-Always.is, ← c.deref-in-Always.ensures) (rw negated at c.holds_in_time-in-Always.ensures)

pub holds_over_time-returns-in-Since : goal.holds_over_time-returns-in-Since
unfolding sat
holds_over_time-returns-in-Since t c =
    rw (c.in-Since.is, ← c.deref-in-Since.ensures, ← c.deref-in-Since-2.ensures) c.holds_between.ensures

pub holds_over_time-returns-in-Until : goal.holds_over_time-returns-in-Until
unfolding sat
holds_over_time-returns-in-Until t c =
    rw (c.in-Until.is, ← c.deref-in-Until.ensures, ← c.deref-in-Until-2.ensures) c.holds_between-in-Until.ensures

pub truths-loop-at-preserved : goal.truths-loop-at-preserved
truths-loop-at-preserved t c =
    rw (c.in_ok-push.ensures.items, c.loop-at.invariant, c.in_ok-holds.ensures) (sym (truths_more _ _))
