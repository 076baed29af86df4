use Rattle.std.proofs.Common.{◌∙◌, sym, arith}
use Rattle.mfotl_parse.proofs.StackLemmas.{depth_more, depth_same, depth_of_empty}
use Rattle.mfotl_parse.proofs.stack.depth.Goals as goal

pub loop-frame-preserved-then-opens_level : goal.loop-frame-preserved-then-opens_level
loop-frame-preserved-then-opens_level c =
    let cut = c.in-Some.ensures.cases in
    let more = depth_more _ _ _ cut.0 (sym c.opens_level.ensures ∙ c.if-opens_level.true) in
    (omega (arith, more), omega (arith, cut.1))

pub loop-frame-preserved : goal.loop-frame-preserved
loop-frame-preserved c =
    let cut = c.in-Some.ensures.cases in
    let same = depth_same _ _ _ cut.0 (sym c.opens_level.ensures ∙ c.if-opens_level.false) in
    (omega (arith, same), omega (arith, cut.1))

pub returns : goal.returns
returns c = omega (arith, depth_of_empty _ c.in_default.ensures.cases)
