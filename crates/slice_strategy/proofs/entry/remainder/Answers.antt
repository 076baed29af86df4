use Rattle.std.proofs.Common.{arith}
use Rattle.slice_strategy.proofs.RemainderLemmas.{euclid}
use Rattle.slice_strategy.proofs.entry.remainder.Goals as goal

pub returns : goal.returns
returns c =
    let h = euclid c.args.number c.args.count c.requires in
    let a = c.rem_euclid.ensures.value in
    let f = c.from.ensures in
    let g = c.from-2.ensures in
    grind (arith, h, a, f, g)
