use Rattle.std.proofs.Common.{◌≡◌, ◌-◌, length, take, drop, arith, length-drop}
use Rattle.std.proofs.lemmas.List.{take_all}
use Rattle.mon_outside.proofs.Pieces.{wrote_more}
use Rattle.mon_outside.proofs.sink.write_whole.Goals as goal

-- the piece that was taken joins the front, and the slice behind it is what is left
pub loop-rest-preserved : goal.loop-rest-preserved
loop-rest-preserved g c =
    let rest = c.loop-rest.rest.now in
    let count = c.in-Ok.count in
    let tail : take (length rest - count) (drop count rest) ≡ drop count rest =
    take_all (length rest - count) (drop count rest) (omega (arith, length-drop count rest)) in
    record {
      wrote = rw tail (wrote_more count c.loop-rest.invariant.wrote c.in-Ok.ensures.appends);
      later = omega (arith, c.in-Ok.ensures.cause.later);
    }
