use Rattle.std.proofs.Common.{refl, arith, set, length-set}
use Rattle.std.proofs.lemmas.List.{drop-set}
use Rattle.lone_worker.proofs.line_front.put_end.Goals as goal

pub returns-clause-written : goal.returns-clause-written
returns-clause-written c =
    let room = c.args.room.now in
    rw (drop-set (set room 62 58) 61 41 (omega (arith, length-set room 62 58)), drop-set room 62 58 (omega arith)) refl
