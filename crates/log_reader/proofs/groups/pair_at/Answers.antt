use Rattle.std.proofs.Common.{◌∷◌, [], arith}
use Rattle.log_reader.proofs.GroupLemmas.{first_one, one_more, reads}
use Rattle.log_reader.proofs.groups.pair_at.Goals as goal

pub returns-in_default-2 : goal.returns-in_default-2
returns-in_default-2 c =
    let left = rw c.in-Some.is at c.in_ok-left.ensures in
    let one = first_one c.args.look.ended c.args.first (c.args.second.now ∷ []) c.requires.within left in
    rw (c.in_ok-push.ensures, c.empty.ensures, c.from_ref.ensures.value) (reads _ _ _ _ _ _ _ _ one (omega arith))

pub returns : goal.returns
returns c =
    let left = rw c.in-Some.is at c.in_ok-left.ensures in
    let right = rw c.in-Some-2.is at c.in_ok-right.ensures in
    let one = first_one c.args.look.ended c.args.first (c.args.second.now ∷ []) c.requires.within left in
    rw c.pair.ensures (reads _ _ _ _ _ _ _ _ (one_more (c.in-Some.left ∷ []) c.args.second.now [] one right)
    (omega arith))
