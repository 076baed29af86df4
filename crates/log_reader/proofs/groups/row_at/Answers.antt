use Rattle.std.proofs.Common.{◌∷◌, [], arith, length-append}
use Rattle.log_reader.proofs.GroupLemmas.{first_one, one_more, reads}
use Rattle.log_reader.proofs.groups.row_at.Goals as goal

pub loop-sort-init : goal.loop-sort-init
loop-sort-init c =
    let taken = rw c.mark_behind-mark.ensures at (rw c.in-Some-2.is at c.in_ok-value.ensures) in
    let one = first_one c.args.look.ended c.in-Some.first.now c.in-Some.more.now c.requires.within taken in
    rw (c.in_ok-args.ensures, c.empty.ensures, c.in-Some.ensures.cases.0) (one, omega arith)

pub loop-sort-preserved : goal.loop-sort-preserved
loop-sort-preserved c =
    let before = rw c.in-Some-split_first.ensures.cases.0 at c.loop-sort.invariant.0 in
    let taken = rw c.mark_behind-mark-in-Some-split_first.ensures at (rw c.in-Some-3.is at c.in_ok-value-2.ensures) in
    rw c.in_ok-args-2.ensures (
      one_more c.loop-sort.args c.in-Some-split_first.sort.now c.in-Some-split_first.more.now before taken,
      omega (arith, length-append c.loop-sort.args (c.in-Some-3.value ∷ [])),
    )

pub returns : goal.returns
returns c =
    reads c.args.look.from c.args.look.bytes.now c.args.look.ended c.args.sorts.now c.args.start c.loop-sort.args
    c.loop-sort.due.now c.loop-sort.behind c.loop-sort.invariant.0 c.loop-sort.invariant.1
