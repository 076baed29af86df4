use Rattle.std.proofs.Common.{◌≡◌, false, nat_lt, sym, ◌∙◌, arith}
use Rattle.std.proofs.lemmas.Bool.Decides.{nat_tests}
use Rattle.until_rows.proofs.LevelLemmas.{first_tells, none_met}
use Rattle.until_rows.proofs.meeting.first_meets.Goals as goal

pub returns-then-place-len : goal.returns-then-place-len
returns-then-place-len c =
    first_tells c.args.interval.now c.args.i c.args.x c.args.list.now c.first_far-place.result c.requires.rise
    c.first_far-place.ensures.parts c.get.result c.meets.result (omega (arith, c.if-place-len.true, c.len.ensures))
    c.get.ensures c.meets.ensures

pub returns-else-place-len : goal.returns-else-place-len
returns-else-place-len c =
    let past = c.if-place-len.false in
    let count = c.len.ensures in
    let none : nat_lt c.first_far-place.result c.len.result ≡ false = grind (arith, nat_tests) in
    none ∙ sym (none_met c.args.interval.now c.args.i c.args.x c.args.list.now c.first_far-place.result c.requires.rise
    c.first_far-place.ensures.parts (λ d l. absurd (omega arith)))
