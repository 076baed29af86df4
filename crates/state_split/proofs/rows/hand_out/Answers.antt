use Rattle.std.proofs.Common.{◌∙◌, refl, arith, map}
use Rattle.std.proofs.lemmas.List.{length-map, length-set}
use Rattle.slice_strategy.proofs.SharingLemmas.{given_end, given_none, given_start}
use Rattle.state_split.proofs.ShareLemmas.{hand_step, told_more}
use Rattle.state_split.proofs.rows.hand_out.Goals as goal

pub returns-in_default : goal.returns-in_default
returns-in_default g c =
    let shares = c.args.shares.now.items in
    let size = length-map shares (λ s. map g.K.Kept.told s.items) ∙ c.requires.each in
    let none = rw c.row.ensures at c.in_default.ensures.first in
    given_none _ _ 0 (map (λ s. map g.K.Kept.told s.items) shares) (λ k up low. none k up (omega (arith, low, size)))

pub loop-next-init : goal.loop-next-init
loop-next-init g c =
    record {
      below = c.in-Some.ensures.reached.1;
      goes = rw c.row.ensures at c.in-Some.ensures.passes;
      sized = c.requires.each;
      given = given_start _ _ c.in-Some.first _ (rw c.row.ensures at c.in-Some.ensures.first);
    }

pub loop-next-preserved : goal.loop-next-preserved
loop-next-preserved g c =
    let last = c.loop-next.last in
    let shares = c.loop-next.shares.items in
    let found = c.in-Some-next_worker.ensures in
    let inv = c.loop-next.invariant in
    record {
      below = found.reached.1;
      goes = rw c.row-in-loop-next.ensures at found.passes;
      sized = length-set shares last c.give_copy.new.share ∙ inv.sized;
      given = hand_step (λ s. map g.K.Kept.told s.items) _ _ last c.in-Some-next_worker.next shares _
          c.index_mut.result.now c.give_copy.new.share (omega (arith, inv.below, inv.sized))
          (omega (arith, found.reached.0)) inv.goes (rw c.row-in-loop-next.ensures at found.first)
          c.index_mut.ensures.value c.in_ok-give_copy.ensures inv.given;
    }

pub returns : goal.returns
returns g c =
    let old = c.args.shares.now.items in
    let mine = c.index_mut-2.result.now in
    let inv = c.loop-next.invariant in
    hand_step (λ s. map g.K.Kept.told s.items) _ _ c.loop-next.last _ c.loop-next.shares.items old mine
    c.push.new.self (omega (arith, inv.below, inv.sized)) inv.below inv.goes
    (rw c.row-in-loop-next.ensures at c.in_default-next_worker.ensures.first) c.index_mut-2.ensures.value
    (told_more g.K.Kept.told mine.items c.push.new.self.items c.args.kept _ c.in_ok-push.ensures.items refl) inv.given
    ∙ given_end _ _ (g.S.Sorter.count c.args.sorter.now) (map (λ s. map g.K.Kept.told s.items) old)
    (λ k up low. absurd (omega (arith, length-map old (λ s. map g.K.Kept.told s.items), c.requires.each)))
