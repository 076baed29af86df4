use Rattle.std.proofs.Common.{◌≡◌, ◌∙◌, ap, subst, sym, arith, ℕ, ◌+◌, Bool, set, get_or}
use Rattle.std.specs.BTreeSet.{insert_key}
use Rattle.mfotl_model.specs.Events.{event_cmp}
use Rattle.event_splitter.specs.{Parts.with_event, Readings.some_near}
use Rattle.slice_strategy.proofs.SharingLemmas.{given_end, given_next, given_start}
use Rattle.event_splitter.proofs.spread.spread.Goals as goal
use Rattle.slice_strategy.specs.Slicers.{NoneFrom}

pub loop-k-init : goal.loop-k-init
loop-k-init g c =
    let test : ℕ → Bool = λ k. some_near c.args.readings.now (g.S.Slicer.region c.args.slicer.now k) in
    (omega arith, given_start (with_event c.args.event.now) test 0 c.args.parts.now (λ k up low. absurd (omega arith)))

pub loop-k-preserved : goal.loop-k-preserved
loop-k-preserved g c =
    let test : ℕ → Bool = λ k. some_near c.args.readings.now (g.S.Slicer.region c.args.slicer.now k) in
    let event = c.args.event.now in
    let parts = c.loop-k.parts in
    let k = c.in-Some.k in
    let part = c.index-parts-k.result in
    let found = c.in-Some.ensures in
    let db : c.insert.new.self ≡ insert_key event_cmp (get_or parts k part).db event =
    c.in_ok-insert.ensures.inserts
    ∙ ap (insert_key event_cmp (get_or parts k part).db) c.in_ok-copy.ensures in (
      omega (arith, found.reached.1),
      ap (λ db. set parts k (record { ts = (get_or parts k part).ts; db = db })) db
          ∙ ap (λ ps. set ps k (with_event event (get_or ps k part))) c.loop-k.invariant.1
          ∙ given_next (with_event event) test c.loop-k.from k (k + 1) c.args.parts.now part found.reached.0
          (omega (arith, found.reached.1, c.requires.each)) (omega arith) found.passes found.first
          (λ j up low. absurd (omega arith)),
    )

pub returns : goal.returns
returns g c =
    let test : ℕ → Bool = λ k. some_near c.args.readings.now (g.S.Slicer.region c.args.slicer.now k) in
    c.loop-k.invariant.1
    ∙ given_end (with_event c.args.event.now) test c.loop-k.from c.args.parts.now
    (subst (λ n. NoneFrom c.loop-k.from n test) (sym c.requires.each) c.in_default.ensures.first)
