use Rattle.std.proofs.Common.{◌∙◌, ◌++◌, ◌∷◌, ap, sym, arith, [], map, take}
use Rattle.std.proofs.lemmas.List.{take_all, take_more}
use Rattle.std.specs.List.{range_with_len}
use Rattle.slice_strategy.specs.Sharing.{given_to}
use Rattle.event_splitter.proofs.{PartLemmas.part_of, PartLemmas.parts_more, SpreadLemmas.range_binds}
use Rattle.event_splitter.specs.{Parts.with_event, Readings.readings_of, Readings.some_near}
use Rattle.event_splitter.proofs.spread.give_all.Goals as goal

pub loop-event-preserved : goal.loop-event-preserved
loop-event-preserved g c ts start =
    let s = c.args.slicer.now in
    let near = g.S.Slicer.region s in
    let count = g.S.Slicer.count s in
    let free = range_with_len 0 (g.S.Slicer.width s) in
    let atoms = c.args.atoms.now in
    let i = c.loop-event.event-index in
    let events = take i c.args.events.now in
    let event = c.event-item.result in
    c.in_ok-give.ensures
    ∙ ap (given_to (with_event event) (λ k. some_near (readings_of atoms event) (near k)) 0)
    (c.loop-event.invariant ts start)
    ∙ parts_more free near (λ k. g.met.S.Slicer.passes s free k (range_binds (g.S.Slicer.width s))) count ts atoms
    events event
    ∙ ap (λ es. map (part_of near atoms ts es) (range_with_len 0 count))
    (sym (take_more c.args.events.now i event c.loop-event-test.true
    ∙ ap (λ e. events ++ e ∷ []) (sym c.event-item.is)))

pub returns : goal.returns
returns g c ts start =
    let near = g.S.Slicer.region c.args.slicer.now in
    let count = g.S.Slicer.count c.args.slicer.now in
    let i = c.loop-event.event-index in
    c.loop-event.invariant ts start
    ∙ ap (λ es. map (part_of near c.args.atoms.now ts es) (range_with_len 0 count))
    (take_all i c.args.events.now (omega (arith, c.loop-event-test.false)))
