use Rattle.std.proofs.Common.{◌≡◌, ◌∙◌, ap, sym, replicate, [], length}
use Rattle.std.proofs.lemmas.List.FromFn.{length-map-range_with_len}
use Rattle.mfotl_model.specs.{Ascending.ascending, Events.event_cmp}
use Rattle.event_splitter.proofs.PartLemmas.{part_of, parts_none, written_back}
use Rattle.event_splitter.proofs.time_point.split.Goals as goal
use Rattle.event_splitter.specs.Parts.{parts_for}

pub returns : goal.returns
returns g c =
    let near = g.S.Slicer.region c.args.slicer.now in
    let count = g.S.Slicer.count c.args.slicer.now in
    let atoms = c.atoms.result.now in
    let ts = c.args.point.now.ts in
    let events = c.inserted.result.now in
    let none : c.in_ok-points.points.items ≡ parts_for count near atoms (record { ts = ts; db = [] }) =
    c.in_ok-points.ensures
    ∙ ap (λ n. replicate n (record { ts = ts; db = [] })) c.workers.ensures.count
    ∙ parts_none near count ts atoms in
    let all : c.give_all.new.parts ≡ parts_for count near atoms (record { ts = ts; db = ascending event_cmp events }) =
    c.in_ok-give_all.ensures ts (c.as_mut_slice-parts.ensures.value ∙ none) in
    written_back c.give_all.new.parts c.in_ok-points.points.items c.in_ok-points.points.len
    (ap length all
    ∙ length-map-range_with_len (part_of near atoms ts events) 0 count
    ∙ sym (ap length none ∙ length-map-range_with_len (part_of near atoms ts []) 0 count))
    (sym c.in_ok-points.points.ok.0)
    ∙ all
    ∙ ap (λ db. parts_for count near atoms (record { ts = ts; db = db })) c.inserted.ensures
    ∙ ap (λ asked. parts_for count near asked c.args.point.now) c.atoms.ensures
