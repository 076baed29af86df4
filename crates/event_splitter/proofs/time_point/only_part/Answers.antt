use Rattle.std.proofs.Common.{◌∙◌, [], ◌∷◌, ap, sym}
use Rattle.event_splitter.proofs.OwnedLemmas.{only_part}
use Rattle.event_splitter.specs.Parts.{parts_for}
use Rattle.event_splitter.proofs.time_point.only_part.Goals as goal

pub returns : goal.returns
returns g c =
    let s = c.args._slicer.now in
    let near = g.S.Slicer.region s in
    let count = g.S.Slicer.count s in
    sym (ap (λ asked. parts_for count near asked c.args.point) c.atoms.ensures)
    ∙ only_part near count c.requires.one (g.met.S.Slicer.covers s) c.atoms.result.now c.args.point
    ∙ ap (λ db. record { ts = c.args.point.ts; db = db } ∷ []) (sym c.seen_by.ensures)
