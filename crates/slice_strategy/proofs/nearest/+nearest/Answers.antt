use Rattle.std.proofs.Common.{◌+◌, ◌/◌, ◌%◌, subst}
use Rattle.std.proofs.lemmas.List.{take_rest}
use Rattle.mfotl_model.specs.{Regions.near_from, Tables.valuation}
use Rattle.slice_strategy.proofs.NearestLemmas.{digit_inside, nearest_next}
use Rattle.slice_strategy.proofs.nearest.+nearest.Goals as goal
use Rattle.slice_strategy.specs.{Entries.entries_of, Nearest.IsNearest}

pub digit_above-above-requires-clause-inside : goal.digit_above-above-requires-clause-inside
digit_above-above-requires-clause-inside t c =
    let a = c.args in
    let cols = a.part.now.cols.now in
    digit_inside a.entries.now c.entry-item.result cols (valuation cols a.part.now.row.now) a.variable a.place a.from
    c.digit_held-held.result c.digit_held-held.result c.nearest-below.result.least c.nearest-below.result.next
    c.in-len1-up.len_at_least c.entry-item.is c.requires.places c.requires.inside c.parts-parts.result
    c.parts-parts.ensures

pub returns-in-len1-up : goal.returns-in-len1-up
returns-in-len1-up t c =
    let a = c.args in
    let cols = a.part.now.cols.now in
    let v = valuation cols a.part.now.row.now in
    let place = a.place / c.parts-parts.result in
    let least = c.nearest-below.result.least in
    let next = c.nearest-below.result.next in
    let below = subst (λ others. IsNearest (λ k. near_from (a.variable + 1) (entries_of others) k cols v)
    (a.from % place) place least next) (take_rest a.entries.now 1) c.nearest-below.ensures in
    rw c.unwrap_or.ensures
    (rw c.next_number.ensures
    (rw c.may_be.ensures
    (nearest_next a.entries.now c.entry-item.result cols v a.variable a.place a.from c.digit_held-held.result
    c.digit_above-above.result least next c.in-len1-up.len_at_least c.entry-item.is c.requires.places
    c.requires.inside c.parts-parts.result c.parts-parts.ensures below c.digit_held-held.ensures.digits
    c.digit_held-held.ensures.low c.digit_above-above.ensures.found c.digit_above-above.ensures.first)))
