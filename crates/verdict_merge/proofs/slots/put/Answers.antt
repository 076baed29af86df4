use Rattle.std.proofs.Common.{◌∙◌, ◌<◌, ◌++◌, [], ◌∷◌, length, map, sym, ap, arith}
use Rattle.std.proofs.{lemmas.Grind.common_steps, lemmas.List.length-map}
use Rattle.verdict_merge.proofs.PutLemmas.{put_at, put_behind}
use Rattle.verdict_merge.specs.Slots.{held}
use Rattle.verdict_merge.proofs.slots.put.Goals as goal

pub returns-then-index-len : goal.returns-then-index-len
returns-then-index-len c =
    let items = c.args.slots.now.items in
    let low : c.args.index < length items = grind (arith, common_steps) in
    put_at c.args.index c.args.arrived items c.index_mut.result.now c.add.new.slot low
    (c.in_ok-add.ensures ∙ ap (λ slot. held slot ++ c.args.arrived ∷ []) c.index_mut.ensures.value)

pub returns : goal.returns
returns c =
    let items = c.fill.new.slots.items in
    c.in_ok-append.ensures
    ∙ sym (put_behind c.args.index c.args.arrived (map held items) (length-map items held ∙ c.in_ok-fill.ensures.len))
    ∙ c.in_ok-fill.ensures.same c.args.arrived
