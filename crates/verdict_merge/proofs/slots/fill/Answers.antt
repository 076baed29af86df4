use Rattle.std.proofs.Common.{◌≡◌, ◌∙◌, ◌+◌, ◌≤◌, [], ◌∷◌, None, length, map, ap, arith}
use Rattle.std.proofs.{lemmas.Grind.common_steps, lemmas.List.length-map, lemmas.List.map-append}
use Rattle.verdict_merge.proofs.PutLemmas.{put_past}
use Rattle.verdict_merge.specs.Slots.{held, put_in}
use Rattle.verdict_merge.proofs.slots.fill.Goals as goal

pub loop-preserved : goal.loop-preserved
loop-preserved c =
    let before = c.loop.slots.items in
    let count = c.args.count in
    let one : length c.push_back.new.self.items ≡ c.loop.counter + 1 = grind (arith, common_steps) in
    let low : length (map held before) ≤ count = grind (arith, common_steps, length-map) in (
      one,
      λ a. ap (λ slots. put_in count a (map held slots)) c.in_ok-push_back.ensures.items
          ∙ ap (put_in count a) (map-append held before (None ∷ [])) ∙ put_past count a (map held before) low
          ∙ c.loop.invariant.1 a,
    )
