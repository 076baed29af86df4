use Rattle.std.proofs.Common.{◌≡◌, ◌∙◌, ◌+◌, map, sym, ap, arith}
use Rattle.std.proofs.lemmas.Grind.{common_steps}
use Rattle.mfotl_model.specs.{Ascending.ascending, Values.row_cmp}
use Rattle.verdict_merge.proofs.SlotLemmas.{first_rows, others_left}
use Rattle.verdict_merge.specs.Gathers.{gathered_rows}
use Rattle.verdict_merge.specs.Slots.{held, by_numbers, all_held}
use Rattle.verdict_merge.proofs.waiting.Waiting.take.Goals as goal

pub returns-clause-rows : goal.returns-clause-rows
returns-clause-rows c =
    let w = c.self.inside in
    rw (← c.self.view_is) (c.in_ok-rows.ensures
    ∙ ap (λ all. ascending row_cmp (gathered_rows (map (λ a. a.rows) all))) c.pop-first.ensures.first
    ∙ ap (λ given. ascending row_cmp (gathered_rows given))
    (sym (first_rows w.came w.next (map held w.slots.items) c.self.invariant)))

pub returns-clause-left : goal.returns-clause-left
returns-clause-left c =
    let w = c.self.inside in
    let is : c.in_ok-after.after ≡ w.next + 1 = grind (arith, common_steps) in
    rw (← c.self.view_is)
    (ap (λ n. record { next = n; added = by_numbers w.came (all_held (map held c.pop-first.new.slots.items)) }) is
    ∙ ap (λ added. record { next = w.next + 1; added = added })
    (ap (λ slots. by_numbers w.came (all_held slots)) c.pop-first.ensures.left
    ∙ sym (others_left w.came w.next (map held w.slots.items) c.self.invariant)))
