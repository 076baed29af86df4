use Rattle.std.proofs.lemmas.Grind.{common_steps}
use Rattle.std.proofs.Common.{◌≡◌, ◌||◌, false, nat_lt, length, sym, ap, ◌∙◌, arith}
use Rattle.std.specs.{List.position, Option.is_some}
use Rattle.relations.specs.KeptRows.{kept_for}
use Rattle.row_times.proofs.FewLemmas.{is_its, placed}
use Rattle.row_times.proofs.few.FewRows.has_room_for.Goals as goal

pub returns-else-len-lt-MOST_FEW : goal.returns-else-len-lt-MOST_FEW
returns-else-len-lt-MOST_FEW c = rw (← c.self.view_is) (
    let row = c.args.row.now in
    let entries = c.self.inside.rows.items in
    let full : nat_lt (length entries) 8 ≡ false =
    grind (arith, common_steps, c.len.ensures, c.if-len-lt-MOST_FEW.false) in
    c.is_some.ensures ∙ ap is_some (c.place_of.ensures ∙ ap (position (is_its row)) c.as_slice.ensures.value)
    ∙ placed row entries ∙ ap (λ b. b || is_some (kept_for entries row)) (sym full))
