use Rattle.std.proofs.Common.{◌&&◌, List, Bool, sym, ap, ap₂, ◌∙◌}
use Rattle.mfotl_model.specs.declared.value.Value.{Value}
use Rattle.mfotl_model.specs.Tables.{has_row, part}
use Rattle.row_times.proofs.{OneRowLemmas.no_match, OneRowLemmas.one_match}
use Rattle.row_times.proofs.{group.Group.push_matching.Goals.else-reaches-via-else-reaches}
use Rattle.row_times.proofs.group.Group.push_matching.Goals as goal
use Rattle.row_times.proofs.group.Group.push_matching.Goals.{
  else-reaches-via-then-reaches+in_ok-has_part-in-One+else-branch,
}

pub returns-in_ok-push-in-One : goal.returns-in_ok-push-in-One
returns-in_ok-push-in-One c = λ u.
    rw (c.in_ok-push-in-One.ensures.items, c.in_ok-copy-in-One.ensures, ← c.self.view_is, c.in-One.is)
    (one_match c.in-One.row c.args.interval.now c.in-One.times c.args.x
    (λ v. has_row c.args.keys.now.rows (part c.args.columns.now c.args.keys.now.columns v)) c.args.out.now.items u
    (sym c.reaches.ensures ∙ c.if-reaches.true) (sym c.in_ok-has_part-in-One.ensures ∙ c.if-branch.true))

pub returns-else-reaches : goal.returns-else-reaches
returns-else-reaches c = λ u.
    let wanted : List Value → Bool =
    λ v. has_row c.args.keys.now.rows (part c.args.columns.now c.args.keys.now.columns v) in
    rw (← c.self.view_is, c.in-One.is)
    (no_match c.in-One.row c.args.interval.now c.in-One.times c.args.x wanted c.args.out.now.items u
    (elim c.else-reaches.branch [
      | else-reaches-via-then-reaches+in_ok-has_part-in-One+else-branch w ↦
          ap₂ (λ b d. b && d) (sym c.reaches.ensures ∙ w.if-reaches.true)
          (sym w.in_ok-has_part-in-One.ensures ∙ w.if-branch.false)
      | else-reaches-via-else-reaches w ↦
          ap (λ b. b && wanted c.in-One.row) (sym c.reaches.ensures ∙ w.if-reaches.false)
    ]))
