use Rattle.std.proofs.lemmas.Grind.{common_steps}
use Rattle.std.proofs.Common.{arith, ◌<◌, [], ◌∷◌, ◌++◌, length, Some, List, ap, ap₂, ◌∙◌}
use Rattle.std.specs.Option.{unwrap_or}
use Rattle.relations.proofs.{KeptLemmas.each_after, MapLemmas.changed}
use Rattle.until_rows.specs.declared.entries.Entry.{Entry}
use Rattle.until_rows.proofs.RowsLemmas.{some_pushed}
use Rattle.until_rows.proofs.entry_map.add_entry.Goals as goal

pub returns-clause-entries : goal.returns-clause-entries
returns-clause-entries c = λ u.
    changed [] (λ (es : List Entry). es ++ c.args.entry ∷ []) c.args.row u c.args.rows.now.entries _
    (Some c.push.new.self) (grind (arith, common_steps, (c.in_ok-rows.ensures.update.0 c.push.new.self).0 u))
    (c.in_ok-push.ensures ∙ ap (λ es. es ++ c.args.entry ∷ []) (c.or_insert-entries.ensures.value
    ∙ ap₂ (λ o d. unwrap_or o d) c.in_ok-rows.ensures.value c.new.ensures))

pub returns-clause-some : goal.returns-clause-some
returns-clause-some c =
    each_after (λ (es : List Entry). 0 < length es) c.args.row c.args.rows.now.entries _ (Some c.push.new.self)
    (λ u. grind (arith, common_steps, (c.in_ok-rows.ensures.update.0 c.push.new.self).0 u))
    (some_pushed c.or_insert-entries.result.now c.push.new.self c.args.entry c.in_ok-push.ensures)
