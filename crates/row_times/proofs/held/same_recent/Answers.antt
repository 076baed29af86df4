use Rattle.std.proofs.Common.{◌∷◌, [], sym, ap, ◌∙◌}
use Rattle.relations.proofs.KeptLemmas.{empty_list, not_empty}
use Rattle.relations.specs.KeptRows.{list_for}
use Rattle.row_times.proofs.{FilledLemmas.one_has, OneRowLemmas.none_left}
use Rattle.row_times.proofs.held.same_recent.Goals as goal

pub returns-then-is_empty-clause-times : goal.returns-then-is_empty-clause-times
returns-then-is_empty-clause-times c = λ v.
    none_left c.args.first v
    ∙ ap (λ ts. list_for ((c.args.first, ts) ∷ []) v)
    (empty_list c.forget.new.self (sym c.is_empty.ensures ∙ c.if-is_empty.true) ∙ c.forget.ensures)

pub returns-then-is_empty-clause-some : goal.returns-then-is_empty-clause-some
returns-then-is_empty-clause-some c = λ v. tt

pub returns-clause-some : goal.returns-clause-some
returns-clause-some c =
    one_has c.args.first c.forget.new.self
    (not_empty c.forget.new.self (sym c.is_empty.ensures ∙ c.if-is_empty.false))
