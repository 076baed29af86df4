use Rattle.std.proofs.Common.{◌≡◌, not, nat_eq, map, sym, ap, ◌∙◌}
use Rattle.mfotl_model.specs.FreeVariables.{without}
use Rattle.mfotl_model.specs.Tables.{all_apart, has, has_row, part}
use Rattle.mfotl_model.proofs.ColumnLemmas.{filter_apart}
use Rattle.relations.proofs.{OperationLaws.sized_parts, WithoutLemmas.has_without}
use Rattle.relations.proofs.table.Table.exists.Goals as goal

pub from_rows-requires-clause-apart : goal.from_rows-requires-clause-apart
from_rows-requires-clause-apart c =
    ap all_apart (c.in_ok-columns.ensures ∙ ap (without c.args.x) c.columns.ensures.columns)
    ∙ filter_apart (λ y. not (nat_eq y c.args.x)) c.args.self.now.columns c.columns.ensures.apart

pub from_rows-requires-clause-sized : goal.from_rows-requires-clause-sized
from_rows-requires-clause-sized c =
    rw (c.in_ok-rows.ensures, c.columns-2.ensures.columns, c.as_slice.ensures, c.rows.ensures.rows)
    (sized_parts c.args.self.now.columns c.in_ok-columns.columns.items c.args.self.now.rows)

pub returns-clause-has : goal.returns-clause-has
unfolding has
returns-clause-has c = λ v.
    let columns : c.in_ok-columns.columns.items ≡ without c.args.x c.args.self.now.columns =
    c.in_ok-columns.ensures ∙ ap (without c.args.x) c.columns.ensures.columns in
    let rows : c.in_ok-rows.rows.items ≡ map (part c.args.self.now.columns
    (without c.args.x c.args.self.now.columns)) c.args.self.now.rows =
    c.in_ok-rows.ensures
    ∙ (λ j. map (part (c.columns-2.ensures.columns j) ((c.as_slice.ensures ∙ columns) j))
    (c.rows.ensures.rows j)) in
    let same = c.from_rows.ensures.has v ∙ (λ i. has_row (rows i) (map v (columns i))) in
    let both = has_without v c.args.x c.args.self.now.columns c.args.self.now.rows c.rows.ensures.is_table in
    (λ h. both.0 (sym same ∙ h), λ h. same ∙ both.1 h)
