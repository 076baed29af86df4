use Rattle.std.proofs.Common.{sym, ◌∙◌}
use Rattle.std.specs.List.{filter}
use Rattle.mfotl_model.specs.Tables.{has_row, part}
use Rattle.relations.proofs.{InsideLemmas.joined_within, InsideLemmas.matched_is, OperationLaws.joined_has}
use Rattle.relations.proofs.{OperationLaws.some_is}
use Rattle.relations.proofs.joined.only_matched.Goals as goal

pub from_ascending-requires : goal.from_ascending-requires
from_ascending-requires c = record {
  is_table = rw (c.in_ok-kept.ensures, c.into_parts-columns.ensures.columns, c.into_parts-columns.ensures.rows)
      (some_is _ _ _ c.into_parts-columns.ensures.is_table);
}

pub returns-clause-columns : goal.returns-clause-columns
returns-clause-columns c =
    c.from_ascending.ensures.columns ∙ c.into_parts-columns.ensures.columns
    ∙ sym (joined_within c.args.table.columns c.args.other.now.columns c.requires.inside)

pub returns-clause-rows : goal.returns-clause-rows
returns-clause-rows c =
    let a = c.args.table in
    let b = c.args.other.now in
    let parts = c.into_parts-columns in
    c.from_ascending.ensures.rows ∙ c.in_ok-kept.ensures
    ∙ (λ i. filter (λ row. has_row (c.rows-seconds.ensures.rows i)
    (part ((c.as_slice.ensures ∙ parts.ensures.columns) i) (c.columns-wanted.ensures.columns i) row))
    (parts.ensures.rows i))
    ∙ matched_is a b parts.ensures.is_table c.rows-seconds.ensures.is_table c.requires.inside

pub returns-clause-has : goal.returns-clause-has
returns-clause-has c = λ v.
    let a = c.args.table in
    let b = c.args.other.now in
    let parts = c.into_parts-columns in
    joined_has c.from_ascending.result a b v (returns-clause-columns c) (returns-clause-rows c)
    c.rows-seconds.ensures.is_table.apart parts.ensures.is_table.sized c.rows-seconds.ensures.is_table.sized
