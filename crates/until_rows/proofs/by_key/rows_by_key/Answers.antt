use Rattle.std.proofs.Common.{◌≡◌, ◌||◌, ℕ, List, [], ◌∷◌, length, nat_eq, rules, sym, ap, ◌∙◌}
use Rattle.std.proofs.{lemmas.Bool.or_left, Math.Bool.or-false}
use Rattle.std.specs.{List.list_any, Ordering.eq_by_cmp}
use Rattle.mfotl_model.specs.{Tables.has_row, Tables.part, Values.row_cmp}
use Rattle.mfotl_model.specs.declared.value.Value.{Value}
use Rattle.relations.specs.KeptRows.{list_for}
use Rattle.until_rows.specs.ByKey.{is_listed}
use Rattle.until_rows.specs.declared.entries.Entry.{Entry}
use Rattle.until_rows.proofs.ByKeyLemmas.{each_of, list_next, listed_if_kept}
use Rattle.until_rows.proofs.by_key.rows_by_key.Goals as goal

pub loop-row-preserved : goal.loop-row-preserved
loop-row-preserved c =
    let rest : c.loop-row.row-iterator ≡ (c.in-Some.row.now, c.in-Some.field-0-1.now) ∷ c.next.new.self =
    search rules in
    let right = c.args.right.now in
    record {
      listed = λ u kept. list_next c.in-Some.row.now u (is_listed right c.loop-row.by_key u)
          (is_listed right c.add.new.self u)
          (list_any (λ (e : List Value × List Entry). eq_by_cmp row_cmp u e.0) c.next.new.self)
          (c.in_ok-add.ensures.listed u)
          (sym (ap (λ es. is_listed right c.loop-row.by_key u
          || list_any (λ (e : List Value × List Entry). eq_by_cmp row_cmp u e.0) es) rest)
          ∙ c.loop-row.invariant.listed u kept);
      keys = c.in_ok-add.ensures.keys ∙ c.loop-row.invariant.keys;
    }

pub returns-then-is_empty-clause-listed : goal.returns-then-is_empty-clause-listed
returns-then-is_empty-clause-listed c = λ u.
    let by_key = c.new-by_key.result in
    let right = c.args.right.now in
    each_of (is_listed right by_key u) (list_for c.args.rows.now.entries u)
    (or_left (nat_eq (length by_key.columns) 0) (has_row (list_for by_key.sets (part right by_key.columns u)) u)
    (ap (λ (columns : List ℕ). nat_eq (length columns) 0) (sym c.columns.ensures)
    ∙ sym c.is_empty.ensures ∙ c.if-is_empty.true))

pub returns-clause-listed : goal.returns-clause-listed
returns-clause-listed c = λ u.
    let end : c.loop-row.row-iterator ≡ [] = search rules in
    let right = c.args.right.now in
    listed_if_kept c.args.rows.now.entries u (is_listed right c.loop-row.by_key u)
    (λ kept. sym (or-false (is_listed right c.loop-row.by_key u))
    ∙ sym (ap (λ es. is_listed right c.loop-row.by_key u
    || list_any (λ (e : List Value × List Entry). eq_by_cmp row_cmp u e.0) es) end)
    ∙ c.loop-row.invariant.listed u kept)
