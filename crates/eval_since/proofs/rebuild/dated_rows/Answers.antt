use Rattle.std.proofs.Common.{Bool, ◌&&◌, nat_eq, nat_lt, length, sym, subst, ap, ◌∙◌, rules}
use Rattle.std.proofs.lemmas.List.Sorted.{IsNonDecreasingBy-from_sort_by_key, list_any-IsPermutation}
use Rattle.std.specs.List.{list_all}
use Rattle.mfotl_model.specs.Tables.{has_row}
use Rattle.eval_since.specs.{Windows.Rising, Windows.names}
use Rattle.row_times.specs.{PackedRows.packed_rows}
use Rattle.eval_since.specs.declared.contents.Dated.{Dated}
use Rattle.relations.proofs.{QueueLemmas.rises_from, TestLemmas.all_moved}
use Rattle.eval_since.proofs.rebuild.dated_rows.Goals as goal

pub returns-clause-names : goal.returns-clause-names
returns-clause-names c = λ v y.
    ap (λ ds. names ds v y) c.from_vec.ensures.items
    ∙ sym (list_any-IsPermutation (λ (d : Dated). nat_eq d.ts y && has_row (packed_rows d.rows) v)
    c.in_ok-list.list.items c.sort_unstable_by_key.new.self.items c.sort_unstable_by_key.ensures.permutation)
    ∙ c.in_ok-list.ensures.names v y

pub returns-clause-all : goal.returns-clause-all
returns-clause-all c = λ test.
    ap (list_all (λ (d : Dated). test d.ts)) c.from_vec.ensures.items
    ∙ all_moved (λ (d : Dated). test d.ts) c.in_ok-list.list.items c.sort_unstable_by_key.new.self.items
    c.sort_unstable_by_key.ensures.permutation
    ∙ c.in_ok-list.ensures.all test

pub returns-clause-rows : goal.returns-clause-rows
returns-clause-rows c =
    let has_rows : Dated → Bool = λ d. nat_lt 0 (length (packed_rows d.rows)) in
    ap (list_all has_rows) c.from_vec.ensures.items
    ∙ all_moved has_rows c.in_ok-list.list.items c.sort_unstable_by_key.new.self.items
    c.sort_unstable_by_key.ensures.permutation
    ∙ c.in_ok-list.ensures.rows

pub returns-clause-rising : goal.returns-clause-rising
returns-clause-rising c =
    subst Rising (sym c.from_vec.ensures.items) (rises_from (λ (d : Dated). d.ts) c.sort_unstable_by_key.new.self.items
    (IsNonDecreasingBy-from_sort_by_key (λ (d : Dated). d.ts) c.sort_unstable_by_key.new.self.items
    c.sort_unstable_by_key.ensures.sorted (λ a r q k. search rules)))
