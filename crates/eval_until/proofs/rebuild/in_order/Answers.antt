use Rattle.std.proofs.Common.{◌+◌, ◌&&◌, nat_eq, sym, rules}
use Rattle.std.proofs.lemmas.List.Sorted.{IsNonDecreasingBy-from_sort_by_key, list_any-IsPermutation}
use Rattle.mfotl_model.specs.Tables.{has_row}
use Rattle.eval_until.specs.declared.contents.Taken.{Taken}
use Rattle.relations.proofs.{QueueLemmas.rises_from, TestLemmas.all_moved}
use Rattle.eval_until.proofs.rebuild.in_order.Goals as goal

pub returns-clause-names : goal.returns-clause-names
returns-clause-names c = λ u j. rw c.from_vec.ensures.items
    (sym (list_any-IsPermutation (λ (q : Taken). nat_eq q.place j && has_row q.rights.items u) c.args.list.items
    c.sort_unstable_by_key.new.self.items c.sort_unstable_by_key.ensures.permutation))

pub returns-clause-breaks : goal.returns-clause-breaks
returns-clause-breaks c = λ w s. rw c.from_vec.ensures.items
    (sym (list_any-IsPermutation (λ (q : Taken). nat_eq (q.place + 1) s && has_row q.breaks.items w) c.args.list.items
    c.sort_unstable_by_key.new.self.items c.sort_unstable_by_key.ensures.permutation))

pub returns-clause-all : goal.returns-clause-all
returns-clause-all c = λ test. rw c.from_vec.ensures.items
    (all_moved (λ (q : Taken). test q.place) c.args.list.items c.sort_unstable_by_key.new.self.items
    c.sort_unstable_by_key.ensures.permutation)

pub returns-clause-rising : goal.returns-clause-rising
returns-clause-rising c = rw c.from_vec.ensures.items
    (rises_from (λ (q : Taken). q.place) c.sort_unstable_by_key.new.self.items
    (IsNonDecreasingBy-from_sort_by_key (λ (q : Taken). q.place) c.sort_unstable_by_key.new.self.items
    c.sort_unstable_by_key.ensures.sorted (λ a r q k. search rules)))
