use Rattle.std.proofs.Common.{◌≡◌, ℕ, ◌&&◌, ◌||◌, ◌-◌, List, [], sym, ap, ◌∙◌, rules}
use Rattle.std.proofs.Math.Bool.{and-true, or-false}
use Rattle.std.specs.List.{list_all}
use Rattle.mfotl_model.specs.declared.value.Value.{Value}
use Rattle.eval_until.specs.{Keeping.breaks_before, Recalled.run_begins}
use Rattle.eval_until.specs.declared.contents.Taken.{Taken}
use Rattle.eval_until.proofs.rebuild.push_starts.Goals as goal

pub returns-clause-all : goal.returns-clause-all
returns-clause-all c = λ test.
    let end : c.loop-row.row-iterator ≡ [] = search rules in
    sym (and-true (list_all (λ (q : Taken). test q.place) c.loop-row.out.items))
    ∙ sym (ap (λ rs. list_all (λ (q : Taken). test q.place) c.loop-row.out.items
    && list_all (λ (r : List Value × ℕ). test (r.1 - 1)) rs) end)
    ∙ c.loop-row.invariant.all test

pub returns-clause-names : goal.returns-clause-names
returns-clause-names c = λ u j. c.loop-row.invariant.names u j

pub returns-clause-breaks : goal.returns-clause-breaks
returns-clause-breaks c = λ w s.
    let end : c.loop-row.row-iterator ≡ [] = search rules in
    sym (or-false (breaks_before c.loop-row.out.items w s))
    ∙ sym (ap (λ rs. breaks_before c.loop-row.out.items w s || run_begins rs w s) end)
    ∙ c.loop-row.invariant.breaks w s
