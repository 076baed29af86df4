use Rattle.std.proofs.Common.{◌≡◌, [], sym, ap, ap₂, ◌∙◌, rules}
use Rattle.std.proofs.lemmas.List.{nil_from_length}
use Rattle.relations.specs.KeptRows.{list_for}
use Rattle.row_times.proofs.FewLemmas.{each_has, put_all, put_once}
use Rattle.row_times.proofs.few.FewRows.into_hashed.Goals as goal

pub loop-row-init : goal.loop-row-init
loop-row-init c =
    let entries = c.self.inside.rows.items in
    let rest : c.into_iter-row-iterator.result.rest.items ≡ entries = search rules in
    record {
      put = λ u. ap₂ (λ es ts. put_all es u ts) (rest ∙ c.self.view_is) (ap (λ g. list_for g u) c.new-hashed.ensures);
      some = λ have. (
        rw rest (each_has entries c.self.invariant (rw (← c.self.view_is) at have)),
        rw c.new-hashed.ensures (λ v. tt),
      );
    }

pub returns-clause-times : goal.returns-clause-times
returns-clause-times c = λ v.
    let entries = c.self.inside.rows.items in
    let rest = c.loop-row.row-iterator.rest in
    let end : rest.items ≡ [] = nil_from_length rest.items (sym rest.ok.0 ∙ c.in-None.ensures.steps.0) in
    rw (← c.self.view_is) (rw (end, ← c.self.view_is, put_once entries c.self.invariant v [])
    at (c.loop-row.invariant.put v))
