use Rattle.std.proofs.Common.{◌≡◌, [], ◌∷◌, sym, ◌∙◌, append_assoc, append-nil}
use Rattle.std.proofs.lemmas.List.{nil_from_length}
use Rattle.state_merge.proofs.EndLemmas.{tables_end}
use Rattle.state_merge.proofs.tables.united_tables.Goals as goal

pub returns : goal.returns
returns c =
    let rest = c.loop-table.table-iterator.rest in
    let none : rest.items ≡ [] = nil_from_length rest.items (sym rest.ok.0 ∙ c.in-None.ensures.steps.0) in
    let inv = rw none at c.loop-table.invariant in
    rw append-nil at (inv.done [] (tables_end c.loop-table.others.rest.items inv.fit))

pub loop-table-preserved : goal.loop-table-preserved
loop-table-preserved c =
    let inv = rw (c.in-Some.ensures.steps.0, c.in-Some-next.ensures.items) at c.loop-table.invariant in
    let union = c.in_ok-united_table in
    record {
      fit = inv.fit.1;
      done = rw c.in_ok-push.ensures.items
          (λ zs more. rw append_assoc (inv.done (union.field-0 ∷ zs) (union.ensures, more)));
    }
