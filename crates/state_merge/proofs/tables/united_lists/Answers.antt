use Rattle.std.proofs.Common.{◌≡◌, [], map, sym, ◌∙◌, append-nil}
use Rattle.std.proofs.lemmas.List.{nil_from_length}
use Rattle.state_merge.proofs.EndLemmas.{lists_end}
use Rattle.state_merge.proofs.tables.united_lists.Goals as goal

pub returns : goal.returns
returns c =
    let rest = c.loop-list.list-iterator.rest in
    let none : rest.items ≡ [] = nil_from_length rest.items (sym rest.ok.0 ∙ c.in-None.ensures.steps.0) in
    let inv = rw none at c.loop-list.invariant in
    rw append-nil at (inv.done [] (lists_end (map (λ ts. ts.items) c.loop-list.others.rest.items) inv.fit))
