use Rattle.std.proofs.Common.{rules, ◌≡◌, ◌∙◌, ap, sym, [], append_assoc, append-nil}
use Rattle.std.proofs.lemmas.List.{nil_from_length}
use Rattle.monitor_state.specs.StateCuts.{cut_tables}
use Rattle.state_split.proofs.ShareLemmas.{each_copied, each_longer_by, each_weaker}
use Rattle.state_split.proofs.tables.cut_tables.Goals as goal

pub loop-table-init : goal.loop-table-init
loop-table-init g c =
    each_weaker _ _ _ c.in_ok-cuts.cuts.items
    (λ k share none. rw none (ap (cut_tables (g.S.Sorter.region c.args.sorter.now k)) (search rules)))
    (each_copied (λ s. s.items) [] _ _ c.in_ok-cuts.cuts.items c.workers.ensures.count c.in_ok-cuts.ensures)

pub loop-table-preserved : goal.loop-table-preserved
loop-table-preserved g c =
    each_longer_by (λ s. s.items) _ _ _ _ c.loop-table.cuts.items c.lengthen.new.shares.items c.in_ok-added.added.items
    (rw c.in-Some.ensures.steps.0 at c.loop-table.invariant) c.in_ok-added.ensures c.in_ok-lengthen.ensures
    (λ k old new cut so_far made more. rw (more, append_assoc, made) so_far)

pub returns : goal.returns
returns g c =
    let left = c.loop-table.table-iterator.rest in
    let none : left.items ≡ [] = nil_from_length left.items (sym left.ok.0 ∙ c.in-None.ensures.steps.0) in
    each_weaker _ _ _ c.loop-table.cuts.items (λ k share so_far. sym (append-nil share.items) ∙ so_far)
    (rw none at c.loop-table.invariant)
