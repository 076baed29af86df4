use Rattle.std.proofs.Common.{rules, ◌≡◌, ◌∙◌, ℕ, Bool, refl, sym, [], map, append-nil}
use Rattle.std.proofs.lemmas.List.{nil_from_length}
use Rattle.state_split.specs.Sieves.{is_kept}
use Rattle.state_split.proofs.ShareLemmas.{dealt_step, each_copied, each_given, each_weaker}
use Rattle.state_split.proofs.rows.dealt_rows.Goals as goal

pub loop-kept-init : goal.loop-kept-init
loop-kept-init g c =
    let same : c.into_iter-kept-iterator.result.rest.items ≡ c.args.rows.items = search rules in
    rw same (each_weaker _ _ _ c.in_ok-shares.shares.items (λ k share none. rw none refl)
    (each_copied (λ s. s.items) [] _ _ c.in_ok-shares.shares.items c.workers-workers.ensures.count
    c.in_ok-shares.ensures))

pub loop-kept-preserved : goal.loop-kept-preserved
loop-kept-preserved g c =
    let goes : ℕ → g.K.Kept.Told → Bool = λ k e.
    is_kept (g.S.Sorter.region c.args.sorter.now k) c.args.columns.now (g.K.Kept.row_of e) in
    let x = g.K.Kept.told c.in-Some.kept in
    let rest = map g.K.Kept.told c.next.new.self.rest.items in
    each_given (λ s. map g.K.Kept.told s.items) _ _ _ _ _ c.loop-kept.shares.items c.hand_out.new.shares.items
    (rw c.in-Some.ensures.steps.0 at c.loop-kept.invariant) c.in_ok-hand_out.ensures
    (λ k old new so_far more. rw more (dealt_step (goes k) x rest _ (map g.K.Kept.told old.items) so_far))

pub returns : goal.returns
returns g c =
    let left = c.loop-kept.kept-iterator.rest in
    let none : left.items ≡ [] = nil_from_length left.items (sym left.ok.0 ∙ c.in-None.ensures.steps.0) in
    each_weaker _ _ _ c.loop-kept.shares.items
    (λ k share so_far. sym (append-nil (map g.K.Kept.told share.items)) ∙ so_far) (rw none at c.loop-kept.invariant)
