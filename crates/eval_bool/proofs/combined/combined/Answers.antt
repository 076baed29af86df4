use Rattle.std.proofs.Common.{◌≡◌, ◌∙◌, ℕ, sym, ap}
use Rattle.mfotl_model.proofs.LogicLemmas.{all_alike}
use Rattle.mfotl_model.specs.{FreeVariables.among, Tables.all_among}
use Rattle.eval_bool.proofs.ConjunctLemmas.{own_among, same_among}
use Rattle.eval_bool.specs.JoinView.{compared_variables}
use Rattle.eval_bool.proofs.combined.combined.Goals as goal

pub tested-kept-requires : goal.tested-kept-requires
tested-kept-requires c =
    let columns = c.args.columns.now in
    let rest = c.in_ok-rest.rest.columns in
    let same : (y : ℕ) → among y columns ≡ among y rest =
    λ y. c.requires.same y ∙ sym (c.in_ok-joined.ensures.columns y)
    ∙ ap (among y) (sym c.in_ok-joined-2.ensures.columns ∙ sym c.in_ok-rest.ensures.columns) in
    record {
      inside = sym (all_alike (λ t. all_among (compared_variables t.comparison) columns)
          (λ t. all_among (compared_variables t.comparison) rest) c.args.tests.now
          (λ t. same_among (compared_variables t.comparison) columns rest same))
          ∙ c.requires.tests;
    }

pub reordered-requires-clause-inside : goal.reordered-requires-clause-inside
reordered-requires-clause-inside c =
    let columns = c.args.columns.now in
    let kept = c.tested-kept.result.columns in
    let same : (y : ℕ) → among y columns ≡ among y kept =
    λ y. c.requires.same y ∙ sym (c.in_ok-joined.ensures.columns y)
    ∙ ap (among y) (sym c.in_ok-joined-2.ensures.columns ∙ sym c.in_ok-rest.ensures.columns
    ∙ sym c.tested-kept.ensures.columns) in
    sym (same_among columns columns kept same) ∙ own_among columns

pub reordered-requires-clause-whole : goal.reordered-requires-clause-whole
reordered-requires-clause-whole c =
    let columns = c.args.columns.now in
    let kept = c.tested-kept.result.columns in
    let same : (y : ℕ) → among y columns ≡ among y kept =
    λ y. c.requires.same y ∙ sym (c.in_ok-joined.ensures.columns y)
    ∙ ap (among y) (sym c.in_ok-joined-2.ensures.columns ∙ sym c.in_ok-rest.ensures.columns
    ∙ sym c.tested-kept.ensures.columns) in
    same_among kept columns kept same ∙ own_among kept
