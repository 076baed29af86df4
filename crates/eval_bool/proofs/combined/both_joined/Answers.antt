use Rattle.std.proofs.Common.{◌||◌, sym, ap, ◌∙◌}
use Rattle.std.proofs.Math.Bool.{or-false}
use Rattle.mfotl_model.proofs.LogicLemmas.{among_joined}
use Rattle.mfotl_model.specs.FreeVariables.{among, joined}
use Rattle.eval_bool.specs.Heads.{joined_columns}
use Rattle.eval_bool.proofs.combined.both_joined.Goals as goal

pub returns-in_ok-table-in-Some-clause-columns : goal.returns-in_ok-table-in-Some-clause-columns
returns-in_ok-table-in-Some-clause-columns c = λ y.
    let first = c.in-Some.before.columns in
    let second = c.args.second.columns in
    let third = c.args.third.columns in
    or-false (among y c.in_ok-table-in-Some.table.columns)
    ∙ ap (among y) c.in_ok-table-in-Some.ensures.columns
    ∙ among_joined y (joined first second) third
    ∙ ap (λ b. b || among y third) (among_joined y first second)
    ∙ ap (λ b. (among y (joined_columns b) || among y second) || among y third) (sym c.in-Some.is)
