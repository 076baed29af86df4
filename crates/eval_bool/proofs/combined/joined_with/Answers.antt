use Rattle.std.proofs.Common.{ap, sym, ◌∙◌, ◌||◌}
use Rattle.mfotl_model.proofs.LogicLemmas.{among_joined}
use Rattle.mfotl_model.specs.FreeVariables.{among}
use Rattle.eval_bool.specs.Heads.{joined_columns}
use Rattle.eval_bool.proofs.combined.joined_with.Goals as goal

pub returns-in_ok-joined-in-Some-clause-columns : goal.returns-in_ok-joined-in-Some-clause-columns
returns-in_ok-joined-in-Some-clause-columns c = λ y.
    ap (among y) c.in_ok-joined-in-Some.ensures.columns
    ∙ among_joined y c.in-Some.before.columns c.args.table.columns
    ∙ ap (λ b. among y (joined_columns b) || among y c.args.table.columns) (sym c.in-Some.is)
