use Rattle.std.proofs.Common.{cond, [], ◌∷◌, ◌++◌, ap, ◌∙◌}
use Rattle.std.proofs.lemmas.Result.{on_ok_weaker}
use Rattle.monitor_nodes.proofs.filter.keep_held.Goals as goal

pub returns : goal.returns
returns c =
    on_ok_weaker c.keep.result
    (λ is. (
      c.in_ok-answer.answer,
      c.in_ok-answer.ensures,
      is ∙ ap (λ b. c.args.kept.now.items ++ cond b (c.args.row ∷ []) []) c.stays.ensures,
    ))
    c.keep.ensures
