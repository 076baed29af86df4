use Rattle.std.proofs.Common.{◌≡◌, ◌∷◌, [], ◌++◌}
use Rattle.std.proofs.lemmas.Result.{on_ok_weaker}
use Rattle.mfotl_model.specs.Tables.{TableOf}
use Rattle.monitor_nodes.specs.Quantified.{IsWithout}
use Rattle.monitor_nodes.proofs.exists.push_quantified.Goals as goal

pub returns : goal.returns
returns c =
    on_ok_weaker {Q = (quantified : TableOf) × IsWithout c.args.var c.args.table quantified
    × (c.push.new.self ≡ c.args.tables.now ++ quantified ∷ [])}
    c.push.result
    (λ pushed. (
      c.in_ok-exists.field-0,
      record { columns = c.in_ok-exists.ensures.columns; rows = c.in_ok-exists.ensures.has },
      pushed,
    ))
    c.push.ensures
