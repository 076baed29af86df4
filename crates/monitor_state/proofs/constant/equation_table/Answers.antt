use Rattle.std.proofs.Common.{◌≡◌, [], ◌∷◌}
use Rattle.std.specs.Ordering.{eq_by_cmp}
use Rattle.mfotl_model.specs.{Satisfaction.Valuation, Tables.TableOf, Tables.has, Values.value_cmp}
use Rattle.monitorable.specs.CoreForms.{Compare}
use Rattle.monitor_state.proofs.{ConstantLemmas.equation_left, ConstantLemmas.equation_right, ResultLemmas.ok_two}
use Rattle.monitor_nodes.specs.Stands.{IsConstant}
use Rattle.monitor_state.proofs.constant.equation_table.Goals as goal

pub returns-in-Var-Const : goal.returns-in-Var-Const
returns-in-Var-Const c =
    ok_two c.one_value.result (λ (table : TableOf). table.columns ≡ c.in-Var-Const.x ∷ [])
    (λ (table : TableOf). (v : Valuation) → has table v ≡ eq_by_cmp value_cmp
    (v c.in-Var-Const.x) c.in-Var-Const.value)
    (IsConstant (Compare c.args.comparison.now))
    (λ table columns rows. equation_left c.args.comparison.now c.in-Var-Const.x c.in-Var-Const.value table c.requires
    c.in-Var-Const.is-0 c.in-Var-Const.is-1 columns rows)
    c.one_value.ensures.columns c.one_value.ensures.has

pub returns-in-Const-Var : goal.returns-in-Const-Var
returns-in-Const-Var c =
    ok_two c.one_value-in-Const-Var.result (λ (table : TableOf). table.columns ≡ c.in-Const-Var.x ∷ [])
    (λ (table : TableOf). (v : Valuation) → has table v ≡ eq_by_cmp value_cmp
    (v c.in-Const-Var.x) c.in-Const-Var.value)
    (IsConstant (Compare c.args.comparison.now))
    (λ table columns rows. equation_right c.args.comparison.now c.in-Const-Var.x c.in-Const-Var.value table c.requires
    c.in-Const-Var.is-0 c.in-Const-Var.is-1 columns rows)
    c.one_value-in-Const-Var.ensures.columns c.one_value-in-Const-Var.ensures.has
