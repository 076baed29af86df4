use Rattle.std.proofs.Common.{◌≡◌, not}
use Rattle.std.specs.List.{filter}
use Rattle.mfotl_model.specs.{Formulas.form, Satisfaction.sat, Violations.valuation}
use Rattle.mfotl_plain.proofs.violating_rows.Query.failing.Given as goal

abbrev pub invariant-loop-row : goal.invariant-loop-row
invariant-loop-row l =
    l.found.items
    ≡ filter (λ row. not (sat l.self.log.now l.self.dom.now (valuation l.self.columns.now row) l.self.at
    (form l.self.formula.now))) l.yielded
