use Rattle.std.proofs.Common.{◌∙◌, length, map, ap, ap₂}
use Rattle.std.specs.List.{filter}
use Rattle.mfotl_model.specs.{Events.has_pred, Satisfaction.event_of, Satisfaction.has_event}
use Rattle.mfotl_model.specs.{FreeVariables.variables_in}
use Rattle.mfotl_model.specs.Tables.{all_apart, all_sized, has_row}
use Rattle.mfotl_model.specs.declared.term.Atom.{Atom as OneAtom}
use Rattle.eval_bool.proofs.AtomRows.{has_matching, has_own, sized_rows, variables_apart}
use Rattle.eval_bool.proofs.atom.AtomReader.table.Goals as goal

pub from_rows-requires-clause-apart : goal.from_rows-requires-clause-apart
from_rows-requires-clause-apart c = ap all_apart c.in_ok-columns.ensures ∙ variables_apart c.args.self.now.args

pub from_rows-requires-clause-sized : goal.from_rows-requires-clause-sized
from_rows-requires-clause-sized c =
    ap₂ (λ columns rows. all_sized (length columns) rows) c.in_ok-columns.ensures c.in_ok-rows.ensures.rows
    ∙ sized_rows c.args.self.now (variables_in c.args.self.now.args) c.of_pred.result.now

pub returns-clause-has : goal.returns-clause-has
returns-clause-has c = λ v.
    c.from_rows.ensures.has v
    ∙ ap₂ (λ columns rows. has_row rows (map v columns)) c.in_ok-columns.ensures c.in_ok-rows.ensures.rows
    ∙ has_matching v c.args.self.now c.of_pred.result.now
    ∙ ap (λ db. has_event db (event_of v c.args.self.now))
    (c.of_pred.ensures ∙ ap (λ (atom : OneAtom). filter (has_pred atom.pred) c.args.point.now.db) c.rows.view_is)
    ∙ has_own v c.args.self.now c.args.point.now.db
