use Rattle.std.proofs.Common.{◌≡◌, ◌||◌, ◌&&◌, List}
use Rattle.std.specs.List.{list_any}
use Rattle.mfotl_model.specs.declared.value.Value.{Value}
use Rattle.mfotl_model.specs.Tables.{has_row, part}
use Rattle.relations.specs.KeptRows.{list_for}
use Rattle.row_times.specs.Times.{reaches}
use Rattle.row_times.proofs.groups.Groups.push_matching.Given as goal

abbrev pub invariant-loop-group : goal.invariant-loop-group
invariant-loop-group l = (u : List Value) →
    (has_row l.out.items u || list_any (λ e. reaches l.interval (list_for e.1 u) l.x
    && has_row l.keys.rows (part l.columns l.keys.columns u)) l.group-iterator)
    ≡ (has_row l.fn.out.items u || list_any (λ e. reaches l.interval (list_for e.1 u) l.x
    && has_row l.keys.rows (part l.columns l.keys.columns u)) l.fn.self)
