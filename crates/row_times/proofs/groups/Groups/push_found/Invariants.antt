use Rattle.std.proofs.Common.{◌≡◌, ◌||◌, List, drop}
use Rattle.std.specs.List.{list_any}
use Rattle.mfotl_model.specs.Tables.{has_row}
use Rattle.mfotl_model.specs.declared.value.Value.{Value}
use Rattle.row_times.specs.{Groups.times_at, Times.reaches}
use Rattle.row_times.proofs.groups.Groups.push_found.Given as goal

-- what was found and what is left to look up
abbrev pub invariant-loop-key : goal.invariant-loop-key
invariant-loop-key l = (u : List Value) →
    (has_row l.out.items u || list_any (λ k. reaches l.interval (times_at l.self k u) l.x) (drop l.key-index l.keys))
    ≡ (has_row l.fn.out.items u || list_any (λ k. reaches l.interval (times_at l.self k u) l.x) l.keys)
