use Rattle.std.proofs.Common.{◌≡◌, ◌++◌, ◌-◌, length, map}
use Rattle.std.specs.List.{flat_map, range_with_len, take_while}
use Rattle.mfotl_model.specs.{Formulas.form, Log.times, Settled.settled}
use Rattle.mfotl_model.specs.VerdictText.{line_of, text, verdict_at}
use Rattle.mfotl_plain.proofs.lines.log_text.Given as goal

abbrev pub invariant-loop-at : goal.invariant-loop-at
invariant-loop-at l =
    l.out.items
    ++ flat_map line_of (map (verdict_at l.log (form l.formula))
    (take_while (settled (times l.log) (form l.formula)) (range_with_len l.at (length l.log - l.at))))
    ≡ text (record { points = l.log }) (form l.formula)
