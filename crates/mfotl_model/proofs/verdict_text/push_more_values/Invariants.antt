use Rattle.std.proofs.Common.{◌≡◌, ◌++◌, drop}
use Rattle.mfotl_model.specs.VerdictText.{more_values}
use Rattle.mfotl_model.proofs.verdict_text.push_more_values.Given as goal

abbrev pub invariant-loop-value : goal.invariant-loop-value
invariant-loop-value l =
    l.out.items ++ more_values (drop l.value-index l.values) ≡ l.fn.out.items ++ more_values l.values
