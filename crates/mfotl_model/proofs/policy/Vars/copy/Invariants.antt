use Rattle.std.proofs.Common.{◌≡◌, take}
use Rattle.mfotl_model.proofs.policy.Vars.copy.Given as goal

abbrev pub invariant-loop-var : goal.invariant-loop-var
invariant-loop-var l = l.items.items ≡ take l.var-index l.var-items
