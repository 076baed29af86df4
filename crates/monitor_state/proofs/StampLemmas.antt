-- The timestamps that a state knows, as it tells them.
use Rattle.std.proofs.Common.{◌≡◌, ℕ, zero, suc, ◌-◌, cond, nat_eq, Some, None, List, ◌++◌}
use Rattle.std.proofs.Common.{drop, arith}
use Rattle.std.specs.Prelude.{option_to_list}
use Rattle.std.proofs.lemmas.List.{drop-drop}
use Rattle.mfotl_model.specs.{Log.times}
use Rattle.monitor_nodes.specs.{Stamps.stamps}

-- the timestamps behind the last one
pub stamps_rest : (p last : ℕ) (times all : List ℕ) → stamps p last times ≡ drop (p - 1) all → times ≡ drop p all
stamps_rest zero last times all is = assumption
stamps_rest (suc p) last times all is = grind (arith, drop-drop 1 p all)

-- as a state tells them: its last timestamp, if there is one, and the others
pub behind_is : (p last : ℕ) (times : List ℕ)
    → option_to_list (cond (nat_eq p 0) None (Some last)) ++ times ≡ stamps p last times
behind_is p last times = grind arith
