-- A policy has as many columns as free variables were met.
use Rattle.std.proofs.Common.{◌≡◌, ℕ, suc, ◌≤◌, List, [], ◌∷◌, Option, length, refl, ap, arith}
use Rattle.mfotl_model.specs.declared.policy.Sort.{Sort}
use Rattle.mfotl_sig.specs.Preds.{PredOf}
use Rattle.mfotl_parse.specs.{Limits.max_free, Meanings.IsValue, Reading.PolicyOf, SymbolTable.vars_of}
use Rattle.mfotl_parse.proofs.FreeNames.{few_met}

pub length_vars_of : (free : List (List ℕ × ℕ)) (given : List (Option Sort)) → length (vars_of free given) ≡ length free
unfolding vars_of
length_vars_of [] given = refl
length_vars_of (k ∷ free) [] = ap suc (length_vars_of free [])
length_vars_of (k ∷ free) (s ∷ given) = ap suc (length_vars_of free given)

pub few_value : (sig : List PredOf) (bytes : List ℕ) (policy : PolicyOf) → IsValue bytes sig policy
    → length policy.vars ≤ max_free
few_value sig bytes policy v = grind (arith, length_vars_of, few_met)
