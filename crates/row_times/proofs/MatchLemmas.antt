-- Of a group's rows those that are wanted.
use Rattle.std.proofs.Common.{arith, ◌≡◌, ℕ, Bool, ◌&&◌, List, [], ◌∷◌, refl, ap, ◌∙◌}
use Rattle.std.specs.List.{list_any}
use Rattle.mfotl_model.specs.declared.{interval.Interval.Interval, value.Value.Value}
use Rattle.mfotl_model.proofs.RowLemmas.{any_and_last}
use Rattle.relations.proofs.{KeptLemmas.any_is, MapLemmas.same_row}
use Rattle.relations.specs.KeptRows.{RowsDiffer, list_for}
use Rattle.row_times.specs.{Groups.hit, Times.reaches}

pub matches_are : (interval : Interval) (x : ℕ) (u : List Value) (wanted : List Value → Bool)
    (es : List (List Value × List ℕ)) → RowsDiffer es
    → list_any (λ e. hit interval x u e && wanted e.0) es ≡ (reaches interval (list_for es u) x && wanted u)
matches_are interval x u wanted es differ = each es ∙ any_and_last (wanted u) (hit interval x u) es
    ∙ ap (λ b. b && wanted u) (any_is (λ ts. reaches interval ts x) refl u es differ)
  where
    each : (xs : List (List Value × List ℕ))
        → list_any (λ e. hit interval x u e && wanted e.0) xs ≡ list_any (λ e. hit interval x u e && wanted u) xs
    each [] = refl
    each (e ∷ xs) = grind (arith, same_row u e.0, each xs)
