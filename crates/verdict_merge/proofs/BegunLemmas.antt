-- Of generations whose numbers differ the last one of a number is the first one.
use Rattle.std.proofs.Common.{◌≡◌, ◌≢◌, ◌∙◌, ℕ, ◌<◌, Bool, true, false, cond, nat_eq, List, [], ◌∷◌, ◌++◌, map, Some}
use Rattle.std.proofs.Common.{None, sym, ap, refl, arith, eq-eqb, ne_eqb, reverse, ⊎_elim}
use Rattle.std.proofs.{Permutation.every_append, lemmas.Bool.cases_Bool, lemmas.Bool.eqb-true, lemmas.List.map-append}
use Rattle.std.proofs.{lemmas.List.reverse-append, lemmas.List.Folds.find-append, lemmas.Grind.common_steps}
use Rattle.std.specs.List.{AllByRecursion, find}
use Rattle.mfotl_model.specs.Numbers.{Apart}
use Rattle.verdict_merge.specs.Gathers.{is_generation, workers_found, workers_in}
use Rattle.verdict_merge.specs.Generations.{AreBegun}
use Rattle.verdict_merge.specs.declared.rows.Begun.{Begun}

abbrev numbers : List Begun → List ℕ
numbers begun = map (λ (b : Begun). b.generation) begun

-- among others it is not found
none_among : (begun : List Begun) (number : ℕ) → AllByRecursion (λ j. number ≢ j) (numbers begun)
    → find (is_generation number) begun ≡ None
none_among [] number others = refl
none_among (x ∷ begun) number others = grind (arith, ne_eqb, none_among begun number others.1)

pub found_back : (begun : List Begun) (number : ℕ) → Apart (numbers begun)
    → find (is_generation number) (reverse begun) ≡ find (is_generation number) begun
found_back [] number apart = refl
found_back (x ∷ begun) number apart =
    grind (arith, common_steps, reverse-append, find-append, eqb-true, none_among, found_back begun number apart.1)

-- where none of a number has workers, none has the number
others_among : (begun : List Begun) (number : ℕ) → AllByRecursion (λ (b : Begun). 0 < b.workers) begun
    → workers_in begun number ≡ 0 → AllByRecursion (λ j. j ≢ number) (numbers begun)
others_among [] number some none = tt
others_among (x ∷ begun) number some none = ⊎_elim
    (λ t. absurd (let e : x.workers ≡ 0 = sym (at t) ∙ none in let l = some.0 in omega arith))
    (λ f. (
      (λ same. (let bad : true ≡ false = sym (eq-eqb x.generation number same) ∙ f in cc)),
      others_among begun number some.1 (sym (at f) ∙ none),
    ))
    (cases_Bool (nat_eq x.generation number))
  where
    at : {b : Bool} → nat_eq x.generation number ≡ b
        → workers_in (x ∷ begun) number ≡ workers_found (cond b (Some x) (find (is_generation number) begun))
    at = ap (λ b. workers_found (cond b (Some x) (find (is_generation number) begun)))

apart_push : (ks : List ℕ) (k : ℕ) → Apart ks → AllByRecursion (λ j. j ≢ k) ks → Apart (ks ++ k ∷ [])
apart_push [] k apart others = (tt, tt)
apart_push (x ∷ ks) k apart others = grind (arith, every_append, apart_push ks k apart.1 others.1)

pub begun_push : (begun : List Begun) (x : Begun) → AreBegun begun → workers_in begun x.generation ≡ 0 → 0 < x.workers
    → AreBegun (begun ++ x ∷ [])
begun_push begun x are none some = grind (arith, map-append, apart_push, others_among, every_append)
