-- What a merge of vectors gives are their items.
use Rattle.std.proofs.Common.{◌≡◌, ◌∙◌, Bool, true, List, [], ◌∷◌, ◌++◌, length, map, refl, ap, subst, map-id, Vec}
use Rattle.std.proofs.Common.{arith, ◌<◌, Result, Ok, Err, IfOk, IsPermutation, flat_map}
use Rattle.std.proofs.{lemmas.List.append-nil, lemmas.Iterator.Adapters.YieldsList-from_vec, lemmas.Grind.common_steps}
use Rattle.std.specs.{Iterator.DrainsIf, Iterator.Runs.WholeRun, Iterator.Runs.YieldsRun, Vec.Iter.into_iter_items}
use Rattle.std.specs.{Vec.Iter.into_iter_steps}
use Rattle.std.specs.declared.vec.IntoIter.{IntoIter}
use Rattle.itertools.proofs.AdaptorLemmas.{items_from_whole_run}
use Rattle.itertools.specs.KMerge.{SourcesGive, MergeGivesAll, joined_lists, kmerge_steps}
use Rattle.itertools.specs.declared.kmerge_impl.KMergeBy.{KMergeBy}

-- lists one after another
joined_map : {X Y : Type 0} (f : X → List Y) (xs : List X) → joined_lists (map f xs) ≡ flat_map f xs
joined_map f [] = refl
joined_map f (x ∷ xs) = ap (λ ys. f x ++ ys) (joined_map f xs)

module _ {X Z : Type 0} (gives : Vec X Z → IntoIter X Z → Type 0)
    (iterates : (v : Vec X Z) (j : IntoIter X Z) → gives v j → into_iter_items j ≡ v.items) where
  sources : (lists : List (Vec X Z)) → SourcesGive gives into_iter_steps lists (map (λ l. l.items) lists)
  sources [] = tt
  sources (l ∷ lists) = (
    λ j g. (YieldsList-from_vec l.items (iterates l j g) (j.rest.ok.0 ∙ ap length (iterates l j g))).runs,
    sources lists,
  )

  module _ {W F V : Type 0} (computes : F → (X → X → Bool) → Type 0) (m : KMergeBy (IntoIter X Z) F V X)
      (lists : List (Vec X Z)) (it : IntoIter (Vec X Z) W) (same : into_iter_items it ≡ lists)
      (merges : WholeRun into_iter_steps it (λ p. (ls : List (List X)) → SourcesGive gives into_iter_steps p.items ls
      → MergeGivesAll into_iter_steps computes m ls)) where
    all_given : MergeGivesAll into_iter_steps computes m (map (λ l. l.items) lists)
    all_given =
        let items =
        items_from_whole_run (YieldsList-from_vec lists same (it.rest.ok.0
        ∙ ap length same)) merges.0 merges.1 merges.2 in
        grind (arith, map-id, sources)

    -- all that the merge gives, up to its end
    pub merged_all : (out : List X) → WholeRun (kmerge_steps into_iter_steps computes) m (λ p. out ≡ p.items)
        → IsPermutation (joined_lists (map (λ l. l.items) lists)) out
    unfolding YieldsRun
    merged_all out run =
        let p = run.0 in
        let drained =
        subst (λ s. DrainsIf (kmerge_steps into_iter_steps computes) (p.whole ≡ true) s p.items) run.1 p.gave.0 in
        let given = all_given p.items p.whole drained in
        grind (arith, append-nil)

    pub merged_ok : {E O : Type 0} (r : Result (Vec X O) E)
        → IfOk r (λ v. WholeRun (kmerge_steps into_iter_steps computes) m (λ p. v.items ≡ p.items))
        → IfOk r (λ v. IsPermutation (flat_map (λ l. l.items) lists) v.items)
    merged_ok (Ok v) run = grind (arith, joined_map, merged_all v.items run)
    merged_ok (Err e) run = tt

-- the last of a list that has no other
pub alone : {X Z : Type 0} (xs ys : List (Vec X Z)) (l : Vec X Z) → length xs < 2 → xs ≡ ys ++ l ∷ []
    → l.items ≡ flat_map (λ v. v.items) xs
alone xs ys l few split = grind (arith, common_steps, flat_map, append-nil)
