-- Lists of columns that are among others.
use Rattle.std.proofs.Common.{◌≡◌, ℕ, Bool, true, List}
use Rattle.std.proofs.{lemmas.List.Elements.filter_passes, lemmas.List.Sums.list_all-from_AllPass}
use Rattle.std.specs.List.{filter}
use Rattle.mfotl_model.proofs.LogicLemmas.{filtered_found}
use Rattle.mfotl_model.specs.{FreeVariables.among, Tables.all_among}
use Rattle.relations.proofs.JoinLemmas.{all_members}

-- what is kept of columns that are among others is among them too
pub all_kept : (p : ℕ → Bool) (ys zs : List ℕ) → ((y : ℕ) → among y ys ≡ true → among y zs ≡ true)
    → all_among (filter p ys) zs ≡ true
all_kept p ys zs inside = search (all_members, filtered_found)

-- the columns of both are among the second's
pub common_in_second : (ca cb : List ℕ) → all_among (filter (λ y. among y ca) cb) cb ≡ true
common_in_second ca cb = all_kept (λ y. among y ca) cb cb (λ y m. m)

-- the columns of both are among the first's
pub common_in_first : (ca cb : List ℕ) → all_among (filter (λ y. among y ca) cb) ca ≡ true
common_in_first ca cb = search (list_all-from_AllPass, filter_passes)
