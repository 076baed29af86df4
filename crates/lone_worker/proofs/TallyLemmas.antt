-- What is counted of verdicts.
use Rattle.std.proofs.Common.{◌≡◌, ◌∙◌, ap, refl, arith, Bool, ◌||◌, cond, nat_lt, List, [], ◌∷◌, length}
use Rattle.std.proofs.{lemmas.Bool.lt-ltb, lemmas.List.Sums.length-filter}
use Rattle.std.specs.List.{filter}
use Rattle.mfotl_model.specs.VerdictText.{VerdictOf, verdicts}
use Rattle.lone_worker.specs.Laws.{ViolationsCounted}
use Rattle.lone_worker.specs.Texts.{has_some_row, log_in, some_rows, tally_of, tally_on, violated_on}

some_by : (b c : Bool) (v : VerdictOf) (vs : List VerdictOf) → c ≡ nat_lt 0 (length vs)
    → (b || c) ≡ nat_lt 0 (length (cond b (v ∷ vs) vs))
some_by b c v vs e = grind (arith, lt-ltb)

some_left : (vs : List VerdictOf) → some_rows vs ≡ nat_lt 0 (length (filter has_some_row vs))
some_left [] = refl
some_left (v ∷ vs) = some_by (has_some_row v) (some_rows vs) v (filter has_some_row vs) (some_left vs)

-- some verdict has a row exactly where one that has is counted
some_counted : (vs : List VerdictOf) → some_rows vs ≡ nat_lt 0 (tally_of vs).violated
some_counted vs = some_left vs ∙ ap (nat_lt 0) (length-filter has_some_row vs)

pub violations_counted : ViolationsCounted
unfolding violated_on tally_on
violations_counted policy r = some_counted (verdicts (log_in r) policy)
