-- What is kept for a row by two states of the same log, put together: they agree in each test, so of two starts, or
-- of two marks for one place, the lesser start serves, and of the times each one does.
use Rattle.std.specs.Prelude.{◌≡◌, ℕ, cond, min, nat_eq, nat_lt, Option, Some, None, List, [], ◌∷◌}
use Rattle.mfotl_model.specs.declared.value.Value.{Value}
use Rattle.until_rows.specs.declared.recalled.Mark.{Mark}
use Rattle.relations.specs.KeptRows.{RowsAscend, kept_for}

-- what is kept where both, one or none keep something
abbrev pub either : {X : Type 0} → (X → X → X) → Option X → Option X → Option X
either both None o = o
either both (Some x) None = Some x
either both (Some x) (Some y) = Some (both x y)

-- a time put into ascending times
abbrev pub put_time : ℕ → List ℕ → List ℕ
put_time x [] = x ∷ []
put_time x (y ∷ ys) = cond (nat_lt x y) (x ∷ y ∷ ys) (cond (nat_eq x y) (y ∷ ys) (y ∷ put_time x ys))

-- the times of both, each once
abbrev pub times_united : List ℕ → List ℕ → List ℕ
times_united [] ys = ys
times_united (x ∷ xs) ys = put_time x (times_united xs ys)

-- the least time of both
abbrev pub least_time : List ℕ → List ℕ → List ℕ
least_time [] ys = ys
least_time (x ∷ xs) [] = x ∷ xs
least_time (x ∷ xs) (y ∷ ys) = min x y ∷ []

-- the times of both; where the interval has no upper end the least one serves for all
abbrev pub times_joined : Option ℕ → List ℕ → List ℕ → List ℕ
times_joined None xs ys = least_time xs ys
times_joined (Some hi) xs ys = times_united xs ys

-- a mark put into ascending marks: of two for one place, with the lesser start
abbrev pub put_mark : Mark → List Mark → List Mark
put_mark m [] = m ∷ []
put_mark m (n ∷ ns) =
    cond (nat_lt m.place n.place) (m ∷ n ∷ ns)
    (cond (nat_eq m.place n.place) (record { place = n.place; start = min m.start n.start } ∷ ns) (n ∷ put_mark m ns))

-- the marks of both
abbrev pub marks_joined : List Mark → List Mark → List Mark
marks_joined [] ns = ns
marks_joined (m ∷ ms) ns = put_mark m (marks_joined ms ns)

-- the rows of both in their order, each with what both keep for it
pub record RowsUnion {X : Type 0} (both : X → X → X) (a b c : List (List Value × X)) : Type 0 where
  pub each : (u : List Value) → kept_for c u ≡ either both (kept_for a u) (kept_for b u)
  pub ascend : RowsAscend c
