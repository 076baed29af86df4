-- The join of two tables by all pairs of rows, spoken of by valuations.
use Rattle.std.proofs.Common.{◌≡◌, ℕ, Bool, true, false, not, ◌&&◌, ◌||◌, nat_eq, List, [], ◌∷◌, ◌++◌, length, map}
use Rattle.std.proofs.Common.{refl, sym, ap, ap₂, ◌∙◌, arith}
use Rattle.std.proofs.lemmas.Bool.{and_parts, and_from, or_left, or_right, eqb-true}
use Rattle.std.proofs.{lemmas.Grind.common_steps, Math.Seq.take-append_seam, Math.Seq.drop-append_seam}
use Rattle.std.proofs.{lemmas.Cmp.tied_itself, lemmas.List.map-append, lemmas.List.length-map}
use Rattle.std.proofs.{lemmas.List.Folds.list_any-append, lemmas.Map.Views.any-filter_same}
use Rattle.std.proofs.{lemmas.Map.Views.tells_apart}
use Rattle.std.proofs.Math.Bool.{and-false, and-or_distrib_left, and-or_distrib_right}
use Rattle.std.specs.List.{list_any, list_all, filter}
use Rattle.std.specs.{Ordering.eq_by_cmp, Ordering.is_eq, Cmp.both_ways}
use Rattle.mfotl_model.proofs.LogicLemmas.{any_filter, any_map, filtered_found, same_number}
use Rattle.mfotl_model.proofs.RowLemmas.{row_exact, value_exact, value_itself}
use Rattle.mfotl_model.proofs.ColumnLemmas.{same_columns, row_kept, read_own}
use Rattle.mfotl_model.specs.FreeVariables.{among, joined, others}
use Rattle.mfotl_model.specs.Satisfaction.{Valuation}
use Rattle.mfotl_model.specs.Values.{row_cmp, row_total, value_cmp}
use Rattle.mfotl_model.specs.declared.value.Value.{Value}
use Rattle.mfotl_model.specs.Tables.{all_apart, all_sized, part, valuation}
use Rattle.relations.specs.Operations.{agree, combined, pairs, pairs_of}

pub all_members : (p : ℕ → Bool) (ys : List ℕ) → ((y : ℕ) → among y ys ≡ true → p y ≡ true) → list_all p ys ≡ true
all_members p [] h = refl
all_members p (x ∷ ys) h =
    and_from (p x) (list_all p ys) (h x (or_left (nat_eq x x) (among x ys) (same_number x)))
    (all_members p ys (λ y m. h y (or_right (nat_eq y x) (among y ys) m)))

pub member_of_all : (p : ℕ → Bool) (ys : List ℕ) (y : ℕ) → list_all p ys ≡ true → among y ys ≡ true → p y ≡ true
member_of_all p [] y h m = cc
member_of_all p (x ∷ ys) y h m = grind (arith, common_steps, member_of_all p ys y)

pub same_each : (v w : Valuation) (ys : List ℕ) → map v ys ≡ map w ys → (y : ℕ) → among y ys ≡ true → v y ≡ w y
same_each v w [] e y m = cc
same_each v w (x ∷ ys) e y m =
    let first : v x ≡ w x = cc in
    let rest : map v ys ≡ map w ys = cc in
    grind (arith, common_steps, same_each v w ys rest y)

pub front_same : (xs ys us ws : List Value) → length xs ≡ length ys → xs ++ us ≡ ys ++ ws → (xs ≡ ys) × (us ≡ ws)
front_same xs ys us ws size e =
    grind (arith, take-append_seam xs us, take-append_seam ys ws, drop-append_seam xs us, drop-append_seam ys ws)

pub row_itself : (r : List Value) → eq_by_cmp row_cmp r r ≡ true
row_itself r = ap is_eq (tied_itself row_total r)

pub among_others : (ca cb : List ℕ) (y : ℕ) → among y (others ca cb) ≡ (not (among y ca) && among y cb)
among_others ca cb y = grind (arith, any-filter_same, eqb-true)

module _ (v : Valuation) (ca cb : List ℕ) (apart : all_apart cb ≡ true) where
  -- two rows that agree make the row of v exactly where both are v's
  pair_is : (ra rb : List Value) → length ra ≡ length ca → length rb ≡ length cb
      → (agree ca cb ra rb && eq_by_cmp row_cmp (map v (joined ca cb)) (combined ca cb ra rb))
      ≡ (eq_by_cmp row_cmp (map v ca) ra && eq_by_cmp row_cmp (map v cb) rb)
  unfolding agree combined pairs pairs_of part
  pair_is ra rb size_a size_b =
      let split : map v (joined ca cb) ≡ map v ca ++ map v (others ca cb) = map-append v ca (others ca cb) in
      both_ways (agree ca cb ra rb && eq_by_cmp row_cmp (map v (joined ca cb)) (combined ca cb ra rb))
      (eq_by_cmp row_cmp (map v ca) ra && eq_by_cmp row_cmp (map v cb) rb)
      (λ h.
      let parts = and_parts (agree ca cb ra rb) (eq_by_cmp row_cmp (map v (joined ca cb)) (combined ca cb ra rb)) h in
      let whole : map v ca ++ map v (others ca cb) ≡ ra ++ map (valuation cb rb) (others ca cb) =
      sym split ∙ tells_apart row_exact (map v (joined ca cb)) (combined ca cb ra rb) parts.1 in
      let two = front_same (map v ca) ra (map v (others ca cb)) (map (valuation cb rb) (others ca cb))
      (length-map ca v ∙ sym size_a) whole in
      let each : (y : ℕ) → among y cb ≡ true → v y ≡ valuation cb rb y = λ y m.
      one y m (among y ca) refl
      (member_of_all (λ z. not (among z ca) || eq_by_cmp value_cmp (valuation ca ra z) (valuation cb rb z)) cb y
      parts.0 m) two.0 two.1 in
      let second : map v cb ≡ rb = same_columns v (valuation cb rb) cb each ∙ row_kept cb rb apart size_b in
      and_from (eq_by_cmp row_cmp (map v ca) ra) (eq_by_cmp row_cmp (map v cb) rb)
      (ap (eq_by_cmp row_cmp (map v ca)) (sym two.0) ∙ row_itself (map v ca))
      (ap (eq_by_cmp row_cmp (map v cb)) (sym second) ∙ row_itself (map v cb)))
      (λ h.
      let parts = and_parts (eq_by_cmp row_cmp (map v ca) ra) (eq_by_cmp row_cmp (map v cb) rb) h in
      let first : map v ca ≡ ra = tells_apart row_exact (map v ca) ra parts.0 in
      let second : map v cb ≡ rb = tells_apart row_exact (map v cb) rb parts.1 in
      let read : (y : ℕ) → among y cb ≡ true → valuation cb rb y ≡ v y = grind (arith, read_own) in
      and_from (agree ca cb ra rb) (eq_by_cmp row_cmp (map v (joined ca cb)) (combined ca cb ra rb))
      (all_members (λ z. not (among z ca) || eq_by_cmp value_cmp (valuation ca ra z) (valuation cb rb z)) cb
      (λ y m. both y (among y ca) refl (read y m) first))
      (let same : combined ca cb ra rb ≡ map v (joined ca cb) =
      ap₂ (λ x y. x ++ y) (sym first) (same_columns (valuation cb rb) v (others ca cb)
      (λ y m. read y (filtered_found (λ z. not (among z ca)) (nat_eq y) cb m))) ∙ sym split in
      ap (eq_by_cmp row_cmp (map v (joined ca cb))) same ∙ row_itself (map v (joined ca cb))))
    where
      one : (y : ℕ) → among y cb ≡ true → (b : Bool) → among y ca ≡ b
          → (not (among y ca) || eq_by_cmp value_cmp (valuation ca ra y) (valuation cb rb y)) ≡ true
          → map v ca ≡ ra → map v (others ca cb) ≡ map (valuation cb rb) (others ca cb) → v y ≡ valuation cb rb y
      one y m true e h first rest =
          sym (ap (λ r. valuation ca r y) (sym first) ∙ read_own v ca y e)
          ∙ tells_apart value_exact (valuation ca ra y) (valuation cb rb y)
          (sym (ap (λ b. not b || eq_by_cmp value_cmp (valuation ca ra y) (valuation cb rb y)) e) ∙ h)
      one y m false e h first rest = same_each v (valuation cb rb) (others ca cb) rest y
          (among_others ca cb y ∙ grind (arith, common_steps))

      both : (y : ℕ) (b : Bool) → among y ca ≡ b → valuation cb rb y ≡ v y → map v ca ≡ ra
          → (not (among y ca) || eq_by_cmp value_cmp (valuation ca ra y) (valuation cb rb y)) ≡ true
      both y true e read first =
          or_right (not (among y ca)) (eq_by_cmp value_cmp (valuation ca ra y) (valuation cb rb y))
          (ap₂ (eq_by_cmp value_cmp) (ap (λ r. valuation ca r y) (sym first) ∙ read_own v ca y e) read
          ∙ value_itself (v y))
      both y false e read first =
          or_left (not (among y ca)) (eq_by_cmp value_cmp (valuation ca ra y) (valuation cb rb y)) (ap not e)

  one_row : (ra : List Value) (bs : List (List Value)) → length ra ≡ length ca → all_sized (length cb) bs ≡ true
      → list_any (λ rb. agree ca cb ra rb && eq_by_cmp row_cmp (map v (joined ca cb)) (combined ca cb ra rb)) bs
      ≡ (eq_by_cmp row_cmp (map v ca) ra && list_any (eq_by_cmp row_cmp (map v cb)) bs)
  unfolding agree combined pairs pairs_of part
  one_row ra [] size all = sym (and-false (eq_by_cmp row_cmp (map v ca) ra))
  one_row ra (rb ∷ bs) size all =
      let parts = and_parts (nat_eq (length rb) (length cb)) (all_sized (length cb) bs) all in
      search (ap₂, pair_is, eqb-true, and-or_distrib_left, one_row ra bs size parts.1)

  -- the join has v's row exactly where both tables have theirs
  pub join_has : (as_ bs : List (List Value)) → all_sized (length ca) as_ ≡ true → all_sized (length cb) bs ≡ true
      → list_any (eq_by_cmp row_cmp (map v (joined ca cb))) (pairs ca cb as_ bs)
      ≡ (list_any (eq_by_cmp row_cmp (map v ca)) as_ && list_any (eq_by_cmp row_cmp (map v cb)) bs)
  unfolding agree combined pairs pairs_of part
  join_has [] bs first second = refl
  join_has (ra ∷ as_) bs first second =
      let parts = and_parts (nat_eq (length ra) (length ca)) (all_sized (length ca) as_) first in
      list_any-append (eq_by_cmp row_cmp (map v (joined ca cb)))
      (map (combined ca cb ra) (filter (agree ca cb ra) bs)) (pairs ca cb as_ bs)
      ∙ ap₂ (λ x y. x || y)
      (any_map (eq_by_cmp row_cmp (map v (joined ca cb))) (combined ca cb ra) (filter (agree ca cb ra) bs)
      ∙ any_filter (λ rb. eq_by_cmp row_cmp (map v (joined ca cb)) (combined ca cb ra rb)) (agree ca cb ra) bs
      ∙ one_row ra bs (eqb-true (length ra) (length ca) parts.0) second)
      (join_has as_ bs parts.1 second)
      ∙ sym (and-or_distrib_right (eq_by_cmp row_cmp (map v ca) ra) (list_any (eq_by_cmp row_cmp (map v ca)) as_)
      (list_any (eq_by_cmp row_cmp (map v cb)) bs))
