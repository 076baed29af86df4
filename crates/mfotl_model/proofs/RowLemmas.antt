-- Rows and events: what compares as equal is equal, and which rows there are over a domain.
use Rattle.std.proofs.Common.{◌≡◌, ℕ, zero, suc, Bool, true, false, ◌&&◌, nat_eq, List, [], ◌∷◌, length, map, refl}
use Rattle.std.proofs.Common.{sym, ap, ◌∙◌}
use Rattle.std.proofs.Math.Dec.{eqb-suc-zero, eqb-zero-suc, eqb-suc-suc}
use Rattle.std.proofs.lemmas.Map.Lookups.{CmpEqualImpliesEq, exact_unsigned}
use Rattle.std.proofs.Math.Bool.{and_comm}
use Rattle.std.proofs.lemmas.Cmp.{tied_itself}
use Rattle.std.specs.List.{list_any, list_all}
use Rattle.std.specs.Ordering.{eq_by_cmp, is_eq, ordering_then, nat_cmp}
use Rattle.std.specs.declared.cmp.Ordering.{Ordering}
use Rattle.std.specs.declared.cmp.Ordering.TheVariants.{Equal}
use Rattle.std.specs.Cmp.{tied_then}
use Rattle.mfotl_model.specs.Domains.{in_domain}
use Rattle.mfotl_model.specs.Events.{event_cmp}
pub use Rattle.mfotl_model.specs.Hashes.{value_exact, row_exact}
use Rattle.mfotl_model.specs.Values.{value_cmp, row_cmp, value_total}
use Rattle.mfotl_model.specs.Violations.{all_rows}
use Rattle.mfotl_model.specs.declared.event.Event.{Event}
use Rattle.mfotl_model.specs.declared.value.Value.{Value}
use Rattle.mfotl_model.proofs.LogicLemmas.{any_alike, any_map, any_flat_map, and_moved}
use Rattle.std.proofs.Common.{arith}

-- the first of two orders, where both together find no difference
first_equal : (a b : Ordering) → ordering_then a b ≡ Equal → a ≡ Equal
first_equal a b h = grind arith

-- the second
second_equal : (a b : Ordering) → ordering_then a b ≡ Equal → b ≡ Equal
second_equal a b h = grind arith

same_event : (a b : Event) → a.pred ≡ b.pred → a.args ≡ b.args → a ≡ b
same_event a b pred args = λ i. record { pred = pred i; args = args i }

pub event_exact : CmpEqualImpliesEq event_cmp
event_exact a b h =
    same_event a b (exact_unsigned a.pred b.pred (first_equal (nat_cmp a.pred b.pred) (row_cmp a.args b.args) h))
    (row_exact a.args b.args (second_equal (nat_cmp a.pred b.pred) (row_cmp a.args b.args) h))

-- a value equals itself
pub value_itself : (a : Value) → eq_by_cmp value_cmp a a ≡ true
value_itself a = ap is_eq (tied_itself value_total a)

-- nothing passes a test that is never true
pub any_none : {X : Type 0} (xs : List X) → list_any (λ x. false) xs ≡ false
any_none [] = refl
any_none (x ∷ xs) = any_none xs

any_and : {X : Type 0} (b : Bool) (p : X → Bool) (xs : List X) → list_any (λ x. b && p x) xs ≡ (b && list_any p xs)
any_and true p xs = refl
any_and false p xs = any_none xs

-- a test beside one that is the same for all
pub any_and_last : {X : Type 0} (b : Bool) (p : X → Bool) (xs : List X)
    → list_any (λ x. p x && b) xs ≡ (list_any p xs && b)
any_and_last b p xs = simp (any_alike, and_comm, any_and)

-- a row is among the rows of n values of a domain exactly if it has n values, each in the domain
pub member_all_rows : (n : ℕ) (dom : List Value) (q : List Value)
    → list_any (eq_by_cmp row_cmp q) (all_rows n dom) ≡ (nat_eq (length q) n && list_all (in_domain dom) q)
member_all_rows zero dom [] = refl
member_all_rows zero dom (b ∷ s) = sym (ap (λ t. t && list_all (in_domain dom) (b ∷ s)) (eqb-suc-zero (length s)))
member_all_rows (suc n) dom [] = simp (any_flat_map, any_alike, any_map, any_none, eqb-zero-suc)
member_all_rows (suc n) dom (b ∷ s) =
    any_flat_map (eq_by_cmp row_cmp (b ∷ s)) (λ a. map (λ row. a ∷ row) (all_rows n dom)) dom
    ∙ any_alike (λ a. list_any (eq_by_cmp row_cmp (b ∷ s)) (map (λ row. a ∷ row) (all_rows n dom)))
    (λ a. eq_by_cmp value_cmp b a && list_any (eq_by_cmp row_cmp s) (all_rows n dom)) dom
    (λ a. any_map (eq_by_cmp row_cmp (b ∷ s)) (λ row. a ∷ row) (all_rows n dom)
    ∙ any_alike (λ row. eq_by_cmp row_cmp (b ∷ s) (a ∷ row))
    (λ row. eq_by_cmp value_cmp b a && eq_by_cmp row_cmp s row) (all_rows n dom)
    (λ row. sym (tied_then (value_cmp b a) (row_cmp s row)))
    ∙ any_and (eq_by_cmp value_cmp b a) (eq_by_cmp row_cmp s) (all_rows n dom))
    ∙ any_and_last (list_any (eq_by_cmp row_cmp s) (all_rows n dom)) (eq_by_cmp value_cmp b) dom
    ∙ ap (λ t. in_domain dom b && t) (member_all_rows n dom s)
    ∙ and_moved (in_domain dom b) (nat_eq (length s) n) (list_all (in_domain dom) s)
    ∙ sym (ap (λ t. t && (in_domain dom b && list_all (in_domain dom) s)) (eqb-suc-suc (length s) n))
