-- Proofs of the laws of slicers for strategies.
use Rattle.std.proofs.Common.{◌≡◌, ℕ, zero, suc, ◌+◌, ◌*◌, ◌/◌, ◌%◌, ◌<◌, ◌≤◌, Bool, true, false, not, ◌&&◌}
use Rattle.std.proofs.Common.{◌||◌, cond, nat_eq, List, [], ◌∷◌, length, refl, sym, ap, ◌∙◌, arith}
use Rattle.std.proofs.lemmas.Bool.{and_from, and_parts, eqb-true}
use Rattle.std.proofs.lemmas.Nat.{div-mul-add, mod-mul-add, mod_below, mul-le, div-add-mod'}
use Rattle.std.proofs.Math.Nat.{zero-mul, mul-zero, suc-mul}
use Rattle.std.specs.List.{filter}
use Rattle.std.specs.Ordering.{int_cmp, is_le}
use Rattle.std.specs.Prelude.{pos, negsuc, ℤ, sum}
use Rattle.mfotl_model.proofs.RegionLemmas.{strategy_passes}
use Rattle.mfotl_model.specs.FreeVariables.{among}
use Rattle.mfotl_model.specs.Regions.{near_from, near_of}
use Rattle.mfotl_model.specs.Satisfaction.{Valuation}
use Rattle.mfotl_model.specs.Strategies.{Strategy, Entry, owner_from, owner_of, strategy_part, parts_of, workers_of}
use Rattle.mfotl_model.specs.Strategies.Entry.{Uncut, Hash, Cut}
use Rattle.mfotl_model.specs.declared.value.Value.{Value}
use Rattle.mfotl_model.specs.declared.value.Value.TheVariants.{Int, Text}
use Rattle.slice_strategy.specs.Slicers.{OneOwner, Covers, NearIsOwner, PassesOn}

some_pass : (p : ℤ → Bool) (xs : List ℤ) → length (filter p xs) ≤ length xs
some_pass p [] = omega arith
some_pass p (x ∷ xs) = by (p x) (some_pass p xs)
  where
    by : (b : Bool) → length (filter p xs) ≤ length xs
        → length (cond b (x ∷ filter p xs) (filter p xs)) ≤ suc (length xs)
    by true h = omega arith
    by false h = omega arith

-- a value is in one of the parts
pub strategy_part_below : (e : Entry) (a : Value) → 0 < parts_of e → strategy_part e a < parts_of e
strategy_part_below Uncut a some = omega arith
strategy_part_below (Hash count) (Int (pos n)) some = mod_below n count some
strategy_part_below (Hash count) (Int (negsuc n)) some = mod_below _ count some
strategy_part_below (Hash count) (Text bytes) some = mod_below (sum bytes) count some
strategy_part_below (Cut cuts) (Int n) some = let few = some_pass (λ c. is_le (int_cmp c n)) cuts in omega (arith, few)
strategy_part_below (Cut cuts) (Text bytes) some = omega arith

-- a product has no factor 0 unless it is 0
pub both_some : (a b : ℕ) → 0 < a * b → (0 < a) × (0 < b)
both_some zero b h = let z : zero * b ≡ zero = zero-mul b in absurd (omega (arith, z))
both_some (suc a) zero h = let z : suc a * zero ≡ zero = mul-zero (suc a) in absurd (omega (arith, z))
both_some (suc a) (suc b) h = (omega arith, omega arith)

pub below_product : (a parts w r : ℕ) → a < parts → r < w → a * w + r < parts * w
below_product a parts w r low small =
    let up : suc a * w ≤ parts * w = mul-le (suc a) w parts w (omega arith) (omega arith) in
    let one : suc a * w ≡ a * w + w = suc-mul a w in
    omega (arith, up, one)

pub owner_below : (y : ℕ) (es : Strategy) (v : Valuation) → 0 < workers_of es → owner_from y es v < workers_of es
owner_below y [] v some = some
owner_below y (e ∷ es) v some =
    let parts = both_some (parts_of e) (workers_of es) some in
    below_product (strategy_part e (v y)) (parts_of e) (workers_of es) (owner_from (y + 1) es v)
    (strategy_part_below e (v y) parts.0) (owner_below (y + 1) es v parts.1)

-- ---- near passes on

pub passes_on : PassesOn {S = Strategy} length near_of
passes_on s free k binds = strategy_passes s free k binds

pub one_owner : OneOwner workers_of owner_of
one_owner s v some = owner_below 0 s v some

-- ---- some worker is near

pub same_number : (n : ℕ) → nat_eq n n ≡ true
same_number n = search arith

at_bound : (bound : Bool) (a : ℕ) → (not bound || nat_eq a (cond bound a 0)) ≡ true
at_bound true a = same_number a
at_bound false a = refl

low_bound : (bound : Bool) (a parts : ℕ) → 0 < parts → a < parts → cond bound a 0 < parts
low_bound true a parts some low = low
low_bound false a parts some low = some

covers_from : (y : ℕ) (es : Strategy) → 0 < workers_of es → (vs : List ℕ) (v : Valuation)
    → (k : ℕ) × (k < workers_of es) × (near_from y es k vs v ≡ true)
covers_from y [] some vs v = (0, some, refl)
covers_from y (e ∷ es) some vs v =
    let parts = both_some (parts_of e) (workers_of es) some in
    let rest = covers_from (y + 1) es parts.1 vs v in
    let a : ℕ = cond (among y vs) (strategy_part e (v y)) 0 in (
      a * workers_of es + rest.0,
      below_product a (parts_of e) (workers_of es) rest.0
          (low_bound (among y vs) (strategy_part e (v y)) (parts_of e) parts.0
          (strategy_part_below e (v y) parts.0)) rest.1,
      and_from (not (among y vs) || nat_eq (strategy_part e (v y)) ((a * workers_of es + rest.0) / workers_of es))
          (near_from (y + 1) es ((a * workers_of es + rest.0) % workers_of es) vs v)
          (ap (λ q. not (among y vs) || nat_eq (strategy_part e (v y)) q) (div-mul-add a (workers_of es) rest.0 rest.1)
          ∙ at_bound (among y vs) (strategy_part e (v y)))
          (ap (λ q. near_from (y + 1) es q vs v) (mod-mul-add a (workers_of es) rest.0 rest.1) ∙ rest.2),
    )

pub strategy_covers : Covers workers_of near_of
strategy_covers s vs v some = covers_from 0 s some vs v

-- ---- near is owner

both_equal : (a b : Bool) → (a ≡ true → b ≡ true) → (b ≡ true → a ≡ true) → a ≡ b
both_equal true b to from = sym (to refl)
both_equal false true to from = from refl
both_equal false false to from = refl

digits_same : (a w r k : ℕ) → r < w → (nat_eq a (k / w) && nat_eq r (k % w)) ≡ nat_eq (a * w + r) k
digits_same a w r k small =
    both_equal (nat_eq a (k / w) && nat_eq r (k % w)) (nat_eq (a * w + r) k)
    (λ both.
    let parts = and_parts (nat_eq a (k / w)) (nat_eq r (k % w)) both in
    let high : a ≡ k / w = eqb-true a (k / w) parts.0 in
    let low : r ≡ k % w = eqb-true r (k % w) parts.1 in
    let is : a * w + r ≡ k = ap (λ n. n * w + r) high ∙ ap (λ n. k / w * w + n) low ∙ div-add-mod' k w in
    ap (λ n. nat_eq n k) is ∙ same_number k)
    (λ one.
    let is : a * w + r ≡ k = eqb-true (a * w + r) k one in
    and_from (nat_eq a (k / w)) (nat_eq r (k % w))
    (ap (λ n. nat_eq a (n / w)) (sym is) ∙ ap (λ n. nat_eq a n) (div-mul-add a w r small) ∙ same_number a)
    (ap (λ n. nat_eq r (n % w)) (sym is) ∙ ap (λ n. nat_eq r n) (mod-mul-add a w r small) ∙ same_number r))

turned : (a b : ℕ) → nat_eq a b ≡ nat_eq b a
turned a b =
    both_equal (nat_eq a b) (nat_eq b a) (λ e. ap (λ n. nat_eq b n) (eqb-true a b e) ∙ same_number b)
    (λ e. ap (λ n. nat_eq a n) (eqb-true b a e) ∙ same_number a)

near_owner : (y : ℕ) (es : Strategy) (k : ℕ) (vs : List ℕ) (v : Valuation) → 0 < workers_of es
    → ((x : ℕ) → y ≤ x → x < y + length es → among x vs ≡ true)
    → near_from y es k vs v ≡ nat_eq (owner_from y es v) k
near_owner y [] k vs v some binds = turned k 0
near_owner y (e ∷ es) k vs v some binds =
    let parts = both_some (parts_of e) (workers_of es) some in
    let a = strategy_part e (v y) in
    let w = workers_of es in
    let r = owner_from (y + 1) es v in
    ap (λ b. (not b || nat_eq a (k / w)) && near_from (y + 1) es (k % w) vs v) (binds y (omega arith) (omega arith))
    ∙ ap (λ b. nat_eq a (k / w) && b)
    (near_owner (y + 1) es (k % w) vs v parts.1 (λ x low high. binds x (omega arith) (omega arith)))
    ∙ digits_same a w r k (owner_below (y + 1) es v parts.1)

pub near_is_owner : NearIsOwner workers_of length owner_of near_of
near_is_owner s k vs v some binds = near_owner 0 s k vs v some (λ x low high. binds x (omega arith))
