-- Texts compare as the numbers that eight bytes of each spell, and then as the bytes behind.
use Rattle.std.proofs.Common.{◌≡◌, ℕ, zero, suc, ◌+◌, ◌*◌, ◌<◌, ◌≤◌, List, [], ◌∷◌, length, take, drop, get_or, sym, ap}
use Rattle.std.proofs.Common.{◌∙◌, refl, get_or-drop, arith, Fits, w8, w64, cond, ◌==◌, lt-ltb, nat_cmp, Ordering, Less}
use Rattle.std.proofs.Common.{Equal, Greater}
use Rattle.std.specs.Cmp.{ranks, nat_cmp_total, tied_itself}
use Rattle.std.specs.{Int.from_be_bytes, Slice.Scan.big_endian}
use Rattle.std.specs.Ordering.{MatchOrdering, ordering_reverse, ordering_then}
use Rattle.mfotl_model.specs.Values.{text_cmp}

abbrev pub Bytes : List ℕ → Type 0
Bytes xs = (k : ℕ) → Fits w8 (get_or xs k 0)

below : (x y : ℕ) → x < y → nat_cmp x y ≡ Less
below x y l = ap (λ b. cond b Less (cond (x == y) Equal Greater)) (lt-ltb x y l)

-- numbers with one digit more compare by what stood before, and then by the digit
module _ (a b x y : ℕ) (rest : Ordering) where
  abbrev After : Ordering → Type 0
  After r = r ≡ ordering_then (nat_cmp (a * 256 + x) (b * 256 + y)) rest

  is : (r : Ordering) → nat_cmp (a * 256 + x) (b * 256 + y) ≡ r → After (ordering_then r rest)
  is r e = sym (ap (λ s. ordering_then s rest) e)

  low : a * 256 + x < b * 256 + y → After Less
  low l = is Less (below _ _ l)

  high : b * 256 + y < a * 256 + x → After Greater
  high l = is Greater (nat_cmp_total.antisymm (a * 256 + x) (b * 256 + y) ∙ ap ordering_reverse (below _ _ l))

  level : a * 256 + x ≡ b * 256 + y → After rest
  level e = is Equal (ap (λ z. nat_cmp z (b * 256 + y)) e ∙ tied_itself nat_cmp_total (b * 256 + y))

  by : (r s : Ordering) → MatchOrdering r (a < b) (a ≡ b) (b < a) → MatchOrdering s (x < y) (x ≡ y) (y < x)
      → x < 256 → y < 256 → After (ordering_then r (ordering_then s rest))
  by r s l m p q = grind arith

  digit : x < 256 → y < 256 → After (ordering_then (nat_cmp a b) (ordering_then (nat_cmp x y) rest))
  digit = by (nat_cmp a b) (nat_cmp x y) (ranks a b) (ranks x y)

by_number : (n a b : ℕ) (xs ys : List ℕ) → n ≤ length xs → n ≤ length ys → Bytes xs → Bytes ys
    → ordering_then (nat_cmp a b) (text_cmp xs ys)
    ≡ ordering_then (nat_cmp (big_endian a (take n xs)) (big_endian b (take n ys))) (text_cmp (drop n xs) (drop n ys))
by_number zero a b xs ys p q g h = refl
by_number (suc n) a b [] ys p q g h = absurd (omega arith)
by_number (suc n) a b (x ∷ xs) [] p q g h = absurd (omega arith)
by_number (suc n) a b (x ∷ xs) (y ∷ ys) p q g h =
    digit a b x y (text_cmp xs ys) (g 0).fits (h 0).fits
    ∙ by_number n (a * 256 + x) (b * 256 + y) xs ys (omega arith) (omega arith) (λ k. g (suc k)) (λ k. h (suc k))

-- eight bytes spell the number that is read from them
spelt : (xs : List ℕ) → 8 ≤ length xs → from_be_bytes w64 (take 8 xs) ≡ big_endian 0 (take 8 xs)
spelt xs le = grind arith

-- the eight bytes in front of xs, and those behind
abbrev pub Cut : List ℕ → List ℕ → List ℕ → Type 0
Cut xs front rest = (front ≡ take 8 xs) × (rest ≡ drop 8 xs) × (length rest + 8 ≡ length xs)

pub first_eight : (xs ys front rest other more : List ℕ) → Cut xs front rest → Cut ys other more → Bytes xs → Bytes ys
    → (r : Ordering) → r ≡ nat_cmp (from_be_bytes w64 front) (from_be_bytes w64 other)
    → text_cmp xs ys ≡ ordering_then r (text_cmp rest more)
first_eight xs ys front rest other more a b g h r e =
    let p : 8 ≤ length xs = omega (arith, a.2) in
    let q : 8 ≤ length ys = omega (arith, b.2) in
    by_number 8 0 0 xs ys p q g h
    ∙ sym (λ i. ordering_then (nat_cmp (spelt xs p i) (spelt ys q i)) (text_cmp (drop 8 xs) (drop 8 ys)))
    ∙ sym (λ i. ordering_then (nat_cmp (from_be_bytes w64 (a.0 i)) (from_be_bytes w64 (b.0 i)))
    (text_cmp (a.1 i) (b.1 i)))
    ∙ sym (ap (λ s. ordering_then s (text_cmp rest more)) e)

pub bytes_behind : (xs front rest : List ℕ) → Cut xs front rest → Bytes xs → Bytes rest
bytes_behind xs front rest a g k = grind (arith, w8, get_or-drop 8 xs k 0)

-- an order that isn't equality stands, whatever follows
pub stands : (r s : Ordering) → (r ≡ Equal → ⊥) → ordering_then r s ≡ r
stands r s n = grind arith
