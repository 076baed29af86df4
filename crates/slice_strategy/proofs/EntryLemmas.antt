-- Entries one by one, as the loops over them go.
use Rattle.std.proofs.Common.{◌≡◌, ◌∙◌, ℕ, zero, suc, ◌+◌, ◌*◌, ◌/◌, ◌%◌, ◌<◌, ◌≤◌, Bool, true, false, not, nat_eq}
use Rattle.std.proofs.Common.{◌&&◌, ◌||◌, List, [], ◌∷◌, length, drop, get_or, Some, slice_get, ap, sym, subst, arith}
use Rattle.std.proofs.lemmas.List.{drop_more, drop_all, length-map}
use Rattle.std.proofs.{lemmas.Nat.mul-le, lemmas.Nat.mod_below, lemmas.Option.slice_get-map}
use Rattle.std.proofs.{lemmas.Option.slice_get-get_or}
use Rattle.std.proofs.Math.Nat.{mul_comm, mul_assoc, add-mul, mul-one, mul-div_cancel_left}
use Rattle.mfotl_model.specs.{FreeVariables.among, Regions.near_from, Regions.near_of, Satisfaction.Valuation}
use Rattle.mfotl_model.specs.Strategies.{Entry as EntryOf, Strategy, owner_from, owner_of, strategy_part, parts_of}
use Rattle.mfotl_model.specs.Strategies.{workers_of}
use Rattle.slice_strategy.specs.declared.entry.Entry.{Entry}
use Rattle.slice_strategy.specs.Entries.{entry_of, entries_of, HasWorkers}
use Rattle.mfotl_model.specs.declared.value.Value.{Value}
use Rattle.slice_strategy.specs.{Slicers.full_row, Limits.max_workers, SlicerLemmas.both_some, SlicerLemmas.one_owner}

-- the entries from place i on
abbrev pub behind : List Entry → ℕ → Strategy
behind items i = entries_of (drop i items)

pub entry_next : (items : List Entry) (i : ℕ) (e : Entry) → i < length items → e ≡ get_or items i e
    → behind items i ≡ entry_of e ∷ behind items (i + 1)
entry_next items i e low is = cc (drop_more items i e low)

pub none_behind : (items : List Entry) (i : ℕ) → length items ≤ i → behind items i ≡ []
none_behind items i past = ap entries_of (drop_all i items past)

pub up_to : (n w : ℕ) → 0 < w → n ≤ n * w
up_to n w some = grind (arith, mul-le, mul-one)

-- ---- an entry's part

-- each entry has parts, and no more than there may be workers
pub has_parts : (es : Strategy) (i : ℕ) (e : EntryOf) → HasWorkers es → slice_get es i ≡ Some e
    → (0 < parts_of e) × (parts_of e ≤ max_workers)
has_parts es i e has found = let r = by es i found has.some in (r.0, omega (arith, r.1, has.few))
  where
    by : (es : Strategy) (i : ℕ) → slice_get es i ≡ Some e → 0 < workers_of es
        → (0 < parts_of e) × (parts_of e ≤ workers_of es)
    by [] i found some = absurd cc
    by (d ∷ es) zero found some =
        let same : d ≡ e = cc in
        let both = both_some (parts_of d) (workers_of es) some in
        subst (λ x. (0 < parts_of x) × (parts_of x ≤ parts_of d * workers_of es)) same
        (both.0, up_to (parts_of d) (workers_of es) both.1)
    by (d ∷ es) (suc i) found some =
        let both = both_some (parts_of d) (workers_of es) some in
        let r = by es i found both.1 in
        let up : workers_of es ≤ parts_of d * workers_of es = grind (arith, mul_comm, up_to) in
        (r.0, omega (arith, r.1, up))

pub found_entry : (items : List Entry) (i : ℕ) (e : Entry) → i < length items → e ≡ get_or items i e
    → slice_get (entries_of items) i ≡ Some (entry_of e)
found_entry items i e low is = cc (slice_get-map entry_of items i, slice_get-get_or items i e low)

pub entries_size : (items : List Entry) → length (entries_of items) ≡ length items
entries_size items = length-map items entry_of

-- the same of a strategy that has these entries
pub read_entry : (items : List Entry) (strategy : Strategy) (i : ℕ) (e : Entry) → entries_of items ≡ strategy
    → i < length strategy → e ≡ get_or items i e → slice_get (entries_of items) i ≡ Some (entry_of e)
read_entry items strategy i e same low is = grind (arith, found_entry, entries_size)

-- ---- an owner's digits, from the first entry on

-- with the digits of the entries before place i, the owner's number is this
pub record Owes (items : List Entry) (row : List Value) (number i : ℕ) : Type 0 where
  pub within : HasWorkers (entries_of items)
  pub owner : number * workers_of (behind items i) + owner_from i (behind items i) (full_row row)
      ≡ owner_of (entries_of items) (full_row row)

horner : (n p w a r : ℕ) → (n * p + a) * w + r ≡ n * (p * w) + (a * w + r)
horner n p w a r = omega (arith, add-mul (n * p) a w, mul_assoc n p w)

module _ (items : List Entry) (row : List Value) (number i : ℕ) (owes : Owes items row number i) (e : Entry)
    (low : i < length items) (is : e ≡ get_or items i e) where
  abbrev own : ℕ
  own = owner_of (entries_of items) (full_row row)

  abbrev w : ℕ
  w = workers_of (behind items (i + 1))

  pub owes_next : (a : ℕ) → a ≡ strategy_part (entry_of e) (full_row row i)
      → Owes items row (number * parts_of (entry_of e) + a) (i + 1)
  owes_next a part = grind (arith, entry_next, horner)

pub owes_bound : (items : List Entry) (row : List Value) (number i : ℕ) → Owes items row number i → number < max_workers
owes_bound items row number i owes =
    let some = some_behind items i owes.within.some in
    let up = up_to number (workers_of (behind items i)) some in
    let below = one_owner (entries_of items) (full_row row) owes.within.some in
    omega (arith, up, below, owes.owner, owes.within.few)
  where
    some_behind : (items : List Entry) (i : ℕ) → 0 < workers_of (entries_of items) → 0 < workers_of (behind items i)
    some_behind items zero some = some
    some_behind [] (suc i) some = some
    some_behind (e ∷ items) (suc i) some =
        some_behind items i (both_some (parts_of (entry_of e)) (workers_of (entries_of items)) some).1

pub owes_parts : (items : List Entry) (row : List Value) (number i : ℕ) → Owes items row number i → (e : Entry)
    → i < length items → e ≡ get_or items i e → (0 < parts_of (entry_of e)) × (parts_of (entry_of e) ≤ max_workers)
    × (number * parts_of (entry_of e) ≤ max_workers * max_workers)
owes_parts items row number i owes e low is = grind (arith, has_parts, found_entry, owes_bound, mul-le)

-- ---- a worker's digits, from the first entry on

-- the worker has these digits in the places behind the entries before place i, which the row lies in
pub record Nears (items : List Entry) (vs : List ℕ) (v : Valuation) (k digits place i : ℕ) : Type 0 where
  pub places : place ≡ workers_of (behind items i)
  pub low : digits < place
  pub near : near_from i (behind items i) digits vs v ≡ near_of (entries_of items) k vs v

module _ (items : List Entry) (vs : List ℕ) (v : Valuation) (k digits place i : ℕ)
    (nears : Nears items vs v k digits place i) (e : Entry) (low : i < length items) (is : e ≡ get_or items i e) where
  abbrev pub others : ℕ
  others = workers_of (behind items (i + 1))

  product : place ≡ parts_of (entry_of e) * others
  product = nears.places ∙ ap workers_of (entry_next items i e low is)

  positive : (0 < parts_of (entry_of e)) × (0 < others)
  positive = both_some (parts_of (entry_of e)) others (omega (arith, product, nears.low))

  pub divides : place / parts_of (entry_of e) ≡ others
  divides = ap (λ n. n / parts_of (entry_of e)) product ∙ mul-div_cancel_left others positive.0

  pub some_others : 0 < place / parts_of (entry_of e)
  some_others = subst (λ n. 0 < n) (sym divides) positive.1

  abbrev lies : ℕ → Bool
  lies n = not (among i vs) || nat_eq (strategy_part (entry_of e) (v i)) (digits / n)

  both : (lies others && near_from (i + 1) (behind items (i + 1)) (digits % others) vs v)
      ≡ near_of (entries_of items) k vs v
  both = rw (entry_next items i e low is) at nears.near

  pub nears_next : lies (place / parts_of (entry_of e)) ≡ true
      → Nears items vs v k (digits % (place / parts_of (entry_of e))) (place / parts_of (entry_of e)) (i + 1)
  nears_next here = search (divides, mod_below, some_others, both)

  pub nears_not : lies (place / parts_of (entry_of e)) ≡ false → false ≡ near_of (entries_of items) k vs v
  nears_not other = rw (rw divides at other) at both
