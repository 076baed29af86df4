-- The first numbers that pass a test, digit by digit.
use Rattle.std.proofs.Common.{◌≡◌, ◌∙◌, ap, sym, refl, subst, arith, ℕ, ◌+◌, ◌*◌, ◌/◌, ◌%◌, ◌<◌, ◌≤◌, Bool, true, false}
use Rattle.std.proofs.Common.{◌&&◌, ◌||◌, not, nat_eq, List, length, get_or, ◌⊎◌, inl, inr, Option, Some, None, IfSome}
use Rattle.std.proofs.lemmas.Bool.{and_from, cases_eq, cases_lt}
use Rattle.std.proofs.{Math.Nat.div-lt_iff_lt-mul, Math.Nat.mul-div_cancel_left, Math.Bool.and-false}
use Rattle.std.proofs.lemmas.Nat.{div-mul-add, mod-mul-add, mod_below, div-add-mod'}
use Rattle.std.specs.Option.{unwrap_or}
use Rattle.mfotl_model.proofs.LogicLemmas.{funext}
use Rattle.mfotl_model.specs.{FreeVariables.among, Regions.near_from, Satisfaction.Valuation}
use Rattle.mfotl_model.specs.Strategies.{parts_of, strategy_part, workers_of}
use Rattle.slice_strategy.proofs.EntryLemmas.{behind, entry_next}
use Rattle.slice_strategy.specs.declared.entry.Entry.{Entry}
use Rattle.slice_strategy.specs.{Entries.entries_of, Entries.entry_of, Slicers.NoneFrom, Slicers.end_of}
use Rattle.slice_strategy.specs.Nearest.{IsNearest, may_be, next_number, raised}
use Rattle.slice_strategy.specs.SlicerLemmas.{below_product, both_some, same_number}

-- a smaller digit makes a smaller number
lower : (a b place r s : ℕ) → a < b → r < place → a * place + r < b * place + s
lower a b place r s low small = let h = below_product a b place r low small in omega (arith, h)

-- of two numbers in order, the digits are in order
digits_up : (a b place r s : ℕ) → r < place → s < place → a * place + r ≤ b * place + s → a ≤ b
digits_up a b place r s rs ss h =
    elim (cases_lt b a) [
      | inl above ↦ let e = lower b a place s r above ss in absurd (omega (arith, h, e))
      | inr up ↦ up
    ]

-- a digit passes one test, and the rest another
abbrev pub passes : (ℕ → Bool) → (ℕ → Bool) → ℕ → ℕ → Bool
passes high low place k = high (k / place) && low (k % place)

module _ (high low : ℕ → Bool) (parts place digit rest : ℕ) (some : 0 < place) (inside : rest < place)
    (within : digit < parts) where
  abbrev both : ℕ → Bool
  both = passes high low place

  joined : (a r : ℕ) → r < place → high a ≡ true → low r ≡ true → both (a * place + r) ≡ true
  joined a r small is lies =
      and_from (high ((a * place + r) / place)) (low ((a * place + r) % place))
      (ap high (div-mul-add a place r small) ∙ is) (ap low (mod-mul-add a place r small) ∙ lies)

  apart : (k : ℕ) → (high (k / place) ≡ false) ⊎ (low (k % place) ≡ false) → both k ≡ false
  apart k (inl no_digit) = ap (λ b. b && low (k % place)) no_digit
  apart k (inr no_rest) = ap (λ b. high (k / place) && b) no_rest ∙ and-false (high (k / place))

  module _ (first : ℕ) (least : ℕ) (next above : Option ℕ) (below : IsNearest low rest place least next)
      (first_low : first < parts) (first_near : high first ≡ true) (first_first : NoneFrom 0 first high)
      (above_found : IfSome above (λ d. (digit < d) × (d < parts) × (high d ≡ true)))
      (above_first : NoneFrom (digit + 1) (end_of parts above) high) where
    -- none has a lower digit that is near, or a lower rest behind this one
    none_before : (d from : ℕ) → NoneFrom from d high → (k : ℕ) → from ≤ k / place → k < d * place + least
        → both k ≡ false
    none_before d from none k up low_k =
        let is = div-add-mod' k place in
        let small = mod_below k place some in
        let at_most = digits_up (k / place) d place (k % place) least small below.low (omega (arith, is, low_k)) in
        elim (cases_eq (k / place) d) [
          | inl same ↦
              let e = ap (λ n. n * place + k % place) same in
              apart k (inr (below.least_first (k % place) (omega arith) (omega (arith, is, e, low_k))))
          | inr other ↦ apart k (inl (none (k / place) up (omega (arith, at_most, other))))
        ]

    -- none of those with this digit that aren't below the rest
    abbrev StaysFalse : Type 0
    StaysFalse = (k : ℕ) → k / place ≡ digit → rest ≤ k % place → both k ≡ false

    raised_found : IfSome (raised place least above)
        (λ k. (digit * place + rest ≤ k) × (k < parts * place) × (both k ≡ true))
    raised_found = by above above_found
      where
        by : (o : Option ℕ) → IfSome o (λ d. (digit < d) × (d < parts) × (high d ≡ true))
            → IfSome (raised place least o) (λ k. (digit * place + rest ≤ k) × (k < parts * place) × (both k ≡ true))
        by None h = tt
        by (Some d) h =
            let up = lower digit d place rest least h.0 inside in (
              omega (arith, up),
              below_product d parts place least h.1 below.low,
              joined d least below.low h.2 below.near,
            )

    -- with this digit, or a higher one
    by_digit : (k : ℕ) → digit * place + rest ≤ k → (k / place ≡ digit → rest ≤ k % place → both k ≡ false)
        → (digit + 1 ≤ k / place → both k ≡ false) → both k ≡ false
    by_digit k from stays higher =
        let is = div-add-mod' k place in
        let up = digits_up digit (k / place) place rest (k % place) inside (mod_below k place some)
        (omega (arith, is, from)) in
        elim (cases_eq (k / place) digit) [
          | inl same ↦
              let e = ap (λ n. n * place + k % place) same in
              stays same (omega (arith, is, e, from))
          | inr other ↦ higher (omega (arith, up, other))
        ]

    raised_first : StaysFalse → NoneFrom (digit * place + rest) (end_of (parts * place) (raised place least above)) both
    raised_first stays = by above above_first
      where
        by : (o : Option ℕ) → NoneFrom (digit + 1) (end_of parts o) high
            → NoneFrom (digit * place + rest) (end_of (parts * place) (raised place least o)) both
        by None none k from to =
            by_digit k from (stays k)
            (λ up. apart k (inl (none (k / place) up ((div-lt_iff_lt-mul {k = place} {x = k} {y = parts} some).1 to))))
        by (Some d) none k from to = by_digit k from (stays k) (λ up. none_before d (digit + 1) none k up to)

    stay_none : next ≡ None → StaysFalse
    stay_none is k same up =
        let small = mod_below k place some in apart k (inr (below.next_first (k % place) up (rw is small)))

    pub next_numbers : (stays : Bool) → stays ≡ high digit
        → IsNearest both (digit * place + rest) (parts * place) (first * place + least)
        (next_number stays digit place least next above)
    next_numbers stays is =
        record {
          low = below_product first parts place least first_low below.low;
          near = joined first least below.low first_near below.near;
          least_first = λ k from to. none_before first 0 first_first k (omega arith) to;
          found = found_by stays next is below.found;
          next_first = first_by stays next is refl;
        }
      where
        found_by : (b : Bool) (o : Option ℕ) → b ≡ high digit
            → IfSome o (λ k. (rest ≤ k) × (k < place) × (low k ≡ true))
            → IfSome (next_number b digit place least o above)
            (λ k. (digit * place + rest ≤ k) × (k < parts * place) × (both k ≡ true))
        found_by true (Some n) e h = (
          omega (arith, h.0),
          below_product digit parts place n within h.1,
          joined digit n h.1 (sym e) h.2,
        )
        found_by true None e h = raised_found
        found_by false o e h = raised_found

        first_by : (b : Bool) (o : Option ℕ) → b ≡ high digit → next ≡ o
            → NoneFrom (digit * place + rest) (end_of (parts * place) (next_number b digit place least o above)) both
        first_by true (Some n) e at = λ k from to.
            let small : n < place = (rw at at below.found).1 in
            by_digit k from
            (λ same up.
            let is = div-add-mod' k place in
            let e = ap (λ m. m * place + k % place) same in
            apart k (inr (below.next_first (k % place) up (rw at (omega (arith, is, e, to))))))
            (λ higher.
            let is = div-add-mod' k place in
            let m = lower digit (k / place) place n (k % place) (omega (arith, higher)) small in
            absurd (omega (arith, m, is, to)))
        first_by true None e at = raised_first (stay_none at)
        first_by false o e at = raised_first (λ k same up. apart k (inl (ap high same ∙ sym e)))

held_low : (held : Option ℕ) (parts : ℕ) → 0 < parts → IfSome held (λ a. a < parts) → unwrap_or held 0 < parts
held_low None parts some h = some
held_low (Some a) parts some h = h

held_near : (held : Option ℕ) → may_be held (unwrap_or held 0) ≡ true
held_near None = refl
held_near (Some a) = same_number a

held_first : (held : Option ℕ) → NoneFrom 0 (unwrap_or held 0) (may_be held)
held_first None k from to = absurd (omega arith)
held_first (Some a) k from to = search arith

module _ (items : List Entry) (e : Entry) (vs : List ℕ) (v : Valuation) (y place from : ℕ) (held above : Option ℕ)
    (least : ℕ) (next : Option ℕ) (any : 0 < length items) (is : e ≡ get_or items 0 e)
    (places : place ≡ workers_of (entries_of items)) (inside : from < place) (parts : ℕ)
    (parts_is : parts ≡ parts_of (entry_of e)) where
  abbrev others : ℕ
  others = workers_of (behind items 1)

  product : place ≡ parts * others
  product = places ∙ ap workers_of (entry_next items 0 e any is) ∙ ap (λ n. n * others) (sym parts_is)

  positive : (0 < parts) × (0 < others)
  positive = both_some parts others (omega (arith, product, inside))

  divides : place / parts ≡ others
  divides = ap (λ n. n / parts) product ∙ mul-div_cancel_left others positive.0

  pub digit_inside : from / (place / parts) < parts
  digit_inside =
      rw divides ((div-lt_iff_lt-mul {k = others} {x = from} {y = parts} positive.1).1 (omega (arith, product, inside)))

  pub nearest_next : IsNearest (λ k. near_from (y + 1) (behind items 1) k vs v) (from % (place / parts)) (place / parts)
      least next → ((d : ℕ) → may_be held d ≡ (not (among y vs) || nat_eq (strategy_part (entry_of e) (v y)) d))
      → IfSome held (λ a. a < parts_of (entry_of e))
      → IfSome above (λ d. (from / (place / parts) < d) × (d < parts) × (may_be held d ≡ true))
      → NoneFrom (from / (place / parts) + 1) (end_of parts above) (may_be held)
      → IsNearest (λ k. near_from y (entries_of items) k vs v) from place (unwrap_or held 0 * (place / parts) + least)
      (next_number (may_be held (from / (place / parts))) (from / (place / parts)) (place / parts) least next above)
  nearest_next below digits low found first =
      let w = place / parts in
      let some : 0 < w = subst (λ n. 0 < n) (sym divides) positive.1 in
      let stays = may_be held (from / w) in
      let number = unwrap_or held 0 * w + least in
      let answer = next_number stays (from / w) w least next above in
      let rest : ℕ → Bool = λ k. near_from (y + 1) (behind items 1) k vs v in
      let all = next_numbers (may_be held) rest parts w (from / w) (from % w) some (mod_below from w some) digit_inside
      (unwrap_or held 0) least next above below (held_low held parts positive.0
      (subst (λ n. IfSome held (λ a. a < n)) (sym parts_is) low)) (held_near held) (held_first held)
      found first stays refl in
      let test = passes (may_be held) rest w in
      let same : test ≡ (λ k. near_from y (entries_of items) k vs v) =
      funext test (λ k. near_from y (entries_of items) k vs v)
      (λ k. rw (digits (k / w), divides, entry_next items 0 e any is)) in
      let count : parts * w ≡ place = ap (λ n. parts * n) divides ∙ sym product in
      subst (λ t. IsNearest t from place number answer) same
      (subst (λ n. IsNearest test from n number answer) count
      (subst (λ n. IsNearest test n (parts * w) number answer) (div-add-mod' from w) all))
