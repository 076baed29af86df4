-- The rule of UNTIL's data, row by row, and from the rows to the rule.
use Rattle.std.proofs.Common.{◌≡◌, ℕ, ◌<◌, Bool, true, ◌&&◌, nat_le, nat_lt, List, [], ◌∷◌, length, map, refl, ap}
use Rattle.std.proofs.Common.{arith}
use Rattle.std.proofs.{lemmas.Bool.and_parts, lemmas.Bool.Decides.nat_tests, lemmas.List.length-map}
use Rattle.std.proofs.{lemmas.List.Folds.list_all-map}
use Rattle.std.specs.{List.AllByRecursion, List.list_all, List.Sorted.IsStrictlySortedBy, Map.keys_of, Ordering.nat_cmp}
use Rattle.std.specs.{Prelude.min}
use Rattle.std.specs.declared.cmp.Ordering.TheVariants.{Less}
use Rattle.mfotl_model.specs.declared.value.Value.{Value}
use Rattle.relations.specs.KeptRows.{list_for}
use Rattle.until_rows.specs.{Recalled.entries_kept, Recalled.entry_at, Rules.PlacesAscend}
use Rattle.until_rows.specs.declared.{entries.Entry.Entry, recalled.KeptMarks.KeptMarks, recalled.Mark.Mark}
use Rattle.monitor_state.specs.{StateStands.marks_kept, JoinedRows.RowsUnion, JoinedRows.marks_joined}
use Rattle.state_merge.proofs.{KeepingLemmas.marks_all, PutLemmas.less_is, PutLemmas.marks_ascend}
use Rattle.state_merge.specs.Pairs.{MarksAscend}
use Rattle.monitor_state.proofs.MarkLemmas.{entries_are}

-- ---- marks and their entries

-- whether a mark is one for a position that was taken and not pulled
abbrev waits : ℕ → ℕ → Mark → Bool
waits pulled taken m = nat_le pulled m.place && nat_lt m.place taken && nat_le m.start m.place

lesser_waits : (pulled taken : ℕ) (m k : Mark) → waits pulled taken m ≡ true → waits pulled taken k ≡ true
    → waits pulled taken (record { place = k.place; start = min m.start k.start }) ≡ true
lesser_waits pulled taken m k wm wk = grind (arith, nat_tests)

module _ (pulled : ℕ) (next : List ℕ) where
  abbrev entries : List KeptMarks → List (List Value × List Entry)
  entries rows = entries_kept pulled next rows

  abbrev entry : Mark → Entry
  entry = entry_at pulled next

  abbrev all_wait : ℕ → List Entry → Bool
  all_wait taken es = list_all (λ e. nat_le pulled e.place && nat_lt e.place taken && nat_le e.start e.place) es

  pub same_keys : (rows : List KeptMarks) → keys_of (entries rows) ≡ keys_of (marks_kept rows)
  same_keys [] = refl
  same_keys (k ∷ ks) = ap (λ rows. k.row ∷ rows) (same_keys ks)

  pub some_marks : (rows : List KeptMarks) → AllByRecursion (λ (r : List Value × List Entry). 0 < length r.1)
      (entries rows) → AllByRecursion (λ (r : List Value × List Mark). 0 < length r.1) (marks_kept rows)
  some_marks [] all = tt
  some_marks (k ∷ ks) all = (rw (length-map k.marks.items entry) at all.0, some_marks ks all.1)

  pub some_entries : (rows : List KeptMarks) → AllByRecursion (λ (r : List Value × List Mark). 0 < length r.1)
      (marks_kept rows) → AllByRecursion (λ (r : List Value × List Entry). 0 < length r.1) (entries rows)
  some_entries [] all = tt
  some_entries (k ∷ ks) all = (rw (length-map k.marks.items entry) all.0, some_entries ks all.1)

  behind_marks : (p : ℕ) (ms : List Mark) → list_all (λ (f : Entry). nat_lt p f.place) (map entry ms) ≡ true
      → AllByRecursion (λ q. nat_cmp p q ≡ Less) (map (λ (m : Mark). m.place) ms)
  behind_marks p [] all = tt
  behind_marks p (m ∷ ms) all =
      let parts = and_parts (nat_lt p m.place) (list_all (λ (f : Entry). nat_lt p f.place) (map entry ms)) all in
      (rw parts.0 refl, behind_marks p ms parts.1)

  behind_entries : (p : ℕ) (ms : List Mark) → AllByRecursion (λ q. nat_cmp p q ≡ Less) (map (λ (m : Mark). m.place) ms)
      → list_all (λ (f : Entry). nat_lt p f.place) (map entry ms) ≡ true
  behind_entries p [] all = refl
  behind_entries p (m ∷ ms) all = rw (less_is p m.place all.0, behind_entries p ms all.1) refl

  pub marks_places : (ms : List Mark) → PlacesAscend (map entry ms) → MarksAscend ms
  unfolding IsStrictlySortedBy
  marks_places [] up = tt
  marks_places (m ∷ ms) up = (behind_marks m.place ms up.0, marks_places ms up.1)

  places_marks : (ms : List Mark) → MarksAscend ms → PlacesAscend (map entry ms)
  unfolding IsStrictlySortedBy
  places_marks [] up = tt
  places_marks (m ∷ ms) up = (behind_entries m.place ms up.0, places_marks ms up.1)

  -- ---- what both keep together

  module _ (a b c : List KeptMarks) (union : RowsUnion marks_joined (marks_kept a) (marks_kept b) (marks_kept c))
      (u : List Value) where
    -- what holds of the entries of both, and of those of their marks joined, holds of those of the union
    entries_joined : (P : List Entry → Type 0)
        → ((ms ns : List Mark) → P (map entry ms) → P (map entry ns) → P (map entry (marks_joined ms ns)))
        → P (list_for (entries a) u) → P (list_for (entries b) u) → P (list_for (entries c) u)
    entries_joined P join x y = grind (arith, entries_are)

    pub none_joined : list_for (entries a) u ≡ [] → list_for (entries b) u ≡ [] → list_for (entries c) u ≡ []
    none_joined = entries_joined (λ es. es ≡ []) by
      where
        by : (ms ns : List Mark) → map entry ms ≡ [] → map entry ns ≡ [] → map entry (marks_joined ms ns) ≡ []
        by [] ns x y = y
        by (m ∷ ms) ns x y = absurd cc

    pub waits_joined : (taken : ℕ) → all_wait taken (list_for (entries a) u) ≡ true
        → all_wait taken (list_for (entries b) u) ≡ true → all_wait taken (list_for (entries c) u) ≡ true
    waits_joined taken =
        let test : Entry → Bool = λ e. nat_le pulled e.place && nat_lt e.place taken && nat_le e.start e.place in
        entries_joined (λ es. list_all test es ≡ true)
        (λ ms ns x y. rw (list_all-map test entry (marks_joined ms ns))
        (marks_all (waits pulled taken) (lesser_waits pulled taken) ms ns (rw (list_all-map test entry ms) at x)
        (rw (list_all-map test entry ns) at y)))

    pub places_joined : PlacesAscend (list_for (entries a) u) → PlacesAscend (list_for (entries b) u)
        → PlacesAscend (list_for (entries c) u)
    places_joined =
        entries_joined PlacesAscend (λ ms ns x y. places_marks (marks_joined ms ns)
        (marks_ascend ms ns (marks_places ms x) (marks_places ns y)))
