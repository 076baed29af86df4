-- The events of parts.
use Rattle.std.proofs.Common.{◌≡◌, ◌∙◌, ap, ap₂, sym, refl, arith, ℕ, zero, suc, ◌+◌, Bool, true, false, cond, List, []}
use Rattle.std.proofs.Common.{◌∷◌, ◌++◌, map, length, replicate, take, drop, append-nil}
use Rattle.std.proofs.{lemmas.List.drop_all, lemmas.List.take_all, lemmas.List.Elements.filter-append}
use Rattle.std.specs.BTreeSet.{insert_key}
use Rattle.std.specs.List.{filter, list_any, range_with_len}
use Rattle.mfotl_model.proofs.{AscendingLemmas.insert_behind, EventLemmas.events_filtered, RowLemmas.event_exact}
use Rattle.mfotl_model.proofs.{ColumnLemmas.read_own}
use Rattle.mfotl_model.proofs.LogicLemmas.{among_distinct, any_alike, any_map, funext, any_filter}
use Rattle.mfotl_model.specs.{Ascending.ascending, Events.event_cmp, Events.event_total, FreeVariables.variables_in}
use Rattle.mfotl_model.specs.{Matching.is_match, Matching.reads, Regions.Passes, Regions.Region, Slices.sees}
use Rattle.mfotl_model.specs.{Slices.slice}
use Rattle.mfotl_model.specs.declared.{event.Event.Event, event.TimePoint.TimePoint, term.Atom.Atom as OneAtom}
use Rattle.slice_strategy.specs.Sharing.{given_to}
use Rattle.event_splitter.specs.Parts.{with_event}
use Rattle.event_splitter.specs.Readings.{is_near, reading_of, readings_of, some_near}

module _ (free : List ℕ) (near : Region) (passes : Passes free near) where
  -- a region doesn't ask how often the variables stand there
  near_alike : (event : Event) (atom : OneAtom)
      → is_near near (reading_of event atom) ≡ near (variables_in atom.args) (reads atom event)
  near_alike event atom = grind (arith, among_distinct, read_own)

  -- a reading is near exactly where some atom sees the event
  near_sees : (atoms : List OneAtom) (event : Event)
      → list_any (is_near near) (readings_of atoms event) ≡ list_any (sees near event) atoms
  unfolding readings_of
  near_sees atoms event = simp (any_map, any_filter, any_alike, near_alike)

  -- the slice with one event more
  pub slice_more : (atoms : List OneAtom) (events : List Event) (event : Event)
      → slice near atoms (ascending event_cmp (events ++ event ∷ [])) ≡ cond (some_near (readings_of atoms event) near)
      (insert_key event_cmp (slice near atoms (ascending event_cmp events)) event)
      (slice near atoms (ascending event_cmp events))
  slice_more atoms events event =
      let some : Event → Bool = λ e. list_any (sees near e) atoms in
      sym (events_filtered some (events ++ event ∷ []))
      ∙ ap (ascending event_cmp) (filter-append some events (event ∷ []))
      ∙ by (some event)
      ∙ ap₂ (λ b db. cond b (insert_key event_cmp db event) db) (sym (near_sees atoms event))
      (events_filtered some events)
    where
      kept : List Event
      kept = filter (λ e. list_any (sees near e) atoms) events

      by : (b : Bool) → ascending event_cmp (kept ++ cond b (event ∷ []) [])
          ≡ cond b (insert_key event_cmp (ascending event_cmp kept) event) (ascending event_cmp kept)
      by true = sym (insert_behind event_total event_exact kept event)
      by false = ap (ascending event_cmp) (append-nil kept)

-- ---- one event after another

-- the worker's part where these are the events
abbrev pub part_of : (ℕ → Region) → List OneAtom → ℕ → List Event → ℕ → TimePoint
part_of near atoms ts events k = record { ts = ts; db = slice (near k) atoms (ascending event_cmp events) }

given_range : (test : ℕ → Bool) (event : Event) (f : ℕ → TimePoint) (y n : ℕ)
    → given_to (with_event event) test y (map f (range_with_len y n))
    ≡ map (λ k. cond (test k) (with_event event (f k)) (f k)) (range_with_len y n)
given_range test event f y zero = refl
given_range test event f y (suc n) = cc (given_range test event f (y + 1) n)

-- the parts with one event more
pub parts_more : (free : List ℕ) (near : ℕ → Region) → ((k : ℕ) → Passes free (near k))
    → (n ts : ℕ) (atoms : List OneAtom) (events : List Event) (event : Event)
    → given_to (with_event event) (λ k. some_near (readings_of atoms event) (near k)) 0
    (map (part_of near atoms ts events) (range_with_len 0 n))
    ≡ map (part_of near atoms ts (events ++ event ∷ [])) (range_with_len 0 n)
parts_more free near passes n ts atoms events event =
    given_range test event (part_of near atoms ts events) 0 n
    ∙ ap (λ f. map f (range_with_len 0 n))
    (funext (λ k. cond (test k) (with_event event (part_of near atoms ts events k)) (part_of near atoms ts events k))
    (part_of near atoms ts (events ++ event ∷ []))
    (λ k. by k (test k) (test_is k)))
  where
    test : ℕ → Bool
    test k = some_near (readings_of atoms event) (near k)

    test_is : (k : ℕ) → slice (near k) atoms (ascending event_cmp (events ++ event ∷ []))
        ≡ cond (test k) (insert_key event_cmp (slice (near k) atoms (ascending event_cmp events)) event)
        (slice (near k) atoms (ascending event_cmp events))
    test_is k = slice_more free (near k) (passes k) atoms events event

    by : (k : ℕ) (b : Bool) → slice (near k) atoms (ascending event_cmp (events ++ event ∷ []))
        ≡ cond b (insert_key event_cmp (slice (near k) atoms (ascending event_cmp events)) event)
        (slice (near k) atoms (ascending event_cmp events))
        → cond b (with_event event (part_of near atoms ts events k)) (part_of near atoms ts events k)
        ≡ part_of near atoms ts (events ++ event ∷ []) k
    by k true e = ap (λ db. record { ts = ts; db = db }) (sym e)
    by k false e = ap (λ db. record { ts = ts; db = db }) (sym e)

-- the parts with no event
pub parts_none : (near : ℕ → Region) (n ts : ℕ) (atoms : List OneAtom)
    → replicate n (record { ts = ts; db = [] }) ≡ map (part_of near atoms ts []) (range_with_len 0 n)
parts_none near n ts atoms = by 0 n
  where
    by : (a n : ℕ) → replicate n (record { ts = ts; db = [] }) ≡ map (part_of near atoms ts []) (range_with_len a n)
    by a zero = refl
    by a (suc n) = ap (λ ps. record { ts = ts; db = [] } ∷ ps) (by (a + 1) n)

-- the parts stay as many, so what is written back is all of them
pub written_back : (new old : List TimePoint) (count : ℕ) → length new ≡ length old → length old ≡ count
    → take count (new ++ drop (length new) old) ≡ new
written_back new old count same size = grind (arith, drop_all, append-nil, take_all)

-- ---- one atom after another

pub no_readings : (event : Event) → readings_of [] event ≡ []
unfolding readings_of
no_readings event = refl

pub atom_taken : (atom : OneAtom) (more : List OneAtom) (event : Event) → is_match atom event ≡ true
    → readings_of (atom ∷ more) event ≡ reading_of event atom ∷ readings_of more event
unfolding readings_of
atom_taken atom more event holds = rw holds refl

pub atom_left : (atom : OneAtom) (more : List OneAtom) (event : Event) → is_match atom event ≡ false
    → readings_of (atom ∷ more) event ≡ readings_of more event
unfolding readings_of
atom_left atom more event fails = rw fails refl
