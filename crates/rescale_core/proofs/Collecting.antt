-- What holds of worlds still does where outs are collected.
use Rattle.std.proofs.Common.{◌≡◌, ◌≢◌, ℕ, ◌-◌, ◌<◌, ◌≤◌, Bool, true, false, nat_eq, Option, List, [], ◌++◌}
use Rattle.std.proofs.Common.{length, filter, map, take, drop, sym, ap, ◌∙◌, subst, append-nil, arith, eq-eqb, take-add}
use Rattle.std.proofs.Common.{take-append-drop}
use Rattle.std.proofs.{lemmas.List.Elements.filter-append, Math.Seq.drop-append_seam, Permutation.every_append}
use Rattle.std.proofs.{lemmas.Grind.common_steps}
use Rattle.monitor_state.specs.{Verdicts.settled_in}
use Rattle.monitor_state.specs.declared.state.Piece.{Piece}
use Rattle.rescale_core.proofs.{Fitting.every_map, Fitting.every_filter, SeatLemmas.at_seat}
use Rattle.rescale_core.proofs.Pieces.{all_pass, answers_came, answers_cut, answers_lone, Came, changes_apart}
use Rattle.rescale_core.proofs.Pieces.{distinct_lone, every_behind, every_front, last_more, last_rises, none_pass}
use Rattle.rescale_core.proofs.Pieces.{pieces_more, rises_apart}
use Rattle.rescale_core.proofs.Rowing.{Ascends, ascends_apart, ascends_weak, CameRow, IsSliceFrom, last_ascends}
use Rattle.rescale_core.proofs.Rowing.{last_level_more, line_ascends, line_slices, rows_came, rows_lone, rows_more}
use Rattle.rescale_core.proofs.WorldLemmas.{supplies_pieces, AreChanges, Rises, line_rises, line_changes}
use Rattle.rescale_worker.specs.Lines.{ChangeOfStrategy, Due, first_spot}
use Rattle.rescale_core.specs.Soundly.{change_of, last_part, last_level, IsSeated, IsSound}
use Rattle.rescale_core.specs.{Handing.for_place, Worlds.Step.Collect}
use Rattle.rescale_worker.specs.{Phases.Answers}
use Rattle.rescale_core.specs.Worlds.{pieces_in, World, Seat, line_in, set_seat, all_collected, world_after, slice_at}
use Rattle.rescale_core.specs.Worlds.{rows_in}
use Rattle.std.specs.List.{AllByRecursion}
use Rattle.mfotl_model.specs.Numbers.{Apart}
use Rattle.verdict_merge.specs.Gathers.{rows_at}
use Rattle.rescale_worker.specs.declared.item.Out.{Out}
use Rattle.verdict_merge.specs.declared.rows.Rows.{Rows}

-- ---- what workers give

-- what worker k alone gave is all its own
all_own : {A : Type 0} (by : A → ℕ) (k : ℕ) (xs : List A) → AllByRecursion (λ x. by x ≡ k) xs
    → filter (λ x. nat_eq (by x) k) xs ≡ xs
all_own by k xs a = all_pass (λ x. nat_eq (by x) k) xs (every_map _ _ xs (λ x e. eq-eqb (by x) k e) a)

-- and nothing of it another's
none_other : {A : Type 0} (by : A → ℕ) (k q : ℕ) (xs : List A) → nat_eq q k ≡ false
    → AllByRecursion (λ x. by x ≡ k) xs → filter (λ x. nat_eq (by x) q) xs ≡ []
none_other by k q xs other a = grind (arith, none_pass, every_map)

-- with at most one more that passes a test, all that pass it are still of workers that differ
one_more : {A : Type 0} (by : A → ℕ) (test : A → Bool) (P Q : A → Type 0) (xs ys : List A) → AllByRecursion P xs
    → AllByRecursion Q ys → ((x y : A) → P x → Q y → test x ≡ true → test y ≡ true → by x ≢ by y)
    → Apart (map by (filter test xs)) → length (filter test ys) ≤ 1 → Apart (map by (filter test (xs ++ ys)))
one_more by test P Q xs ys a b differ d l = grind (arith, filter-append, distinct_lone, every_map, every_filter)

-- ---- collecting

module _ (w : World) (k : ℕ) (r : IsSound w) where
  abbrev st : Seat
  st = w.seats k

  abbrev ds : List Due
  ds = line_in w k

  abbrev old : List Due
  old = take st.collected ds

  abbrev seg : List Due
  seg = take (st.taken - st.collected) (drop st.collected ds)

  abbrev f : ℕ → Option ChangeOfStrategy
  f = change_of (first_spot w.first) w.read

  abbrev fr : ℕ → Option Due
  fr = slice_at (first_spot w.first) w.read

  abbrev lo : ℕ
  lo = last_part 0 old

  abbrev hi : ℕ
  hi = last_part 0 (take st.taken ds)

  abbrev rlo : ℕ
  rlo = last_level w.core 0 old

  abbrev rhi : ℕ
  rhi = last_level w.core 0 (take st.taken ds)

  abbrev more : List Out
  more = (r.seated k).more.0

  abbrev ps : List Piece
  ps = pieces_in (drop (length st.back) st.outs)

  abbrev rs : List Rows
  rs = rows_in (drop (length st.back) st.outs)

  cut : take st.taken ds ≡ old ++ seg
  cut = grind (arith, take-add st.collected (st.taken - st.collected) ds)

  -- what holds of each front of the line
  front : (P : List Due → Type 0) → ((xs ys : List Due) → P (xs ++ ys) → P xs) → P ds → P (old ++ seg)
  front P less h = subst P cut
      (less (take st.taken ds) (drop st.taken ds) (subst P (sym (take-append-drop st.taken ds)) h))

  rest_is : drop (length st.back) st.outs ≡ more
  rest_is = ap (drop (length st.back)) (r.seated k).more.1 ∙ drop-append_seam st.back more

  answered : Answers w.core k seg more
  answered = grind (arith, answers_cut, cut)

  -- ---- pieces
  rises : Rises lo seg
  rises = (rises_apart 0 old seg (front (Rises 0) (λ xs ys h. (rises_apart 0 xs ys h).0)
      (line_rises k w.read (first_spot w.first)))).1

  changes : AreChanges f seg
  changes = (changes_apart f old seg (front (AreChanges f) (λ xs ys h. (changes_apart f xs ys h).0)
      (line_changes k w.read (first_spot w.first)))).1

  hi_is : last_part lo seg ≡ hi
  hi_is = sym (ap (last_part 0) cut ∙ last_more 0 old seg)

  came : AllByRecursion (Came f w.core k lo hi) ps
  came = grind (arith, hi_is, rest_is, answers_came, rises, changes, answered)

  lone : (g q : ℕ) → length (for_place g q ps) ≤ 1
  lone g q = rw rest_is (answers_lone f w.core k lo g q seg more rises changes answered)

  -- an old piece of this worker is of an earlier generation
  pieces_apart : (g q : ℕ) → Apart (map (λ (p : Piece). p.from) (for_place g q (w.pieces ++ ps)))
  pieces_apart g q = grind (arith, one_more, came, lone)

  -- ---- and rows
  ascends : Ascends w.core rlo seg
  ascends = (ascends_apart w.core 0 old seg (front (Ascends w.core 0) (λ xs ys h. (ascends_apart w.core 0 xs ys h).0)
      (ascends_weak w.core 0 (settled_in w.core []) ds (omega arith)
      (line_ascends w.core k w.read (first_spot w.first) r.read)))).1

  slices : AllByRecursion (IsSliceFrom fr 0 k) seg
  slices = grind (arith, common_steps, every_behind, front, every_front, line_slices)

  rhi_is : last_level w.core rlo seg ≡ rhi
  rhi_is = sym (ap (last_level w.core 0) cut ∙ last_level_more w.core 0 old seg)

  rcame : AllByRecursion (CameRow fr w.core k rlo rhi) rs
  rcame = subst (λ n. AllByRecursion (CameRow fr w.core k rlo n) rs) rhi_is
      (rw rest_is (rows_came fr w.core k 0 rlo rlo seg more (omega arith) ascends slices answered))

  rlone : (i : ℕ) → length (rows_at i rs) ≤ 1
  rlone i = rw rest_is (rows_lone fr w.core k 0 rlo i seg more ascends slices answered)

  rows_apart : (i : ℕ) → Apart (map (λ (x : Rows). x.worker) (rows_at i (w.rows ++ rs)))
  rows_apart i = grind (arith, one_more, rcame, rlone)

  -- ---- how much was collected
  abbrev next : ℕ → Seat
  next = set_seat w.seats k (all_collected st)

  -- what is known by how much of a worker was collected, and grows with it
  raised : (P : ℕ → ℕ → Type 0) → (P k st.collected → P k st.taken) → (q : ℕ) → P q (w.seats q).collected
      → P q (next q).collected
  raised P up = grind arith

  seated_kept : (q : ℕ) → nat_eq q k ≡ false → IsSeated (world_after w (Collect k)) q (w.seats q)
  seated_kept q other = let s = r.seated q in
      let no_rows = none_other (λ (x : Rows). x.worker) k q rs other (every_map _ _ rs (λ x h. h.worker) rcame) in
      let no_parts = none_other (λ (p : Piece). p.from) k q ps other (every_map _ _ ps (λ p h. h.from) came) in record {
        supplied = supplies_pieces w.core q w.pieces ps (line_in w q) (w.seats q).fed s.supplied;
        taken = s.taken;
        collected = s.collected;
        answers = s.answers;
        back = s.back;
        more = s.more;
        rows = rw (filter-append (λ (x : Rows). nat_eq x.worker q) w.rows rs, no_rows, append-nil) s.rows;
        pieces = rw (filter-append (λ (p : Piece). nat_eq p.from q) w.pieces ps, no_parts, append-nil) s.pieces;
      }

  seated_collected : IsSeated (world_after w (Collect k)) k (all_collected st)
  seated_collected = let s = r.seated k in
      let all_rows = all_own (λ (x : Rows). x.worker) k rs (every_map _ _ rs (λ x h. h.worker) rcame) in
      let all_pieces = all_own (λ (p : Piece). p.from) k ps (every_map _ _ ps (λ p h. h.from) came) in record {
        supplied = supplies_pieces w.core k w.pieces ps ds st.fed s.supplied;
        taken = s.taken;
        collected = omega arith;
        answers = s.answers;
        back = s.answers;
        more = ([], sym (append-nil st.outs));
        rows = rw (filter-append (λ (x : Rows). nat_eq x.worker k) w.rows rs, s.rows, all_rows, rest_is)
            (sym (ap rows_in s.more.1 ∙ rows_more st.back more));
        pieces = rw (filter-append (λ (p : Piece). nat_eq p.from k) w.pieces ps, s.pieces, all_pieces, rest_is)
            (sym (ap pieces_in s.more.1 ∙ pieces_more st.back more));
      }

  pub collect_sound : IsSound (world_after w (Collect k))
  collect_sound = record {
    first = r.first;
    read = r.read;
    seated = at_seat (IsSeated (world_after w (Collect k))) w.seats k (all_collected st) seated_kept seated_collected;
    known = every_append _ w.pieces ps r.known (every_map _ _ ps (λ p h. h.known) came);
    distinct = pieces_apart;
    past = let up : lo ≤ last_part lo seg = last_rises lo seg rises in
        let e : last_part lo seg ≡ hi = hi_is in
        every_append _ w.pieces ps
        (every_map _ _ w.pieces (λ p h. raised (λ q n. p.generation ≤ last_part 0 (take n (line_in w q)))
        (λ low. (omega arith)) p.from h) r.past)
        (every_map _ _ ps (λ p h. (grind arith)) came);
    rows_known = every_append _ w.rows rs r.rows_known (every_map _ _ rs (λ x h. h.known) rcame);
    rows_apart = rows_apart;
    rows_past = let up : rlo ≤ last_level w.core rlo seg = last_ascends w.core rlo seg ascends in
        let e : last_level w.core rlo seg ≡ rhi = rhi_is in
        every_append _ w.rows rs
        (every_map _ _ w.rows (λ x h. raised (λ q n. x.point < last_level w.core 0 (take n (line_in w q)))
        (λ low. (omega arith)) x.worker h) r.rows_past)
        (every_map _ _ rs (λ x h. (grind arith)) rcame);
  }
