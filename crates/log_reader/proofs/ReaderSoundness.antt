-- What a reader keeps true of the bytes, the offset and what was read before it.
use Rattle.std.proofs.Common.{◌≡◌, ℕ, ◌+◌, ◌-◌, ◌≤◌, Bool, true, false, cond, List, [], ◌∷◌, ◌++◌, length, drop, nat_lt}
use Rattle.std.proofs.Common.{None, Result, Ok, Err, refl, sym, ap, ap₂, subst, ◌∙◌, arith, append_assoc, append-nil}
use Rattle.std.proofs.{lemmas.Bool.cond_both, lemmas.Bool.ltb-false, Math.Seq.drop-append_seam, Math.Seq.take-nil}
use Rattle.std.proofs.lemmas.List.{length-drop, length-append, length-take, drop-drop, take_all, nil_from_length}
use Rattle.mfotl_lex.specs.{Blanks.blank_len, Places.Place, Scans.log_scan}
use Rattle.mfotl_lex.specs.Lexemes.{Tokens, next_token, tokens}
use Rattle.mfotl_lex.specs.declared.kind.Mode.TheVariants.{Log}
use Rattle.mfotl_model.specs.declared.event.TimePoint.{TimePoint}
use Rattle.mfotl_sig.specs.Preds.{PredOf}
use Rattle.log_reader.specs.declared.{fault.LogFault.LogFault, fault.LogFault.TheVariants.TooLong}
use Rattle.log_reader.specs.declared.{fault.LogFault.TheVariants.Memory, limits.Limits.Limits, next.Next.Next}
use Rattle.log_reader.specs.declared.{next.Next.TheVariants.Point, next.Next.TheVariants.More, stage.Stage.Stage}
use Rattle.log_reader.specs.declared.stage.Stage.TheVariants.{Between, AfterStamp, AfterClose}
use Rattle.log_reader.specs.Cursors.{IsCounted, open_count, given_of, Leads, behind_answer}
use Rattle.log_reader.specs.Partials.{Partial, nothing_read, point_of, finished}
use Rattle.log_reader.specs.Progress.{answer_of, skipped}
use Rattle.log_reader.specs.Readings.{Reading, Ending, NoFault, fault_only, behind, behind_tokens, run, run_from}
use Rattle.log_reader.specs.Readings.{is_long, finish_at, nothing_behind, nothing_left, place_at, reading}
use Rattle.log_reader.specs.Soundness.{Remains, StandsForLog, IsInStretch, StandsForSomeLog, StandsOn, CountsOn}
use Rattle.log_reader.specs.Stretches.{Stretch, Waits, stretch_end, with_piece, looked_at, is_end_told, stretch_place}
use Rattle.log_reader.specs.Stretches.{forgotten}
use Rattle.log_reader.specs.Stretches as stretches
use Rattle.log_reader.proofs.StretchLemmas.{further, place_grown, later_told, behind_place, behind_end, shortened_end}
use Rattle.log_reader.proofs.StretchLemmas.{shortened_place}
use Rattle.log_reader.proofs.{TokenPlaces.none_run, TokenSteps.later_self}

-- behind the first time-points of a reading comes the rest
skip_more : (n : ℕ) (points : List TimePoint) (all rest : Reading) → skipped n all ≡ behind points rest
    → skipped (n + length points) all ≡ rest
skip_more n points all rest e =
    ap₂ (λ (ps : List TimePoint) (end : Ending). record { points = ps; ending = end })
    (sym (drop-drop (length points) n all.points) ∙ ap (drop (length points)) (ap (λ (r : Reading). r.points) e)
    ∙ drop-append_seam points rest.points)
    (ap (λ (r : Reading). r.ending) e)

-- ---- the end of the bytes

-- the end was told, and the present time-point is whole
record Whole (limits : Limits) (len : ℕ) (ended : Bool) (p : Partial) : Type 0 where
  pub told : ended ≡ true
  pub here : nothing_behind limits len ended p ≡ record { points = point_of p ∷ []; ending = NoFault }
  pub begun : open_count p.stage ≡ 1
  pub behind : nothing_behind limits len ended (finished p) ≡ record { points = []; ending = NoFault }

whole_at : (len : ℕ) (stage : Stage) (p : Partial) (point : TimePoint)
    → answer_of true (finish_at len p stage) ≡ Ok (Point point)
    → (finish_at len p stage ≡ record { points = point_of p ∷ []; ending = NoFault })
    × (open_count stage ≡ 1)
whole_at len AfterStamp p point e = (refl, refl)
whole_at len AfterClose p point e = (refl, refl)
whole_at len _ p point e = absurd cc

whole_by : (limits : Limits) (len : ℕ) (long ended : Bool) (p : Partial) (point : TimePoint)
    → nat_lt limits.bytes len ≡ long
    → answer_of ended (nothing_behind limits len ended p) ≡ Ok (Point point) → Whole limits len ended p
whole_by limits len true ended p point l e = absurd (cc (rw l at e))
whole_by limits len false false p point l e = absurd (cc (rw l at e))
whole_by limits len false true p point l e =
    let whole = whole_at len p.stage p point (rw l at e) in
    record { told = refl; here = rw l whole.0; begun = whole.1; behind = rw l refl }

-- more is asked for only of bytes within the limit whose end isn't told
record Asks (limits : Limits) (len : ℕ) (ended : Bool) : Type 0 where
  pub short : nat_lt limits.bytes len ≡ false
  pub untold : ended ≡ false

asks_by : (limits : Limits) (len : ℕ) (long ended : Bool) (p : Partial) (stage : Stage)
    → nat_lt limits.bytes len ≡ long
    → Ok More ≡ answer_of ended (cond long (fault_only (TooLong limits.bytes))
    (cond ended (finish_at len p stage) (record { points = []; ending = NoFault }))) → Asks limits len ended
asks_by limits len true ended p stage l e = absurd cc
asks_by limits len false false p stage l e = record { short = l; untold = refl }
asks_by limits len false true p Between l e = absurd cc
asks_by limits len false true p _ l e = absurd cc

moves : {sig : List PredOf} {limits : Limits} {log : List ℕ} {later : Bool} {given : ℕ} {p q : Partial}
    {place place' : Place} (points : List TimePoint) → Remains sig limits log later given p place
    → run_from sig limits (nothing_left limits log later) p place
    ≡ behind points (run_from sig limits (nothing_left limits log later) q place')
    → Remains sig limits log later (given + length points) q place'
moves {sig} {limits} {log} {later} {given} {p} {q} {place} {place'} points r e =
    let all = reading sig limits log later in
    let len : length (drop given all.points)
    ≡ length points + length (run_from sig limits (nothing_left limits log later) q place').points =
    ap (λ (x : Reading). length x.points) (r.rest ∙ e) ∙ length-append points _ in
    record {
      rest = skip_more given points all _ (r.rest ∙ e);
      few = omega (arith, len, r.few, length-drop given all.points);
    }

module _ (sig : List PredOf) (limits : Limits) (log : List ℕ) where
  module _ (is_ended : Bool) (s : Stretch) (given : ℕ) where
    -- what remains now
    pub remains_now : (at : ℕ) (p : Partial) → StandsForLog sig limits is_ended given s at p log
        → Remains sig limits log is_ended given p (stretch_place limits s is_ended at)
    remains_now at p st = rw (append-nil log, append-nil s.bytes) at (st.remains [] is_ended (later_self is_ended))

    pub stands_leads : (at at' : ℕ) (p q : Partial) (points : List TimePoint)
        → at ≤ length (looked_at limits s) → StandsForLog sig limits is_ended given s at p log
        → Leads sig limits s.from (looked_at limits s) (is_end_told limits s is_ended) at p points at' q
        → StandsForLog sig limits is_ended (given + length points) s at' q log
    stands_leads at at' p q points within st l = record {
      len = st.len;
      remains = λ more later is.
          let last = nothing_left limits (log ++ more) later in
          let on : run_from sig limits last p (stretch_place limits (with_piece s more) later at)
          ≡ behind points (run_from sig limits last q (stretch_place limits (with_piece s more) later at')) =
          ap (run_from sig limits last p) (place_grown limits s is_ended later more at within)
          ∙ l.reads (further limits s more) (is_end_told limits (with_piece s more) later)
          (later_told limits s is_ended later more is) last
          ∙ ap (λ (place : Place). behind points (run_from sig limits last q place))
          (sym (place_grown limits s is_ended later more at' l.within)) in
          moves points (st.remains more later is) on;
    }

    -- behind the last time-point, which the end completes
    stands_last : (at : ℕ) (p : Partial) → StandsForLog sig limits is_ended given s at p log
        → next_token (stretch_place limits s is_ended at) ≡ Ok None
        → Whole limits (stretch_end s) is_ended p → StandsForLog sig limits is_ended (given + 1) s at (finished p) log
    stands_last at p st empty w = record {
      len = st.len;
      remains = λ more later is.
          let none : (more ≡ []) × (later ≡ true) = rw w.told at is in
          rw (none.0, none.1, append-nil log, append-nil s.bytes) (rw w.told at last_point);
    }
      where
        ended_at : (q : Partial)
            → run_from sig limits (nothing_left limits log is_ended) q (stretch_place limits s is_ended at)
            ≡ nothing_behind limits (stretch_end s) is_ended q
        ended_at q =
            none_run sig limits (nothing_left limits log is_ended) q (stretch_place limits s is_ended at) empty
            ∙ ap (λ (n : ℕ). nothing_behind limits n is_ended q) st.len

        last_point : Remains sig limits log is_ended (given + 1) (finished p) (stretch_place limits s is_ended at)
        last_point = moves (point_of p ∷ []) (remains_now at p st) (ended_at p ∙ w.here
            ∙ ap (λ (r : Reading). behind (point_of p ∷ []) r) (sym (ended_at (finished p) ∙ w.behind)))

    -- what is due is what the rest gives
    pub due_rest : (at : ℕ) (p : Partial) → StandsForLog sig limits is_ended given s at p log
        → answer_of is_ended (skipped given (reading sig limits log is_ended)) ≡ answer_of is_ended
        (run_from sig limits (nothing_left limits log is_ended) p (stretch_place limits s is_ended at))
    due_rest at p st = ap (answer_of is_ended) (remains_now at p st).rest

    pub due_end : (at : ℕ) (p : Partial) → StandsForLog sig limits is_ended given s at p log
        → next_token (stretch_place limits s is_ended at) ≡ Ok None
        → answer_of is_ended (skipped given (reading sig limits log is_ended))
        ≡ answer_of is_ended (nothing_behind limits (stretch_end s) is_ended p)
    due_end at p st empty =
        due_rest at p st ∙ ap (answer_of is_ended)
        (none_run sig limits (nothing_left limits log is_ended) p (stretch_place limits s is_ended at) empty
        ∙ ap (λ (n : ℕ). nothing_behind limits n is_ended p) st.len)

  -- an answer at the end keeps what stands, and counts
  module _ (is_ended : Bool) (s : Stretch) (at : ℕ) (p : Partial) (counted : IsCounted p)
      (st : StandsForLog sig limits is_ended (given_of p) s at p log)
      (empty : next_token (stretch_place limits s is_ended at) ≡ Ok None) where
    pub stands_end : (q : Partial) (answer : Result Next LogFault)
        → answer ≡ answer_of is_ended (nothing_behind limits (stretch_end s) is_ended p) → q ≡ behind_answer p answer
        → StandsForLog sig limits is_ended (given_of q) s at q log
    stands_end q (Ok (Point point)) e is =
        let w = whole_by limits (stretch_end s) (nat_lt limits.bytes (stretch_end s)) is_ended p point refl (sym e) in
        let more : given_of (finished p) ≡ given_of p + 1 = omega (arith, w.begun, counted) in
        rw (is, more) (stands_last is_ended s (given_of p) at p st empty w)
    stands_end q _ e is = rw is st

  -- ---- bytes that come, and bytes that are done with

  -- a piece is fed
  pub stands_fed : (s : Stretch) (given at : ℕ) (p : Partial) (piece : List ℕ)
      → StandsForLog sig limits false given s at p log
      → StandsForLog sig limits false given (with_piece s piece) at p (log ++ piece)
  stands_fed s given at p piece st = record {
    len = omega (arith, st.len, length-append log piece, length-append s.bytes piece);
    remains = λ more later is.
        rw (append_assoc log piece more, append_assoc s.bytes piece more) (st.remains (piece ++ more) later tt);
  }

  -- the same tokens remain
  stands_place : (is_ended : Bool) (s s' : Stretch) (given at at' : ℕ) (p : Partial) → stretch_end s' ≡ stretch_end s
      → ((more : List ℕ) (later : Bool) → tokens (stretch_place limits (with_piece s' more) later at')
      ≡ tokens (stretch_place limits (with_piece s more) later at))
      → StandsForLog sig limits is_ended given s at p log → StandsForLog sig limits is_ended given s' at' p log
  stands_place is_ended s s' given at at' p end same st = record {
    len = st.len ∙ sym end;
    remains = λ more later is.
        let r = st.remains more later is in
        let last = nothing_left limits (log ++ more) later in
        record {
          rest = r.rest ∙ ap (λ (ts : Tokens). run sig limits (behind_tokens ts.fault last) p ts.list)
              (sym (same more later));
          few = r.few;
        };
  }

  -- what is done with isn't needed
  pub stands_forgotten : (is_ended : Bool) (s : Stretch) (given at : ℕ) (p : Partial) → Waits limits s at
      → StandsForLog sig limits is_ended given s at p log
      → StandsForLog sig limits is_ended given (forgotten s at) 0 p log
  stands_forgotten is_ended s given at p w st =
      let front = stretches.behind s at in
      let end : stretch_end front ≡ stretch_end s = behind_end limits s at w.within in
      let short : stretch_end front ≤ limits.bytes = omega (arith, end, w.short) in
      stands_place is_ended front (forgotten s at) given 0 0 p (shortened_end front)
      (shortened_place limits front w.bare short)
      (stands_place is_ended s front given at 0 p end
      (λ more later. ap tokens (behind_place limits s at w.within more later)) st)

-- the end counts as it answers
pub end_counts : (limits : Limits) (len : ℕ) (is_ended : Bool) (before : ℕ) (p q : Partial)
    (answer : Result Next LogFault) → IsCounted p
    → given_of p ≡ before + 0 → answer ≡ answer_of is_ended (nothing_behind limits len is_ended p)
    → q ≡ behind_answer p answer → CountsOn before answer (given_of q)
end_counts limits len is_ended before p q (Ok (Point point)) counted given e is =
    let w = whole_by limits len (nat_lt limits.bytes len) is_ended p point refl (sym e) in
    let more : given_of (finished p) ≡ before + 1 = omega (arith, w.begun, counted, given) in
    rw is more
end_counts limits len is_ended before p q (Err Memory) counted given e is = tt
end_counts limits len is_ended before p q _ counted given e is = rw is (omega (arith, given))

-- and it leaves a time-point that is begun counted
pub end_counted : (p q : Partial) (answer : Result Next LogFault) → IsCounted p → q ≡ behind_answer p answer
    → IsCounted q
end_counted p q (Ok (Point point)) counted is = rw is (omega arith)
end_counted p q _ counted is = rw is counted

-- where more is asked for, the reader waits
pub waits_by : (limits : Limits) (s : Stretch) (is_ended : Bool) (at : ℕ) (p : Partial)
    → at ≤ length (looked_at limits s) → next_token (stretch_place limits s is_ended at) ≡ Ok None
    → blank_len (is_end_told limits s is_ended) (drop at (looked_at limits s)) ≡ 0
    → Ok More ≡ answer_of is_ended (nothing_behind limits (stretch_end s) is_ended p) → Waits limits s at
waits_by limits s is_ended at p within empty bare e =
    let asks = asks_by limits (stretch_end s) (nat_lt limits.bytes (stretch_end s)) is_ended p p.stage refl e in
    let short : stretch_end s ≤ limits.bytes = ltb-false limits.bytes (stretch_end s) asks.short in
    let all : looked_at limits s ≡ s.bytes = take_all (limits.bytes - s.from) s.bytes (omega (arith, short)) in
    let untold : is_end_told limits s is_ended ≡ false = rw asks.untold refl in
    record {
      short = short;
      within = subst (λ (bytes : List ℕ). at ≤ length bytes) all within;
      bare = rw (untold, all) at bare;
      unshown = rw (untold, all) at empty;
    }

-- ---- the first bytes

first_place : (limits : Limits) (bytes : List ℕ) (ended : Bool)
    → stretch_place limits (record { from = 0; bytes = bytes }) ended 0 ≡ place_at limits bytes ended 0
first_place limits bytes ended =
    let all : limits.bytes - 0 ≡ limits.bytes = omega arith in
    let len : 0 + length bytes ≡ length bytes = omega arith in
    rw (all, len) refl

-- nothing was read of them
pub stands_start : (sig : List PredOf) (limits : Limits) (at : ℕ) (p : Partial) (bytes : List ℕ)
    → at ≡ 0 → p ≡ nothing_read → StandsForLog sig limits false 0 (record { from = 0; bytes = bytes }) at p bytes
unfolding reading
stands_start sig limits at p bytes e f = rw (e, f) (record {
  len = omega arith;
  remains = λ more later is. record {
    rest = ap (run_from sig limits (nothing_left limits (bytes ++ more) later) nothing_read)
        (sym (first_place limits (bytes ++ more) later));
    few = omega arith;
  };
})

nothing_there : (ended : Bool) → next_token (record { mode = Log; at = 0; rest = []; ended = ended }) ≡ Ok None
unfolding next_token blank_len log_scan
nothing_there ended = refl

no_points_read : (sig : List PredOf) (limits : Limits) → (reading sig limits [] false).points ≡ []
unfolding reading
no_points_read sig limits =
    let last = nothing_left limits [] false in
    let empty : next_token (place_at limits [] false 0) ≡ Ok None =
    rw (take-nil limits.bytes) (nothing_there false) in
    ap (λ (r : Reading). r.points) (none_run sig limits last nothing_read (place_at limits [] false 0) empty)
    ∙ cond_both (is_long limits []) _ _ (λ (r : Reading). r.points ≡ []) (λ _. refl) (λ _. refl)

-- of no bytes nothing was given
pub none_given : (sig : List PredOf) (limits : Limits) (is_ended : Bool) (given at : ℕ) (p : Partial) (log : List ℕ)
    (s : Stretch) → is_ended ≡ false → s ≡ record { from = 0; bytes = [] }
    → StandsForLog sig limits is_ended given s at p log → (log ≡ []) × (given ≡ 0)
none_given sig limits is_ended given at p log s untold none st =
    let len : length log ≡ 0 = st.len ∙ ap stretch_end none in
    let empty : log ≡ [] = nil_from_length log len in
    let few : given ≤ length (reading sig limits [] false).points =
    rw (empty, untold) at (remains_now sig limits log is_ended s given at p st).few in
    let none : length (reading sig limits [] false).points ≡ 0 = ap length (no_points_read sig limits) in
    (empty, omega (arith, few, none))

-- ---- what is kept true

-- of the first bytes
pub sound_start : (sig : List PredOf) (limits : Limits) (at : ℕ) (p : Partial) (bytes : List ℕ)
    → at ≡ 0 → p ≡ nothing_read → StandsForSomeLog sig limits false (record { from = 0; bytes = bytes }) at p
sound_start sig limits at p bytes e f = record {
  inside = rw (e, f) (record { within = omega arith; counted = omega arith });
  log = bytes;
  stands = rw f (stands_start sig limits at nothing_read bytes e refl);
}

-- of a piece more
pub sound_fed : (sig : List PredOf) (limits : Limits) (s : Stretch) (at : ℕ) (p : Partial) (piece : List ℕ)
    → StandsForSomeLog sig limits false s at p → StandsForSomeLog sig limits false (with_piece s piece) at p
sound_fed sig limits s at p piece sound = record {
  inside = record {
    within = omega (
      arith,
      sound.inside.within,
      length-take (limits.bytes - s.from) s.bytes,
      length-take (limits.bytes - s.from) (s.bytes ++ piece),
      length-append s.bytes piece,
    );
    counted = sound.inside.counted;
  };
  log = sound.log ++ piece;
  stands = stands_fed sig limits sound.log s (given_of p) at p piece sound.stands;
}

-- without what is done with
pub sound_forgotten : (sig : List PredOf) (limits : Limits) (is_ended : Bool) (s : Stretch) (at : ℕ) (p : Partial)
    → Waits limits s at → StandsForSomeLog sig limits is_ended s at p
    → StandsForSomeLog sig limits is_ended (forgotten s at) 0 p
sound_forgotten sig limits is_ended s at p w sound = record {
  inside = record { within = omega arith; counted = sound.inside.counted };
  log = sound.log;
  stands = stands_forgotten sig limits sound.log is_ended s (given_of p) at p w sound.stands;
}

-- behind an answer
pub sound_on : (sig : List PredOf) (limits : Limits) (is_ended : Bool) (s : Stretch) (at : ℕ) (p : Partial) (at' : ℕ)
    (q : Partial) → StandsForSomeLog sig limits is_ended s at p → StandsOn sig limits is_ended s at p at' q
    → IsInStretch limits s at' q → StandsForSomeLog sig limits is_ended s at' q
sound_on sig limits is_ended s at p at' q sound on inside = record {
  inside = inside;
  log = sound.log;
  stands = on sound.log sound.stands;
}

-- of no bytes nothing is done with
pub none_forgotten : (limits : Limits) (s : Stretch) (at : ℕ) → Waits limits s at → s ≡ record { from = 0; bytes = [] }
    → forgotten s at ≡ record { from = 0; bytes = [] }
none_forgotten limits s at w e =
    let none : at ≤ 0 = rw e at w.within in
    let here : at ≡ 0 = omega (arith, none) in
    rw (here, e) refl
