-- Steps of worlds one after the other, and a run of items taken.
use Rattle.std.proofs.Common.{◌≡◌, ◌≢◌, ℕ, zero, suc, ◌+◌, ◌<◌, ◌≤◌, List, [], ◌∷◌, ◌++◌, length, take, drop, replicate}
use Rattle.std.proofs.Common.{refl, ap, ◌∙◌, append_assoc, append-nil, arith, take-add, suc-add}
use Rattle.std.proofs.Math.Nat.{add-zero}
use Rattle.rescale_core.proofs.CellLemmas.{seat_here, seat_else, seat_same}
use Rattle.rescale_core.proofs.{DriverLemmas.driver_on, Soundness.step_sound, WorldLemmas.supplies_length}
use Rattle.rescale_worker.proofs.{Leading.answers_more}
use Rattle.rescale_core.specs.Moving.{StepKind, DriverMoves, Reaches, lines_of}
use Rattle.rescale_core.specs.{Moving.StepKind.Takes, Soundly.IsSound, Worlds.Step.Take}
use Rattle.rescale_worker.specs.{Phases.Answers}
use Rattle.rescale_core.specs.Worlds.{World, Allowed, Seat, world_after, line_in, took_one}
use Rattle.rescale_core.specs.declared.{driver.Driver.Driver}
use Rattle.rescale_worker.specs.declared.{item.Out.Out}

-- ---- steps, one after the other

pub reaches_on : (a b : List StepKind) (w x y : World) → Reaches w a x → Reaches x b y → Reaches w (a ++ b) y
reaches_on [] b w x y r s = rw r s
reaches_on (k ∷ a) b w x y r s = (r.0, r.1, reaches_on a b r.0 x y r.2 s)

pub moves_none : (d e : Driver) → e.router ≡ d.router → lines_of e ≡ lines_of d → DriverMoves d [] e
moves_none d e r m = λ w is. (w, refl, driver_on d e w w is m refl refl (λ q. refl) (rw r is.router))

-- ---- a run of items taken

-- the seat with so many items taken more
abbrev pub took_more : Seat → ℕ → List Out → Seat
took_more s n outs = record s { taken = s.taken + n; outs = s.outs ++ outs }

-- only this worker's seat has moved
pub record Took (w : World) (k n : ℕ) (outs : List Out) (seats : ℕ → Seat) : Type 0 where
  pub here : seats k ≡ took_more (w.seats k) n outs
  pub others : (q : ℕ) → q ≢ k → seats q ≡ w.seats q
  pub fed : (q : ℕ) → (seats q).fed ≡ (w.seats q).fed
  pub collected : (q : ℕ) → (seats q).collected ≡ (w.seats q).collected
  pub sound : IsSound (record w { seats = seats })

next_due : {A : Type 0} (t : ℕ) (xs : List A) → t < length xs → (d : A) × (drop t xs ≡ d ∷ drop (t + 1) xs)
next_due t [] h = absurd (omega arith)
next_due zero (x ∷ xs) h = (x, refl)
next_due (suc t) (x ∷ xs) h = rw suc-add (next_due t xs (omega arith))

took_none : (s : Seat) (outs : List Out) → outs ≡ [] → s ≡ took_more s 0 outs
took_none s outs e = simp (e, append-nil, add-zero)

took_on : (s : Seat) (n : ℕ) (a b outs : List Out) → outs ≡ a ++ b
    → took_more (took_one s a) n b ≡ took_more s (suc n) outs
took_on s n a b outs e = let h : s.taken + 1 + n ≡ s.taken + suc n = omega arith in simp (e, h, append_assoc)

pub takes_all : (n : ℕ) (w : World) (k : ℕ) (outs : List Out) → IsSound w
    → (w.seats k).taken + n ≤ length (w.seats k).fed
    → Answers w.core k (take n (drop (w.seats k).taken (line_in w k))) outs
    → (seats : ℕ → Seat) × Reaches w (replicate n (Takes k)) (record w { seats = seats }) × Took w k n outs seats
takes_all zero w k outs r room a = grind (arith, took_none (w.seats k) outs a)
takes_all (suc n) w k outs r room a =
    let seat : Seat = w.seats k in
    let long : length seat.fed ≤ length (line_in w k) =
    supplies_length w.core k w.pieces (line_in w k) seat.fed (r.seated k).supplied in
    let due = next_due seat.taken (line_in w k) (omega arith) in
    let cut : Answers w.core k (due.0 ∷ take n (drop (seat.taken + 1) (line_in w k))) outs = rw due.1 at a in
    let one : Seat = took_one seat cut.0 in
    let allowed : Allowed w (Take k cut.0) = (
      omega arith,
      rw (take-add seat.taken 1 (line_in w k), due.1)
          (answers_more w.core k (take seat.taken (line_in w k)) due.0 seat.outs cut.0 (r.seated k).answers cut.3),
    ) in
    let here = seat_here w k one in
    let on = takes_all n (world_after w (Take k cut.0)) k cut.1 (step_sound w (Take k cut.0) r allowed)
    (rw here (omega arith)) (rw here cut.4) in (
      on.0,
      (world_after w (Take k cut.0), (cut.0, allowed, refl), on.1),
      record {
        here = on.2.here ∙ ap (λ s. took_more s n cut.1) here ∙ took_on seat n cut.0 cut.1 outs cut.2;
        others = λ q m. on.2.others q m ∙ seat_else w k q one m;
        fed = λ q. on.2.fed q ∙ seat_same (λ s. s.fed) w k one q refl;
        collected = λ q. on.2.collected q ∙ seat_same (λ s. s.collected) w k one q refl;
        sound = on.2.sound;
      },
    )

-- ---- a router doesn't see what is taken
