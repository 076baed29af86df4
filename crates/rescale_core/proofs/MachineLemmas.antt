-- A machine's calls are steps of worlds.
use Rattle.std.proofs.Common.{◌≡◌, ◌≢◌, ℕ, suc, ◌+◌, ◌<◌, ◌≤◌, Some, List, [], ◌∷◌, ◌++◌, length, get_or, set, sym}
use Rattle.std.proofs.Common.{refl, ap, ◌∙◌, subst, append-nil, append_assoc, arith, length-append, length-set}
use Rattle.std.proofs.lemmas.Bool.Decides.{nat_tests}
use native.Mathlib.Decide.{ℕ_discrete}
use Rattle.monitor_state.specs.declared.state.Piece.{Piece}
use Rattle.verdict_merge.specs.declared.{rows.Rows.Rows, rows.Verdict.Verdict}
use Rattle.rescale_core.proofs.{Soundness.step_sound, Verdicts.step_verdicts, WorldLemmas.spot_more}
use Rattle.rescale_core.proofs.{WorldLemmas.supplies_length}
use Rattle.rescale_core.specs.Cells.{Applies, AreWithin, IsCellAt, IsCellOf, IsMachineOf, CellTakes}
use Rattle.rescale_core.specs.{Laws.EmitsVerdicts, Routing.HasTaken, Routing.IsRouterOf, Handing.nth}
use Rattle.rescale_worker.specs.Lines.{AreSound, MayRead, first_spot, moved}
use Rattle.rescale_core.specs.Worlds.{World, Allowed, Seat, world_after, all_collected, fed_more, line_in, not_back}
use Rattle.rescale_core.specs.Worlds.{pieces_in, rows_in, set_seat, spot_in, took_one}
use Rattle.rescale_core.specs.Worlds.Step.{Read, Feed, Take, Collect, Emit}
use Rattle.rescale_core.specs.declared.{step.Applied.Applied, step.Applied.TheVariants.Did}
use Rattle.rescale_core.specs.declared.{step.Applied.TheVariants.NotEnabled, cell.Cell.Cell}
use Rattle.rescale_worker.specs.declared.{item.Entry.Entry, item.Item.Item, item.Out.Out}
use Rattle.rescale_core.specs.declared.{router.Router.Router, machine.Machine.Machine}
use Rattle.rescale_core.specs.declared.step.Step.TheVariants as step
use Rattle.rescale_core.proofs.CellLemmas.{nth_here, nth_set, nth_else, line_none, seed_in, seat_else, same_cell}
use Rattle.rescale_core.proofs.CellLemmas.{within_front, seat_here}

-- ---- one seat's steps

module _ (m n : Machine) (entries : List Entry) (w : World) (is : IsMachineOf m entries w) (k : ℕ) (new : Cell)
    (cells : n.cells.items ≡ set m.cells.items k new) (left : n.left.items ≡ m.left.items)
    (verdicts : n.verdicts.items ≡ m.verdicts.items) where
  same_number : length n.cells.items ≡ length m.cells.items
  same_number = ap length cells ∙ length-set m.cells.items k new

  -- a world that differs in the seat of the cell, and in what was collected
  machine_moved : (seats : ℕ → Seat) (pieces : List Piece) (rows : List Rows)
      → ((j : ℕ) → j ≢ k → seats j ≡ w.seats j) → IsCellAt (seed_in w k) (seats k) new
      → IsRouterOf n.router (record w { seats = seats; pieces = pieces; rows = rows })
      → EmitsVerdicts (record w { seats = seats; pieces = pieces; rows = rows })
      → IsMachineOf n entries (record w { seats = seats; pieces = pieces; rows = rows })
  machine_moved seats pieces rows others here router given = record {
    entries_are = ap (λ x. w.read ++ x) left ∙ is.entries_are;
    left = rw left is.left;
    within = rw same_number is.within;
    router = router;
    wide = rw same_number is.wide;
    cells = λ j cell e. at j cell (rw cells at e) (ℕ_discrete j k);
    emitted = is.emitted ∙ sym verdicts;
    verdicts = given;
  }
    where
      at : (j : ℕ) (cell : Cell) → nth (set m.cells.items k new) j ≡ Some cell → Dec (j ≡ k)
          → IsCellAt (seed_in w j) (seats j) cell
      at j cell e (yes same) =
          let found = nth_set m.cells.items k new cell (rw same at e) in
          rw (same, ← found) here
      at j cell e (no other) =
          rw (others j other) (is.cells j cell (sym (nth_else m.cells.items k j new other) ∙ e))

  pub machine_fed : (item : Item) → Allowed w (Feed k item) → IsCellOf (world_after w (Feed k item)) k new
      → IsRouterOf n.router (world_after w (Feed k item)) → IsMachineOf n entries (world_after w (Feed k item))
  machine_fed item may cell router =
      machine_moved (set_seat w.seats k (fed_more (w.seats k) item)) w.pieces w.rows
      (λ j other. seat_else w k j (fed_more (w.seats k) item) other) cell router
      (step_verdicts w (Feed k item) is.router.sound may is.verdicts)

  pub machine_took : (gave : List Out) → Allowed w (Take k gave) → IsCellOf (world_after w (Take k gave)) k new
      → IsRouterOf n.router (world_after w (Take k gave)) → IsMachineOf n entries (world_after w (Take k gave))
  machine_took gave may cell router =
      machine_moved (set_seat w.seats k (took_one (w.seats k) gave)) w.pieces w.rows
      (λ j other. seat_else w k j (took_one (w.seats k) gave) other) cell router
      (step_verdicts w (Take k gave) is.router.sound may is.verdicts)

  pub machine_collected : Allowed w (Collect k) → IsCellOf (world_after w (Collect k)) k new
      → IsRouterOf n.router (world_after w (Collect k)) → IsMachineOf n entries (world_after w (Collect k))
  machine_collected may cell router =
      machine_moved (set_seat w.seats k (all_collected (w.seats k))) (w.pieces ++ pieces_in (not_back (w.seats k)))
      (w.rows ++ rows_in (not_back (w.seats k))) (λ j other. seat_else w k j (all_collected (w.seats k)) other) cell
      router (step_verdicts w (Collect k) is.router.sound may is.verdicts)

  -- nothing happened
  pub machine_kept : IsCellOf w k new → IsRouterOf n.router w → IsMachineOf n entries w
  machine_kept cell router = machine_moved w.seats w.pieces w.rows (λ j other. refl) cell router is.verdicts

-- a router stands for the world in which a worker took an item
pub router_took : (r : Router) (w : World) (k : ℕ) (gave : List Out) → IsRouterOf r w → Allowed w (Take k gave)
    → IsRouterOf r (world_after w (Take k gave))
router_took r w k gave is may =
    record {
      core = is.core;
      generation = is.generation;
      strategy = is.strategy;
      points = is.points;
      wide = is.wide;
      queues = λ q. rw (fed q) (is.queues q);
      standings = λ q. rw (fed q) (is.standings q);
      counted = is.counted;
      outstanding = λ q. rw (fed q, back q) (is.outstanding q);
      sound = step_sound w (Take k gave) is.sound may;
      gather = is.gather;
    }
  where
    fed : (q : ℕ) → (set_seat w.seats k (took_one (w.seats k) gave) q).fed ≡ (w.seats q).fed
    fed q = grind (arith, nat_tests)

    back : (q : ℕ) → (set_seat w.seats k (took_one (w.seats k) gave) q).collected ≡ (w.seats q).collected
    back q = grind (arith, nat_tests)

-- the cell at a worker's number is the worker's
pub cell_at : {m : Machine} {entries : List Entry} {w : World} → IsMachineOf m entries w → (k : ℕ) (cell : Cell)
    → k < length m.cells.items → cell ≡ get_or m.cells.items k cell → IsCellOf w k cell
cell_at {m} is k cell low here = is.cells k cell (nth_here m.cells.items k cell low here)

-- a worker's cell that has nothing to take, or takes one
pub machine_takes : (m n : Machine) (k : ℕ) (old new : Cell) (applied : Applied) → k < length m.cells.items
    → old ≡ get_or m.cells.items k old → n.cells.items ≡ set m.cells.items k new → n.left.items ≡ m.left.items
    → n.verdicts.items ≡ m.verdicts.items → n.router ≡ m.router → CellTakes old applied new
    → Applies m (step.Take k) applied n
machine_takes m n k old new Did low here cells left verdicts router t = λ entries w is.
    let r = t w k is.router.sound (cell_at is k old low here) in (
      world_after w (Take k r.0),
      (r.0, r.1, refl),
      machine_took m n entries w is k new cells left verdicts r.0 r.1 r.2
          (rw router (router_took m.router w k r.0 is.router r.1)),
    )
machine_takes m n k old new NotEnabled low here cells left verdicts router t = λ entries w is.
    let c = cell_at is k old low here in (
      (λ h.
          let e : length (w.seats k).fed ≡ length c.before =
          ap length (c.fed ∙ ap (λ x. c.before ++ x) t.0 ∙ append-nil c.before) in
          let n = c.count in
          omega arith),
      machine_kept m n entries w is k new cells left verdicts (t.1 w k c) (rw router is.router),
    )

-- a worker's cell that has nothing to collect
pub machine_uncollected : (m n : Machine) (k : ℕ) (old new : Cell) → k < length m.cells.items
    → old ≡ get_or m.cells.items k old → n.cells.items ≡ set m.cells.items k new → n.left.items ≡ m.left.items
    → n.verdicts.items ≡ m.verdicts.items → n.router ≡ m.router → old.taken ≡ 0 → new.items.items ≡ old.items.items
    → new.worker ≡ old.worker → new.taken ≡ old.taken → new.outs.items ≡ old.outs.items
    → Applies m (step.Collect k) NotEnabled n
machine_uncollected m n k old new low here cells left verdicts router none items worker taken outs = λ entries w is.
    let c = cell_at is k old low here in (
      (λ h. (let t = c.taken in omega arith)),
      machine_kept m n entries w is k new cells left verdicts (same_cell w k old new c items worker taken outs)
          (rw router is.router),
    )

-- what a cell holds of what was given may be collected
pub cell_has_taken : (w : World) (k : ℕ) (old : Cell) (n : ℕ) (outs : List Out) → IsCellOf w k old → n ≡ old.taken
    → outs ≡ old.outs.items → HasTaken w k n outs
cell_has_taken w k old n outs is taken given =
    record {
      taken = is.taken ∙ ap (λ x. (w.seats k).collected + x) (sym taken);
      gave = is.outs ∙ ap (λ x. (w.seats k).back ++ x) (sym given);
    }

-- a worker's cell of which all is collected
pub machine_collects : (m n : Machine) (k : ℕ) (old new : Cell) (taken : ℕ) (outs : List Out)
    → k < length m.cells.items → old ≡ get_or m.cells.items k old → n.cells.items ≡ set m.cells.items k new
    → n.left.items ≡ m.left.items → n.verdicts.items ≡ m.verdicts.items → (taken ≡ 0 → ⊥) → taken ≡ old.taken
    → outs ≡ old.outs.items → new.items.items ≡ old.items.items → new.worker ≡ old.worker → new.taken ≡ 0
    → new.outs.items ≡ []
    → ((w : World) → IsRouterOf m.router w → HasTaken w k taken outs → IsRouterOf n.router (world_after w (Collect k)))
    → Applies m (step.Collect k) Did n
machine_collects m n k old new taken outs low here cells left verdicts some has given items worker none empty router =
    λ entries w is.
    let c = cell_at is k old low here in
    let h = cell_has_taken w k old taken outs c has given in
    let may : Allowed w (Collect k) = (let t = h.taken in omega (arith, some)) in (
      world_after w (Collect k),
      (may, refl),
      machine_collected m n entries w is k new cells left verdicts may
          (grind (arith, seat_here, append-nil)) (router w is.router h),
    )

-- ---- reading and emitting

pub machine_read : (m n : Machine) (entries : List Entry) (w : World) (e : Entry) → IsMachineOf m entries w
    → m.left.items ≡ e ∷ n.left.items → n.cells.items ≡ m.cells.items → n.verdicts.items ≡ m.verdicts.items
    → (MayRead w.core (spot_in w) e → IsRouterOf n.router (world_after w (Read e)))
    → Allowed w (Read e) × IsMachineOf n entries (world_after w (Read e))
machine_read m n entries w e is left cells verdicts router =
    let sound : AreSound w.core (spot_in w) (e ∷ n.left.items) =
    subst (AreSound w.core (spot_in w)) left is.left in
    let spot : spot_in (world_after w (Read e)) ≡ moved (spot_in w) e =
    spot_more (first_spot w.first) w.read (e ∷ []) in (
      sound.0,
      record {
        entries_are = append_assoc w.read (e ∷ []) n.left.items ∙ ap (λ x. w.read ++ x) (sym left)
            ∙ is.entries_are;
        left = rw spot sound.1;
        within = rw cells is.within;
        router = router sound.0;
        wide = rw cells is.wide;
        cells = λ j c e. is.cells j c (rw cells at e);
        emitted = is.emitted ∙ sym verdicts;
        verdicts = step_verdicts w (Read e) is.router.sound sound.0 is.verdicts;
      },
    )

-- the next entry may be read
pub next_may : (m : Machine) (entries : List Entry) (w : World) (e : Entry) (rest : List Entry)
    → IsMachineOf m entries w → m.left.items ≡ e ∷ rest → MayRead w.core (spot_in w) e
next_may m entries w e rest is left = (subst (AreSound w.core (spot_in w)) left is.left).0

pub machine_emitted : (m n : Machine) (entries : List Entry) (w : World) (v : Verdict) → IsMachineOf m entries w
    → n.left.items ≡ m.left.items → n.cells.items ≡ m.cells.items → n.verdicts.items ≡ m.verdicts.items ++ v ∷ []
    → Allowed w (Emit v) → IsRouterOf n.router (world_after w (Emit v)) → IsMachineOf n entries (world_after w (Emit v))
machine_emitted m n entries w v is left cells verdicts may router =
    record {
      entries_are = ap (λ x. w.read ++ x) left ∙ is.entries_are;
      left = rw left is.left;
      within = rw cells is.within;
      router = router;
      wide = rw cells is.wide;
      cells = λ j c e. is.cells j c (rw cells at e);
      emitted = ap (λ x. x ++ v ∷ []) is.emitted ∙ sym verdicts;
      verdicts = step_verdicts w (Emit v) is.router.sound may is.verdicts;
    }

-- ---- beyond the cells

module _ (m : Machine) (entries : List Entry) (w : World) (is : IsMachineOf m entries w) (k : ℕ)
    (beyond : length m.cells.items ≤ k) where
  none_due : line_in w k ≡ []
  none_due =
      line_none k (length m.cells.items) w.read (first_spot w.first)
      (within_front (length m.cells.items) w.read m.left.items
      (subst (AreWithin (length m.cells.items)) (sym is.entries_are) is.within)) is.wide beyond

  none_fed : length (w.seats k).fed ≤ 0
  none_fed =
      let l = supplies_length w.core k w.pieces (line_in w k) (w.seats k).fed (is.router.sound.seated k).supplied in
      let e : length (line_in w k) ≡ 0 = ap length none_due in
      omega arith

  pub no_feed : (item : Item) → Allowed w (Feed k item) → ⊥
  no_feed item may =
      let none : length (w.seats k).fed ≡ 0 = (let h = none_fed in omega arith) in
      let clash = rw (none_due, none) at may.1 in
      cc

  pub no_take : (w.seats k).taken < length (w.seats k).fed → ⊥
  no_take h = let n = none_fed in omega arith

  pub no_collect : Allowed w (Collect k) → ⊥
  no_collect h = let n = none_fed in let t = (is.router.sound.seated k).taken in omega arith

-- the only one of at most one item
pub one_item : (items before : List Item) (item : Item) → items ≡ before ++ item ∷ [] → length items ≤ 1
    → items ≡ item ∷ []
one_item items [] item e few = e
one_item items (x ∷ before) item e few =
    let l : length items ≡ suc (length (before ++ item ∷ [])) = ap length e in
    let m : length (before ++ item ∷ []) ≡ length before + 1 = length-append before (item ∷ []) in
    absurd (omega arith)
