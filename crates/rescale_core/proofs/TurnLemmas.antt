-- How a turn of main's moves the world.
use Rattle.std.proofs.Common.{◌≡◌, ◌≢◌, ℕ, zero, suc, List, [], ◌∷◌, ◌++◌, length, replicate, refl, sym, ap, ◌∙◌, subst}
use Rattle.std.proofs.Common.{append-nil, arith, length-append, length-set, slice_set}
use mathlib.Core.Option.{some, some-injective}
use lib.ListN.{get_elem?}
use Rattle.turn_hub.specs.{Answers.LooksOnce, Answers.MayHand, Answers.swapped_line, Ends.main_view, Words.main_turn}
use Rattle.turn_hub.proofs.Keeps.{within}
use Rattle.rescale_core.proofs.{CellLemmas.seat_else, CellLemmas.seat_here, FeedLemmas.handed_all}
use Rattle.rescale_core.proofs.DriverLemmas.{answered_last, driver_on, get_here, line_kept, lines_set, may_fed}
use Rattle.rescale_core.proofs.Taking.{Took, reaches_on, takes_all}
use Rattle.rescale_core.specs.Moving.{CellLine, HasTurn, IsDriverOf, DriverMoves, LookedAtItsTurn, Reaches}
use Rattle.rescale_core.specs.Moving.{collects, lines_of}
use Rattle.rescale_core.specs.Moving.StepKind.{Collects, Feeds, Takes}
use Rattle.rescale_core.specs.Routing.{HasTaken, IsRouterOf, feeds}
use Rattle.rescale_core.specs.{Soundly.IsSound, Worlds.Step.Collect, Worlds.Step.Feed}
use Rattle.rescale_worker.specs.{Seeds.SeedOf, Working.May, Works.MayBy, Works.ToldBy}
use Rattle.rescale_core.specs.Worlds.{World, Allowed, AreAllowed, Seat, all_collected, run_steps, world_after}
use Rattle.rescale_core.specs.declared.{driver.Driver.Driver, router.Router.Router}
use Rattle.rescale_worker.specs.declared.{item.Item.Item, item.Out.Out}

reaches_feeds : (items : List Item) (w : World) (k : ℕ) → AreAllowed w (feeds k items)
    → Reaches w (replicate (length items) (Feeds k)) (run_steps w (feeds k items))
reaches_feeds [] w k a = refl
reaches_feeds (i ∷ items) w k a =
    (world_after w (Feed k i), (i, a.0, refl), reaches_feeds items (world_after w (Feed k i)) k a.1)

-- ---- a cell that is swapped

-- the cell k had the n items that were handed over last, these outs came back, and these items are handed over
abbrev pub CellSwapped : Driver → ℕ → ℕ → List Out → List Item → Driver → Type 0
CellSwapped d k n outs items e =
    (l : CellLine) × (get_elem? (lines_of d) k ≡ some l) × (n ≡ l.last) × ToldBy l.seed l.handed (l.back ++ outs)
    × (lines_of e ≡ slice_set (lines_of d) k (swapped_line l outs items))

-- the same of a seat, where all that was taken is collected
record SeatSwapped (s t : Seat) (outs : List Out) (items : List Item) : Type 0 where
  fed : t.fed ≡ s.fed ++ items
  taken : t.taken ≡ length s.fed
  given : t.outs ≡ s.back ++ outs
  collected : t.collected ≡ length s.fed
  back : t.back ≡ s.back ++ outs

module _ (d e : Driver) (k n : ℕ) (outs : List Out) (items : List Item) (c : CellSwapped d k n outs items e) where
  -- main's view is that of a world in which no other seat has moved
  swapped : (w x : World) → IsDriverOf d w → x.core ≡ w.core → x.first ≡ w.first
      → ((q : ℕ) → q ≢ k → x.seats q ≡ w.seats q) → SeatSwapped (w.seats k) (x.seats k) outs items
      → IsRouterOf e.router x → IsDriverOf e x
  swapped w x is core first others s router =
      let il = is.lines k c.0 c.1 in
      let near = within (lines_of d) k c.0 c.1 in
      let same : length (lines_of e) ≡ length (lines_of d) = ap length c.4 ∙ length-set (lines_of d) k _ in
      record {
        router = router;
        lines = lines_set (lines_of d) (lines_of e) x k (swapped_line c.0 outs items) c.4 (record {
          seed = rw (core, first) il.seed;
          handed = rw (s.fed, il.handed);
          back = rw (s.back, il.back);
          outs = s.given ∙ sym s.back;
          taken = s.taken ∙ sym s.collected;
          last = rw (s.taken, s.fed, length-append) (omega arith);
          mine = refl;
        }) (λ q v other h. line_kept w x q v core first (others q other) (is.lines q v h));
        beyond = λ q high. others q (λ z. (omega arith)) ∙ is.beyond q (omega arith);
      }

  has_turn : items ≡ [] → HasTurn (lines_of e) k
  has_turn none = (swapped_line c.0 outs items, rw c.4 (get_here (lines_of d) k c.0 _ c.1), rw none, rw none)

  -- where nothing was handed over before, the items are handed over
  moves_over : c.0.last ≡ 0 → ((w : World) → IsRouterOf d.router w
      → AreAllowed w (feeds k items) × IsRouterOf e.router (run_steps w (feeds k items)))
      → DriverMoves d (replicate (length items) (Feeds k)) e
  moves_over zero_last moves w is =
      let m = moves w is.router in
      let h = handed_all items w k in
      let il = is.lines k c.0 c.1 in
      let none : outs ≡ [] = rw zero_last at (answered_last w k c.0 outs is.router.sound il c.3) in (
        run_steps w (feeds k items),
        reaches_feeds items w k m.0,
        rw h.1.is (swapped w (record w { seats = h.0 }) is refl refl h.1.others
            (rw h.1.here (record {
              fed = refl;
              taken = omega arith;
              given = rw (none, append-nil) il.outs;
              collected = omega arith;
              back = rw (none, append-nil);
            })) (rw h.1.is at m.1)),
      )

  pub hands_over : HasTurn (lines_of d) k → ((w : World) → IsRouterOf d.router w
      → AreAllowed w (feeds k items) × IsRouterOf e.router (run_steps w (feeds k items)))
      → DriverMoves d (replicate (length items) (Feeds k)) e
  hands_over turn = moves_over (rw (some-injective turn.0 c.0 (sym turn.1 ∙ c.1)) at turn.3)

-- where no item was ready, the world is the same
pub moves_idle : (d e : Driver) (k : ℕ) (items : List Item) → items ≡ [] → lines_of e ≡ lines_of d
    → ((w : World) → IsRouterOf d.router w
    → AreAllowed w (feeds k items) × IsRouterOf e.router (run_steps w (feeds k items)))
    → (w : World) → IsDriverOf d w → IsDriverOf e w
moves_idle d e k items none m moves w is =
    driver_on d e w w is m refl refl (λ q. refl) (rw none at (moves w is.router).1)

pub may_items : (d : Driver) (router : Router) (k : ℕ) (items : List Item) → HasTurn (lines_of d) k
    → ((w : World) → IsRouterOf d.router w
    → AreAllowed w (feeds k items) × IsRouterOf router (run_steps w (feeds k items)))
    → (w : World) → IsDriverOf d w → MayHand MayBy (main_view d.main) k items
may_items d router k items turn moves w is =
    let h = handed_all items w k in
    let il = is.lines k turn.0 turn.1 in
    let sound : IsSound (record w { seats = h.0 }) = rw h.1.is at (moves w is.router).1.sound in (
      turn.0,
      turn.1,
      subst (λ (s : SeedOf). May s (turn.0.handed ++ items)) (sym il.seed)
          (rw il.handed (rw h.1.here at (may_fed (record w { seats = h.0 }) k sound))),
    )

-- ---- the outs come back

collects_one : (k n : ℕ) → n ≢ 0 → collects k n ≡ Collects k ∷ []
collects_one k zero h = absurd (h refl)
collects_one k (suc n) h = refl

module _ (d e : Driver) (k n : ℕ) (outs : List Out) (c : CellSwapped d k n outs [] e) where
  taken : (w : World) → IsDriverOf d w
      → (seats : ℕ → Seat) × Reaches w (replicate n (Takes k)) (record w { seats = seats }) × Took w k n outs seats
  taken w is =
      let il = is.lines k c.0 c.1 in
      takes_all n w k outs is.router.sound (omega arith) (rw c.2 (answered_last w k c.0 outs is.router.sound il c.3))

  -- the worker took what was handed over, for a router the same
  pub taken_back : (w : World) → IsDriverOf d w → (x : World) × IsRouterOf d.router x × HasTaken x k n outs
  taken_back w is =
      let t = taken w is in
      let il = is.lines k c.0 c.1 in (
        record w { seats = t.0 },
        grind arith,
        record { taken = rw (t.2.here, il.taken); gave = rw (t.2.here, il.outs) },
      )

  -- one look more was made
  looked_there : LooksOnce (main_view d.main) k main_turn (main_view e.main) → LookedAtItsTurn d k e
  looked_there looked = (omega (arith, looked.0), looked.1, looked.2)

  -- nothing was handed over before
  pub moves_none_back : LooksOnce (main_view d.main) k main_turn (main_view e.main) → n ≡ 0 → e.router ≡ d.router
      → DriverMoves d (replicate n (Takes k) ++ collects k n) e × HasTurn (lines_of e) k × LookedAtItsTurn d k e
  moves_none_back looked z same = (
    rw z (moves_over d e k n outs [] c (sym c.2 ∙ z) (λ w is. (tt, rw same is))),
    has_turn d e k n outs [] c refl,
    looked_there looked,
  )

  -- it is collected
  pub moves_back : LooksOnce (main_view d.main) k main_turn (main_view e.main) → n ≢ 0
      → ((w : World) → IsRouterOf d.router w → HasTaken w k n outs → IsRouterOf e.router (world_after w (Collect k)))
      → DriverMoves d (replicate n (Takes k) ++ collects k n) e × HasTurn (lines_of e) k × LookedAtItsTurn d k e
  unfolding taken_back
  moves_back looked more collected = (
    (λ w is.
        let t = taken w is in
        let b = taken_back w is in
        let il = is.lines k c.0 c.1 in
        let y : World = world_after b.0 (Collect k) in
        let allowed : Allowed b.0 (Collect k) = rw t.2.here (omega arith) in (
          y,
          reaches_on (replicate n (Takes k)) (collects k n) w b.0 y t.1
              (rw (collects_one k n more) (y, (allowed, refl), refl)),
          swapped d e k n outs [] c w y is refl refl
              (λ q m. seat_else b.0 k q (all_collected (t.0 k)) m ∙ t.2.others q m)
              (rw (seat_here b.0 k (all_collected (t.0 k)), t.2.here) (record {
                fed = sym (append-nil (w.seats k).fed);
                taken = omega arith;
                given = rw il.outs;
                collected = omega arith;
                back = rw il.outs;
              })) (collected b.0 b.1 b.2),
        )),
    has_turn d e k n outs [] c refl,
    looked_there looked,
  )
