-- The router's queues are the world's.
use Rattle.std.proofs.Common.{◌≡◌, ℕ, ◌+◌, ◌≤◌, cond, nat_eq, IfNone, IfSome, Option, Some, None, List, ◌++◌}
use Rattle.std.proofs.Common.{length, drop, get_or, sym, refl, arith}
use Rattle.std.proofs.{Math.Seq.drop-append_seam}
use native.Mathlib.Decide.{ℕ_discrete}
use Rattle.rescale_core.proofs.{CellLemmas.seat_same, Filling.all_filled, Filling.are_next, SlotLemmas.put_chances}
use Rattle.rescale_core.proofs.{SlotLemmas.put_standings, Soundness.step_sound, Collecting.collect_sound}
use Rattle.verdict_merge.specs.Emitted.{Emits}
use Rattle.verdict_merge.specs.declared.rows.Verdict.{Verdict}
use Rattle.rescale_core.proofs.GatherLemmas.{gather_collected, gather_emitted, none_emitted, rows_may_add}
use Rattle.rescale_core.specs.{Queues.all_put, Queues.queue_at, Worlds.Step.Collect, Worlds.Step.Emit}
use Rattle.rescale_core.specs.Routing.{HasTaken, IsRouterOf, MayAdd}
use Rattle.rescale_core.specs.Worlds.{World, set_seat, Allowed, IsGathered, world_after, all_collected, line_in}
use Rattle.rescale_core.specs.Worlds.{not_back, pieces_in, rows_in}
use Rattle.rescale_core.specs.declared.{router.Router.Router}
use Rattle.rescale_worker.specs.declared.{item.Out.Out}

-- ---- collecting

pub outs_back : (w : World) (k n : ℕ) (outs : List Out) → HasTaken w k n outs → not_back (w.seats k) ≡ outs
outs_back w k n outs taken = rw taken.gave (drop-append_seam (w.seats k).back outs)

module _ (r x : Router) (w : World) (is : IsRouterOf r w) (k n : ℕ) (outs : List Out) (taken : HasTaken w k n outs)
    (same : x ≡ record r { queues = x.queues; outstanding = x.outstanding; gather = x.gather })
    (len : length x.queues.items ≡ length r.queues.items)
    (filled : (q : ℕ) → queue_at x.queues.items q ≡ all_put q (pieces_in outs) (queue_at r.queues.items q))
    (counted : length x.outstanding.items ≡ length r.outstanding.items)
    (less : (q : ℕ) → get_or x.outstanding.items q 0 + cond (nat_eq q k) n 0 ≡ get_or r.outstanding.items q 0)
    (gather : x.gather ≡ record {
      begun = r.gather.begun;
      next = r.gather.next;
      added = r.gather.added ++ rows_in outs;
    })
  where
    back : not_back (w.seats k) ≡ outs
    back = outs_back w k n outs taken

    fed_same : (q : ℕ) → (set_seat w.seats k (all_collected (w.seats k)) q).fed ≡ (w.seats q).fed
    fed_same q = seat_same (λ s. s.fed) w k (all_collected (w.seats k)) q refl

    -- fewer items are outstanding of worker k
    counts_now : (q : ℕ) → Dec (q ≡ k)
        → (set_seat w.seats k (all_collected (w.seats k)) q).collected + get_or x.outstanding.items q 0
        ≡ length (set_seat w.seats k (all_collected (w.seats k)) q).fed
    counts_now q h = grind arith

    pub outs_collected : IsRouterOf x (world_after w (Collect k))
    outs_collected = rw same (record {
      core = is.core;
      generation = is.generation;
      strategy = is.strategy;
      points = is.points;
      wide = rw len is.wide;
      queues = λ q. rw (fed_same q, back, filled q, put_chances, is.queues q)
          (sym (all_filled w.core q (pieces_in outs) w.pieces (drop (length (w.seats q).fed) (line_in w q))
          (are_next w q is.sound)));
      standings = λ q. rw (fed_same q, filled q, put_standings) (is.standings q);
      counted = rw (counted, len) is.counted;
      outstanding = λ q. counts_now q (ℕ_discrete q k);
      sound = collect_sound w k is.sound;
      gather = gather_collected r.gather x.gather w k is.sound (rw back gather) is.gather;
    })

pub outs_may_add : (r : Router) (w : World) (k n : ℕ) (outs : List Out) → IsRouterOf r w → HasTaken w k n outs
    → MayAdd r.gather (rows_in outs)
outs_may_add r w k n outs is taken = rw (outs_back w k n outs taken) at (rows_may_add r.gather w k is.sound is.gather)

-- what was taken is outstanding
pub taken_less : (r : Router) (w : World) (k n : ℕ) (outs : List Out) → IsRouterOf r w → HasTaken w k n outs
    → n ≤ get_or r.outstanding.items k 0
taken_less r w k n outs is taken = omega (arith, is.outstanding k, taken.taken, (is.sound.seated k).taken)

-- ---- emitting

pub emitted_if : (r x : Router) (o : Option Verdict) → x ≡ record r { gather = x.gather } → Emits r.gather o x.gather
    → IfSome o (λ v. (w : World) → IsRouterOf r w → Allowed w (Emit v) × IsRouterOf x (world_after w (Emit v)))
emitted_if r x None same e = tt
emitted_if r x (Some v) same e = λ w is.
    let g = gather_emitted r.gather x.gather w v is.sound e is.gather in (
      g.0,
      rw same (record {
        core = is.core;
        generation = is.generation;
        strategy = is.strategy;
        points = is.points;
        wide = is.wide;
        queues = is.queues;
        standings = is.standings;
        counted = is.counted;
        outstanding = is.outstanding;
        sound = step_sound w (Emit v) is.sound g.0;
        gather = g.1;
      }),
    )

pub unemitted_if : (r x : Router) (o : Option Verdict) → x ≡ record r { gather = x.gather } → Emits r.gather o x.gather
    → IfNone o ((w : World) → IsRouterOf r w → (IsGathered w (length w.emitted) → ⊥) × IsRouterOf x w)
unemitted_if r x o same e = grind (arith, none_emitted)
