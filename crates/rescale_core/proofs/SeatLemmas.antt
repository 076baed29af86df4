-- What holds of worlds and seats still does where an entry is read, and an item is handed over or taken.
use Rattle.std.proofs.Common.{◌≡◌, ℕ, ◌+◌, ◌<◌, ◌≤◌, false, nat_eq, List, [], ◌∷◌, ◌++◌, length, take, drop, sym, refl}
use Rattle.std.proofs.Common.{ap, ◌∙◌, subst, append_assoc, arith, length-append}
use Rattle.std.proofs.{lemmas.Bool.Decides.nat_tests, lemmas.List.take-append-le}
use Rattle.mfotl_model.specs.Strategies.{Strategy}
use Rattle.rescale_core.proofs.{Fitting.every_map, ReadyLemmas.first_due, Settling.slice_more}
use Rattle.rescale_core.proofs.WorldLemmas.{line_more, sound_more, supplies_line, supplies_length, supplies_next}
use Rattle.rescale_core.proofs.WorldLemmas.{change_more}
use Rattle.rescale_worker.specs.Lines.{first_spot, line, MayRead}
use Rattle.rescale_core.specs.{Soundly.IsSeated, Soundly.IsSound}
use Rattle.rescale_worker.specs.{Phases.Answers, Workers.IsFor, Lines.Due.Slicing}
use Rattle.rescale_core.specs.Worlds.{first_world, World, Seat, line_in, spot_in, set_seat, fed_more, took_one}
use Rattle.rescale_core.specs.Worlds.{world_after, ready_in}
use Rattle.monitorable.specs.CoreForms.{CoreForm}
use Rattle.rescale_worker.specs.declared.{item.Item.Item, item.Entry.Entry, item.Out.Out}
use Rattle.verdict_merge.specs.declared.rows.Verdict.{Verdict}
use Rattle.rescale_core.specs.Worlds.Step.{Read, Feed, Take}

-- ---- worlds

pub first_sound : (c : CoreForm) (s : Strategy) → IsFor c s → IsSound (first_world c s)
first_sound c s f = grind arith

-- what is known of a seat by its number holds behind a change of one seat
pub at_seat : (P : ℕ → Seat → Type 0) (seats : ℕ → Seat) (k : ℕ) (s : Seat)
    → ((q : ℕ) → nat_eq q k ≡ false → P q (seats q)) → P k s → (q : ℕ) → P q (set_seat seats k s q)
at_seat P seats k s others here q = grind arith

-- where seats change in what was handed over, taken and given alone, and verdicts are emitted
pub sound_moved : (w : World) (seats : ℕ → Seat) (emitted : List Verdict) → IsSound w
    → ((q : ℕ) → (seats q).collected ≡ (w.seats q).collected) → ((q : ℕ) → IsSeated w q (seats q))
    → IsSound (record w { seats = seats; emitted = emitted })
sound_moved w seats emitted r same seated = record {
  first = r.first;
  read = r.read;
  seated = λ q. (let s = seated q in
      record {
        supplied = s.supplied;
        taken = s.taken;
        collected = s.collected;
        answers = s.answers;
        back = s.back;
        more = s.more;
        rows = s.rows;
        pieces = s.pieces;
      });
  known = r.known;
  distinct = r.distinct;
  past = every_map _ _ w.pieces (λ p h. rw (same p.from) h) r.past;
  rows_known = r.rows_known;
  rows_apart = r.rows_apart;
  rows_past = every_map _ _ w.rows (λ x h. rw (same x.worker) h) r.rows_past;
}

-- one seat alone
seat_moved : (w : World) (k : ℕ) (s : Seat) → IsSound w → s.collected ≡ (w.seats k).collected → IsSeated w k s
    → IsSound (record w { seats = set_seat w.seats k s })
seat_moved w k s r same seated =
    sound_moved w (set_seat w.seats k s) w.emitted r (λ q. grind (arith, nat_tests))
    (at_seat (IsSeated w) w.seats k s (λ q _. r.seated q) seated)

-- ---- reading

module _ (w : World) (e : Entry) (r : IsSound w) (may : MayRead w.core (spot_in w) e) where
  longer : (k : ℕ) → line_in (world_after w (Read e)) k ≡ line_in w k ++ line k (spot_in w) (e ∷ [])
  longer k = line_more k (first_spot w.first) w.read (e ∷ [])

  front : (k n : ℕ) → n ≤ (w.seats k).taken → take n (line_in (world_after w (Read e)) k) ≡ take n (line_in w k)
  front k n h = grind (arith, supplies_length, longer, take-append-le)

  back_front : (k : ℕ) → take (w.seats k).collected (line_in (world_after w (Read e)) k)
      ≡ take (w.seats k).collected (line_in w k)
  back_front k = front k (w.seats k).collected (r.seated k).collected

  seated_read : (k : ℕ) → IsSeated (world_after w (Read e)) k (w.seats k)
  seated_read k = let s = r.seated k in record {
    supplied = search (longer, supplies_line);
    taken = s.taken;
    collected = s.collected;
    answers = subst (λ ds. Answers w.core k ds (w.seats k).outs)
        (sym (front k (w.seats k).taken (omega arith))) s.answers;
    back = subst (λ ds. Answers w.core k ds (w.seats k).back) (sym (back_front k)) s.back;
    more = s.more;
    rows = s.rows;
    pieces = s.pieces;
  }

  pub read_sound : IsSound (world_after w (Read e))
  read_sound = record {
    first = r.first;
    read = sound_more w.core (first_spot w.first) w.read e r.read may;
    seated = seated_read;
    known = every_map _ _ w.pieces
        (λ p x. record {
          change = x.change;
          is = change_more (first_spot w.first) w.read (e ∷ []) p.generation x.change x.is;
          piece_for = x.piece_for;
          near = x.near;
        }) r.known;
    distinct = r.distinct;
    rows_known = every_map _ _ w.rows
        (λ p x. record {
          strategy = x.strategy;
          log = x.log;
          point = x.point;
          is = slice_more w.read (e ∷ []) (first_spot w.first) (length x.log)
              (Slicing p.generation x.strategy x.log x.point) x.is;
          row = x.row;
          low = x.low;
          high = x.high;
          near = x.near;
        }) r.rows_known;
    rows_apart = r.rows_apart;
    rows_past = every_map _ _ w.rows (λ p h. rw (back_front p.worker) h) r.rows_past;
    past = every_map _ _ w.pieces (λ p h. rw (back_front p.from) h) r.past;
  }

-- ---- handing over

pub feed_sound : (w : World) (k : ℕ) (i : Item) → IsSound w → (rest : List Item) → ready_in w k ≡ i ∷ rest
    → IsSound (world_after w (Feed k i))
feed_sound w k i r rest next = let s = r.seated k in
    let d = first_due w.core k w.pieces (drop (length (w.seats k).fed) (line_in w k)) i rest next in
    seat_moved w k (fed_more (w.seats k) i) r refl record {
      supplied = supplies_next w.core k w.pieces (line_in w k) (w.seats k).fed d.0 d.1 i s.supplied d.2 d.3;
      taken = let t = s.taken in let l = length-append (w.seats k).fed (i ∷ []) in omega arith;
      collected = s.collected;
      answers = s.answers;
      back = s.back;
      more = s.more;
      rows = s.rows;
      pieces = s.pieces;
    }

-- ---- taking

pub take_sound : (w : World) (k : ℕ) (gave : List Out) → IsSound w → (w.seats k).taken < length (w.seats k).fed
    → Answers w.core k (take ((w.seats k).taken + 1) (line_in w k)) ((w.seats k).outs ++ gave)
    → IsSound (world_after w (Take k gave))
take_sound w k gave r room answers = let s = r.seated k in
    seat_moved w k (took_one (w.seats k) gave) r refl record {
      supplied = s.supplied;
      taken = omega arith;
      collected = let h = s.collected in omega arith;
      answers = answers;
      back = s.back;
      more = (s.more.0 ++ gave, ap (λ x. x ++ gave) s.more.1 ∙ append_assoc (w.seats k).back s.more.0 gave);
      rows = s.rows;
      pieces = s.pieces;
    }
