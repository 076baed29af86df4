-- Tables pushed to a conjunction and pulled from it, one after the other.
use Rattle.std.proofs.Common.{◌≡◌, ℕ, zero, suc, ◌+◌, ◌<◌, true, nat_lt, nat_le, List, [], ◌∷◌, ◌++◌, length, drop, map}
use Rattle.std.proofs.Common.{refl, sym, ap, arith, length-append, append-nil, append_assoc}
use Rattle.std.proofs.lemmas.Bool.{and_parts, and_from, ltb-true, le-leb}
use Rattle.std.proofs.{lemmas.List.drop-drop, lemmas.List.length-drop, lemmas.Grind.common_steps}
use Rattle.std.specs.List.{list_all}
use Rattle.mfotl_model.specs.{Satisfaction.Valuation, Tables.TableOf, Tables.has}
use Rattle.eval_bool.specs.JoinView.{ChildOf, JoinOf, child_advanced, child_pushed, join_advanced, join_due, joins}
use Rattle.relations.proofs.PushedLemmas.{over_push, stand_push}
use Rattle.monitor_nodes.specs.JoinFeeding.{JoinPulled, child_dropped, child_fed, children_fed, join_pulled}

-- one table more of a child
pub fed_one : (cs : List ChildOf) (n : ℕ) (tables : List TableOf) (table : TableOf)
    → child_pushed (child_fed cs n tables) n table ≡ child_fed cs n (tables ++ table ∷ [])
fed_one [] n tables table = refl
fed_one (c ∷ cs) zero tables table = rw append_assoc
fed_one (c ∷ cs) (suc n) tables table = ap (λ ds. c ∷ ds) (fed_one cs n tables table)

pub fed_none : (cs : List ChildOf) (n : ℕ) → cs ≡ child_fed cs n []
fed_none [] n = refl
fed_none (c ∷ cs) zero = rw append-nil
fed_none (c ∷ cs) (suc n) = ap (λ ds. c ∷ ds) (fed_none cs n)

-- no tables
pub fed_nothing : (ds : List ChildOf) → ds ≡ children_fed ds []
fed_nothing [] = refl
fed_nothing (d ∷ ds) = refl

-- the tables of one child more
pub fed_next : (cs : List ChildOf) (lists : List (List TableOf)) (tables : List TableOf)
    → child_fed (children_fed cs lists) (length lists) tables ≡ children_fed cs (lists ++ tables ∷ [])
fed_next [] [] tables = refl
fed_next [] (l ∷ lists) tables = refl
fed_next (c ∷ cs) [] tables = ap (λ ds. record c { tables = c.tables ++ tables } ∷ ds) (fed_nothing cs)
fed_next (c ∷ cs) (l ∷ lists) tables = ap (λ ds. record c { tables = c.tables ++ l } ∷ ds) (fed_next cs lists tables)

pub fed_length : (cs : List ChildOf) (lists : List (List TableOf)) → length (children_fed cs lists) ≡ length cs
fed_length [] lists = refl
fed_length (c ∷ cs) [] = refl
fed_length (c ∷ cs) (l ∷ lists) = ap suc (fed_length cs lists)

-- how many tables the first child has: each pull takes one
abbrev pub first_tables : List ChildOf → ℕ
first_tables [] = 0
first_tables (c ∷ cs) = length c.tables

dropped_none : (cs : List ChildOf) → cs ≡ map (child_dropped 0) cs
dropped_none [] = refl
dropped_none (c ∷ cs) = ap (λ ds. c ∷ ds) (dropped_none cs)

dropped_more : (n : ℕ) (cs : List ChildOf)
    → map child_advanced (map (child_dropped n) cs) ≡ map (child_dropped (n + 1)) cs
dropped_more n [] = refl
dropped_more n (c ∷ cs) = simp (drop-drop, dropped_more n cs)

-- where each child has one table behind the first n, it has n + 1
room_more : (n : ℕ) (cs : List ChildOf) → list_all (λ c. nat_le n (length c.tables)) cs ≡ true
    → list_all (λ c. nat_lt 0 (length c.tables)) (map (child_dropped n) cs) ≡ true
    → list_all (λ c. nat_le (n + 1) (length c.tables)) cs ≡ true
room_more n [] room ready = refl
room_more n (c ∷ cs) room ready =
    let parts = and_parts (nat_le n (length c.tables)) (list_all (λ c. nat_le n (length c.tables)) cs) room in
    let readies = and_parts (nat_lt 0 (length (drop n c.tables)))
    (list_all (λ c. nat_lt 0 (length c.tables)) (map (child_dropped n) cs)) ready in
    grind (arith, and_from, le-leb, ltb-true, length-drop, room_more n cs parts.1 readies.1)

pub join_pulled_none : (s : JoinOf) → JoinPulled s s []
join_pulled_none s =
    let none : s.pulled + 0 ≡ s.pulled = omega arith in
    record { state = rw (none, ← dropped_none s.children); room = all_room s.children; over = tt; rows = λ v. tt }
  where
    all_room : (cs : List ChildOf) → list_all (λ c. nat_le 0 (length c.tables)) cs ≡ true
    all_room [] = refl
    all_room (c ∷ cs) = and_from (nat_le 0 (length c.tables)) (list_all (λ c. nat_le 0 (length c.tables)) cs)
        (le-leb 0 (length c.tables) (omega arith)) (all_room cs)

-- one turn of the loop that pulls
pub join_pulled_more : {old s new : JoinOf} {tables items : List TableOf} (table : TableOf) → JoinPulled old s tables
    → true ≡ join_due s → new ≡ join_advanced s → table.columns ≡ s.columns
    → ((v : Valuation) → has table v ≡ joins s v) → items ≡ tables ++ table ∷ [] → JoinPulled old new items
join_pulled_more {old} {s} {new} {tables} {items} table before ready advanced over rows made =
    let n : length items ≡ length tables + 1 = rw made (omega (arith, length-append tables (table ∷ []))) in
    let place : 0 + length tables ≡ length tables = omega arith in
    let sum : old.pulled + length tables + 1 ≡ old.pulled + (length tables + 1) = omega arith in
    record {
      state = rw (n, advanced, before.state, dropped_more (length tables) old.children) (rw sum);
      room = rw n (room_more (length tables) old.children before.room (rw before.state at (sym ready)));
      over = rw made (over_push old.columns tables table before.over (rw before.state at over));
      rows = λ v.
          rw made
          (stand_push (λ k x. has x v ≡ joins (join_pulled k old) v) 0 tables table (before.rows v)
          (rw place (rw before.state at (rows v))));
    }

-- a turn leaves the first child fewer tables
advanced_fewer : (cs : List ChildOf) → 0 < length cs → list_all (λ c. nat_lt 0 (length c.tables)) cs ≡ true
    → (first_tables (map child_advanced cs) < first_tables cs) × (0 < length (map child_advanced cs))
advanced_fewer cs some ready = grind (arith, common_steps, and_parts, ltb-true, length-drop)

pub join_fewer : (s : JoinOf) {new : JoinOf} → 0 < length s.children → true ≡ join_due s → new ≡ join_advanced s
    → (first_tables new.children < first_tables s.children) × (0 < length new.children)
join_fewer s some ready advanced = rw advanced (advanced_fewer s.children some (sym ready))
