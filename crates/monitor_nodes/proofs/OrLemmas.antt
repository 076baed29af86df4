-- Tables pushed to an OR and pulled from it, one after the other.
use Rattle.std.proofs.Common.{◌≡◌, ℕ, ◌+◌, ◌<◌, Bool, true, ◌||◌, List, [], ◌∷◌, ◌++◌, length, drop, arith}
use Rattle.std.proofs.Common.{length-append, append-nil, append_assoc}
use Rattle.std.proofs.{lemmas.Bool.Decides.nat_tests, lemmas.List.drop-drop, lemmas.List.length-drop}
use Rattle.mfotl_model.specs.{Satisfaction.Valuation, Tables.TableOf, Tables.has}
use Rattle.eval_bool.specs.Firsts.{first_has}
use Rattle.eval_bool.specs.OrView.{OrOf, or_advanced, or_due, or_pushed}
use Rattle.relations.proofs.PushedLemmas.{over_push, stand_push}
use Rattle.monitor_nodes.specs.OrFeeding.{OrPulled, operand_fed}

pub operand_none : (s : OrOf) (n : ℕ) → s ≡ operand_fed s n []
operand_none s n = grind (arith, append-nil)

-- one table more of an operand
pub operand_one : (s : OrOf) (n : ℕ) (tables : List TableOf) (table : TableOf)
    → or_pushed (operand_fed s n tables) n table ≡ operand_fed s n (tables ++ table ∷ [])
operand_one s n tables table = grind (arith, append_assoc)

pub or_pulled_none : (s : OrOf) → OrPulled s s []
or_pulled_none s = grind arith

or_due_parts : (s : OrOf) → true ≡ or_due s → (0 < length s.lefts) × (0 < length s.rights)
or_due_parts s h = (grind (arith, nat_tests), grind (arith, nat_tests))

-- one turn of the loop that pulls
pub or_pulled_more : {old s new : OrOf} {tables items : List TableOf} (table : TableOf) → OrPulled old s tables
    → true ≡ or_due s → new ≡ or_advanced s → table.columns ≡ s.left
    → ((v : Valuation) → has table v ≡ (first_has v s.lefts || first_has v s.rights))
    → items ≡ tables ++ table ∷ [] → OrPulled old new items
or_pulled_more {old} {s} {new} {tables} {items} table before ready advanced over rows made =
    let n : length items ≡ length tables + 1 = rw made (omega (arith, length-append tables (table ∷ []))) in
    let place : 0 + length tables ≡ length tables = omega arith in
    let sum : old.pulled + length tables + 1 ≡ old.pulled + (length tables + 1) = omega arith in
    let some = rw before.state at (or_due_parts s ready) in
    record {
      state =
          rw (
            n,
            advanced,
            before.state,
            drop-drop 1 (length tables) old.lefts,
            drop-drop 1 (length tables) old.rights,
          ) (rw sum);
      in_lefts = omega (arith, some.0, length-drop (length tables) old.lefts);
      in_rights = omega (arith, some.1, length-drop (length tables) old.rights);
      over = rw made (over_push old.left tables table before.over (rw before.state at over));
      rows = λ v.
          rw made
          (stand_push (λ k x. has x v ≡ (first_has v (drop k old.lefts) || first_has v (drop k old.rights))) 0 tables
          table (before.rows v) (rw place (rw before.state at (rows v))));
    }

-- a turn leaves fewer tables
pub or_fewer : (s : OrOf) {new : OrOf} → true ≡ or_due s → new ≡ or_advanced s → length new.lefts < length s.lefts
or_fewer s ready advanced = rw advanced (omega (arith, (or_due_parts s ready).0, length-drop 1 s.lefts))
