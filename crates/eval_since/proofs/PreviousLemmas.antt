-- The state of PREVIOUS: what a pull answers and keeps.
use Rattle.std.proofs.Common.{◌≡◌, ℕ, ◌+◌, ◌-◌, ◌<◌, Bool, ◌&&◌, List, [], ◌∷◌, ◌++◌, length, arith}
use Rattle.std.proofs.lemmas.Bool.Decides.{nat_tests}
use Rattle.mfotl_model.specs.{Intervals.in_interval, Settled.previous_settled, Tables.TableOf, Tables.has}
use Rattle.mfotl_model.specs.Satisfaction.{Valuation, previous, time_at, truth_at}
use Rattle.eval_since.specs.PreviousView.{FollowsPrevious, PreviousDueIsSettled, PrevOf}
use Rattle.relations.proofs.PushedLemmas.{stand_push}

module _ {s : PrevOf} {t : List ℕ} {a : List Bool} {v : Valuation} (f : FollowsPrevious s t a v) where
  -- what a later pull answers: the operand one position before, where the distance lies in the interval
  pub later_answers : (now : ℕ) (ts : List ℕ) (table : TableOf) (rest : List TableOf) → 0 < s.pulled
      → s.times ≡ now ∷ ts → s.tables ≡ table ∷ rest
      → (in_interval s.interval (now - s.last) && has table v) ≡ previous s.interval t a s.pulled
  unfolding previous
  later_answers now ts table rest some e k = grind arith

  pub table_pushed : (table : TableOf) → has table v ≡ truth_at a (s.pulled - 1 + length s.tables)
      → FollowsPrevious (record s { tables = s.tables ++ table ∷ [] }) t a v
  table_pushed table e = search (stand_push)

  pub time_pushed : (ts : ℕ) → ts ≡ time_at t (s.pulled + length s.times)
      → FollowsPrevious (record s { times = s.times ++ ts ∷ [] }) t a v
  time_pushed ts e = search (stand_push)

pub previous_due_settled : PreviousDueIsSettled
unfolding previous_settled
previous_due_settled s t e = grind (arith, nat_tests)
