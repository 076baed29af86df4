-- The state of NEXT: what a push and a pull keep, and what a pull answers.
use Rattle.std.proofs.Common.{◌≡◌, ℕ, ◌+◌, ◌-◌, ◌<◌, Bool, true, ◌&&◌, List, [], ◌∷◌, ◌++◌, length, get_or, ap₂, arith}
use Rattle.std.proofs.{lemmas.List.length_push, lemmas.Grind.common_steps}
use Rattle.mfotl_model.specs.{Intervals.in_interval, Settled.next_settled, Tables.TableOf, Tables.has}
use Rattle.mfotl_model.specs.Satisfaction.{Valuation, next, time_at, truth_at}
use Rattle.relations.specs.Pushed.{StandFrom}
use Rattle.eval_until.specs.NextView.{FollowsNext, NextDueIsSettled, NextOf, next_due, tables_pushed}
use Rattle.relations.proofs.PushedLemmas.{stand_first, stand_push}

pub table_kept : (s : NextOf) (table : TableOf) → s.started ≡ true → (t : List ℕ) (a : List Bool) (v : Valuation)
    → FollowsNext s t a v → has table v ≡ truth_at a (tables_pushed s)
    → FollowsNext (record s { tables = s.tables ++ table ∷ [] }) t a v
table_kept s table started t a v f e = grind (arith, stand_push)

pub time_pushed : (s : NextOf) (ts : ℕ) (t : List ℕ) (a : List Bool) (v : Valuation)
    → FollowsNext s t a v → ts ≡ time_at t (s.pulled + length s.times) → s.pulled + length s.times < length t
    → FollowsNext (record s { times = s.times ++ ts ∷ [] }) t a v
time_pushed s ts t a v f e low = grind (arith, length_push, stand_push)

-- where it is due, the time of the position after is there
later_time : (s : NextOf) → next_due s ≡ true → 1 < length s.times
later_time s due = grind arith

-- what one pull leaves, and what it answers
module _ (s : NextOf) (now then : ℕ) (ts : List ℕ) (table : TableOf) (rest : List TableOf)
    (times : s.times ≡ now ∷ ts) (due : next_due s ≡ true) (tables : s.tables ≡ table ∷ rest)
    (t : List ℕ) (a : List Bool) (v : Valuation) (f : FollowsNext s t a v) where
  stands_next : (xs : List ℕ) → StandFrom (λ i x. x ≡ time_at t i) (s.pulled + 1) xs → 0 < length xs
      → then ≡ get_or xs 0 then → then ≡ time_at t (s.pulled + 1)
  stands_next xs all l e = grind (arith, common_steps)

  pub next_answers : then ≡ get_or ts 0 then
      → (in_interval s.interval (then - now) && has table v) ≡ next s.interval t a s.pulled
  unfolding next
  next_answers e = grind (arith, stand_first, ap₂, stands_next, later_time)

pub next_due_settled : NextDueIsSettled
unfolding next_settled
next_due_settled s t e = grind arith
