-- The state of SINCE: what a push and a pull keep.
use Rattle.std.proofs.Common.{◌≡◌, ℕ, ◌+◌, ◌-◌, ◌<◌, ◌≤◌, Bool, true, ◌&&◌, ◌||◌, nat_lt, List, [], ◌∷◌, ◌++◌, length}
use Rattle.std.proofs.Common.{map, refl, sym, ap, ap₂, ◌∙◌, arith}
use Rattle.mfotl_model.specs.{Intervals.in_interval, Settled.since_settled, Times.Climbs}
use Rattle.mfotl_model.specs.Satisfaction.{Valuation, time_at, truth_at, since}
use Rattle.mfotl_model.specs.declared.value.Value.{Value}
use Rattle.eval_since.specs.{WindowView.WindowOf, WindowView.within, LeftOperand.left_has}
use Rattle.eval_since.specs.SinceView.{DueIsSettled, FollowsRow, SinceOf}
use Rattle.mfotl_model.specs.Tables.{TableOf, all_among, has, has_row, part}
use Rattle.relations.specs.Pushed.{left_holds}
use Rattle.relations.proofs.{PushedLemmas.stand_push, OperationLaws.has_as, OperationLaws.part_of_own}
use Rattle.eval_since.proofs.SinceLemmas.{goes_on, since_is}
use Rattle.std.proofs.lemmas.Bool.Decides.{nat_tests, same_from_decides}
use Rattle.std.specs.List.{list_all, range_with_len}
use Rattle.mfotl_model.proofs.LogicLemmas.{all_in, all_from}

-- a list of times that climbs does so without its first
climbs_behind : (x : ℕ) (rest : List ℕ) (t y : ℕ) → Climbs x (t ∷ rest) y → Climbs x rest y
climbs_behind x [] t y (first, last) = omega arith
climbs_behind x (r ∷ rs) t y (first, (next, more)) = (omega arith, more)

pub climbs_without_first : (x : ℕ) (all rest : List ℕ) (t y : ℕ) → all ≡ t ∷ rest → Climbs x all y → Climbs x rest y
climbs_without_first x all rest t y e climbs = climbs_behind x rest t y (rw e at climbs)

module _ {s : SinceOf} {t : List ℕ} {a b : List Bool} {u : List Value} (f : FollowsRow s t a b u) where
  -- the table of the position that was pulled last
  pub table_is : 0 < s.pulled → within s.window s.window.last u ≡ since s.window.interval t a b (s.pulled - 1)
  table_is some = grind (arith, ap₂, since_is)

  -- one more table, or time, is pushed
  pub follows_left : (l : TableOf)
      → left_has s.negated l.rows (part s.window.right s.window.left u) ≡ truth_at a (s.pulled + length s.lefts)
      → FollowsRow (record s { lefts = s.lefts ++ l ∷ [] }) t a b u
  follows_left l e = search (stand_push)

  pub follows_right : (r : TableOf) → has_row r.rows u ≡ truth_at b (s.pulled + length s.rights)
      → FollowsRow (record s { rights = s.rights ++ r ∷ [] }) t a b u
  follows_right r e = search (stand_push)

  pub follows_time : (x : ℕ) → x ≡ time_at t (s.pulled + length s.times)
      → FollowsRow (record s { newest = x; times = s.times ++ x ∷ [] }) t a b u
  follows_time x e = search (stand_push)

  -- of lists whose first items are known
  module _ (t0 : ℕ) (ts : List ℕ) (l r : TableOf) (ls rs : List TableOf) (et : s.times ≡ t0 ∷ ts)
      (el : s.lefts ≡ l ∷ ls) (er : s.rights ≡ r ∷ rs) (climbs : Climbs s.window.last s.times s.newest) where
    -- one position is pulled
    pub follows_popped : (n : WindowOf) → n.interval ≡ s.window.interval → n.left ≡ s.window.left
        → n.right ≡ s.window.right → n.last ≡ t0
        → ((x : ℕ) (v : List Value) → t0 ≤ x → within n x v
        ≡ ((within s.window x v && left_has s.negated l.rows (part s.window.right s.window.left v))
        || (in_interval s.window.interval (x - t0) && has_row r.rows v)))
        → FollowsRow (record s { window = n; pulled = s.pulled + 1; times = ts; lefts = ls; rights = rs }) t a b u
    follows_popped n interval left right last step =
        let rises = (rw et at climbs).0 in
        let times = rw et at f.times in
        let lefts = rw el at f.lefts in
        let rights = rw er at f.rights in
        record {
          last = λ _. let e : s.pulled ≡ s.pulled + 1 - 1 = omega arith in last ∙ times.0 ∙ ap (time_at t) e;
          times = times.1;
          lefts = rw (left, right) lefts.1;
          rights = rights.1;
          window = λ x low.
              let after : n.last ≤ x = low (omega arith) in
              let was = f.window x (λ _. omega (arith, rises, last)) in
              let more = goes_on s.window.interval t a b s.pulled x in
              cc (step x u (omega (arith, last)), was, lefts.0, times.0, rights.0, interval, more);
        }

    -- what the next table has of a row, before it is pulled
    pub next_is : ((within s.window t0 u && left_has s.negated l.rows (part s.window.right s.window.left u))
        || (in_interval s.window.interval 0 && has_row r.rows u)) ≡ since s.window.interval t a b s.pulled
    next_is = grind (arith, goes_on, since_is)

-- a test holds up to a place where it does at each one
ready_below : (p n m : ℕ) → (nat_lt 0 n && nat_lt 0 m)
    ≡ list_all (λ j. nat_lt j (p + n) && nat_lt j (p + m)) (range_with_len 0 (p + 1))
ready_below p n m =
    let test : ℕ → Bool = λ j. nat_lt j (p + n) && nat_lt j (p + m) in
    same_from_decides {P = list_all test (range_with_len 0 (p + 1)) ≡ true} _ _ (
      λ both. all_from test 0 (p + 1) (λ j low high. grind (arith, nat_tests)),
      λ all. let here = all_in test 0 (p + 1) p all (omega arith) (omega arith) in grind (arith, nat_tests),
    ) (λ e. e, λ e. e)

pub due_settled : DueIsSettled
unfolding since_settled
due_settled s = grind (arith, ready_below s.pulled (length s.lefts) (length s.rights))

-- from valuations to rows

-- what a table over the left operand's columns has of a row's part
pub left_of : (table : TableOf) (left right : List ℕ) (negated : Bool) (v : Valuation) → all_among left right ≡ true
    → table.columns ≡ left → left_has negated table.rows (part right left (map v right)) ≡ left_holds negated table v
left_of table left right negated v inside columns = grind (arith, part_of_own, has_as)

pub right_of : (table : TableOf) (right : List ℕ) (v : Valuation) → table.columns ≡ right
    → has_row table.rows (map v right) ≡ has table v
right_of table right v columns = sym (has_as table right table.rows v columns refl)
