-- One position more: the left operand's table, the right operand's, and the old times forgotten.
use Rattle.std.proofs.Common.{◌≡◌, ℕ, ◌-◌, ◌≤◌, Bool, true, cond, ◌&&◌, ◌||◌, List, [], ◌∷◌, ◌++◌, Option, Some, None}
use Rattle.std.proofs.Common.{length, sym, ◌∙◌, arith}
use Rattle.std.specs.{BTreeMap.is_at, Option.is_some, List.Sorted.IsStrictlyIncreasing}
use Rattle.mfotl_model.specs.{Intervals.in_interval, Values.row_cmp}
use Rattle.mfotl_model.specs.declared.{interval.Interval.Interval, value.Value.Value}
use Rattle.row_times.specs.{Groups.NoneEmpty, Groups.times_at}
use Rattle.eval_since.specs.declared.{contents.Dated.Dated}
use Rattle.mfotl_model.specs.Tables.{all_sized, has_row, part}
use Rattle.row_times.specs.Times.{ArePast, added, reaches}
use Rattle.eval_since.specs.Windows.{Alone, Ascending, Sized, Placed, Past, IsThinned, Covered, Rising, NotAfter, Fresh}
use Rattle.eval_since.specs.Windows.{EachHasRows, Keeps, Queues}
use Rattle.eval_since.proofs.ExpireLemmas.{past_held, past_joined, past_thinned, placed_thinned, covered_put}
use Rattle.eval_since.proofs.ExpireLemmas.{increasing_thinned, not_after_later, not_after_put, rising_put, rows_put}
use Rattle.relations.proofs.{TableRows.all_rows, TableRows.lacks_other}
use Rattle.row_times.proofs.RuleLemmas.{increasing_more, increasing_none, one_more}
use Rattle.eval_since.proofs.WithinLemmas.{reaches_step, reaches_thinned}

-- the left operand's table was applied, and the right operand's rows were added, at the time `now`
pub record Joined (interval : Interval) (right left : List ℕ) (goes : List Value → Bool) (rows : List (List Value))
    (last now : ℕ) (old held new : List (List Value × List (List Value × List ℕ))) (queue : List Dated) : Type 0 where
  pub rises : last ≤ now
  pub sized : all_sized (length right) rows ≡ true
  pub kept : Keeps interval.hi right left last old queue
  pub first : (q v : List Value) → times_at held q v ≡ cond (goes q) (times_at old q v) []
  pub second : (q v : List Value) → times_at new q v
      ≡ cond (is_at (row_cmp (part right left v)) q && has_row rows v)
      (added (is_some interval.hi) (times_at held q v) now) (times_at held q v)
  pub some : NoneEmpty new

pub past_before : {right left : List ℕ} {hi : Option ℕ} {queue : List Dated} {last now : ℕ}
    (goes : List Value → Bool) {old : List (List Value × List (List Value × List ℕ))}
    (held : List (List Value × List (List Value × List ℕ))) → last ≤ now → Keeps hi right left last old queue
    → ((q v : List Value) → times_at held q v ≡ cond (goes q) (times_at old q v) []) → Past now held
past_before {last = last} {now = now} goes {old} held rises kept first q v =
    past_held last now (goes q) (times_at old q v) (times_at held q v) rises (kept.past q v) (first q v)

pub joined : (interval : Interval) (goes : List Value → Bool) (rows : List (List Value)) (now : ℕ)
    (held new : List (List Value × List (List Value × List ℕ))) {right left : List ℕ} {last : ℕ}
    {old : List (List Value × List (List Value × List ℕ))} {queue : List Dated}
    → Keeps interval.hi right left last old queue → last ≤ now → all_sized (length right) rows ≡ true
    → ((q v : List Value) → times_at held q v ≡ cond (goes q) (times_at old q v) [])
    → ((q v : List Value) → times_at new q v ≡ cond (is_at (row_cmp (part right left v)) q && has_row rows v)
    (added (is_some interval.hi) (times_at held q v) now) (times_at held q v))
    → NoneEmpty new → Joined interval right left goes rows last now old held new queue
joined interval goes rows now held new kept rises sized first second some = assumption

module _ {interval : Interval} {right left : List ℕ} {goes : List Value → Bool} {rows : List (List Value)}
    {last now : ℕ} {old held new : List (List Value × List (List Value × List ℕ))} {queue : List Dated}
    (j : Joined interval right left goes rows last now old held new queue) where
  past_held_now : Past now held
  past_held_now = past_before goes held j.rises j.kept j.first

  -- what holds of the times that were kept, of none, and after one more, holds of the times that are kept
  each_joined : (P : List ℕ → Type 0) → ((q v : List Value) → P (times_at old q v)) → P []
      → ((ts : List ℕ) → ArePast now ts → P ts → P (added (is_some interval.hi) ts now))
      → (q v : List Value) → P (times_at new q v)
  each_joined P was none more q v = grind arith

  past_after : Past now new
  past_after q v =
      past_joined now (is_some interval.hi) (is_at (row_cmp (part right left v)) q && has_row rows v)
      (times_at held q v) (times_at new q v) (past_held_now q v) (j.second q v)

  pub placed_after : Placed right left new
  placed_after q v apart = grind (arith, j.first q v, j.second q v, j.kept.placed q v apart)

  ascend_after : Ascending new
  ascend_after = each_joined IsStrictlyIncreasing j.kept.ascend increasing_none
      (λ ts past up. increasing_more (is_some interval.hi) ts now up past)

  alone_after : interval.hi ≡ None → Alone new
  alone_after e = grind (arith, each_joined, one_more)

  sized_after : Sized (length right) new
  sized_after q v apart = grind (arith, lacks_other)

  pub within_after : (x : ℕ) (u : List Value) → reaches interval (times_at new (part right left u) u) x
      ≡ ((reaches interval (times_at old (part right left u) u) x && goes (part right left u))
      || (in_interval interval (x - now) && has_row rows u))
  within_after x u = reaches_step interval right left goes rows u now x old held new past_held_now j.first j.second

  -- without an upper end that is all
  pub kept_unbounded : interval.hi ≡ None → Keeps interval.hi right left now new queue
  kept_unbounded e = record {
    apart = j.kept.apart;
    sized = sized_after;
    ascend = ascend_after;
    alone = alone_after;
    some = j.some;
    placed = placed_after;
    past = past_after;
    finds = rw e tt;
  }

  -- with one the rows go into the queue
  module _ (hi : ℕ) (e : interval.hi ≡ Some hi) (queued : List Dated) (put : Queues queue now rows queued) where
    finds_before : Covered queue old × Rising queue × NotAfter last queue × Fresh hi last queue × EachHasRows queue
    finds_before = rw e at j.kept.finds

    pub covered_after : Covered queued new
    covered_after q v =
        covered_put queue queued now rows v (is_some interval.hi) (goes q) (is_at (row_cmp (part right left v)) q)
        (times_at old q v) (times_at held q v) (times_at new q v) put (finds_before.0 q v) (j.first q v) (j.second q v)

    not_later : NotAfter now queue
    not_later = not_after_later last now queue j.rises finds_before.2

    pub rising_after : Rising queued
    rising_after = rising_put queue queued now rows put finds_before.1 not_later

    -- and old times are forgotten
    module _ (thin : List (List Value × List (List Value × List ℕ))) (rest : List Dated)
        (thins : (q v : List Value) → IsThinned hi now (times_at new q v) (times_at thin q v)) where
      pub kept_bounded : NoneEmpty thin → Covered rest thin → Rising rest → Fresh hi now rest
          → ((x : ℕ) → NotAfter x queued → NotAfter x rest) → (EachHasRows queued → EachHasRows rest)
          → Keeps interval.hi right left now thin rest
      kept_bounded some covered rising fresh after each = record {
        apart = j.kept.apart;
        sized = λ q v apart. placed_thinned hi now (times_at new q v) (times_at thin q v) (thins q v)
            (sized_after q v apart);
        ascend = λ q v. increasing_thinned hi now (times_at new q v) (times_at thin q v) (thins q v)
            (ascend_after q v);
        alone = λ n. absurd (let f : Some hi ≡ None = sym e ∙ n in cc);
        some = some;
        placed = λ q v apart. placed_thinned hi now (times_at new q v) (times_at thin q v) (thins q v)
            (placed_after q v apart);
        past = λ q v. past_thinned hi now now (times_at new q v) (times_at thin q v) (thins q v) (past_after q v);
        finds = rw e (
          covered,
          rising,
          after now (not_after_put queue queued now rows put not_later),
          fresh,
          each (rows_put queue queued now rows put finds_before.4),
        );
      }

      pub within_bounded : (x : ℕ) (u : List Value) → now ≤ x → reaches interval (times_at thin (part right left u) u) x
          ≡ ((reaches interval (times_at old (part right left u) u) x && goes (part right left u))
          || (in_interval interval (x - now) && has_row rows u))
      within_bounded x u l =
          reaches_thinned interval hi now x (times_at new (part right left u) u)
          (times_at thin (part right left u) u) e l (thins (part right left u) u)
          ∙ within_after x u

-- the rows that times are kept for have as many values as columns
pub sized_reached : (interval : Interval) (x : ℕ) (right left : List ℕ)
    (groups : List (List Value × List (List Value × List ℕ))) (rows : List (List Value))
    → Sized (length right) groups → ((u : List Value) → has_row rows u ≡ true
    → reaches interval (times_at groups (part right left u) u) x ≡ true) → all_sized (length right) rows ≡ true
sized_reached interval x right left groups rows sized reached = grind (arith, all_rows)
