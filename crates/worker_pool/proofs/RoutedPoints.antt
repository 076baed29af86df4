-- The time-points that a reader gives, routed by a plan of changes.
use Rattle.std.proofs.Common.{◌≡◌, ◌∙◌, ap, subst, sym, refl, ℕ, ◌+◌, List, [], ◌∷◌, ◌++◌, length, Option, arith}
use Rattle.mfotl_model.specs.declared.event.TimePoint.{TimePoint}
use Rattle.log_reader.specs.Readers.{Reader}
use Rattle.monitorable.specs.CoreForms.{CoreForm}
use Rattle.monitor_state.specs.Verdicts.{MayFollow}
use Rattle.rescale_core.specs.declared.driver.Driver.{Driver}
use Rattle.slice_strategy.specs.declared.change.Change.{Change}
use Rattle.lone_worker.specs.{Courses.Settles, Texts.tally_of, Verdicts.Falls}
use Rattle.lone_worker.specs.declared.tally.Tally.{Tally}
use Rattle.main_steps.specs.Changes.{changes_due, changes_later, entries_by}
use Rattle.main_steps.specs.Writing.{AddsPoint, AllEmitted, FallsShort, HasReadNothing, Runs, WritesOnly}
use Rattle.main_steps.proofs.{WritingLemmas.nothing_read, WritingLemmas.over_written}
use Rattle.main_steps.proofs.EntryLemmas.{entries_more, left_more, points_read}
use Rattle.worker_pool.specs.{Chunks.IsUnderWay, Chunks.Routes}

-- nothing was read
pub routes_none : {core : CoreForm} {driver : Driver} {tally : Tally} (plan : List Change) (start : Option (List ℕ))
    → HasReadNothing core driver → tally ≡ tally_of [] → Routes core plan start driver plan start tally []
routes_none plan start begins none = record { left = refl; writes = nothing_read _ _ start _ begins none }

-- so main runs
pub runs_under : {reader : Reader} {driver : Driver} {changes : List Change} {now : Option (List ℕ)} {tally : Tally}
    → IsUnderWay reader driver changes now tally → Runs driver now tally
runs_under u = (_, _, _, u.so_far.done.writes)

module _ {core : CoreForm} {plan : List Change} {old mid : Option (List ℕ)} {driver : Driver} {changes : List Change}
    {tally : Tally} where
  -- what was written then is a front of what is due
  pub routed_falls : {new : Option (List ℕ)} → FallsShort driver mid tally new → (points : List TimePoint)
      → Routes core plan old driver changes mid tally points → Falls core points old new
  routed_falls falls points r = rw (points_read 0 plan points) at (falls core (entries_by plan points) old r.writes)

  -- one time-point more was read, behind the changes that were due
  pub routed_more : {after : Driver} {left : List Change} {new : Option (List ℕ)} {more : Tally} (n : ℕ)
      (point : TimePoint) → AddsPoint driver mid tally (changes_due n changes) point after new more
      → left ≡ changes_later n changes → (points : List TimePoint) → length points ≡ n → MayFollow points point
      → Routes core plan old driver changes mid tally points
      → Routes core plan old after left new more (points ++ point ∷ [])
  routed_more n point adds later points counted follows r =
      let count : n ≡ 0 + length points = omega (arith, counted) in
      record {
        left = later ∙ ap (changes_later n) r.left ∙ sym (left_more 0 n plan points point count);
        writes = rw (entries_more 0 n plan points point count, ← r.left)
            (adds core (entries_by plan points) old (rw (points_read 0 plan points) follows) r.writes);
      }

  -- nothing was read since
  pub routed_keeps : {after : Driver} {new : Option (List ℕ)} {more : Tally}
      → WritesOnly driver mid tally after new more → (points : List TimePoint)
      → Routes core plan old driver changes mid tally points → Routes core plan old after changes new more points
  routed_keeps keeps points r = record { left = r.left; writes = keeps core _ old r.writes }

  -- once no verdict is left, all lines were written
  pub routed_settles : AllEmitted driver → (points : List TimePoint)
      → Routes core plan old driver changes mid tally points → Settles core points old mid tally
  routed_settles over points r =
      let all = over_written r.writes over in
      subst (λ ps. Settles core ps old mid tally) (points_read 0 plan points) (record { text = all.0; counts = all.1 })
