-- What is drawn and written next, and what is drawn and written behind it.
use Rattle.std.proofs.Common.{◌≡◌, ℕ, suc, ◌+◌, List, ◌∷◌, ◌++◌, refl, sym, ap, ◌∙◌, append_assoc}
use Rattle.std.proofs.lemmas.List.{append-nil}
use Rattle.std.specs.List.{flat_map}
use Rattle.log_reader.specs.declared.demo_event.DemoEvent.{DemoEvent}
use Rattle.log_reader.specs.DemoEvents.{Moment, event_behind, events_behind, state_behind, state_behind_all, moments}
use Rattle.log_reader.specs.DemoEvents.{written, line_of}
use Rattle.log_reader.specs.DemoDraws.{drawn, moved_on}

-- ---- events

events_first : (n m s : ℕ) → n ≡ suc m → events_behind n s ≡ event_behind s ∷ events_behind m (state_behind s)
unfolding events_behind
events_first n m s e = rw e refl

state_first : (n m s : ℕ) → n ≡ suc m → state_behind_all n s ≡ state_behind_all m (state_behind s)
unfolding state_behind_all
state_first n m s e = rw e refl

-- one more event is written
pub event_written : (out out' all : List ℕ) (n m s s' : ℕ) (e : DemoEvent) → n ≡ suc m → e ≡ event_behind s
    → s' ≡ state_behind s → out' ≡ out ++ written e → out ++ flat_map written (events_behind n s) ≡ all
    → out' ++ flat_map written (events_behind m s') ≡ all
event_written out out' all n m s s' e more event behind wrote is =
    rw (wrote, event, behind)
    (append_assoc out (written (event_behind s)) (flat_map written (events_behind m (state_behind s)))
    ∙ ap (λ es. out ++ flat_map written es) (sym (events_first n m s more)) ∙ is)

-- and its draws are behind
pub event_drawn : (n m s s' end : ℕ) → n ≡ suc m → s' ≡ state_behind s → state_behind_all n s ≡ end
    → state_behind_all m s' ≡ end
event_drawn n m s s' end more behind is = rw behind (sym (state_first n m s more) ∙ is)

-- all events are written
pub events_written : (out all : List ℕ) (n s : ℕ) → n ≡ 0 → out ++ flat_map written (events_behind n s) ≡ all
    → out ≡ all
unfolding events_behind
events_written out all n s none is =
    sym (append-nil out) ∙ ap (λ k. out ++ flat_map written (events_behind k s)) (sym none) ∙ is

pub events_drawn : (n s end : ℕ) → n ≡ 0 → state_behind_all n s ≡ end → s ≡ end
unfolding state_behind_all
events_drawn n s end none is = ap (λ k. state_behind_all k s) (sym none) ∙ is

-- ---- time-points

-- the first of the time-points that are drawn behind s, a time before it
pub moment_at : ℕ → ℕ → Moment
moment_at time s = record {
  time = time + drawn 4 s;
  events = events_behind (drawn 6 (moved_on s)) (moved_on (moved_on s));
}

moments_first : (n m time s : ℕ) → n ≡ suc m → moments n time s ≡ moment_at time s
    ∷ moments m (time + drawn 4 s) (state_behind_all (drawn 6 (moved_on s)) (moved_on (moved_on s)))
unfolding moments moment_at
moments_first n m time s e = rw e refl

-- one more line is written
pub moment_written : (out out' all : List ℕ) (n m time now s s1 s' : ℕ) → n ≡ suc m
    → now ≡ drawn 4 s → s1 ≡ moved_on s
    → out' ≡ out ++ line_of (record { time = time + now; events = events_behind (drawn 6 s1) (moved_on s1) })
    → s' ≡ state_behind_all (drawn 6 s1) (moved_on s1)
    → out ++ flat_map line_of (moments n time s) ≡ all
    → out' ++ flat_map line_of (moments m (time + now) s') ≡ all
unfolding moment_at
moment_written out out' all n m time now s s1 s' more later first wrote behind is =
    rw (wrote, behind, later, first)
    (append_assoc out (line_of (moment_at time s)) _
    ∙ ap (λ ms. out ++ flat_map line_of ms) (sym (moments_first n m time s more)) ∙ is)

-- all lines are written
pub moments_written : (out all : List ℕ) (n time s : ℕ) → n ≡ 0 → out ++ flat_map line_of (moments n time s) ≡ all
    → out ≡ all
unfolding moments
moments_written out all n time s none is =
    sym (append-nil out) ∙ ap (λ k. out ++ flat_map line_of (moments k time s)) (sym none) ∙ is
