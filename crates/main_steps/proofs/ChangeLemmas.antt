-- Changes of the strategy: what is to come fits, and just what is due is read.
use Rattle.std.proofs.Common.{◌≡◌, ◌≤◌, ◌∙◌, arith, ℕ, List, [], ◌∷◌, ◌++◌, Option, Some, OnOk, Ok, Err, sym, subst}
use Rattle.std.proofs.Common.{refl, suc, append-nil, append_assoc, ◌<◌, ◌⊎◌, inl, inr, length, get_or, max, Any}
use Rattle.std.specs.Prelude.{Result}
use Rattle.mfotl_model.specs.Strategies.{Strategy, workers_of}
use Rattle.mfotl_model.specs.declared.event.TimePoint.{TimePoint}
use Rattle.monitorable.specs.CoreForms.{CoreForm}
use Rattle.monitor_state.specs.{Verdicts.MayFollow}
use Rattle.rescale_core.specs.{Moving.IsDriverOf, Moving.core_of, Worlds.World, Worlds.spot_in}
use Rattle.rescale_worker.specs.{Workers.IsFor}
use Rattle.rescale_core.specs.declared.{driver.Driver.Driver}
use Rattle.rescale_worker.specs.declared.{item.Entry.Entry, item.Entry.TheVariants.Point}
use Rattle.rescale_worker.specs.declared.{item.Entry.TheVariants.Change as ToStrategy}
use Rattle.slice_strategy.specs.declared.change.Change.{Change}
use Rattle.lone_worker.specs.Verdicts.{Falls}
use Rattle.lone_worker.specs.declared.tally.Tally.{Tally}
use Rattle.main_steps.specs.Changes.{AllSuit, HaveCells, IsDue, NoneDue, Suits, TakesDue, changes_due, changes_later}
use Rattle.main_steps.specs.Changes.{points_in}
use Rattle.main_steps.specs.Laws.{DueAtItsNumber}
use Rattle.main_steps.specs.Writing.{AddsEntries, AddsPoint, ChangesIn, FallsShort, WritesOnly, ReadsIn, Runs, RunsTo}
use Rattle.main_steps.specs.Writing.{Writes}
use Rattle.main_steps.specs.declared.schedule.Schedule.{Schedule}
use Rattle.main_steps.proofs.{WritingLemmas.one_read, WritingLemmas.points_are}
use Rattle.main_steps.proofs.EntryLemmas.{none_due, one_due, points_due, points_with}

-- ---- the core stays

core_same : (d : Driver) (w : World) → IsDriverOf d w → core_of d ≡ w.core
core_same d w is = is.router.core

-- where both stand for worlds of one core
core_kept : {core : CoreForm} {read more : List Entry} {start a b : Option (List ℕ)} {d e : Driver} {t u : Tally}
    → Writes core read start d a t → Writes core more start e b u → core_of e ≡ core_of d
core_kept {d} {e} v w = cc (core_same e w.world w.stands, core_same d v.world v.stands)

-- ---- what is to come suits the driver

suits_by : (d e : Driver) (s : Schedule) → core_of e ≡ core_of d → Suits d s → Suits e s
suits_by d e s same suits = subst (λ core. AllSuit core s.changes.items) (sym same) suits

-- so what is left suits once the first was read
pub suits_later : {d e : Driver} {a b : Option (List ℕ)} {t u : Tally} {entries : List Entry} (old new : Schedule)
    (s : Strategy) → TakesDue old (Some s) new → Runs d a t → AddsEntries d a t entries e b u → Suits d old
    → Suits e new
suits_later {d} {e} old new s due r adds suits =
    suits_by d e new (core_kept r.3 (adds r.0 r.1 r.2 r.3)) (rw due.2 (rw due.0.first at suits).1)

-- whether it went well or not
pub suits_drained : {T E : Type 0} (r : Result T E) (d e : Driver) (a b : Option (List ℕ)) (t u : Tally)
    (s : Schedule) → Runs d a t → OnOk r (WritesOnly d a t e b u) → Suits d s → OnOk r (Suits e s)
suits_drained (Ok x) d e a b t u s r k suits = suits_by d e s (core_kept r.3 (k r.0 r.1 r.2 r.3)) suits
suits_drained (Err x) d e a b t u s r k suits = tt

-- what suited before room was made does so behind the time-point
pub suits_routed : {d e f : Driver} {a b c : Option (List ℕ)} {t u v : Tally} {changes : List Entry} {p : TimePoint}
    (entries : List Entry) (s s2 : Schedule) → RunsTo d a t p → AddsEntries d a t changes e b u
    → AddsPoint d a t entries p f c v → s2.changes ≡ s.changes → Suits e s → Suits f s2
suits_routed {e} {f} entries s s2 r adds more same suits =
    rw same (suits_by e f s (core_kept (adds r.0 r.1 r.2 r.3) (more r.0 r.1 r.2 r.4 r.3)) suits)

-- ---- there are cells for what is to come

pub seated_now : (cells : ℕ) (old new : Schedule) (s : Strategy) → TakesDue old (Some s) new → HaveCells cells old
    → workers_of s ≤ cells
seated_now cells old new s due have = rw due.1 ((rw due.0.first at have) 0 due.0.change (omega arith))

pub seated_later : (cells : ℕ) (old new : Schedule) (s : Strategy) → TakesDue old (Some s) new → HaveCells cells old
    → HaveCells cells new
seated_later cells old new s due have = rw due.2 (λ k d high. (rw due.0.first at have) (suc k) d (omega (arith, high)))

-- the first of these is the change that is due
pub first_is : (s : Schedule) (due : IsDue s) (c : Change) (rest : List Change) → s.changes.items ≡ c ∷ rest
    → (c ≡ due.change) × (rest ≡ due.rest)
first_is s due c rest e = let both : c ∷ rest ≡ due.change ∷ due.rest = sym e ∙ due.first in (cc, cc)

-- the next change is due at its number, and not one time-point before
pub due_at_its_number : DueAtItsNumber
due_at_its_number = grind arith

-- ---- a change

-- it may be read where nothing was read since the strategy was for the core
pub may_change : {d e : Driver} {a b : Option (List ℕ)} {t u : Tally} {s : Strategy} → WritesOnly d a t e b u
    → Runs d a t → IsFor (core_of d) s → (w : World) × IsDriverOf e w × IsFor w.core s
may_change {e} {s} k r is =
    let w = k r.0 r.1 r.2 r.3 in
    (w.world, w.stands, subst (λ c. IsFor c s) (sym (core_kept r.3 w) ∙ core_same e w.world w.stands) is)

pub change_adds : {d e f : Driver} {a b : Option (List ℕ)} {t u : Tally} {s : Strategy} → WritesOnly d a t e b u
    → IsFor (core_of d) s → ChangesIn e s f → AddsEntries d a t (ToStrategy s ∷ []) f b u
change_adds {e} {s} k is changes core read start w0 =
    let w = k core read start w0 in
    one_read (ToStrategy s) w (changes w.world
    (subst (λ c. IsFor c s) (sym (core_kept w0 w) ∙ core_same e w.world w.stands) is) w.stands)

-- what falls short behind changes does so before them
pub adds_falls : {d e : Driver} {a b c : Option (List ℕ)} {t u : Tally} {entries : List Entry} → points_in entries ≡ []
    → AddsEntries d a t entries e b u → FallsShort e b u c → FallsShort d a t c
adds_falls {c} {entries} none adds falls core read start w =
    subst (λ ps. Falls core ps start c) (points_with read entries none)
    (falls core (read ++ entries) start (adds core read start w))

-- ---- the changes that are due

-- Of what was due at first this was read, and the rest is due still.
pub record Made (old now : Schedule) (d : Driver) (a : Option (List ℕ)) (t : Tally) (e : Driver) (b : Option (List ℕ))
    (u : Tally) : Type 0 where
  pub made : List Entry
  pub none : points_in made ≡ []
  pub adds : AddsEntries d a t made e b u
  pub routed : now.routed ≡ old.routed
  pub due : changes_due old.routed old.changes.items ≡ made ++ changes_due now.routed now.changes.items
  pub later : changes_later old.routed old.changes.items ≡ changes_later now.routed now.changes.items

-- as yet nothing
pub none_made : (s : Schedule) (d : Driver) (a : Option (List ℕ)) (t : Tally) → Made s s d a t d a t
none_made s d a t = record {
  made = [];
  none = refl;
  adds = λ core read start w. subst (λ es. Writes core es start d a t) (sym (append-nil read)) w;
  routed = refl;
  due = refl;
  later = refl;
}

-- the next one
pub one_made : {old now new : Schedule} {d e f : Driver} {a b c : Option (List ℕ)} {t u v : Tally} {s : Strategy}
    → Made old now d a t e b u → TakesDue now (Some s) new → AddsEntries e b u (ToStrategy s ∷ []) f c v
    → Made old new d a t f c v
one_made {now = now} {new = new} {f = f} {c = c} {v = v} {s = s} m due adds =
    let one = one_due now.routed due.0.change due.0.rest due.0.reached in
    record {
      made = m.made ++ ToStrategy s ∷ [];
      none = points_with m.made (ToStrategy s ∷ []) refl ∙ m.none;
      adds = λ core read start w. subst (λ es. Writes core es start f c v)
          (append_assoc read m.made (ToStrategy s ∷ []))
          (adds core (read ++ m.made) start (m.adds core read start w));
      routed = due.3 ∙ m.routed;
      due = rw (m.due, due.0.first, one.0, append_assoc, due.1, due.2, due.3) refl;
      later = rw (m.later, due.0.first, one.1, due.2, due.3) refl;
    }

-- all of them, once none is due
pub all_made : {old now : Schedule} {d e : Driver} {a b : Option (List ℕ)} {t u : Tally} → Made old now d a t e b u
    → NoneDue now → AddsEntries d a t (changes_due old.routed old.changes.items) e b u
    × (now.changes.items ≡ changes_later old.routed old.changes.items)
all_made m none = grind (arith, none_due, append-nil)

-- ---- a time-point behind them

-- it may follow where those before were read, and changes
pub may_point : {d e : Driver} {a b : Option (List ℕ)} {t u : Tally} {p : TimePoint} (n : ℕ) (changes : List Change)
    → AddsEntries d a t (changes_due n changes) e b u → RunsTo d a t p
    → (w : World) × IsDriverOf e w × MayFollow (spot_in w).points p
may_point n changes adds r =
    let w = adds r.0 r.1 r.2 r.3 in
    (w.world, w.stands, rw (points_are w, points_with r.1 (changes_due n changes) (points_due n changes)) r.4)

pub point_adds : {d e f : Driver} {a b : Option (List ℕ)} {t u : Tally} {p : TimePoint} (n : ℕ) (changes : List Change)
    → AddsEntries d a t (changes_due n changes) e b u → ReadsIn e p f → AddsPoint d a t (changes_due n changes) p f b u
point_adds {f} {b} {u} {p} n changes adds reads core read start may w0 =
    let w = adds core read start w0 in
    subst (λ es. Writes core es start f b u) (append_assoc read (changes_due n changes) (Point p ∷ []))
    (one_read (Point p) w (reads w.world
    (rw (points_are w, points_with read (changes_due n changes) (points_due n changes)) may) w.stands))

-- ---- the most workers

-- the higher of two is one of them
higher_is : (a b m : ℕ) → m ≡ max a b → (a ≡ m) ⊎ (b ≡ m)
higher_is a b m e = grind arith

-- so the highest so far is the first's or a change's, with the next change too
pub highest_more : (first most next now k : ℕ) (changes : List Change) (c : Change) → now ≡ max most next
    → next ≡ workers_of c.strategy → c ≡ get_or changes k c → k < length changes
    → (first ≡ most) ⊎ Any (λ (d : Change). workers_of d.strategy ≡ most) changes
    → (first ≡ now) ⊎ Any (λ (d : Change). workers_of d.strategy ≡ now) changes
highest_more first most next now k changes c higher count at low of = by (higher_is most next now higher) of
  where
    by : (most ≡ now) ⊎ (next ≡ now) → (first ≡ most) ⊎ Any (λ (d : Change). workers_of d.strategy ≡ most) changes
        → (first ≡ now) ⊎ Any (λ (d : Change). workers_of d.strategy ≡ now) changes
    by (inl same) (inl is) = inl (is ∙ same)
    by (inl same) (inr any) = inr (any.0, any.1, any.2, any.3, any.4 ∙ same)
    by (inr same) before = inr (k, c, low, sym at, sym count ∙ same)
