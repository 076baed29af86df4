-- What main has read and written stays true from turn to turn.
use Rattle.std.proofs.Common.{◌≡◌, ◌∙◌, ℕ, List, [], ◌∷◌, ◌++◌, map, length, Option, sym, refl, ap, ap₂, subst}
use Rattle.std.proofs.Common.{append_assoc, append-nil, OnOk, OnErr, Ok, Err, Bool, true, arith}
use Rattle.std.specs.Prelude.{Result}
use Rattle.std.proofs.{lemmas.List.map-append, lemmas.Simd.map-map, KnownBytes.Appends-nil, KnownBytes.Appends-trans}
use Rattle.mon_outside.specs.Sink.{Appends, AppendsFront}
use Rattle.mfotl_model.specs.VerdictText.{VerdictOf, line_of}
use Rattle.mfotl_model.specs.declared.event.TimePoint.{TimePoint}
use Rattle.monitorable.specs.CoreForms.{CoreForm}
use Rattle.rescale_core.proofs.{Ending.world_emitted, Keeping.by_steps, Keeping.turn_keeps, Keeping.turn_moves}
use Rattle.rescale_core.proofs.{Verdicts.first_verdicts as none_emitted}
use Rattle.rescale_core.specs.{Laws.EmitsVerdicts, Moving.StepKind.Emits, Moving.StepKind.Reads, Routing.HasEnded}
use Rattle.rescale_core.specs.{Worlds.Step.Emit, Worlds.Step.Read}
use Rattle.rescale_worker.specs.Lines.{Spot, first_spot, moved, spot_after}
use Rattle.rescale_core.specs.Moving.{IsDriverOf, Reaches, TurnsTo}
use Rattle.rescale_core.specs.Worlds.{World, Allowed, world_after, first_world, spot_in}
use Rattle.rescale_core.specs.declared.{driver.Driver.Driver, driver.Turn.Turn}
use Rattle.rescale_worker.specs.declared.{item.Entry.Entry}
use Rattle.rescale_worker.specs.declared.{item.Entry.TheVariants.Point, item.Entry.TheVariants.Change as ToStrategy}
use Rattle.verdict_merge.specs.declared.rows.Verdict.{Verdict}
use Rattle.lone_worker.specs.{Texts.lines, Texts.tally_of}
use Rattle.lone_worker.specs.Verdicts.{Falls, all_verdicts, first_verdicts, seen}
use Rattle.lone_worker.specs.declared.tally.Tally.{Tally}
use Rattle.lone_worker.proofs.{SinkLemmas.front_behind, SinkLemmas.whole_front, VerdictLemmas.lines_more}
use Rattle.main_steps.specs.Changes.{points_in}
use Rattle.main_steps.specs.Writing.{AddsEntries, HasReadNothing, FallsShort, AllEmitted, WritesOnly, Runs, RunsTo}
use Rattle.main_steps.specs.Writing.{Writes}

pub on_ok_both : {T E : Type 0} (r : Result T E) (P Q R : Type 0) → (P → Q → R) → OnOk r P → OnOk r Q → OnOk r R
on_ok_both r P Q R f p q = grind arith

-- ---- one after the other

pub keeps_on : {d e f : Driver} {a b c : Option (List ℕ)} {t u v : Tally} → WritesOnly d a t e b u
    → WritesOnly e b u f c v → WritesOnly d a t f c v
keeps_on h k core read start w = k core read start (h core read start w)

pub runs_on : {d e : Driver} {a b : Option (List ℕ)} {t u : Tally} → WritesOnly d a t e b u → Runs d a t → Runs e b u
runs_on k r = (r.0, r.1, r.2, k r.0 r.1 r.2 r.3)

pub falls_on : {d e : Driver} {a b c : Option (List ℕ)} {t u : Tally} → WritesOnly d a t e b u → FallsShort e b u c
    → FallsShort d a t c
falls_on k f core read start w = f core read start (k core read start w)

-- the entries were read before, and nothing behind them
pub adds_keeps : {d e f : Driver} {a b c : Option (List ℕ)} {t u v : Tally} {entries : List Entry}
    → AddsEntries d a t entries e b u → WritesOnly e b u f c v → AddsEntries d a t entries f c v
adds_keeps {entries} h k core read start w = k core (read ++ entries) start (h core read start w)

pub runs_with : {d e : Driver} {a b : Option (List ℕ)} {t u : Tally} {entries : List Entry}
    → AddsEntries d a t entries e b u → Runs d a t → Runs e b u
runs_with {entries} k r = (r.0, r.1 ++ entries, r.2, k r.0 r.1 r.2 r.3)

pub runs_of : {d : Driver} {a : Option (List ℕ)} {t : Tally} {p : TimePoint} → RunsTo d a t p → Runs d a t
runs_of r = (r.0, r.1, r.2, r.3)

-- there is a world for which the driver stands
pub world_of : {d : Driver} {a : Option (List ℕ)} {t : Tally} → Runs d a t → (w : World) × IsDriverOf d w
world_of r = (r.3.world, r.3.stands)

-- nothing was done
pub same_keeps : {d e : Driver} (now : Option (List ℕ)) (t : Tally) → ((w : World) → IsDriverOf d w → IsDriverOf e w)
    → WritesOnly d now t e now t
same_keeps now t go core read start w = grind arith

-- the time-points are those that were read
spot_reads : (a : Spot) (read : List Entry) → (spot_after a read).points ≡ a.points ++ points_in read
spot_reads a [] = sym (append-nil a.points)
spot_reads a (Point p ∷ read) = search (append_assoc, spot_reads (moved a (Point p)) read)
spot_reads a (ToStrategy s ∷ read) = spot_reads (moved a (ToStrategy s)) read

pub points_are : {core : CoreForm} {read : List Entry} {start now : Option (List ℕ)} {d : Driver} {t : Tally}
    → (w : Writes core read start d now t) → (spot_in w.world).points ≡ points_in read
points_are w = spot_reads (first_spot w.world.first) w.world.read ∙ ap points_in w.read_is

-- ---- a turn

-- behind a turn the driver stands for a world still
pub turn_stands : (d e : Driver) (k : ℕ) (turn : Turn) → TurnsTo d k turn e → (w : World) × IsDriverOf d w
    → (x : World) × IsDriverOf e x
turn_stands d e k turn to before =
    let moves = turn_moves d e k turn before.0 to before.1 in
    (moves.2, moves.4)

-- a turn reads and writes nothing
pub turn_written : (d e : Driver) (now : Option (List ℕ)) (t : Tally) (k : ℕ) (turn : Turn) → TurnsTo d k turn e
    → WritesOnly d now t e now t
turn_written d e now t k turn to core read start w = grind (arith, turn_keeps)

-- ---- a verdict

-- a verdict may be emitted, and the driver stands for the world in which it is
abbrev pub EmitsIn : Driver → Verdict → Driver → Type 0
EmitsIn d v e = (w : World) → IsDriverOf d w → Allowed w (Emit v) × IsDriverOf e (world_after w (Emit v))

seen_more : (vs : List Verdict) (v : Verdict)
    → lines (map seen (vs ++ v ∷ [])) ≡ lines (map seen vs) ++ line_of (seen v)
seen_more vs v = ap lines (map-append seen vs (v ∷ [])) ∙ lines_more (map seen vs) (seen v)

emitted_next : (w : World) (d : Driver) (v : Verdict) → IsDriverOf d w → EmitsVerdicts w → Allowed w (Emit v)
    → EmitsVerdicts (world_after w (Emit v))
emitted_next w d v is verdicts may =
    (by_steps (Emits ∷ []) w (world_after w (Emit v)) is.router.sound verdicts
    (world_after w (Emit v), (v, may, refl), refl)).1

pub wrote_one : {d e : Driver} {v : Verdict} {a b : Option (List ℕ)} {t u : Tally} → EmitsIn d v e
    → Appends a b (line_of (seen v))
    → ((vs : List VerdictOf) → t ≡ tally_of vs → u ≡ tally_of (vs ++ seen v ∷ [])) → WritesOnly d a t e b u
wrote_one {d} {e} {v} {a} {b} emits line counts core read start w =
    let one = emits w.world w.stands in
    record {
      world = world_after w.world (Emit v);
      stands = one.1;
      core_is = w.core_is;
      read_is = w.read_is;
      verdicts = emitted_next w.world d v w.stands w.verdicts one.0;
      text = subst (Appends start b) (sym (seen_more w.world.emitted v)) (Appends-trans start a b _ _ w.text line);
      counts = counts (map seen w.world.emitted) w.counts
          ∙ ap tally_of (sym (map-append seen w.world.emitted (v ∷ [])));
    }

-- ---- falling short

-- what was emitted are the first verdicts
emitted_first : (core : CoreForm) (points : List TimePoint) (w : World) → w.core ≡ core → (spot_in w).points ≡ points
    → EmitsVerdicts w → map seen w.emitted ≡ first_verdicts core points (length w.emitted)
emitted_first core points w core_is points_are verdicts = grind (arith, map-map, ap₂, points_are)

-- so a front of their lines falls short
falls_at : (core : CoreForm) (points : List TimePoint) (w : World) {start now : Option (List ℕ)} → w.core ≡ core
    → (spot_in w).points ≡ points → EmitsVerdicts w → AppendsFront start now (lines (map seen w.emitted))
    → Falls core points start now
falls_at core points w {start} {now} core_is points_are verdicts front = record {
  count = length w.emitted;
  settled = grind (arith, points_are);
  front = subst (λ vs. AppendsFront start now (lines vs)) (emitted_first core points w core_is points_are verdicts)
      front;
}

pub stops : (d : Driver) (now : Option (List ℕ)) (t : Tally) → FallsShort d now t now
stops d now t core read start w =
    falls_at core (points_in read) w.world w.core_is (points_are w) w.verdicts (whole_front start now _ w.text)

-- whether it went well or not
pub falls_either : {T E : Type 0} (r : Result T E) (d e : Driver) (a b : Option (List ℕ)) (t u : Tally)
    → OnOk r (WritesOnly d a t e b u) → OnErr r (FallsShort d a t b) → FallsShort d a t b
falls_either (Ok x) d e a b t u keeps falls = falls_on keeps (stops e b u)
falls_either (Err x) d e a b t u keeps falls = falls

-- a line was written in part
pub cut_short : {d e : Driver} {v : Verdict} {a b : Option (List ℕ)} {t : Tally} → EmitsIn d v e
    → AppendsFront a b (line_of (seen v)) → FallsShort d a t b
cut_short {d} {v = v} {a = a} {b = b} emits part core read start w =
    let one = emits w.world w.stands in
    falls_at core (points_in read) (world_after w.world (Emit v)) w.core_is (points_are w)
    (emitted_next w.world d v w.stands w.verdicts one.0)
    (subst (AppendsFront start b) (sym (seen_more w.world.emitted v)) (front_behind start a b _ _ w.text part))

-- ---- the end

-- all verdicts were emitted
pub is_over : (d : Driver) (b : Bool) → b ≡ true → ((w : World) → IsDriverOf d w → b ≡ true → HasEnded w) → AllEmitted d
is_over d b told ended w is verdicts = grind (arith, emitted_first, world_emitted)

-- so their lines were written
pub over_written : {core : CoreForm} {read : List Entry} {start now : Option (List ℕ)} {d : Driver} {t : Tally}
    → Writes core read start d now t → AllEmitted d → Appends start now (lines (all_verdicts core (points_in read)))
    × (t ≡ tally_of (all_verdicts core (points_in read)))
over_written {core} {read} {start} {now} w over =
    let all : map seen w.world.emitted ≡ all_verdicts core (points_in read) =
    over w.world w.stands w.verdicts ∙ ap₂ (λ c ps. all_verdicts c ps) w.core_is (points_are w) in
    (subst (λ vs. Appends start now (lines vs)) all w.text, w.counts ∙ ap tally_of all)

-- ---- an entry more

-- it was read, whichever it is
pub one_read : {core : CoreForm} {read : List Entry} {start now : Option (List ℕ)} {d e : Driver} {t : Tally}
    (entry : Entry) → (w : Writes core read start d now t)
    → (x : World) × Reaches w.world (Reads entry ∷ []) x × IsDriverOf e x
    → Writes core (read ++ entry ∷ []) start e now t
one_read {start} {now} entry w r =
    let is : r.0 ≡ world_after w.world (Read entry) = sym r.1.2 ∙ r.1.1.1 in
    record {
      world = r.0;
      stands = r.2;
      core_is = ap (λ (x : World). x.core) is ∙ w.core_is;
      read_is = ap (λ (x : World). x.read) is ∙ ap (λ es. es ++ entry ∷ []) w.read_is;
      verdicts = (by_steps (Reads entry ∷ []) w.world r.0 w.stands.router.sound w.verdicts r.1).1;
      text = subst (λ vs. Appends start now (lines (map seen vs))) (sym (ap (λ (x : World). x.emitted) is)) w.text;
      counts = w.counts ∙ ap (λ vs. tally_of (map seen vs)) (sym (ap (λ (x : World). x.emitted) is));
    }

-- ---- the beginning

-- nothing was read
pub nothing_read : (core : CoreForm) (d : Driver) (start : Option (List ℕ)) (t : Tally) → HasReadNothing core d
    → t ≡ tally_of [] → Writes core [] start d start t
nothing_read core d start t begins none = record {
  world = first_world core begins.first;
  stands = begins.stands;
  core_is = refl;
  read_is = refl;
  verdicts = none_emitted core begins.first;
  text = Appends-nil start;
  counts = none;
}
