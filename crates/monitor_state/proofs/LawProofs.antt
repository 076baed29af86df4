-- What is always true of a monitor's steps.
use Rattle.std.proofs.Common.{List, [], ◌++◌, refl, sym, ap, subst, ◌∙◌, append_assoc, append-nil}
use Rattle.std.specs.Cmp.{both_ways}
use Rattle.mfotl_model.proofs.RegionLemmas.{everywhere_passes, slice_has}
use Rattle.mfotl_model.specs.{Exact.View, FreeVariables.fv, Regions.Passes, Satisfaction.event_of}
use Rattle.mfotl_model.specs.{Satisfaction.has_event, Slices.HasEach, Slices.slice}
use Rattle.mfotl_model.specs.declared.{event.Event.Event, term.Atom.Atom as OneAtom}
use Rattle.monitorable.proofs.{SoundLaw.parts_are_sound, TableLaw.tables_satisfy}
use Rattle.monitorable.specs.{Atoms.atoms_of, Laws.whole_view}
use Rattle.monitorable.specs.CoreForms.{CoreForm, meaning, Atom, Not, And, Or, Exists, Previous, Next, Since, Until}
use Rattle.monitor_state.specs.Laws.{LoneWorkerSteps, SliceIsEnough, TablesAreViolations}
use Rattle.monitor_nodes.specs.Steps.{SameNear}

module _ (view : View) (given db : List Event) (passes : Passes (fv view.whole) view.near) (below : HasEach db given)
  where
    -- the slice by the atoms, with others before and after them, is enough for the core
    abbrev Enough : CoreForm → Type 0
    Enough f = (before after : List OneAtom) → HasEach given (slice view.near (before ++ (atoms_of f ++ after)) db)
        → SameNear view f given db

    enough_both : (f g : CoreForm) → Enough f → Enough g → (before after : List OneAtom)
        → HasEach given (slice view.near (before ++ ((atoms_of f ++ atoms_of g) ++ after)) db)
        → SameNear view f given db × SameNear view g given db
    enough_both f g first second before after has = (
      first before (atoms_of g ++ after)
          (subst (λ atoms. HasEach given (slice view.near (before ++ atoms) db))
          (append_assoc (atoms_of f) (atoms_of g) after) has),
      second (before ++ atoms_of f) after
          (subst (λ atoms. HasEach given (slice view.near atoms db))
          (ap (λ atoms. before ++ atoms) (append_assoc (atoms_of f) (atoms_of g) after)
          ∙ sym (append_assoc before (atoms_of f) (atoms_of g ++ after))) has),
    )

    enough : (f : CoreForm) → Enough f
    unfolding atoms_of
    enough (Atom a) before after has = λ v near.
        both_ways (has_event given (event_of v a)) (has_event db (event_of v a)) (below (event_of v a))
        (λ h. has (event_of v a) (slice_has (fv view.whole) view.near passes a v before after db near ∙ h))
    enough (Not f) before after has = enough f before after has
    enough (And f g) before after has = enough_both f g (enough f) (enough g) before after has
    enough (Or f g) before after has = enough_both f g (enough f) (enough g) before after has
    enough (Exists x f) before after has = enough f before after has
    enough (Previous i f) before after has = enough f before after has
    enough (Next i f) before after has = enough f before after has
    enough (Since i f g) before after has = enough_both f g (enough f) (enough g) before after has
    enough (Until i f g) before after has = enough_both f g (enough f) (enough g) before after has
    enough f before after has = tt

pub slice_is_enough : SliceIsEnough
slice_is_enough view core given db passes has below =
    enough view given db passes below core [] []
    (subst (λ atoms. HasEach given (slice view.near atoms db)) (sym (append-nil (atoms_of core))) has)

-- a database has its own events
pub itself : (view : View) (f : CoreForm) (db : List Event) → SameNear view f db db
itself view (Atom a) db = λ v near. refl
itself view (Not f) db = itself view f db
itself view (And f g) db = (itself view f db, itself view g db)
itself view (Or f g) db = (itself view f db, itself view g db)
itself view (Exists x f) db = itself view f db
itself view (Previous i f) db = itself view f db
itself view (Next i f) db = itself view f db
itself view (Since i f g) db = (itself view f db, itself view g db)
itself view (Until i f g) db = (itself view f db, itself view g db)
itself view f db = tt

pub lone_worker_steps : LoneWorkerSteps
lone_worker_steps log point core fits apart rising =
    record {
      rising = rising;
      passes = everywhere_passes (fv (meaning core));
      whole_is = refl;
      sound = parts_are_sound (λ y. []) core (fits (λ y. [])) apart;
      ts = refl;
      same = itself (whole_view log core) core point.db;
    }

pub tables_are_violations : TablesAreViolations
tables_are_violations log policy core i table violations fits exact is =
    tables_satisfy log (λ y. []) core i table (fits (λ y. [])) exact is.sized is.sorted ∙ sym (violations log i)
