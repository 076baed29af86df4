-- The rows that are read off events, one event after another, and the events that they stand for.
use Rattle.std.proofs.Common.{◌≡◌, ◌∙◌, ap, sym, refl, ℕ, true, false, nat_eq, ◌&&◌, List, [], ◌∷◌, length, map}
use Rattle.std.proofs.lemmas.Bool.{and_from, and_parts, eq-eqb}
use Rattle.std.proofs.{lemmas.List.length-map, lemmas.Map.Views.tells_apart}
use Rattle.std.specs.{List.filter, List.flat_map, Ordering.eq_by_cmp, Cmp.both_ways}
use Rattle.mfotl_model.proofs.{AscendingLemmas.any_ascending, MatchingLemmas.reads_own, MatchingLemmas.same_event_of}
use Rattle.mfotl_model.proofs.{RowLemmas.event_exact, RowLemmas.row_exact, ColumnLemmas.same_columns}
use Rattle.mfotl_model.proofs.{ColumnLemmas.distinct_apart}
use Rattle.mfotl_model.proofs.LogicLemmas.{absorbed, among_distinct, any_alike, any_map, any_filter}
use Rattle.mfotl_model.specs.{Ascending.ascending, Values.row_cmp}
use Rattle.mfotl_model.specs.Events.{event_cmp, event_total, has_pred}
use Rattle.mfotl_model.specs.FreeVariables.{among, variable_in, variables_in}
use Rattle.mfotl_model.specs.Matching.{Query, is_match, matching_rows, reads, row_read}
use Rattle.mfotl_model.specs.Satisfaction.{Valuation, event_of, has_event}
use Rattle.mfotl_model.specs.Tables.{all_apart, all_sized, has_row}
use Rattle.mfotl_model.specs.declared.{event.Event.Event, term.Atom.Atom as OneAtom, term.Term.Term}
use Rattle.eval_bool.specs.AtomSteps.{atom_rows}
use Rattle.relations.proofs.JoinLemmas.{row_itself, same_each}

-- an event that the atom doesn't stand for gives no row
pub event_left : (atom : OneAtom) (columns : List ℕ) (event : Event) (more : List Event) → is_match atom event ≡ false
    → atom_rows atom columns (event ∷ more) ≡ atom_rows atom columns more
unfolding atom_rows matching_rows
event_left atom columns event more fails = rw fails refl

-- an event that the atom stands for gives a row
pub row_taken : (atom : OneAtom) (columns : List ℕ) (event : Event) (more : List Event) → is_match atom event ≡ true
    → atom_rows atom columns (event ∷ more)
    ≡ row_read (record { atom = atom; columns = columns }) event
    ∷ atom_rows atom columns more
unfolding atom_rows matching_rows
row_taken atom columns event more holds = rw holds refl

-- no events give no rows
pub no_rows : (atom : OneAtom) (columns : List ℕ) → atom_rows atom columns [] ≡ []
unfolding atom_rows matching_rows
no_rows atom columns = refl

-- the variables of terms are distinct
pub variables_apart : (terms : List Term) → all_apart (variables_in terms) ≡ true
variables_apart terms = distinct_apart (flat_map variable_in terms)

-- each row has a value for each column
all_read : (q : Query) (events : List Event) → all_sized (length q.columns) (map (row_read q) events) ≡ true
all_read q [] = refl
all_read q (e ∷ events) =
    and_from (nat_eq (length (row_read q e)) (length q.columns))
    (all_sized (length q.columns) (map (row_read q) events))
    (eq-eqb (length (row_read q e)) (length q.columns) (length-map q.columns (reads q.atom e)))
    (all_read q events)

pub sized_rows : (atom : OneAtom) (columns : List ℕ) (events : List Event)
    → all_sized (length columns) (atom_rows atom columns events) ≡ true
unfolding atom_rows matching_rows
sized_rows atom columns events = all_read (record { atom = atom; columns = columns }) (filter (is_match atom) events)

module _ (v : Valuation) (atom : OneAtom) where
  -- an event's own row is v's exactly where it is the event that the atom stands for at v
  event_alike : (event : Event)
      → (is_match atom event && eq_by_cmp row_cmp (map v (variables_in atom.args))
      (row_read (record { atom = atom; columns = variables_in atom.args }) event))
      ≡ eq_by_cmp event_cmp (event_of v atom) event
  unfolding is_match
  event_alike event =
      let columns = variables_in atom.args in
      let q : Query = record { atom = atom; columns = columns } in
      both_ways (is_match atom event && eq_by_cmp row_cmp (map v columns) (row_read q event))
      (eq_by_cmp event_cmp (event_of v atom) event)
      (λ h.
      let parts = and_parts (is_match atom event) (eq_by_cmp row_cmp (map v columns) (row_read q event)) h in
      let row_is : map v columns ≡ map (reads atom event) columns =
      tells_apart row_exact (map v columns) (row_read q event) parts.1 in
      ap (λ e. eq_by_cmp event_cmp e event)
      (same_event_of v (reads atom event) atom (λ y m. same_each v (reads atom event) columns row_is y
      (among_distinct y (flat_map variable_in atom.args) ∙ m)))
      ∙ parts.0)
      (λ h.
      let is : event_of v atom ≡ event = tells_apart event_exact (event_of v atom) event h in
      let own : (y : ℕ) → among y (flat_map variable_in atom.args) ≡ true → v y ≡ reads atom event y =
      λ y m. sym (reads_own v atom.args y m) ∙ ap (λ e. reads atom e y) is in
      and_from (is_match atom event) (eq_by_cmp row_cmp (map v columns) (row_read q event))
      (ap (λ e. eq_by_cmp event_cmp e event) (sym (same_event_of v (reads atom event) atom own)) ∙ h)
      (ap (eq_by_cmp row_cmp (map v columns)) (sym (same_columns v (reads atom event) columns
      (λ y m. own y (sym (among_distinct y (flat_map variable_in atom.args)) ∙ m))))
      ∙ row_itself (map v columns)))

  -- the event that the atom stands for is among all events exactly where it is among those of its predicate
  pub has_own : (db : List Event)
      → has_event (filter (has_pred atom.pred) db) (event_of v atom) ≡ has_event db (event_of v atom)
  has_own db =
      any_filter (eq_by_cmp event_cmp (event_of v atom)) (has_pred atom.pred) db
      ∙ any_alike (λ e. has_pred atom.pred e && eq_by_cmp event_cmp (event_of v atom) e)
      (eq_by_cmp event_cmp (event_of v atom)) db
      (λ e. absorbed (has_pred atom.pred e) (eq_by_cmp event_cmp (event_of v atom) e)
      (λ h. let is : event_of v atom ≡ e = tells_apart event_exact (event_of v atom) e h in
      eq-eqb e.pred atom.pred (ap (λ (x : Event). x.pred) (sym is))))

  -- the rows that are read off have v's row exactly where the event is in the database
  pub has_matching : (events : List Event)
      → has_row (atom_rows atom (variables_in atom.args) events) (map v (variables_in atom.args))
      ≡ has_event (ascending event_cmp events) (event_of v atom)
  unfolding atom_rows matching_rows
  has_matching events =
      let columns = variables_in atom.args in
      let q : Query = record { atom = atom; columns = columns } in
      let row = map v columns in
      any_map (eq_by_cmp row_cmp row) (row_read q) (filter (is_match atom) events)
      ∙ any_filter (λ e. eq_by_cmp row_cmp row (row_read q e)) (is_match atom) events
      ∙ any_alike (λ e. is_match atom e && eq_by_cmp row_cmp row (row_read q e))
      (eq_by_cmp event_cmp (event_of v atom))
      events event_alike
      ∙ sym (any_ascending event_total event_exact (eq_by_cmp event_cmp (event_of v atom)) events)
