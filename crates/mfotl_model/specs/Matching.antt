-- How an atom is matched against an event: the values that its variables read off the event, and the
-- rows that they give.
use Rattle.std.specs.Prelude.{ℕ, Bool, false, nat_eq, List, map, pos, Option, option_and_then, position, slice_get}
use Rattle.std.specs.Prelude.{unwrap_or}
use Rattle.std.specs.List.{filter, list_any}
use Rattle.std.specs.Ordering.{eq_by_cmp}
use Rattle.mfotl_model.specs.Events.{event_cmp}
use Rattle.mfotl_model.specs.Satisfaction.{Valuation, event_of}
use Rattle.mfotl_model.specs.declared.event.Event.{Event}
use Rattle.mfotl_model.specs.declared.term.Atom.{Atom as OneAtom}
use Rattle.mfotl_model.specs.declared.term.Term.{Term}
use Rattle.mfotl_model.specs.declared.term.Term.TheVariants.{Var, Const}
use Rattle.mfotl_model.specs.declared.value.Value.{Value}
use Rattle.mfotl_model.specs.declared.value.Value.TheVariants.{Int}

-- an atom, and the variables that are a row's columns
pub record Query : Type 0 where
  pub atom : OneAtom
  pub columns : List ℕ

-- whether the term is the variable
abbrev pub is_variable : ℕ → Term → Bool
is_variable y (Var x) = nat_eq x y
is_variable y (Const c) = false

-- the value at the first place where the terms have the variable
unfoldable pub first_value : List Term → List Value → ℕ → Option Value
first_value terms values y =
    option_and_then (slice_get values) (position (is_variable y) terms)

-- the valuation that gives each variable its first value; other variables, on which nothing hangs, are 0
abbrev pub read_off : List Term → List Value → Valuation
read_off terms values y = unwrap_or (first_value terms values y) (Int (pos 0))

-- the valuation that the atom reads off the event
abbrev pub reads : OneAtom → Event → Valuation
reads atom event = read_off atom.args event.args

-- whether the atom stands for the event, where its variables are what it reads off the event
unfoldable pub is_match : OneAtom → Event → Bool
is_match atom event = eq_by_cmp event_cmp (event_of (reads atom event) atom) event

-- whether some of the atoms stands for the event
abbrev pub is_seen : List OneAtom → Event → Bool
is_seen atoms event = list_any (λ atom. is_match atom event) atoms

-- the values of the columns that are read off the event
abbrev pub row_read : Query → Event → List Value
row_read q event = map (reads q.atom event) q.columns

-- the rows that are read off the events which the atom stands for, in the order of the events
unfoldable pub matching_rows : Query → List Event → List (List Value)
matching_rows q events = map (row_read q) (filter (is_match q.atom) events)
