-- Atoms whose arguments are distinct variables: as many variables as arguments. They stand for each event of their
-- predicate with as many values, and the row that is read off is the event's own.
use Rattle.std.proofs.Common.{◌≡◌, ◌≢◌, ◌∙◌, ap, ap₂, sym, refl, arith, ℕ, ◌≤◌, Bool, true, false, not, cond, nat_eq}
use Rattle.std.proofs.Common.{List, [], ◌∷◌, length, map, Some, pos}
use Rattle.std.specs.{Prelude.unwrap_or, List.filter}
use Rattle.std.proofs.{lemmas.Bool.and_parts, lemmas.Bool.ne_eqb, lemmas.List.Filters.length-filter_both}
use Rattle.std.proofs.{lemmas.Map.Views.tells_apart}
use Rattle.mfotl_model.proofs.{AtomLemmas.gives_none_back, AtomLemmas.match_by_terms, LogicLemmas.same_number}
use Rattle.mfotl_model.proofs.{MatchingLemmas.first_more, RowLemmas.event_exact, ColumnLemmas.same_columns}
use Rattle.mfotl_model.specs.{AtomSteps.give_back, FreeVariables.among, FreeVariables.variables_in}
use Rattle.mfotl_model.specs.Matching.{first_value, is_match, read_off, reads, row_read}
use Rattle.mfotl_model.specs.Satisfaction.{Valuation, event_of, term_value}
use Rattle.mfotl_model.specs.declared.{event.Event.Event, term.Atom.Atom as OneAtom, term.Term.Term}
use Rattle.mfotl_model.specs.declared.{term.Term.TheVariants.Var, term.Term.TheVariants.Const, value.Value.Value}
use Rattle.mfotl_model.specs.declared.{value.Value.TheVariants.Int}
use Rattle.eval_bool.proofs.AtomRows.{row_taken, variables_apart}
use Rattle.eval_bool.specs.AtomSteps.{atom_rows}
use Rattle.relations.proofs.JoinLemmas.{row_itself}

-- whether it is another variable
abbrev other_than : ℕ → ℕ → Bool
other_than x y = not (among y (x ∷ []))

at_most : (p : ℕ → Bool) (ys : List ℕ) → length (filter p ys) ≤ length ys
at_most p ys = omega (arith, length-filter_both p (λ y. not (p y)) (λ y. refl) ys)

-- a filter that leaves out none keeps the list
all_kept : (p : ℕ → Bool) (ys : List ℕ) → length (filter p ys) ≡ length ys → filter p ys ≡ ys
all_kept p [] same = refl
all_kept p (y ∷ ys) same = grind (arith, at_most, all_kept p ys)

few_variables : (terms : List Term) → length (variables_in terms) ≤ length terms
few_variables [] = omega arith
few_variables (Var x ∷ terms) = omega (arith, at_most (other_than x) (variables_in terms), few_variables terms)
few_variables (Const c ∷ terms) = omega (arith, few_variables terms)

-- the terms behind a variable, where all are distinct variables
record Behind (x : ℕ) (terms : List Term) : Type 0 where
  plain : length (variables_in terms) ≡ length terms
  kept : filter (other_than x) (variables_in terms) ≡ variables_in terms
  apart : (y : ℕ) → among y (variables_in terms) ≡ true → nat_eq x y ≡ false

behind : (x : ℕ) (terms : List Term) → length (variables_in (Var x ∷ terms)) ≡ length (Var x ∷ terms) → Behind x terms
behind x terms plain =
    grind (arith, at_most, few_variables terms, all_kept, and_parts, variables_apart (Var x ∷ terms), ne_eqb)

-- distinct variables have the values of their valuation
values_of : (v : Valuation) (terms : List Term) → length (variables_in terms) ≡ length terms
    → map (term_value v) terms ≡ map v (variables_in terms)
values_of v [] plain = refl
values_of v (Var x ∷ terms) plain =
    let more = behind x terms plain in
    ap (λ rest. v x ∷ rest) (values_of v terms more.plain ∙ ap (map v) (sym more.kept))
values_of v (Const c ∷ terms) plain = absurd (omega (arith, few_variables terms))

-- they read off each value in its place
own_values : (terms : List Term) (values : List Value) → length (variables_in terms) ≡ length terms
    → length terms ≡ length values → map (read_off terms values) (variables_in terms) ≡ values
own_values [] [] plain same = refl
own_values [] (a ∷ values) plain same = absurd (omega arith)
own_values (t ∷ terms) [] plain same = absurd (omega arith)
own_values (Var x ∷ terms) (a ∷ values) plain same =
    let more = behind x terms plain in
    let v = read_off (Var x ∷ terms) (a ∷ values) in
    let read : (y : ℕ) (b : Bool) → nat_eq x y ≡ b
    → v y ≡ unwrap_or (cond b (Some a) (first_value terms values y)) (Int (pos 0)) =
    λ y b is. ap (λ o. unwrap_or o (Int (pos 0))) (first_more (Var x) terms a values y
    ∙ ap (λ c. cond c (Some a) (first_value terms values y)) is) in
    ap₂ (λ b rest. b ∷ rest) (read x true (same_number x))
    (ap (map v) more.kept
    ∙ same_columns v (read_off terms values) (variables_in terms) (λ y m. read y false (more.apart y m))
    ∙ own_values terms values more.plain (omega arith))
own_values (Const c ∷ terms) (a ∷ values) plain same = absurd (omega (arith, few_variables terms))

-- they stand for as many values, whatever these are
pub plain_match : (atom : OneAtom) (event : Event) → length (variables_in atom.args) ≡ length atom.args
    → atom.pred ≡ event.pred → length atom.args ≡ length event.args → is_match atom event ≡ true
unfolding give_back
plain_match atom event plain pred same = simp (match_by_terms, values_of, own_values, row_itself)

pub other_length : (atom : OneAtom) (event : Event) → atom.pred ≡ event.pred → length atom.args ≢ length event.args
    → is_match atom event ≡ false
other_length atom event pred apart = cc (match_by_terms atom event pred, gives_none_back atom.args event.args apart)

-- the row that is read off is the event's own
plain_row : (atom : OneAtom) (event : Event) → length (variables_in atom.args) ≡ length atom.args
    → is_match atom event ≡ true
    → row_read (record { atom = atom; columns = variables_in atom.args }) event ≡ event.args
unfolding is_match
plain_row atom event plain holds =
    sym (values_of (reads atom event) atom.args plain)
    ∙ ap (λ e. e.args) (tells_apart event_exact (event_of (reads atom event) atom) event holds)

-- an event that the atom stands for gives its own row
pub own_row : (atom : OneAtom) (event : Event) (more : List Event) → length (variables_in atom.args) ≡ length atom.args
    → is_match atom event ≡ true → atom_rows atom (variables_in atom.args) (event ∷ more)
    ≡ event.args ∷ atom_rows atom (variables_in atom.args) more
own_row atom event more plain holds = simp (row_taken, plain_row)
