-- The terms of an atom beside the values of an event.
use Rattle.std.proofs.Common.{◌≡◌, ◌∙◌, ap, ap₂, sym, refl, arith, ℕ, ◌≢◌, Bool, true, false, ◌&&◌, ◌||◌, cond, nat_eq}
use Rattle.std.proofs.Common.{List, [], ◌∷◌, length, map, Some, is_some}
use Rattle.std.proofs.lemmas.Bool.{eq-eqb, ne_eqb, or_left, or_right}
use Rattle.std.proofs.{lemmas.List.length-map, lemmas.List.Folds.list_any-append, lemmas.Map.Views.tells_apart}
use Rattle.std.specs.{Cmp.tied_then, Ordering.eq_by_cmp}
use Rattle.std.specs.List.{flat_map, list_all, zip}
use Rattle.mfotl_model.proofs.{MatchingLemmas.first_more, RowLemmas.row_exact}
use Rattle.mfotl_model.specs.{FreeVariables.among, FreeVariables.variable_in, Satisfaction.term_value, Values.row_cmp}
use Rattle.mfotl_model.specs.{Values.value_cmp, AtomSteps.give_back, AtomSteps.stands_for}
use Rattle.mfotl_model.specs.declared.{event.Event.Event, term.Atom.Atom as OneAtom, term.Term.Term}
use Rattle.mfotl_model.specs.declared.{term.Term.TheVariants.Var, term.Term.TheVariants.Const, value.Value.Value}
use Rattle.mfotl_model.specs.Matching.{first_value, is_match, read_off}

pub or_second : (a b : Bool) → a ≡ false → (a || b) ≡ true → b ≡ true
or_second a b e h = cc

pub eqb_turned : (x y : ℕ) → nat_eq x y ≡ nat_eq y x
eqb_turned x y = grind arith

-- each variable of the terms has a first value, where there are as many values
pub has_first : (terms : List Term) (values : List Value) (y : ℕ) → length terms ≡ length values
    → among y (flat_map variable_in terms) ≡ true → is_some (first_value terms values y) ≡ true
has_first [] values y same h = cc
has_first (t ∷ terms) [] y same h = absurd (omega arith)
has_first (Var x ∷ terms) (a ∷ values) y same h =
    ap is_some (first_more (Var x) terms a values y)
    ∙ by (nat_eq x y) refl (λ e. has_first terms values y (omega arith)
    (or_second (nat_eq y x) (among y (flat_map variable_in terms)) (eqb_turned y x ∙ e) h))
  where
    by : (b : Bool) → nat_eq x y ≡ b → (nat_eq x y ≡ false → is_some (first_value terms values y) ≡ true)
        → is_some (cond b (Some a) (first_value terms values y)) ≡ true
    by true e more = refl
    by false e more = more e
has_first (Const c ∷ terms) (a ∷ values) y same h =
    ap is_some (first_more (Const c) terms a values y) ∙ has_first terms values y (omega arith) h

-- a term stands for a value where its variable is read off as that
own : (terms : List Term) (values : List Value) (t : Term) (a : Value)
    → ((y : ℕ) → among y (variable_in t) ≡ true → is_some (first_value terms values y) ≡ true)
    → stands_for terms values t a ≡ eq_by_cmp value_cmp (term_value (read_off terms values) t) a
own terms values t a has = grind arith

-- values are equal one by one
compared : (terms : List Term) (values : List Value) (ts : List Term) (vs : List Value) → length ts ≡ length vs
    → ((y : ℕ) → among y (flat_map variable_in ts) ≡ true → is_some (first_value terms values y) ≡ true)
    → list_all (λ p. stands_for terms values p.0 p.1) (zip ts vs)
    ≡ eq_by_cmp row_cmp (map (term_value (read_off terms values)) ts) vs
compared terms values [] [] same has = refl
compared terms values [] (a ∷ vs) same has = absurd (omega arith)
compared terms values (t ∷ ts) [] same has = absurd (omega arith)
compared terms values (t ∷ ts) (a ∷ vs) same has =
    let split : (y : ℕ) → among y (flat_map variable_in (t ∷ ts))
    ≡ (among y (variable_in t) || among y (flat_map variable_in ts)) = search (list_any-append) in
    ap₂ (λ b c. b && c)
    (own terms values t a (λ y h. has y
    (split y ∙ or_left (among y (variable_in t)) (among y (flat_map variable_in ts)) h)))
    (compared terms values ts vs (omega arith)
    (λ y h. has y (split y ∙ or_right (among y (variable_in t)) (among y (flat_map variable_in ts)) h)))
    ∙ tied_then (value_cmp (term_value (read_off terms values) t) a)
    (row_cmp (map (term_value (read_off terms values)) ts) vs)

-- the terms stand for the values: where there are as many of both, and never else
pub gives_back : (terms : List Term) (values : List Value) → length terms ≡ length values
    → give_back terms values ≡ list_all (λ p. stands_for terms values p.0 p.1) (zip terms values)
unfolding give_back
gives_back terms values same = simp (compared, has_first)

pub gives_none_back : (terms : List Term) (values : List Value) → length terms ≢ length values
    → give_back terms values ≡ false
unfolding give_back
gives_none_back terms values apart = by (give_back terms values) refl
  where
    by : (b : Bool) → give_back terms values ≡ b → b ≡ false
    by false e = refl
    by true e =
        absurd (apart (sym (length-map terms (term_value (read_off terms values)))
        ∙ ap length (tells_apart row_exact (map (term_value (read_off terms values)) terms) values e)))

-- an event that an atom stands for, by its parts
match_parts : (atom : OneAtom) (event : Event)
    → is_match atom event ≡ (nat_eq atom.pred event.pred && give_back atom.args event.args)
unfolding is_match give_back
match_parts atom event = grind arith

pub match_by_terms : (atom : OneAtom) (event : Event) → atom.pred ≡ event.pred
    → is_match atom event ≡ give_back atom.args event.args
match_by_terms atom event same = cc (match_parts atom event, eq-eqb atom.pred event.pred same)

pub match_by_pred : (atom : OneAtom) (event : Event) → atom.pred ≢ event.pred → is_match atom event ≡ false
match_by_pred atom event apart = cc (match_parts atom event, ne_eqb atom.pred event.pred apart)
