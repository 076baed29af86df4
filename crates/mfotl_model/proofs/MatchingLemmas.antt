-- What an atom reads off an event that it stands for.
use Rattle.std.proofs.Common.{◌≡◌, ◌∙◌, ap, ap₂, refl, arith, ℕ, Bool, true, false, cond, nat_eq, List, [], ◌∷◌, map}
use Rattle.std.proofs.Common.{Some, inl, inr, pos}
use Rattle.std.proofs.lemmas.Bool.{cases_eq, eq-eqb, ne_eqb, or_left, or_right}
use Rattle.std.specs.List.{flat_map}
use Rattle.mfotl_model.proofs.LogicLemmas.{same_number}
use Rattle.mfotl_model.specs.FreeVariables.{among, variable_in}
use Rattle.mfotl_model.specs.Matching.{first_value, is_variable, read_off}
use Rattle.mfotl_model.specs.Satisfaction.{Valuation, event_of, term_value}
use Rattle.mfotl_model.specs.declared.{term.Atom.Atom as OneAtom, term.Term.Term, term.Term.TheVariants.Var}
use Rattle.mfotl_model.specs.declared.{term.Term.TheVariants.Const, value.Value.Value}

-- the first value with one place more in front
pub first_more : (t : Term) (terms : List Term) (a : Value) (values : List Value) (y : ℕ)
    → first_value (t ∷ terms) (a ∷ values) y ≡ cond (is_variable y t) (Some a) (first_value terms values y)
unfolding first_value
first_more t terms a values y = grind arith

-- what is read off with one place more in front
read_more : (t : Term) (terms : List Term) (a : Value) (values : List Value) (y : ℕ) (b : Bool) → is_variable y t ≡ b
    → read_off (t ∷ terms) (a ∷ values) y ≡ cond b a (read_off terms values y)
read_more t terms a values y b is = grind (arith, pos, first_more)

later : (x y : ℕ) (terms : List Term) → (x ≡ y → ⊥)
    → among y (flat_map variable_in (Var x ∷ terms)) ≡ true → among y (flat_map variable_in terms) ≡ true
later x y terms ne m = grind arith

-- what is read off the event that an atom stands for is its variables' own values
pub reads_own : (v : Valuation) (terms : List Term) (y : ℕ) → among y (flat_map variable_in terms) ≡ true
    → read_off terms (map (term_value v) terms) y ≡ v y
reads_own v [] y m = cc
reads_own v (Var x ∷ terms) y m =
    elim (cases_eq x y) [
      | inl e ↦ read_more (Var x) terms (v x) (map (term_value v) terms) y true (eq-eqb x y e) ∙ ap v e
      | inr ne ↦
          read_more (Var x) terms (v x) (map (term_value v) terms) y false (ne_eqb x y ne)
          ∙ reads_own v terms y (later x y terms ne m)
    ]
reads_own v (Const c ∷ terms) y m = grind (arith, read_more, reads_own v terms y m)

same_terms : (v w : Valuation) (terms : List Term) → ((y : ℕ) → among y (flat_map variable_in terms) ≡ true → v y ≡ w y)
    → map (term_value v) terms ≡ map (term_value w) terms
same_terms v w [] same = refl
same_terms v w (Var x ∷ terms) same =
    ap₂ (λ a rest. a ∷ rest)
    (same x (or_left (nat_eq x x) (among x (flat_map variable_in terms)) (same_number x)))
    (same_terms v w terms
    (λ y m. same y (or_right (nat_eq y x) (among y (flat_map variable_in terms)) m)))
same_terms v w (Const c ∷ terms) same = ap (λ rest. c ∷ rest) (same_terms v w terms same)

-- an atom stands for one event, where its variables have the same values
pub same_event_of : (v w : Valuation) (atom : OneAtom)
    → ((y : ℕ) → among y (flat_map variable_in atom.args) ≡ true → v y ≡ w y) → event_of v atom ≡ event_of w atom
same_event_of v w atom same = cc (same_terms v w atom.args same)
