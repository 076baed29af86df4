-- What the fragment gives a core it gives the arranged one.
use Rattle.std.proofs.Common.{◌≡◌, ℕ, Bool, true, false, None, ◌||◌, List, refl, sym, ap, ap₂, ◌∙◌, arith}
use Rattle.std.proofs.Math.Bool.{or_assoc, or_comm}
use Rattle.mfotl_model.specs.{ActiveDomain.constants, Domains.in_domain, Exact.View, FreeVariables.among}
use Rattle.mfotl_model.specs.declared.{event.Event.Event, value.Value.Value}
use Rattle.monitorable.proofs.FragmentLemmas.{asked_kept, no_first, no_variable, none_first, none_outside}
use Rattle.monitorable.specs.CoreForms.{CoreForm, meaning, And, Exists, Next, Not, Or, Previous, Since, Until}
use Rattle.monitorable.specs.Fragment.{Names, asked, bound_by, covers, evens, fault_in, first, guards, is_conjunction}
use Rattle.monitorable.specs.Fragment.{judges_not, looks_within, needed_by, under_not, with_name}
use Rattle.monitorable.specs.Soundness.{IsWellFormedIn}
use Rattle.monitorable.specs.declared.role.Role.{Role}
use Rattle.monitorable.specs.declared.role.Role.TheVariants as role
use Rattle.core_arranging.proofs.ArrangedLemmas.{fv_arranged, has_conjuncts, of_either}
use Rattle.core_arranging.specs.Arranging.{arranged, before_windows, windowed, with_conjuncts}
use Rattle.monitor_state.proofs.{NarrowedBegins.among_both, NarrowedBegins.within_both, WholeLemmas.guarded}
use Rattle.monitor_nodes.specs.Steps.{SameNear}

-- ---- what a conjunction has where both its sides have it

module _ (P : CoreForm → Type 0) (pair : (f g : CoreForm) → P f → P g → P (And f g))
    (parts : (f g : CoreForm) → P (And f g) → P f × P g) where
  stays_before : (f h : CoreForm) → P f → P h → P (before_windows f h)
  stays_before (And f g) h p q = grind (arith, of_either, stays_before f h (parts f g p).0 q)
  stays_before f h p q = of_either P (windowed f) (And h f) (And f h) (pair h f q p) (pair f h p q)

  pub stays_conjuncts : (f g : CoreForm) → P f → P g → P (with_conjuncts f g)
  stays_conjuncts f (And g h) p q =
      stays_conjuncts (with_conjuncts f g) h (stays_conjuncts f g p (parts g h q).0) (parts g h q).1
  stays_conjuncts f g p q = grind (arith, of_either, stays_before)

-- ---- it binds and needs the same variables

bound_arranged : (f : CoreForm) (y : ℕ) → among y (bound_by (arranged f)) ≡ among y (bound_by f)
unfolding bound_by
bound_arranged (And f g) y =
    has_conjuncts (λ a b. a || b) or_assoc or_comm (λ k. among y (bound_by k))
    (λ h k. among_both y (bound_by h) (bound_by k)) (arranged f) (arranged g)
    ∙ ap₂ (λ a b. a || b) (bound_arranged f y) (bound_arranged g y)
    ∙ sym (among_both y (bound_by f) (bound_by g))
bound_arranged (Or f g) y = ap (among y) (fv_arranged (Or f g))
bound_arranged (Exists x f) y = ap (among y) (fv_arranged (Exists x f))
bound_arranged (Previous i f) y = ap (among y) (fv_arranged (Previous i f))
bound_arranged (Next i f) y = ap (among y) (fv_arranged (Next i f))
bound_arranged (Since i f g) y = ap (among y) (fv_arranged (Since i f g))
bound_arranged (Until i f g) y = ap (among y) (fv_arranged (Until i f g))
bound_arranged f y = refl

needed_arranged : (f : CoreForm) (y : ℕ) → among y (needed_by (arranged f)) ≡ among y (needed_by f)
unfolding needed_by
needed_arranged (And f g) y =
    has_conjuncts (λ a b. a || b) or_assoc or_comm (λ k. among y (needed_by k))
    (λ h k. among_both y (needed_by h) (needed_by k)) (arranged f) (arranged g)
    ∙ ap₂ (λ a b. a || b) (needed_arranged f y) (needed_arranged g y)
    ∙ sym (among_both y (needed_by f) (needed_by g))
needed_arranged (Not f) y = ap (among y) (fv_arranged f)
needed_arranged f y = refl

guards_arranged : (names : Names) (f : CoreForm) → guards names f ≡ None → guards names (arranged f) ≡ None
guards_arranged names f guard = grind (arith, guarded, bound_arranged, none_outside, no_variable, needed_arranged)

-- ---- it has no fault

-- whether a core is a conjunction of two others
abbrev is_and : CoreForm → Bool
is_and (And f g) = true
is_and f = false

and_conjuncts : (f g : CoreForm) → is_and (with_conjuncts f g) ≡ true
and_conjuncts f (And g h) = and_conjuncts (with_conjuncts f g) h
and_conjuncts f g = grind arith

-- a conjunction has no fault where none of its sides has one, and its variables are guarded where they are judged
judged : (names : Names) (r : Role) (k : CoreForm) → is_and k ≡ true → fault_in names role.Part k ≡ None
    → asked (is_conjunction r) (guards names k) ≡ None → fault_in names r k ≡ None
unfolding fault_in
judged names r k is e guard = grind arith

both_parts : (names : Names) (f g : CoreForm) → fault_in names role.Part f ≡ None → fault_in names role.Part g ≡ None
    → fault_in names role.Part (And f g) ≡ None
unfolding fault_in
both_parts names f g e d = none_first _ _ e (none_first _ _ d refl)

each_part : (names : Names) (f g : CoreForm) → fault_in names role.Part (And f g) ≡ None
    → (fault_in names role.Part f ≡ None) × (fault_in names role.Part g ≡ None)
unfolding fault_in
each_part names f g e = let left = no_first _ _ e in (left.0, (no_first _ _ left.1).0)

evens_arranged : (f g : CoreForm) → evens (arranged f) (arranged g) ≡ evens f g
evens_arranged f g = simp fv_arranged

covers_arranged : (names : Names) (f g : CoreForm) → covers names (arranged f) (arranged g) ≡ covers names f g
covers_arranged names f g = simp fv_arranged

pub fault_arranged : (names : Names) (r : Role) (f : CoreForm) → fault_in names r f ≡ None
    → fault_in names r (arranged f) ≡ None
unfolding fault_in
fault_arranged names r (Not f) e =
    let parts = no_first _ _ e in
    none_first _ _ (fault_arranged names (under_not r) f parts.0)
    (asked_kept (judges_not r) (guards names (Not f)) (guards names (Not (arranged f)))
    (guards_arranged names (Not f)) parts.1)
fault_arranged names r (And f g) e =
    let left = no_first _ _ e in
    let right = no_first _ _ left.1 in
    judged names r (arranged (And f g)) (and_conjuncts (arranged f) (arranged g))
    (stays_conjuncts (λ k. fault_in names role.Part k ≡ None) (both_parts names) (each_part names) (arranged f)
    (arranged g) (fault_arranged names role.Part f left.0) (fault_arranged names role.Part g right.0))
    (asked_kept (is_conjunction r) (guards names (And f g)) (guards names (arranged (And f g)))
    (guards_arranged names (And f g)) right.1)
fault_arranged names r (Or f g) e =
    let left = no_first _ _ e in
    let right = no_first _ _ left.1 in
    none_first _ _ (fault_arranged names role.Whole f left.0)
    (none_first _ _ (fault_arranged names role.Whole g right.0) (evens_arranged f g ∙ right.1))
fault_arranged names r (Exists x f) e =
    let parts = no_first _ _ e in
    grind (arith, none_first, fv_arranged, fault_arranged (with_name names x) role.Whole f parts.0)
fault_arranged names r (Previous i f) e = fault_arranged names role.Whole f e
fault_arranged names r (Next i f) e = fault_arranged names role.Whole f e
fault_arranged names r (Since i f g) e =
    let left = no_first _ _ e in
    let right = no_first _ _ left.1 in
    none_first _ _ (fault_arranged names role.Left f left.0)
    (none_first _ _ (fault_arranged names role.Whole g right.0) (covers_arranged names f g ∙ right.1))
fault_arranged names r (Until i f g) e =
    let left = no_first _ _ e in
    let right = no_first _ _ left.1 in
    none_first _ _ (fault_arranged names role.Left f left.0)
    (none_first _ _ (fault_arranged names role.Whole g right.0)
    (ap (first (looks_within i.hi)) (covers_arranged names f g) ∙ right.1))
fault_arranged names r f e = e

-- ---- what a step relies on

constants_arranged : (f : CoreForm) (b : Value)
    → in_domain (constants (meaning (arranged f))) b ≡ in_domain (constants (meaning f)) b
unfolding constants
constants_arranged (Not f) b = constants_arranged f b
constants_arranged (And f g) b =
    has_conjuncts (λ x y. x || y) or_assoc or_comm (λ k. in_domain (constants (meaning k)) b)
    (λ h k. within_both b (constants (meaning h)) (constants (meaning k))) (arranged f) (arranged g)
    ∙ ap₂ (λ x y. x || y) (constants_arranged f b) (constants_arranged g b)
    ∙ sym (within_both b (constants (meaning f)) (constants (meaning g)))
constants_arranged (Or f g) b = simp (within_both, constants_arranged f b, constants_arranged g b)
constants_arranged (Exists x f) b = constants_arranged f b
constants_arranged (Previous i f) b = constants_arranged f b
constants_arranged (Next i f) b = constants_arranged f b
constants_arranged (Since i f g) b = simp (within_both, constants_arranged f b, constants_arranged g b)
constants_arranged (Until i f g) b = simp (within_both, constants_arranged f b, constants_arranged g b)
constants_arranged f b = refl

pub sound_arranged : (whole f : CoreForm) → IsWellFormedIn whole f → IsWellFormedIn whole (arranged f)
sound_arranged whole (Not f) sound = sound_arranged whole f sound
sound_arranged whole (And f g) sound =
    stays_conjuncts (IsWellFormedIn whole) (λ h k p q. (p, q)) (λ h k p. p) (arranged f) (arranged g)
    (sound_arranged whole f sound.0) (sound_arranged whole g sound.1)
sound_arranged whole (Or f g) sound =
    grind (arith, fv_arranged, sound_arranged whole f sound.2, sound_arranged whole g sound.3)
sound_arranged whole (Exists x f) sound = (
  sound.0,
  ap (among x.number) (fv_arranged f) ∙ sound.1,
  (sound.2.0, fault_arranged sound.2.0 role.Whole f sound.2.1),
  λ b m. sound.3 b (sym (constants_arranged f b) ∙ m),
  sound_arranged whole f sound.4,
)
sound_arranged whole (Previous i f) sound = sound_arranged whole f sound
sound_arranged whole (Next i f) sound = sound_arranged whole f sound
sound_arranged whole (Since i f g) sound =
    (grind (arith, fv_arranged), sound_arranged whole f sound.1, sound_arranged whole g sound.2)
sound_arranged whole (Until i f g) sound =
    (grind (arith, fv_arranged), sound_arranged whole f sound.1, sound_arranged whole g sound.2)
sound_arranged whole f sound = sound

pub same_arranged : (view : View) (f : CoreForm) (given db : List Event) → SameNear view f given db
    → SameNear view (arranged f) given db
same_arranged view (Not f) given db same = same_arranged view f given db same
same_arranged view (And f g) given db same =
    stays_conjuncts (λ k. SameNear view k given db) (λ h k p q. (p, q)) (λ h k p. p) (arranged f) (arranged g)
    (same_arranged view f given db same.0) (same_arranged view g given db same.1)
same_arranged view (Or f g) given db same = (same_arranged view f given db same.0, same_arranged view g given db same.1)
same_arranged view (Exists x f) given db same = same_arranged view f given db same
same_arranged view (Previous i f) given db same = same_arranged view f given db same
same_arranged view (Next i f) given db same = same_arranged view f given db same
same_arranged view (Since i f g) given db same =
    (same_arranged view f given db same.0, same_arranged view g given db same.1)
same_arranged view (Until i f g) given db same =
    (same_arranged view f given db same.0, same_arranged view g given db same.1)
same_arranged view f given db same = same
