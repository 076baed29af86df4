-- What the fragment gives a core it gives the one whose denied EXISTS is asked for fewer rows.
use Rattle.std.proofs.Common.{◌≡◌, ℕ, true, false, not, None, ◌||◌, nat_eq, List, [], ◌++◌, refl, sym, ap, ◌∙◌, inl}
use Rattle.std.proofs.Common.{inr, arith}
use Rattle.std.proofs.lemmas.Bool.{and_from, and_parts, or_cases, or_left, or_right}
use Rattle.std.proofs.lemmas.List.Folds.{list_any-append}
use Rattle.std.specs.Ordering.{eq_by_cmp}
use Rattle.mfotl_model.proofs.LogicLemmas.{among_without}
use Rattle.mfotl_model.specs.{ActiveDomain.constants, Domains.Includes, Domains.in_domain, Exact.View, Values.value_cmp}
use Rattle.mfotl_model.specs.FreeVariables.{among, fv, without}
use Rattle.mfotl_model.specs.declared.{event.Event.Event, formula.Bound.Bound, value.Value.Value}
use Rattle.monitorable.proofs.FragmentLemmas.{no_first, no_variable, none_first, none_outside, used_variable}
use Rattle.monitorable.specs.CoreForms.{CoreForm, meaning, Atom, And, Exists, Not, Since, Until}
use Rattle.monitorable.specs.Fragment.{Names, bound_by, fault_in, first, first_outside, guards, needed_by}
use Rattle.monitorable.specs.Fragment.{named_variable}
use Rattle.monitorable.specs.Soundness.{IsWellFormedIn}
use Rattle.monitorable.specs.declared.fault.FragmentFault.TheVariants.{Unguarded}
use Rattle.monitorable.specs.declared.role.Role.TheVariants as role
use Rattle.core_arranging.proofs.{NarrowedLemmas.among_led}
use Rattle.core_arranging.specs.Windows.{is_window}
use Rattle.core_arranging.specs.Arranging.{first_conjunct, is_atom, leads, led, narrowed}
use Rattle.monitor_state.proofs.{WholeLemmas.guarded}
use Rattle.monitor_nodes.specs.{Steps.SameNear}
use Rattle.monitor_state.specs.{Beginnings.Accepted}

-- ---- a conjunction with one more conjunct before the others

pub among_both : (y : ℕ) (xs ys : List ℕ) → among y (xs ++ ys) ≡ (among y xs || among y ys)
among_both y xs ys = list_any-append (λ z. nat_eq y z) xs ys

-- it binds no less
bound_led : (a g : CoreForm) (y : ℕ) → among y (bound_by g) ≡ true → among y (bound_by (led a g)) ≡ true
unfolding bound_by
bound_led a (And g h) y m =
    among_both y (bound_by (led a g)) (bound_by h)
    ∙ elim (or_cases _ _ (sym (among_both y (bound_by g) (bound_by h)) ∙ m)) [
      | inl left ↦ or_left _ _ (bound_led a g y left)
      | inr right ↦ or_right _ _ right
    ]
bound_led a g y m = among_both y (bound_by a) (bound_by g) ∙ or_right _ _ m

-- and needs no more, where the new one is an atom
needed_led : (a g : CoreForm) → is_atom a ≡ true → needed_by (led a g) ≡ needed_by g
unfolding needed_by
needed_led (Atom a) (And g h) is = ap (λ ys. ys ++ needed_by h) (needed_led (Atom a) g is)
needed_led (Atom a) g is = refl
needed_led a g is = absurd (let clash : false ≡ true = is in cc)

atom_part : (names : Names) (a : CoreForm) → is_atom a ≡ true → fault_in names role.Part a ≡ None
unfolding fault_in
atom_part names a is = grind arith

led_part : (names : Names) (a g : CoreForm) → is_atom a ≡ true → fault_in names role.Part g ≡ None
    → fault_in names role.Part (led a g) ≡ None
unfolding fault_in
led_part names a (And g h) is e =
    let left = no_first _ _ e in
    none_first _ _ (led_part names a g is left.0) left.1
led_part names a g is e = none_first _ _ (atom_part names a is) (none_first _ _ e refl)

led_guarded : (names : Names) (a g : CoreForm) → is_atom a ≡ true → guards names g ≡ None
    → guards names (led a g) ≡ None
led_guarded names a g is guard = search (guarded, bound_led, none_outside, no_variable, needed_led)

-- a window alone needs nothing
led_whole : (names : Names) (a g : CoreForm) → is_atom a ≡ true → is_window (first_conjunct g) ≡ true
    → fault_in names role.Whole g ≡ None → fault_in names role.Whole (led a g) ≡ None
unfolding fault_in needed_by
led_whole names a (And g h) is asks e =
    let left = no_first _ _ e in
    let right = no_first _ _ left.1 in
    none_first _ _ (led_part names a g is left.0) (none_first _ _ right.0 (led_guarded names a (And g h) is right.1))
led_whole names a (Since i f g) is asks e = grind arith
led_whole names a (Until i f g) is asks e = grind arith
led_whole names a g is asks e = absurd (let clash : false ≡ true = asks in cc)

pub within_both : (b : Value) (xs ys : List Value) → in_domain (xs ++ ys) b ≡ (in_domain xs b || in_domain ys b)
within_both b xs ys = list_any-append (eq_by_cmp value_cmp b) xs ys

constants_led : (a g : CoreForm) (b : Value) → in_domain (constants (meaning (led a g))) b ≡ true
    → (in_domain (constants (meaning a)) b || in_domain (constants (meaning g)) b) ≡ true
unfolding constants
constants_led a (And g h) b m =
    elim (or_cases _ _ (sym (within_both b (constants (meaning (led a g))) (constants (meaning h))) ∙ m)) [
      | inl left ↦
          elim (or_cases (in_domain (constants (meaning a)) b) (in_domain (constants (meaning g)) b)
          (constants_led a g b left)) [
            | inl one ↦ or_left _ _ one
            | inr two ↦
                or_right _ _ (within_both b (constants (meaning g)) (constants (meaning h)) ∙ or_left _ _ two)
          ]
      | inr right ↦ or_right _ _ (within_both b (constants (meaning g)) (constants (meaning h)) ∙ or_right _ _ right)
    ]
constants_led a g b m = sym (within_both b (constants (meaning a)) (constants (meaning g))) ∙ m

first_constants : (f : CoreForm) → Includes (constants (meaning f)) (constants (meaning (first_conjunct f)))
unfolding constants
first_constants (And f g) b m = simp (within_both, or_left, first_constants f b m)
first_constants f b m = m

led_constants : (f g : CoreForm)
    → Includes (constants (meaning f) ++ constants (meaning g)) (constants (meaning (led (first_conjunct f) g)))
led_constants f g b m = grind (arith, within_both, or_cases, constants_led, or_left, first_constants, or_right)

led_sound : (whole a g : CoreForm) → IsWellFormedIn whole a → IsWellFormedIn whole g → IsWellFormedIn whole (led a g)
led_sound whole a (And g h) first second = (led_sound whole a g first second.0, second.1)
led_sound whole a g first second = (first, second)

first_sound : (whole f : CoreForm) → IsWellFormedIn whole f → IsWellFormedIn whole (first_conjunct f)
first_sound whole (And f g) sound = first_sound whole f sound.0
first_sound whole f sound = sound

led_same : (view : View) (a g : CoreForm) (given db : List Event) → SameNear view a given db → SameNear view g given db
    → SameNear view (led a g) given db
led_same view a (And g h) given db first second = (led_same view a g given db first second.0, second.1)
led_same view a g given db first second = (first, second)

first_same : (view : View) (f : CoreForm) (given db : List Event) → SameNear view f given db
    → SameNear view (first_conjunct f) given db
first_same view (And f g) given db same = first_same view f given db same.0
first_same view f given db same = same

leads_parts : (a : CoreForm) (x : ℕ) (g : CoreForm) → leads a x g ≡ true
    → (is_atom a ≡ true) × (is_window (first_conjunct g) ≡ true)
leads_parts a x g on = grind arith

-- ---- the core

-- what holds of a conjunction, and of the one whose denied EXISTS is asked for fewer rows, holds of the narrowed one
by_leads : (P : CoreForm → Type 0) (f : CoreForm) (x : Bound) (g : CoreForm)
    → (leads (first_conjunct f) x.number g ≡ true → P (And f (Not (Exists x (led (first_conjunct f) g)))))
    → P (And f (Not (Exists x g))) → P (narrowed (And f (Not (Exists x g))))
by_leads P f x g asked plain = grind arith

pub same_narrowed : (view : View) (f : CoreForm) (given db : List Event) → SameNear view f given db
    → SameNear view (narrowed f) given db
same_narrowed view f given db same = grind (arith, by_leads, led_same, first_same)

pub sound_narrowed : (f : CoreForm) → IsWellFormedIn f f → IsWellFormedIn f (narrowed f)
unfolding constants fault_in
sound_narrowed (And f (Not (Exists x g))) sound =
    let whole : CoreForm = And f (Not (Exists x g)) in
    by_leads (IsWellFormedIn whole) f x g
    (λ on.
    let asks = leads_parts (first_conjunct f) x.number g on in (
      sound.0,
      (
        sound.1.0,
        among_led (first_conjunct f) g x.number ∙ or_right _ _ sound.1.1,
        (sound.1.2.0, led_whole sound.1.2.0 (first_conjunct f) g asks.0 asks.1 sound.1.2.1),
        led_constants f g,
        led_sound whole (first_conjunct f) g (first_sound whole f sound.0) sound.1.4,
      ),
    )) sound
sound_narrowed f sound = sound

first_bound : (f : CoreForm) (y : ℕ) → is_atom (first_conjunct f) ≡ true
    → among y (fv (meaning (first_conjunct f))) ≡ true → among y (bound_by f) ≡ true
unfolding bound_by
first_bound (And f g) y is m = simp (among_both, or_left, first_bound f y is m)
first_bound (Atom a) y is m = m
first_bound f y is m = absurd (let clash : false ≡ true = is in cc)

-- what is denied needs no variables but those of what was, and of the first conjunct
asked_guarded : (names : Names) (f : CoreForm) (x : Bound) (g : CoreForm) → is_atom (first_conjunct f) ≡ true
    → guards names (And f (Not (Exists x g))) ≡ None
    → guards names (And f (Not (Exists x (led (first_conjunct f) g)))) ≡ None
unfolding bound_by needed_by fv
asked_guarded names f x g is guard =
    let more = without x.number (fv (meaning g)) in
    guarded (And f (Not (Exists x (led (first_conjunct f) g)))) names
    (λ y m.
    elim (or_cases _ _
    (sym (among_both y (needed_by f) (without x.number (fv (meaning (led (first_conjunct f) g))))) ∙ m)) [
      | inl own ↦ inside y (among_both y (needed_by f) more ∙ or_left _ _ own)
      | inr denied ↦
          let parts = and_parts (not (nat_eq y x.number)) (among y (fv (meaning (led (first_conjunct f) g))))
          (sym (among_without y x.number (fv (meaning (led (first_conjunct f) g)))) ∙ denied) in
          elim (or_cases (among y (fv (meaning (first_conjunct f)))) (among y (fv (meaning g)))
          (sym (among_led (first_conjunct f) g y) ∙ parts.1)) [
            | inl one ↦ among_both y (bound_by f) [] ∙ or_left _ _ (first_bound f y is one)
            | inr two ↦
                inside y (among_both y (needed_by f) more
                ∙ or_right _ _ (among_without y x.number (fv (meaning g)) ∙ and_from _ _ parts.0 two))
          ]
    ])
  where
    inside : (y : ℕ) → among y (needed_by f ++ without x.number (fv (meaning g))) ≡ true
        → among y (bound_by f ++ []) ≡ true
    inside y m =
        none_outside (bound_by f ++ []) (needed_by f ++ without x.number (fv (meaning g))) y
        (no_variable (λ z. Unguarded (named_variable names z))
        (first_outside (bound_by f ++ []) (needed_by f ++ without x.number (fv (meaning g)))) guard) m

asked_accepted : (f : CoreForm) (x : Bound) (g : CoreForm) → leads (first_conjunct f) x.number g ≡ true
    → Accepted role.Whole (And f (Not (Exists x g)))
    → Accepted role.Whole (And f (Not (Exists x (led (first_conjunct f) g))))
unfolding bound_by fault_in needed_by fv
asked_accepted f x g on a =
    grind (arith, leads_parts, no_first, none_first, led_whole, among_led, or_right, used_variable, asked_guarded)

pub narrowed_accepted : (f : CoreForm) → Accepted role.Whole f → Accepted role.Whole (narrowed f)
narrowed_accepted (And f (Not (Exists x g))) a =
    by_leads (Accepted role.Whole) f x g (λ on. asked_accepted f x g on a) a
narrowed_accepted f a = a
