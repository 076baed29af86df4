-- In new numbers a formula that the fragment accepts is accepted.
use Rattle.std.proofs.Common.{◌≡◌, ℕ, ◌+◌, Bool, true, cond, List, [], ◌∷◌, map, None, refl, ap₂, arith}
use Rattle.std.proofs.{lemmas.Bool.Decides.nat_tests, lemmas.List.map-append}
use Rattle.mfotl_model.proofs.LogicLemmas.{same_number}
use Rattle.mfotl_model.specs.FreeVariables.{fv, among, joined}
use Rattle.monitorable.specs.CoreForms.{CoreForm, meaning, Compare, Not, And, Or, Exists, Previous, Next, Since, Until}
use Rattle.mfotl_model.specs.declared.{formula.Bound.Bound, term.Comparison.Comparison}
use Rattle.monitorable.proofs.FragmentLemmas.{asked_kept, no_first, no_variable, parts}
use Rattle.monitorable.proofs.RenamedVariables.{Spread, left, right, bound, renamed_fv, same_numbers}
use Rattle.monitorable.specs.Fragment.{Names, with_name, first_outside, at_variable, binds, bound_by, needed_by, guards}
use Rattle.monitorable.specs.Fragment.{evens, uses, covers, under_not, is_conjunction, judges_not, judges_comparison}
use Rattle.monitorable.specs.Fragment.{fault_in}
use Rattle.monitorable.specs.Laws.{ApartFragment}
use Rattle.monitorable.specs.Renaming.{Numbers, with_number, renamed, renamed_comparison, binder_count}
use Rattle.monitorable.specs.declared.role.Role.{Role}
use Rattle.monitorable.specs.declared.role.Role.TheVariants.{Whole, Part, Left}

among_new : (p : ℕ → ℕ) (y : ℕ) (xs : List ℕ) → among y xs ≡ true → among (p y) (map p xs) ≡ true
among_new p y [] h = h
among_new p y (x ∷ xs) h = grind (arith, nat_tests, among_new p y xs)

-- what lies inside lies inside in new numbers
outside_new : (p : ℕ → ℕ) (xs ys : List ℕ) → first_outside xs ys ≡ None → first_outside (map p xs) (map p ys) ≡ None
outside_new p xs [] h = refl
outside_new p xs (y ∷ ys) h = grind (arith, among_new p y xs, outside_new p xs ys)

none_new : (p : ℕ → ℕ) (xs ys : List ℕ) {us vs : List ℕ} → us ≡ map p xs → vs ≡ map p ys
    → first_outside xs ys ≡ None → first_outside us vs ≡ None
none_new p xs ys e k h = rw (e, k) (outside_new p xs ys h)

binds_new : (p : Numbers) (c : Comparison) → binds (renamed_comparison p c) ≡ binds c
binds_new p c = grind arith

chosen : (p : ℕ → ℕ) (b c : Bool) (xs ys us vs : List ℕ) → c ≡ b → us ≡ map p xs → vs ≡ map p ys
    → cond c us vs ≡ map p (cond b xs ys)
chosen p b c xs ys us vs e h k = grind arith

bound_new : (f : CoreForm) {p : Numbers} {n : ℕ} → Spread p n (fv (meaning f))
    → bound_by (renamed p n f) ≡ map p (bound_by f)
unfolding bound_by renamed fv
bound_new (Compare c) {p} s = chosen p _ _ _ [] _ [] (binds_new p c) (renamed_fv (Compare c) s) refl
bound_new (Not f) s = refl
bound_new (And f g) {p} s = simp (ap₂, left, right, map-append, bound_new f (left f g s), bound_new g (right f g s))
bound_new f s = renamed_fv f s

needed_new : (f : CoreForm) {p : Numbers} {n : ℕ} → Spread p n (fv (meaning f))
    → needed_by (renamed p n f) ≡ map p (needed_by f)
unfolding needed_by renamed fv
needed_new (Compare c) {p} s = chosen p _ _ [] _ [] _ (binds_new p c) refl (renamed_fv (Compare c) s)
needed_new (Not f) s = renamed_fv f s
needed_new (And f g) {p} s = simp (ap₂, left, right, map-append, needed_new f (left f g s), needed_new g (right f g s))
needed_new f s = refl

guards_new : (names names' : Names) (f : CoreForm) {p : Numbers} {n : ℕ} → Spread p n (fv (meaning f))
    → guards names f ≡ None → guards names' (renamed p n f) ≡ None
guards_new names names' f {p} s h = grind (arith, none_new, bound_new, needed_new, no_variable)

evens_new : (f g : CoreForm) {p : Numbers} {n : ℕ} → Spread p n (joined (fv (meaning f)) (fv (meaning g)))
    → evens f g ≡ None → evens (renamed p n f) (renamed p (n + binder_count f) g) ≡ None
evens_new f g {p} s h =
    let l = renamed_fv f (left f g s) in
    let r = renamed_fv g (right f g s) in
    let both = no_first (at_variable _ (first_outside (fv (meaning f)) (fv (meaning g)))) _ h in
    rw (
      none_new p (fv (meaning f)) (fv (meaning g)) l r (no_variable _ _ both.0),
      none_new p (fv (meaning g)) (fv (meaning f)) r l (no_variable _ _ both.1),
    )

covers_new : (names names' : Names) (f g : CoreForm) {p : Numbers} {n : ℕ}
    → Spread p n (joined (fv (meaning f)) (fv (meaning g))) → covers names f g ≡ None
    → covers names' (renamed p n f) (renamed p (n + binder_count f) g) ≡ None
covers_new names names' f g {p} s h =
    rw (none_new p (fv (meaning g)) (fv (meaning f)) (renamed_fv g (right f g s)) (renamed_fv f (left f g s))
    (no_variable _ _ h))

uses_new : (p : Numbers) (n : ℕ) (x : Bound) (f : CoreForm)
    → Spread (with_number p x.number n) (n + 1) (fv (meaning f)) → uses x f ≡ None
    → uses (record { number = n; name = x.name }) (renamed (with_number p x.number n) (n + 1) f) ≡ None
uses_new p n x f s h =
    let own : n ∷ [] ≡ map (with_number p x.number n) (x.number ∷ []) = rw (same_number x.number) in
    rw (none_new (with_number p x.number n) (fv (meaning f)) (x.number ∷ []) (renamed_fv f s) own (no_variable _ _ h))

pub renamed_fits : (names names' : Names) (role : Role) (f : CoreForm) {p : Numbers} {n : ℕ}
    → Spread p n (fv (meaning f)) → fault_in names role f ≡ None → fault_in names' role (renamed p n f) ≡ None
unfolding fault_in renamed fv
renamed_fits names names' role (Compare c) s h =
    asked_kept (judges_comparison role) (guards names (Compare c)) _ (guards_new names names' (Compare c) s) h
renamed_fits names names' role (Not f) s h =
    let q = parts names role (Not f) h in
    rw (renamed_fits names names' (under_not role) f s q.0)
    (asked_kept (judges_not role) (guards names (Not f)) _ (guards_new names names' (Not f) s) q.1)
renamed_fits names names' role (And f g) s h =
    let q = parts names role (And f g) h in
    rw (renamed_fits names names' Part f (left f g s) q.0, renamed_fits names names' Part g (right f g s) q.1)
    (asked_kept (is_conjunction role) (guards names (And f g)) _ (guards_new names names' (And f g) s) q.2)
renamed_fits names names' role (Or f g) s h =
    let q = parts names role (Or f g) h in
    rw (renamed_fits names names' Whole f (left f g s) q.0, renamed_fits names names' Whole g (right f g s) q.1)
    (evens_new f g s q.2)
renamed_fits names names' role (Exists x f) {p} {n} s h =
    let q = parts names role (Exists x f) h in
    let b = bound x.number (fv (meaning f)) s in
    rw (renamed_fits (with_name names x) (with_name names' (record { number = n; name = x.name })) Whole f b q.0)
    (uses_new p n x f b q.1)
renamed_fits names names' role (Previous interval f) s h = renamed_fits names names' Whole f s h
renamed_fits names names' role (Next interval f) s h = renamed_fits names names' Whole f s h
renamed_fits names names' role (Since interval f g) s h =
    let q = parts names role (Since interval f g) h in
    rw (renamed_fits names names' Left f (left f g s) q.0, renamed_fits names names' Whole g (right f g s) q.1)
    (covers_new names names' f g s q.2)
renamed_fits names names' role (Until interval f g) s h =
    let q = parts names role (Until interval f g) h in
    rw (renamed_fits names names' Left f (left f g s) q.0, renamed_fits names names' Whole g (right f g s) q.1, q.3)
    (covers_new names names' f g s q.2)
renamed_fits names names' role f s h = refl

pub apart_fragment : ApartFragment
apart_fragment names names' f h = renamed_fits names names' Whole f (same_numbers (fv (meaning f))) h
