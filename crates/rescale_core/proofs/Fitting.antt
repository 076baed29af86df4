-- What is handed over from the queues fits.
use Rattle.std.proofs.Common.{◌≡◌, ℕ, zero, suc, Bool, true, ◌&&◌, Option, Some, List, [], ◌∷◌, length, map, filter}
use Rattle.std.proofs.Common.{sym, ap, subst, arith}
use Rattle.std.proofs.{lemmas.Bool.and_parts, lemmas.Bool.cond_both, lemmas.Bool.Decides.nat_tests}
use Rattle.mfotl_model.specs.{Numbers.Apart, Numbers.NotIn, Strategies.Strategy}
use Rattle.rescale_core.proofs.{WorldLemmas.mapped, WorldLemmas.AreChanges}
use Rattle.rescale_worker.proofs.{Chains.Chain}
use Rattle.rescale_core.specs.{Soundly.Supplies, Soundly.Known}
use Rattle.rescale_worker.specs.{Lines.ChangeOfStrategy, Lines.Due}
use Rattle.rescale_worker.specs.Phases.{PhaseOf, froms_of, Meets, phase_after, AllMeet, FitsPhase}
use Rattle.rescale_core.specs.Handing.{nth, for_place, item_of}
use Rattle.std.specs.List.{AllByRecursion}
use Rattle.monitorable.specs.CoreForms.{CoreForm}
use Rattle.monitor_state.specs.declared.state.Piece.{Piece}
use Rattle.rescale_worker.specs.declared.{item.Item.Item, item.Item.TheVariants.Adopt}
use Rattle.rescale_worker.specs.Lines.Due.{Slicing, Parting, Hole}
use Rattle.rescale_worker.specs.Phases.PhaseOf.{Active, Vacant, Waiting}

pub every_map : {A : Type 0} (P Q : A → Type 0) (xs : List A) → ((x : A) → P x → Q x) → AllByRecursion P xs
    → AllByRecursion Q xs
every_map P Q [] h a = tt
every_map P Q (x ∷ xs) h a = (h x a.0, every_map P Q xs h a.1)

pub every_filter : {A : Type 0} (P : A → Type 0) (test : A → Bool) (xs : List A) → AllByRecursion P xs
    → AllByRecursion (λ x. P x × (test x ≡ true)) (filter test xs)
every_filter P test [] a = tt
every_filter P test (x ∷ xs) a = let rest = every_filter P test xs a.1 in grind (arith, nat_tests)

pub every_nth : {A : Type 0} (P : A → Type 0) (xs : List A) (j : ℕ) (x : A) → AllByRecursion P xs
    → nth xs j ≡ Some x → P x
every_nth P [] j x a e = cc
every_nth P (y ∷ xs) zero x a e = let h : y ≡ x = cc in subst P h a.0
every_nth P (y ∷ xs) (suc j) x a e = every_nth P xs j x a.1 e

pub and_left : (a b : Bool) → a && b ≡ true → a ≡ true
and_left a b e = (and_parts a b e).0

pub and_right : (a b : Bool) → a && b ≡ true → b ≡ true
and_right a b e = (and_parts a b e).1

-- ---- which pieces came

-- the workers that the first j come from, the last first, before those of acc
abbrev pub froms_before : ℕ → List Piece → List ℕ → List ℕ
froms_before zero ps acc = acc
froms_before (suc j) [] acc = acc
froms_before (suc j) (p ∷ ps) acc = froms_before j ps (p.from ∷ acc)

before_suc : (j : ℕ) (ps : List Piece) (p : Piece) (acc : List ℕ) → nth ps j ≡ Some p
    → froms_before (suc j) ps acc ≡ p.from ∷ froms_before j ps acc
before_suc j [] p acc e = cc
before_suc zero (q ∷ ps) p acc e = let h : q ≡ p = cc in ap (λ (x : Piece). x.from ∷ acc) h
before_suc (suc j) (q ∷ ps) p acc e = before_suc j ps p (q.from ∷ acc) e

abbrev AllApart : List ℕ → List Piece → Type 0
AllApart acc ps = AllByRecursion (λ (p : Piece). NotIn p.from acc) ps

apart_more : (x : ℕ) (acc : List ℕ) (ps : List Piece) → NotIn x (map (λ (p : Piece). p.from) ps) → AllApart acc ps
    → AllApart (x ∷ acc) ps
apart_more x acc [] n a = tt
apart_more x acc (p ∷ ps) n a = (((λ e. n.0 (sym e)), a.0), apart_more x acc ps n.1 a.1)

not_before : (j : ℕ) (ps : List Piece) (p : Piece) (acc : List ℕ) → Apart (map (λ (q : Piece). q.from) ps)
    → AllApart acc ps → nth ps j ≡ Some p → NotIn p.from (froms_before j ps acc)
not_before j [] p acc d a e = cc
not_before zero (q ∷ ps) p acc d a e = let h : q ≡ p = cc in subst (λ (x : Piece). NotIn x.from acc) h a.0
not_before (suc j) (q ∷ ps) p acc d a e = not_before j ps p (q.from ∷ acc) d.1 (apart_more q.from acc ps d.0 a.1) e

apart_none : (ps : List Piece) → AllApart [] ps
apart_none [] = tt
apart_none (p ∷ ps) = (tt, apart_none ps)

module _ (c : CoreForm) (k : ℕ) (pieces : List Piece) (f : ℕ → Option ChangeOfStrategy)
    (known : AllByRecursion (Known f c) pieces)
    (distinct : (g : ℕ) → Apart (map (λ (p : Piece). p.from) (for_place g k pieces))) where
  abbrev Tied : PhaseOf → Type 0
  Tied ph = (t : ChangeOfStrategy) (froms : List ℕ) → ph ≡ Waiting t froms
      → froms ≡ froms_before (length froms) (for_place t.generation k pieces) []

  tied_active : (s : Strategy) (log : List _) → Tied (Active s log)
  tied_active s log t froms e = cc

  tied_vacant : Tied Vacant
  tied_vacant t froms e = cc

  froms_here : (ph : PhaseOf) (t : ChangeOfStrategy) (j : ℕ) → FitsPhase c k ph (Hole t j) → Tied ph
      → froms_of ph ≡ froms_before j (for_place t.generation k pieces) []
  froms_here ph t j fo tied = grind arith

  tied_next : (ph : PhaseOf) (t : ChangeOfStrategy) (j : ℕ) (p : Piece) → FitsPhase c k ph (Hole t j) → Tied ph
      → nth (for_place t.generation k pieces) j ≡ Some p → Tied (phase_after ph (Hole t j) (Adopt p t.new))
  tied_next ph t j p fo tied e = grind (arith, cond_both, tied_active, before_suc, froms_here)

  meets_due : (ph : PhaseOf) (d : Due) (i : Item) → FitsPhase c k ph d → Tied ph → AreChanges f (d ∷ [])
      → item_of c k pieces d ≡ Some i → Meets c k ph d i × Tied (phase_after ph d i)
  meets_due ph (Slicing g s log p) i fo tied changes e = (cc, tied_active s _)
  meets_due ph (Parting t) i fo tied changes e = (cc, tied_vacant)
  meets_due ph (Hole t j) i fo tied changes e = let m =
      mapped (λ p. Adopt p t.new) (nth (for_place t.generation k pieces) j) i e in
      let p : Piece = m.0 in (
        (
          p,
          sym m.2,
          grind (arith, every_nth, every_filter),
          rw (froms_here ph t j fo tied) (not_before j (for_place t.generation k pieces) p [] (distinct t.generation)
              (apart_none (for_place t.generation k pieces)) m.1),
        ),
        subst (λ x. Tied (phase_after ph (Hole t j) x)) m.2 (tied_next ph t j p fo tied m.1),
      )

  one_change : (d : Due) (ds : List Due) → AreChanges f (d ∷ ds) → AreChanges f (d ∷ []) × AreChanges f ds
  one_change d ds a = grind arith

  pub fits_of : (ds : List Due) (is : List Item) (ph : PhaseOf) → Chain c k ph ds → Tied ph → AreChanges f ds
      → Supplies c k pieces ds is → AllMeet c k ph ds is
  fits_of ds [] ph ch tied changes s = tt
  fits_of [] (i ∷ is) ph ch tied changes s = s
  fits_of (d ∷ ds) (i ∷ is) ph ch tied changes s = let u = one_change d ds changes in
      let m = meets_due ph d i ch.0 tied u.0 s.0 in
      (m.0, fits_of ds is (phase_after ph d i) (ch.1 i m.0) m.1 u.1 s.1)
