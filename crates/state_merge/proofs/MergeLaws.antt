-- What is adopted, and what is merged of all pieces.
use Rattle.std.proofs.Common.{◌≡◌, ◌≢◌, ℕ, Bool, true, ◌&&◌, ◌||◌, List, [], ◌∷◌, Option, None, Some, sym, ap, arith}
use Rattle.std.proofs.Common.{inl, inr}
use Rattle.std.proofs.{Math.Bool.or-false, Math.Dec.eqb}
use Rattle.std.proofs.lemmas.Bool.{and_from, eqb-true, or_cases, or_left, or_right}
use Rattle.std.specs.List.{list_any}
use Rattle.mfotl_model.proofs.NumberLemmas.{every_there}
use Rattle.mfotl_model.specs.Regions.{Region, in_both, near_of}
use Rattle.mfotl_model.specs.{Satisfaction.Valuation, Strategies.Strategy, Strategies.workers_of}
use Rattle.mfotl_model.specs.declared.event.TimePoint.{TimePoint}
use Rattle.monitorable.specs.CoreForms.{CoreForm}
use Rattle.monitor_state.specs.Pieces.{Adopts, Merges, PieceStands, near_some, view_of}
use Rattle.monitor_state.specs.{StateInside.StandsInside, StateLaws.AdoptMerges, StateLaws.AllMerged}
use Rattle.monitor_state.specs.{StateRules.StateRule, StateStands.StateStands}
use Rattle.monitor_state.specs.declared.state.State.{State}
use Rattle.state_merge.specs.{Finishing.AllAdopted, Finishing.IsWhole, MergingView.MergingOf}
use Rattle.monitor_state.proofs.PartLaw.{part_stands}
use Rattle.state_merge.proofs.UnionLaw.{union_stands}

spread : (a b c : Bool) → ((a || b) && c) ≡ ((b && c) || (a && c))
spread a b c = grind arith

same_region : (core : CoreForm) (log : List TimePoint) (r q : Region) (state : State)
    → ((vs : List ℕ) (v : Valuation) → r vs v ≡ q vs v) → StandsInside (view_of core r log) core state
    → StandsInside (view_of core q log) core state
same_region core log r q state same stands = let equal : r ≡ q = λ i vs v. same vs v i in rw equal at stands

pub adopt_merges : AdoptMerges
unfolding PieceStands
adopt_merges core s s2 k2 log [] k old new piece merged stands adopts =
    let none : Adopts None piece.state new = rw merged at adopts in (
      piece.state,
      none,
      same_region core log (in_both (near_of s k) (near_of s2 k2)) (in_both (near_some s (k ∷ [])) (near_of s2 k2))
          piece.state (λ vs v. sym (ap (λ b. b && near_of s2 k2 vs v) (or-false (near_of s k vs v)))) stands,
    )
adopt_merges core s s2 k2 log (j ∷ ks) k old new piece merged stands adopts =
    let some : Adopts (Some merged.0) piece.state new = rw merged.1 at adopts in (
      some.0,
      some.1,
      union_stands (view_of core (near_of s2 k2) log) core (in_both (near_some s (j ∷ ks)) (near_of s2 k2))
          (in_both (near_of s k) (near_of s2 k2)) (in_both (near_some s (k ∷ j ∷ ks)) (near_of s2 k2))
          merged.0 piece.state some.0
          (λ vs v. spread (near_of s k vs v) (near_some s (j ∷ ks) vs v) (near_of s2 k2 vs v))
          merged.2 stands some.2,
    )

-- what passes at a number passes at one of a list that has it
found : (p : ℕ → Bool) (k : ℕ) (ks : List ℕ) → p k ≡ true → list_any (eqb k) ks ≡ true → list_any p ks ≡ true
found p k [] h there = absurd cc
found p k (j ∷ ks) h there = elim (or_cases (eqb k j) (list_any (eqb k) ks) there) [
  | inl here ↦ or_left (p j) (list_any p ks) (rw (eqb-true k j here) at h)
  | inr more ↦ or_right (p j) (list_any p ks) (found p k ks h more)
]

pub all_merged : AllMerged
all_merged core s s2 k2 log [] merged covers some m differ below size = absurd (omega arith)
all_merged core s s2 k2 log (j ∷ ks) merged covers some m differ below size = (
  m.0,
  m.1,
  m.2.rule,
  part_stands (view_of core (in_both (near_some s (j ∷ ks)) (near_of s2 k2)) log) core (near_of s2 k2) m.0
      (λ vs v n.
      let k = covers vs v in
      and_from (near_some s (j ∷ ks) vs v) (near_of s2 k2 vs v)
      (found (λ k. near_of s k vs v) k.0 (j ∷ ks) k.2 (every_there (workers_of s)
      (j ∷ ks) differ below size k.0 k.1)) n)
      m.2.stands,
)

-- what was merged of the pieces of all workers is the state that was looked for
pub finished : (core : CoreForm) (s s2 : Strategy) (k2 : ℕ) (log : List TimePoint) (ks : List ℕ) (merged : Option State)
    (state : State) → merged ≡ Some state → AllAdopted s ks → Merges core s s2 k2 log ks merged
    → StateRule core state × StateStands (view_of core (near_of s2 k2) log) core state
finished core s s2 k2 log ks merged state is all m =
    let whole = all_merged core s s2 k2 log ks merged all.covers all.some m all.differ all.below all.size in
    let same : whole.0 ≡ state = let e = whole.1 in cc in (rw same at whole.2, rw same at whole.3)

-- what was merged of all pieces keeps the rule of states
pub whole_rule : (m : MergingOf) (state : State) → m.merged ≡ Some state → IsWhole m → StateRule m.core state
whole_rule m state is w = (finished m.core w.0 w.1 w.2 w.3 w.4 m.merged state is w.5 w.6).0

-- there are pieces, so something was merged
pub whole_some : (m : MergingOf) → IsWhole m → m.merged ≢ None
whole_some m w none =
    let whole = all_merged m.core w.0 w.1 w.2 w.3 w.4 m.merged w.5.covers w.5.some w.6 w.5.differ w.5.below w.5.size in
    let is = whole.1 in
    cc
