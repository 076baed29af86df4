-- What a worker does with a part and with a piece.
use Rattle.std.proofs.Common.{◌≡◌, ℕ, ◌+◌, ◌<◌, cond, nat_eq, ⊎_elim, eqb-true, List, [], ◌∷◌, length, map}
use Rattle.std.proofs.Common.{sym, refl, ap, ◌∙◌, subst, arith}
use Rattle.std.proofs.{lemmas.Bool.cond_both, lemmas.Bool.eqb-false, lemmas.List.length-map}
use Rattle.mfotl_model.specs.{Numbers.NotIn, Strategies.Strategy, Strategies.workers_of}
use Rattle.monitorable.specs.{CoreForms.CoreForm, Cores.core_form}
use Rattle.monitor_state.specs.declared.{monitor.Monitor.Monitor, state.Piece.Piece}
use Rattle.rescale_worker.proofs.SliceLemmas.{active_at}
use Rattle.rescale_worker.specs.{Lines.Due, Lines.ChangeOfStrategy, Workers.IsFor}
use Rattle.rescale_worker.specs.Lines.Due.{Slicing, Parting, Hole}
use Rattle.monitor_state.specs.Pieces.{AreCuts, PieceStands}
use Rattle.rescale_worker.specs.States.{Adopted, AllCame, CanAdopt, IsFull, MergesPieces, MergesMore, Splits}
use Rattle.rescale_worker.specs.Phases.{FitsPhase, AnswersOne, IsPieceFor, Meets, Parts, PhaseOf, froms_of, phase_after}
use Rattle.rescale_worker.specs.Phases.PhaseOf.{Active, Vacant, Waiting}
use Rattle.rescale_worker.specs.Working.{CanTake, ResumesMerging, IsAt, Settles, TakesItem}
use Rattle.rescale_worker.specs.declared.{item.Item.TheVariants.Adopt, item.Item.TheVariants.Part}
use Rattle.rescale_worker.specs.declared.{item.Out.TheVariants.Piece as OfPiece, phase.Phase.Phase}
use Rattle.rescale_worker.specs.declared.{worker.Worker.Worker}
use Rattle.state_merge.specs.MergingView.{MergingOf}
use Rattle.state_merge.specs.declared.merging.Merging.{Merging}
use Rattle.rescale_worker.specs.declared.phase.Phase.TheVariants as held

-- ---- a part

cut_pieces : (c : CoreForm) (k : ℕ) (t : ChangeOfStrategy) (k2 : ℕ) (ps : List Piece) → k < workers_of t.old
    → AreCuts c t.old k t.new t.before t.generation k2 ps → Parts c k t k2 (map (λ p. OfPiece p) ps)
cut_pieces c k t k2 [] h a = tt
cut_pieces c k t k2 (p ∷ ps) h a = (
  (
    p,
    refl,
    a.0.from,
    record {
      generation = a.0.generation;
      to = a.0.to;
      count = a.0.count;
      near = let e : p.from ≡ k = a.0.from in omega arith;
      stands = subst (λ (x : ℕ). PieceStands c t.old x t.new k2 t.before p) (sym a.0.from) a.0.stands;
    },
  ),
  cut_pieces c k t (k2 + 1) ps h a.1,
)

module _ (w : Worker) (m : Monitor) (s : Strategy) (g : ℕ) (old new : Strategy) (active : w.phase ≡ held.Active m s)
    (x : Worker) (pieces : List Piece) (core : core_form x.core ≡ core_form w.core) (number : x.number ≡ w.number)
    (vacant : x.phase ≡ held.Vacant) (splits : Splits m s w.number new g pieces) where
  abbrev c : CoreForm
  c = core_form w.core

  abbrev k : ℕ
  k = w.number

  parts_due : (ph : PhaseOf) (d : Due) → IsAt c k ph w.phase → FitsPhase c k ph d → Meets c k ph d (Part g old new)
      → AnswersOne c k d (map (λ p. OfPiece p) pieces) × IsAt c k (phase_after ph d (Part g old new)) x.phase
  parts_due ph (Slicing g' s' log q) at f meets = cc
  parts_due ph (Parting t) at f meets =
      let l = active_at c k ph s t.old t.before m w.phase f.0 at active in
      let to : new ≡ t.new = cc in
      let by : g ≡ t.generation = cc in
      let cuts : AreCuts c t.old k t.new t.before t.generation 0 pieces =
      rw (l.0, ← to, ← by) (splits.1 c t.before (subst (IsFor c) l.0 f.1) (subst (IsFor c) (sym to) f.2) l.1) in
      ((length-map pieces (λ p. OfPiece p) ∙ splits.0 ∙ ap workers_of to, cut_pieces c k t 0 pieces f.3 cuts), vacant)
  parts_due ph (Hole t j) at f meets = let e = meets.1 in cc

  pub takes_part : TakesItem w (Part g old new) x (map (λ p. OfPiece p) pieces)
  takes_part = record { core = core; number = number; in_phase = parts_due }

-- it is one of its strategy's workers
pub part_below : (w : Worker) (m : Monitor) (s : Strategy) (g : ℕ) (old new : Strategy) → w.phase ≡ held.Active m s
    → CanTake w (Part g old new) → w.number < workers_of s
part_below w m s g old new active can = by can.0 can.1 can.2 can.3 can.4
  where
    by : (ph : PhaseOf) (d : Due) → IsAt (core_form w.core) w.number ph w.phase
        → FitsPhase (core_form w.core) w.number ph d → Meets (core_form w.core) w.number ph d (Part g old new)
        → w.number < workers_of s
    by ph (Slicing g' s' log q) at f meets = cc
    by ph (Parting t) at f meets =
        let l = active_at (core_form w.core) w.number ph s t.old t.before m w.phase f.0 at active in
        rw (← l.0) f.3
    by ph (Hole t j) at f meets = let e = meets.1 in cc

-- ---- a piece

-- the merge has just the pieces of these workers
record Carries (c : CoreForm) (k : ℕ) (t : ChangeOfStrategy) (froms : List ℕ) (merging : Merging) : Type 0 where
  merges : MergesPieces c t.old t.new k t.before froms merging
  few : length froms < workers_of t.old
  adopted : Adopted t.old froms

carries : (c : CoreForm) (k : ℕ) (t : ChangeOfStrategy) (j : ℕ) (ph : PhaseOf) (phase : Phase) (count : ℕ)
    (merging : Merging) → FitsPhase c k ph (Hole t j) → IsAt c k ph phase → count ≡ workers_of t.old
    → ResumesMerging phase c count merging → Carries c k t (froms_of ph) merging
carries c k t j Vacant phase count merging f here counts on =
    let new : ResumesMerging held.Vacant c count merging = rw here at on in
    let low = f.1 in
    record {
      merges = record {
        of = ap (λ (m : MergingOf). m.core) new;
        count = ap (λ (m : MergingOf). m.count) new ∙ counts;
        adopted = ap (λ (m : MergingOf). m.adopted) new;
        merged = ap (λ (m : MergingOf). m.merged) new;
      };
      few = omega arith;
      adopted = record { distinct = tt; near = tt };
    }
carries c k t j (Waiting u froms) phase count merging f here counts on =
    let same : u ≡ t = ⊎_elim (λ e. cc) (λ e. cc) f.2 in
    let a : IsAt c k (Waiting t froms) phase = subst (λ y. IsAt c k (Waiting y froms) phase) same here in
    let own : ResumesMerging (held.Waiting a.0 t.new) c count merging = rw a.1 at on in
    record { merges = rw own a.2; few = a.3; adopted = a.4 }
carries c k t j (Active s log) phase count merging f here counts on = absurd (⊎_elim (λ e. cc) (λ e. cc) f.2)

-- what is known of a piece that is due
record DuePiece (w : Worker) (piece : Piece) (now : Strategy) (merging : Merging) (t : ChangeOfStrategy)
    (froms : List ℕ) : Type 0 where
  carried : Carries (core_form w.core) w.number t froms merging
  piece_for : IsPieceFor (core_form w.core) t w.number piece
  apart : NotIn piece.from froms
  now_is : now ≡ t.new
  old_for : IsFor (core_form w.core) t.old
  new_for : IsFor (core_form w.core) t.new

module _ {w : Worker} {piece : Piece} {now : Strategy} {merging : Merging} {t : ChangeOfStrategy} {froms : List ℕ}
    (d : DuePiece w piece now merging t froms) where
  -- of which workers the pieces are then
  with_piece : Adopted t.old (piece.from ∷ froms)
  with_piece =
      record {
        distinct = (d.apart, d.carried.adopted.distinct);
        near = (d.piece_for.near, d.carried.adopted.near);
      }

  can_adopt : CanAdopt merging piece
  can_adopt = (
    core_form w.core,
    t.old,
    t.new,
    w.number,
    t.before,
    froms,
    d.old_for,
    d.new_for,
    d.carried.merges,
    d.piece_for.stands,
    with_piece,
    d.piece_for.count,
  )

  module _ (merging2 : Merging) (more : MergesMore merging piece merging2) where
    -- the merge with the piece
    merges_piece : MergesPieces (core_form w.core) t.old t.new w.number t.before (piece.from ∷ froms) merging2
    merges_piece =
        more (core_form w.core) t.old t.new w.number t.before froms d.old_for d.new_for d.carried.merges
        d.piece_for.stands

    is_full : AllCame merging2 → IsFull merging2
    is_full all = (
      core_form w.core,
      t.old,
      t.new,
      w.number,
      t.before,
      piece.from ∷ froms,
      d.old_for,
      d.new_for,
      merges_piece,
      with_piece,
      sym merges_piece.adopted ∙ all ∙ merges_piece.count,
    )

    next_phase : (phase : Phase) (j : ℕ) → Settles merging2 now phase → j ≡ length froms
        → IsAt (core_form w.core) w.number
        (cond (nat_eq (j + 1) (workers_of t.old)) (Active t.new t.before) (Waiting t (piece.from ∷ froms))) phase
    next_phase phase j settles here =
        let few = d.carried.few in
        let adopted = merges_piece.adopted in
        let count = merges_piece.count in
        cond_both (nat_eq (j + 1) (workers_of t.old)) (Active t.new t.before) (Waiting t (piece.from ∷ froms))
        (λ ph. IsAt (core_form w.core) w.number ph phase)
        (λ e. let last = eqb-true (j + 1) (workers_of t.old) e in
        let s = settles.0 (omega arith) in (
          s.0,
          s.1 ∙ ap (λ z. held.Active s.0 z) d.now_is,
          s.2 (core_form w.core) t.old t.new w.number t.before (piece.from ∷ froms) d.old_for d.new_for merges_piece
              with_piece (omega arith),
        ))
        (λ e. let other = eqb-false (j + 1) (workers_of t.old) e in (
          merging2,
          settles.1 (λ all. other (omega (arith, all))) ∙ ap (λ z. held.Waiting merging2 z) d.now_is,
          merges_piece,
          omega (arith, other),
          with_piece,
        ))

module _ (w : Worker) (piece : Piece) (now : Strategy) (merging : Merging) {phase : Phase} (was : phase ≡ w.phase)
    (on : ResumesMerging phase (core_form w.core) piece.count merging) where
  due_piece : (ph : PhaseOf) (t : ChangeOfStrategy) (j : ℕ) → IsAt (core_form w.core) w.number ph w.phase
      → FitsPhase (core_form w.core) w.number ph (Hole t j)
      → Meets (core_form w.core) w.number ph (Hole t j) (Adopt piece now)
      → DuePiece w piece now merging t (froms_of ph)
  due_piece ph t j here f meets =
      let p : Piece = meets.0 in
      let e : Adopt piece now ≡ Adopt p t.new = meets.1 in
      let same : p ≡ piece = cc in
      let is : IsPieceFor (core_form w.core) t w.number piece = rw (← same) meets.2 in
      record {
        carried = carries (core_form w.core) w.number t j ph phase piece.count merging f (rw was here) is.count on;
        piece_for = is;
        apart = rw (← same) meets.3;
        now_is = cc;
        old_for = f.4;
        new_for = f.5;
      }

  due_of : CanTake w (Adopt piece now)
      → (t : ChangeOfStrategy) × (froms : List ℕ) × DuePiece w piece now merging t froms
  due_of can = by can.0 can.1 can.2 can.3 can.4
    where
      by : (ph : PhaseOf) (d : Due) → IsAt (core_form w.core) w.number ph w.phase
          → FitsPhase (core_form w.core) w.number ph d → Meets (core_form w.core) w.number ph d (Adopt piece now)
          → (t : ChangeOfStrategy) × (froms : List ℕ) × DuePiece w piece now merging t froms
      by ph (Slicing g s log q) here f meets = cc
      by ph (Parting t) here f meets = cc
      by ph (Hole t j) here f meets = (t, froms_of ph, due_piece ph t j here f meets)

  pub adopt_allowed : CanTake w (Adopt piece now) → CanAdopt merging piece
  adopt_allowed can = can_adopt (due_of can).2

  pub full_allowed : (merging2 : Merging) → MergesMore merging piece merging2 → CanTake w (Adopt piece now)
      → AllCame merging2 → IsFull merging2
  full_allowed merging2 more can all = is_full (due_of can).2 merging2 more all

  pub takes_piece : (merging2 : Merging) → MergesMore merging piece merging2 → (x : Worker)
      → core_form x.core ≡ core_form w.core → x.number ≡ w.number → Settles merging2 now x.phase
      → TakesItem w (Adopt piece now) x []
  takes_piece merging2 more x core number settles = record { core = core; number = number; in_phase = by }
    where
      by : (ph : PhaseOf) (d : Due) → IsAt (core_form w.core) w.number ph w.phase
          → FitsPhase (core_form w.core) w.number ph d → Meets (core_form w.core) w.number ph d (Adopt piece now)
          → AnswersOne (core_form w.core) w.number d []
          × IsAt (core_form w.core) w.number (phase_after ph d (Adopt piece now)) x.phase
      by ph (Slicing g s log q) here f meets = cc
      by ph (Parting t) here f meets = cc
      by ph (Hole t j) here f meets =
          (refl, next_phase (due_piece ph t j here f meets) merging2 more x.phase j settles f.0)
