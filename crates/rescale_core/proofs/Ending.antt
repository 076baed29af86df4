-- Where no step can be done, all verdicts were emitted.
use Rattle.std.proofs.Common.{◌≡◌, ℕ, ◌<◌, ◌≤◌, nat_eq, List, [], ◌∷◌, length, map, drop, refl, ap, append-nil, arith}
use Rattle.std.proofs.Common.{⊎_elim}
use Rattle.std.proofs.lemmas.List.{length-drop, length-map, take_all}
use Rattle.std.proofs.{lemmas.Bool.cases_lt, lemmas.Map.Steps.le-length_from_below}
use Rattle.mfotl_model.proofs.{NumberLemmas.at_most, LogicLemmas.filtered_found}
use Rattle.mfotl_model.specs.Strategies.{workers_of}
use Rattle.verdict_merge.specs.Gathers.{rows_at}
use Rattle.verdict_merge.specs.declared.rows.Rows.{Rows}
use Rattle.monitor_state.proofs.{LogLemmas.settled_within}
use Rattle.monitor_state.specs.{Verdicts.settled_in}
use Rattle.rescale_core.proofs.Emitting.{DueRow, below_of, due_all}
use Rattle.rescale_core.proofs.{Fitting.every_map, Progress.all_handed}
use Rattle.rescale_core.proofs.Given.{given_there, is_of, on_line, settling, worker_there}
use Rattle.rescale_core.specs.{Cells.Enabled, Cells.IsMachineOf, Laws.EmitsVerdicts, Routing.HasEnded}
use Rattle.rescale_worker.specs.{Lines.first_spot, Phases.Answers}
use Rattle.rescale_core.specs.{Soundly.IsSound, Handing.chance}
use Rattle.rescale_core.specs.Worlds.{World, IsGathered, line_in, spot_in}
use Rattle.rescale_core.specs.declared.{step.Step.Step as MachineStep, machine.Machine.Machine}
use Rattle.rescale_worker.specs.declared.{item.Entry.Entry}
use Rattle.rescale_core.specs.declared.step.Step.TheVariants as step

nothing_in : {A : Type 0} (xs : List A) → ((x : A) (rest : List A) → xs ≡ x ∷ rest → ⊥) → xs ≡ []
nothing_in [] h = refl
nothing_in (x ∷ xs) h = absurd (h x xs refl)

-- all that each worker is due was handed over, and all that it gave for it was collected
module _ (w : World) (sound : IsSound w) (fed : (k : ℕ) → length (line_in w k) ≤ length (w.seats k).fed)
    (back : (k : ℕ) → length (w.seats k).fed ≤ (w.seats k).collected) where
  all_back : (k : ℕ) → Answers w.core k (line_in w k) (w.seats k).back
  all_back k = rw (take_all (w.seats k).collected (line_in w k) (omega (arith, fed k, back k))) at (sound.seated k).back

  -- so all Rows for each settled position are there
  all_gathered : (i : ℕ) → i < settled_in w.core (spot_in w).points → IsGathered w i
  all_gathered i low =
      let start = settled_within w.core [] in
      let r = settling w.core w.read (first_spot w.first) i (omega arith) low in
      let all = due_all w sound i r.0 r.1 r.2 r.3 r.4 r.5 r.6 in
      let D = DueRow w sound i r.0 r.1 r.2 r.3 in
      let n : ℕ = workers_of r.1 in
      let workers : List ℕ = map (λ (x : Rows). x.worker) (rows_at i w.rows) in
      let size : length workers ≡ length (rows_at i w.rows) = length-map (rows_at i w.rows) (λ (x : Rows). x.worker) in
      let most : length workers ≤ n =
      at_most n workers (sound.rows_apart i)
      (below_of n (rows_at i w.rows)
      (every_map D (λ (x : Rows). x.worker < n) (rows_at i w.rows) (λ x d. d.near) all)) in
      let least : n ≤ length workers =
      le-length_from_below workers n (λ k near.
      let on = on_line k w.read (first_spot w.first) (length r.2) r.0 r.1 r.2 r.3 near r.4 in
      worker_there k i w.rows
      (filtered_found (λ (x : Rows). nat_eq x.worker k) (is_of k i) w.rows
      (rw ((sound.seated k).rows) (given_there w.core k i on.0 r.0 r.1 r.2 r.3 on.1 (w.seats k).back r.5 r.6
      (rw on.2 at (all_back k)))))) in
      (r.0, r.1, r.2, r.3, r.4, r.5, r.6, omega arith)

  all_out : EmitsVerdicts w → (IsGathered w (length w.emitted) → ⊥)
      → length w.emitted ≡ settled_in w.core (spot_in w).points
  all_out verdicts none = ⊎_elim
      (λ less. absurd (none (all_gathered (length w.emitted) less)))
      (λ more. let most = verdicts.settled in omega arith)
      (cases_lt (length w.emitted) (settled_in w.core (spot_in w).points))

-- where a world has ended, all verdicts were emitted
pub world_emitted : (w : World) → IsSound w → EmitsVerdicts w → HasEnded w
    → length w.emitted ≡ settled_in w.core (spot_in w).points
world_emitted w sound verdicts end =
    all_out w sound
    (λ k.
    let n : ℕ = length (w.seats k).fed in
    let same = length-map (drop n (line_in w k)) (chance w.core k w.pieces) in
    omega (arith, ap length (end.none_wait k), length-drop n (line_in w k)))
    (λ k. omega (arith, end.all_back k)) verdicts end.none_to_emit

module _ (m : Machine) (entries : List Entry) (w : World) (is : IsMachineOf m entries w)
    (none : (s : MachineStep) → Enabled w m.left.items s → ⊥) where
  sound : IsSound w
  sound = is.router.sound

  pub all_read : w.read ≡ entries
  all_read = rw (nothing_in m.left.items (λ x rest e. none step.Read (x, rest, e)), append-nil) at is.entries_are

  all_collected : (k : ℕ) → length (w.seats k).fed ≤ (w.seats k).collected
  all_collected k =
      let taken : (w.seats k).taken < length (w.seats k).fed → ⊥ = none (step.Take k) in
      let collected : (w.seats k).collected < (w.seats k).taken → ⊥ = none (step.Collect k) in
      omega arith

  -- each worker was handed all that it is due
  all_fed : (k : ℕ) → length (line_in w k) ≤ length (w.seats k).fed
  all_fed k =
      let handed = ap length (all_handed w sound (λ q i may. none (step.Feed q) (i, may)) all_collected k) in
      omega (arith, length-drop (length (w.seats k).fed) (line_in w k))

  pub all_emitted : length w.emitted ≡ settled_in w.core (spot_in w).points
  all_emitted = all_out w sound all_fed all_collected is.verdicts (λ g. none step.Emit g)
