-- What a worker gets of a log, and what it owns of the violations.
use Rattle.std.specs.Prelude.{◌≡◌, ℕ, ◌-◌, nat_eq, filter, List, [], ◌∷◌, ◌++◌, length}
use Rattle.std.specs.List.{range_with_len}
use Rattle.mfotl_model.specs.FreeVariables.{fv}
use Rattle.mfotl_model.specs.Regions.{near_of}
use Rattle.mfotl_model.specs.Strategies.{Strategy, owner_of}
use Rattle.mfotl_model.specs.declared.event.TimePoint.{TimePoint}
use Rattle.mfotl_model.specs.declared.value.Value.{Value}
use Rattle.monitorable.specs.Atoms.{atoms_of}
use Rattle.monitorable.specs.CoreForms.{CoreForm, meaning}
use Rattle.monitor_state.specs.Verdicts.{IsEvaluable, settled_in}
use Rattle.slice_strategy.specs.Entries.{HasWorkers}
use Rattle.slice_strategy.specs.Slicers.{full_row}
use Rattle.event_splitter.specs.Parts.{part_for}

-- the core can be evaluated, and the strategy divides the rows over its free variables among workers
pub record IsFor (core : CoreForm) (strategy : Strategy) : Type 0 where
  pub evaluable : IsEvaluable core
  pub variables : fv (meaning core) ≡ range_with_len 0 (length strategy)
  pub workers : HasWorkers strategy

-- what worker k gets of a time-point
unfoldable pub slice_for : CoreForm → Strategy → ℕ → TimePoint → TimePoint
slice_for core s k point = part_for (near_of s k) (atoms_of core) point

-- the positions that are settled with this time-point and weren't before
abbrev pub newly : CoreForm → List TimePoint → TimePoint → List ℕ
newly core log point =
    range_with_len (settled_in core log) (settled_in core (log ++ point ∷ []) - settled_in core log)

-- the worker that a row over all free variables belongs to
unfoldable pub owner : Strategy → List Value → ℕ
owner s row = owner_of s (full_row row)

-- those of the rows that belong to worker k
abbrev pub owned_by : Strategy → ℕ → List (List Value) → List (List Value)
owned_by s k rows = filter (λ row. nat_eq (owner s row) k) rows
