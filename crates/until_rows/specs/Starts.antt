-- Where the left operand's present runs begin.
use Rattle.std.specs.Prelude.{ℕ, ◌+◌, Bool, false, cond, nat_le, Option, Some, None, List, [], ◌∷◌}
use Rattle.std.specs.Option.{unwrap_or}
use Rattle.mfotl_model.specs.Tables.{has_row}
use Rattle.mfotl_model.specs.declared.value.Value.{Value}
use Rattle.relations.specs.KeptRows.{kept_for}

-- where the run of a row begins: where no start is kept, behind the positions taken, or where the operand
-- is negated, with the first position
abbrev pub start_of : Bool → ℕ → List (List Value × ℕ) → List Value → ℕ
start_of negated taken starts w = unwrap_or (kept_for starts w) (cond negated 0 taken)

-- the start that is kept for a row after the position p, at which the operand's table has these rows: the
-- runs of the rows go on, or those of a negated operand break
abbrev pub start_taken : Bool → ℕ → List (List Value) → List (List Value × ℕ) → List Value → Option ℕ
start_taken negated p rows starts w = cond negated
    (cond (has_row rows w) (Some (p + 1)) (kept_for starts w))
    (cond (has_row rows w) (Some (start_of false p starts w)) None)

-- a start as it is, or none where it isn't behind the position next
abbrev pub later_start : ℕ → Option ℕ → Option ℕ
later_start next None = None
later_start next (Some s) = cond (nat_le s next) None (Some s)

-- a lone start, or where there is none, many
abbrev pub starts_among : Option (List Value × ℕ) → List (List Value × ℕ) → List (List Value × ℕ)
starts_among None many = many
starts_among (Some lone) many = lone ∷ []
