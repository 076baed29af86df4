-- The state of SINCE as contracts see it, and when it is right for a row.
use Rattle.std.specs.Prelude.{◌≡◌, ℕ, ◌+◌, ◌-◌, ◌<◌, ◌≤◌, Bool, ◌&&◌, nat_lt, List, ◌∷◌, length, map, drop}
use Rattle.mfotl_model.specs.Satisfaction.{Valuation, time_at, truth_at}
use Rattle.mfotl_model.specs.Settled.{since_settled}
use Rattle.mfotl_model.specs.declared.value.Value.{Value}
use Rattle.eval_since.specs.WindowView.{WindowOf, within}
use Rattle.eval_since.specs.SinceBefore.{since_before}
use Rattle.mfotl_model.specs.Tables.{TableOf, has_row, part}
use Rattle.relations.specs.Pushed.{StandFrom}
use Rattle.eval_since.specs.LeftOperand.{left_has}

-- the window after the positions pulled, whether the left operand is negated, how many were pulled, the
-- latest time pushed, and what was pushed for later positions, in order
pub record SinceOf : Type 0 where
  pub window : WindowOf
  pub negated : Bool
  pub pulled : ℕ
  pub newest : ℕ
  pub times : List ℕ
  pub lefts : List TableOf
  pub rights : List TableOf

-- the state is right for the row u over the right operand's columns where the timestamps are t, and the
-- operands hold of u and of its left part at the positions that a and b list (the left one turned round
-- where it is negated)
pub record FollowsRow (s : SinceOf) (t : List ℕ) (a b : List Bool) (u : List Value) : Type 0 where
  pub last : 0 < s.pulled → s.window.last ≡ time_at t (s.pulled - 1)
  pub times : StandFrom (λ i x. x ≡ time_at t i) s.pulled s.times
  pub lefts : StandFrom (λ i table. left_has s.negated table.rows (part s.window.right s.window.left u)
      ≡ truth_at a i) s.pulled s.lefts
  pub rights : StandFrom (λ i table. has_row table.rows u ≡ truth_at b i) s.pulled s.rights
  pub window : (x : ℕ) → (0 < s.pulled → s.window.last ≤ x)
      → within s.window x u ≡ since_before s.window.interval t a b s.pulled x

-- the state is right for a valuation: for the row that it gives to the right operand's columns
abbrev pub Follows : SinceOf → List ℕ → List Bool → List Bool → Valuation → Type 0
Follows s t a b v = FollowsRow s t a b (map v s.window.right)

-- whether the next position's time and tables were pushed
abbrev pub due : SinceOf → Bool
due s = nat_lt 0 (length s.times) && nat_lt 0 (length s.lefts) && nat_lt 0 (length s.rights)

-- one position was pulled, and its time is the last one now
pub record Advances (old new : SinceOf) : Type 0 where
  pub pulled : new.pulled ≡ old.pulled + 1
  pub negated : new.negated ≡ old.negated
  pub newest : new.newest ≡ old.newest
  pub interval : new.window.interval ≡ old.window.interval
  pub left : new.window.left ≡ old.window.left
  pub right : new.window.right ≡ old.window.right
  pub times : new.times ≡ drop 1 old.times
  pub stamps : old.times ≡ new.window.last ∷ new.times
  pub lefts : new.lefts ≡ drop 1 old.lefts
  pub rights : new.rights ≡ drop 1 old.rights

-- the next position is due exactly where its time was pushed and the operands are ready at each position up to it
abbrev pub DueIsSettled : Type 0
DueIsSettled = (s : SinceOf)
    → due s ≡ (nat_lt s.pulled (s.pulled + length s.times)
    && since_settled (λ j. nat_lt j (s.pulled + length s.lefts) && nat_lt j (s.pulled + length s.rights)) s.pulled)
