-- Texts of strategies and what is read of them, worked out by hand.
use Rattle.std.specs.Prelude.{◌≡◌, ℕ, List, [], ◌∷◌, codes, Ok, Err, pos, negsuc}
use Rattle.mfotl_model.specs.Strategies.Entry.{Uncut, Hash, Cut}
use Rattle.mfotl_model.specs.declared.policy.Sort.{Sort}
use Rattle.mfotl_model.specs.declared.policy.Sort.TheVariants.{Int, Text}
use Rattle.mfotl_model.specs.declared.policy.Var.{Var}
use Rattle.slice_strategy.specs.declared.fault.StrategyFault.TheVariants.{Syntax, UnknownVariable, RepeatedVariable}
use Rattle.slice_strategy.specs.declared.fault.StrategyFault.TheVariants.{BadCount, CutSort, CutOrder, TooManyWorkers}
use Rattle.slice_strategy.specs.Reading.{reading}

-- a variable of this name and sort
abbrev pub var : List ℕ → Sort → Var
var name sort = record { name = name; sort = sort }

-- two integers x and y, and a string w
abbrev pub vars : List Var
vars = var (codes "x") Int ∷ var (codes "y") Int ∷ var (codes "w") Text ∷ []

-- what is read
pub record WorkedValues : Type 0 where
  pub empty : reading vars [] ≡ Ok (Uncut ∷ Uncut ∷ Uncut ∷ [])
  pub comment : reading vars (codes "# none") ≡ Ok (Uncut ∷ Uncut ∷ Uncut ∷ [])
  pub most : reading vars (codes "x=hash:8 y=hash:8") ≡ Ok (Hash 8 ∷ Hash 8 ∷ Uncut ∷ [])
  pub any_order : reading vars (codes "w=hash:2 x=cut:-1,5") ≡ Ok (Cut (negsuc 0 ∷ pos 5 ∷ []) ∷ Uncut ∷ Hash 2 ∷ [])

-- what isn't
pub record WorkedFaults : Type 0 where
  pub too_many : reading vars (codes "x=hash:8 y=hash:9") ≡ Err (TooManyWorkers 9)
  pub alone : reading vars (codes "x=hash:65") ≡ Err (TooManyWorkers 0)
  pub before_a_broken_byte : reading vars (codes "x=hash:65 $") ≡ Err (TooManyWorkers 0)
  pub unknown : reading vars (codes "z=hash:2") ≡ Err (UnknownVariable 0)
  pub shown_at_once : reading vars (codes "z9 $") ≡ Err (UnknownVariable 0)
  pub repeated : reading vars (codes "x=hash:2 x $") ≡ Err (RepeatedVariable 9)
  pub bad_count : reading vars (codes "x=hash:0") ≡ Err (BadCount 7)
  pub cut_order : reading vars (codes "x=cut:5,5") ≡ Err (CutOrder 8)
  pub cut_sort : reading vars (codes "w=cut:1") ≡ Err (CutSort 2)
  pub cut_sort_at_once : reading vars (codes "w=cut $") ≡ Err (CutSort 2)
  pub comma_behind_a_count : reading vars (codes "x=hash:65,") ≡ Err (Syntax 9)
  pub hash_has_one_count : reading vars (codes "x=hash:2,3") ≡ Err (Syntax 8)
  pub order_before_count : reading vars (codes "x=hash:64 y=cut:1,1") ≡ Err (CutOrder 18)
  pub broken_byte : reading vars (codes "x=hash:2 $") ≡ Err (Syntax 9)
  pub too_early : reading vars (codes "x=hash:") ≡ Err (Syntax 7)
