-- Change scripts and what is read of them, worked out by hand. The variables are two integers x and y, and a string w.
use Rattle.std.specs.Prelude.{◌≡◌, ℕ, [], ◌∷◌, codes, Some, Result, Ok, Err, replicate}
use Rattle.mfotl_model.specs.Strategies.{Strategy}
use Rattle.mfotl_model.specs.Strategies.Entry.{Uncut, Hash}
use Rattle.mfotl_model.specs.declared.policy.Sort.TheVariants.{Int}
use Rattle.slice_strategy.specs.declared.change.Change.{Change}
use Rattle.slice_strategy.specs.declared.change.ChangeFault.{ChangeFault}
use Rattle.slice_strategy.specs.declared.change.ChangeFault.TheVariants.{Strategy as Within, FallingChange}
use Rattle.slice_strategy.specs.declared.change.ChangeFault.TheVariants.{TooManyChanges}
use Rattle.slice_strategy.specs.declared.fault.StrategyFault.TheVariants.{Syntax, UnknownVariable, RepeatedVariable}
use Rattle.slice_strategy.specs.declared.fault.StrategyFault.TheVariants.{BadCount, CutSort, CutOrder, TooManyWorkers}
use Rattle.slice_strategy.specs.ChangeReading.{ScriptOf, change_opened, reading}
use Rattle.slice_strategy.specs.Reading.{nothing_read}
use Rattle.slice_strategy.specs.WorkedTexts.{vars, var}

-- a change
abbrev pub change : ℕ → Strategy → Change
change n strategy = record { before = n; strategy = strategy }

-- a number where so many changes stand before an open one of the number 6; its `before` is at 7, itself at 14
abbrev pub next_number : ℕ → ℕ → Result ScriptOf ChangeFault
next_number before n =
    change_opened vars (replicate before (change 6 []))
    (Some (record { number = 6; reader = nothing_read vars })) 7 14 n

-- what is read
pub record WorkedChanges : Type 0 where
  pub empty : reading vars [] ≡ Ok []
  pub whole : reading vars (codes "before 0") ≡ Ok (change 0 (Uncut ∷ Uncut ∷ Uncut ∷ []) ∷ [])
  pub same_number : reading vars (codes "before 2 x=hash:2 before 2 y=hash:3")
      ≡ Ok (change 2 (Hash 2 ∷ Uncut ∷ Uncut ∷ []) ∷ change 2 (Uncut ∷ Hash 3 ∷ Uncut ∷ []) ∷ [])
  -- a variable of the name `before`
  pub a_name : reading (var (codes "before") Int ∷ []) (codes "before 1 before=hash:2 before 3")
      ≡ Ok (change 1 (Hash 2 ∷ []) ∷ change 3 (Uncut ∷ []) ∷ [])

-- what isn't
pub record WorkedChangeFaults : Type 0 where
  pub no_change : reading vars (codes "x=hash:2") ≡ Err (Within (Syntax 0))
  pub begins_with_an_entry : reading vars (codes "before=hash:2") ≡ Err (Within (Syntax 6))
  pub shown_by_the_equal : reading vars (codes "before 1 before=hash:2") ≡ Err (Within (UnknownVariable 9))
  pub no_name : reading vars (codes "before 1 before $") ≡ Err (Within (Syntax 16))
  pub ends_at_a_before : reading vars (codes "before 1 before") ≡ Err (Within (Syntax 15))
  pub negative : reading vars (codes "before -1") ≡ Err (Within (Syntax 7))
  pub falling : reading vars (codes "before 3 before 2 $") ≡ Err (FallingChange 16)
  pub unknown : reading vars (codes "before 1 z") ≡ Err (Within (UnknownVariable 9))
  pub repeated : reading vars (codes "before 1 x=hash:2 x") ≡ Err (Within (RepeatedVariable 18))
  pub bad_count : reading vars (codes "before 1 x=hash:0") ≡ Err (Within (BadCount 16))
  pub cut_sort : reading vars (codes "before 1 w=cut") ≡ Err (Within (CutSort 11))
  pub cut_order : reading vars (codes "before 1 x=cut:5,5") ≡ Err (Within (CutOrder 17))
  pub too_many_workers : reading vars (codes "before 1 x=hash:65 before $") ≡ Err (Within (TooManyWorkers 9))
  -- with 4,095 changes before the open one there is no room for one more, but a number that falls comes first
  pub too_many_changes : next_number 4095 6 ≡ Err (TooManyChanges 7)
  pub falling_first : next_number 4095 5 ≡ Err (FallingChange 14)
