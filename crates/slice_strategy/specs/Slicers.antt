-- What holds of everything that divides rows among workers. Of a slicer s there are `count s` workers; the row that
-- a valuation gives to all free variables belongs to `owner s v`; and `near s k` is the region of the worker k.
use Rattle.std.specs.Prelude.{◌≡◌, ℕ, ◌<◌, ◌≤◌, Bool, true, false, List, length, nat_eq, Option, Some, None}
use Rattle.std.specs.List.{range_with_len}
use Rattle.mfotl_model.specs.FreeVariables.{among}
use Rattle.mfotl_model.specs.Regions.{Region, Passes}
use Rattle.mfotl_model.specs.Satisfaction.{Valuation}
use Rattle.mfotl_model.specs.Tables.{valuation}
use Rattle.mfotl_model.specs.declared.value.Value.{Value}

-- the valuation of a row over all free variables, in the order of their numbers
abbrev pub full_row : List Value → Valuation
full_row row = valuation (range_with_len 0 (length row)) row

-- whether all of the first n variables are among these
abbrev pub BindsAll : ℕ → List ℕ → Type 0
BindsAll n vs = (y : ℕ) → y < n → among y vs ≡ true

module _ {S : Type 0} (count : S → ℕ) where
  -- each full row has one owner among the workers
  abbrev pub OneOwner : (S → Valuation → ℕ) → Type 0
  OneOwner owner = (s : S) (v : Valuation) → 0 < count s → owner s v < count s

  -- each partial row is near some worker
  abbrev pub Covers : (S → ℕ → Region) → Type 0
  Covers near =
      (s : S) (vs : List ℕ) (v : Valuation) → 0 < count s → (k : ℕ) × (k < count s) × (near s k vs v ≡ true)

  -- a full row is near its owner alone
  abbrev pub NearIsOwner : (S → ℕ) → (S → Valuation → ℕ) → (S → ℕ → Region) → Type 0
  NearIsOwner width owner near =
      (s : S) (k : ℕ) (vs : List ℕ) (v : Valuation) → 0 < count s → BindsAll (width s) vs
      → near s k vs v ≡ nat_eq (owner s v) k

-- near passes to each row that binds no more of the free variables, and those alike
abbrev pub PassesOn : {S : Type 0} → (S → ℕ) → (S → ℕ → Region) → Type 0
PassesOn {S} width near = (s : S) (free : List ℕ) (k : ℕ) → BindsAll (width s) free → Passes free (near s k)

-- no number from the first up to below the second passes the test
abbrev pub NoneFrom : ℕ → ℕ → (ℕ → Bool) → Type 0
NoneFrom from end test = (k : ℕ) → from ≤ k → k < end → test k ≡ false

-- how far a search among so many workers went: to what it found, or past the last
abbrev pub end_of : ℕ → Option ℕ → ℕ
end_of count None = count
end_of count (Some k) = k
