-- Stacks of lists of tables, the top last.
use Rattle.std.specs.Prelude.{◌≡◌, ℕ, List, [], ◌∷◌, ◌++◌, length}
use Rattle.mfotl_model.specs.Tables.{TableOf}

-- the top leaves the stack, if there is one
abbrev pub Pops : List (List TableOf) → List (List TableOf) → List TableOf → Type 0
Pops old new top =
    (below : List (List TableOf)) (tables : List TableOf) → old ≡ below ++ tables ∷ []
    → (new ≡ below) × (top ≡ tables)

-- the n topmost leave the stack
abbrev pub PopsMany : ℕ → List (List TableOf) → List (List TableOf) → List (List TableOf) → Type 0
PopsMany n old new tops =
    (below above : List (List TableOf)) → old ≡ below ++ above → length above ≡ n
    → (new ≡ below) × (tops ≡ above)
