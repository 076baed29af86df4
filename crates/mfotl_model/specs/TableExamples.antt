-- Worked examples: tables, atoms matched against events, strategies and slices.
use Rattle.std.specs.Prelude.{◌≡◌, ℕ, true, false, List, [], ◌∷◌, map, codes, negsuc, pos}
use Rattle.mfotl_model.specs.Matching.{matching_rows}
use Rattle.mfotl_model.specs.Regions.{near_of}
use Rattle.mfotl_model.specs.Samples.{event, int, of}
use Rattle.mfotl_model.specs.Slices.{slice}
use Rattle.mfotl_model.specs.Strategies.{Strategy, owner_of, strategy_part, workers_of}
use Rattle.mfotl_model.specs.Strategies.Entry.{Uncut, Hash, Cut}
use Rattle.mfotl_model.specs.Tables.{TableOf, all_among, all_apart, all_sized, has, part, valuation}
use Rattle.mfotl_model.specs.declared.term.Term.TheVariants.{Const, Var}
use Rattle.mfotl_model.specs.declared.value.Value.TheVariants.{Int, Text}

-- a table over the variables 1 and 0
abbrev pub small : TableOf
small = record { columns = 1 ∷ 0 ∷ []; rows = (int 1 ∷ int 2 ∷ []) ∷ (int 3 ∷ int 4 ∷ []) ∷ [] }

-- a table has the valuations that give it one of its rows, in the order of its columns
abbrev pub TablesHaveRows : Type 0
TablesHaveRows =
    map (λ row. has small (valuation (0 ∷ 1 ∷ []) row))
    ((int 3 ∷ int 4 ∷ []) ∷ (int 3 ∷ int 2 ∷ []) ∷ (int 4 ∷ int 3 ∷ []) ∷ [])
    ≡ false ∷ false ∷ true ∷ []

-- the columns that are wanted, in their order; and what is asked of columns and rows
abbrev pub PartsOfRows : Type 0
PartsOfRows =
    (part (0 ∷ 1 ∷ 2 ∷ []) (2 ∷ 0 ∷ []) (int 7 ∷ int 8 ∷ int 9 ∷ []) ≡ int 9 ∷ int 7 ∷ [])
    × (map all_apart ((0 ∷ 1 ∷ 2 ∷ []) ∷ (0 ∷ 1 ∷ 0 ∷ []) ∷ []) ≡ true ∷ false ∷ [])
    × (map (all_among (1 ∷ 0 ∷ [])) ((0 ∷ 1 ∷ 2 ∷ []) ∷ (0 ∷ 2 ∷ []) ∷ []) ≡ true ∷ false ∷ [])
    × (map (λ n. all_sized n small.rows) (2 ∷ 1 ∷ []) ≡ true ∷ false ∷ [])

-- p(x, 5, x, y) matched against p at five rows and against another predicate; columns y, x
abbrev pub AtomsMatch : Type 0
AtomsMatch =
    matching_rows (record {
      atom = record { pred = 0; args = Var 0 ∷ Const (int 5) ∷ Var 0 ∷ Var 1 ∷ [] };
      columns = 1 ∷ 0 ∷ [];
    })
    (event 0 (int 1 ∷ int 5 ∷ int 1 ∷ int 2 ∷ []) ∷ event 0 (int 1 ∷ int 5 ∷ int 3 ∷ int 2 ∷ [])
    ∷ event 0 (int 1 ∷ int 6 ∷ int 1 ∷ int 2 ∷ []) ∷ event 0 (int 1 ∷ int 5 ∷ int 1 ∷ [])
    ∷ event 1 (int 1 ∷ int 5 ∷ int 1 ∷ int 2 ∷ []) ∷ event 0 (int 8 ∷ int 5 ∷ int 8 ∷ int 9 ∷ []) ∷ [])
    ≡ (int 2 ∷ int 1 ∷ []) ∷ (int 9 ∷ int 8 ∷ []) ∷ []

-- a negative integer has a part from 0 on, a text the sum of its bytes, and a cut belongs to what is above
abbrev pub PartsOfValues : Type 0
PartsOfValues =
    (strategy_part (Hash 3) (Int (negsuc 6)) ≡ 2)
    × (strategy_part (Hash 5) (Text (codes "ab")) ≡ 0)
    × (map (strategy_part (Cut (pos 2 ∷ pos 5 ∷ []))) (int 1 ∷ int 2 ∷ int 5 ∷ []) ≡ 0 ∷ 1 ∷ 2 ∷ [])
    × (strategy_part (Cut (pos 2 ∷ [])) (Text (codes "z")) ≡ 0)
    × (strategy_part Uncut (int 7) ≡ 0)

-- the variable 0 in three parts, the variable 1 in two
abbrev pub three_by_two : Strategy
three_by_two = Hash 3 ∷ Hash 2 ∷ []

-- the numbers of six workers, and one more
abbrev pub seven : List ℕ
seven = 0 ∷ 1 ∷ 2 ∷ 3 ∷ 4 ∷ 5 ∷ 6 ∷ []

-- there are six workers; the row (4,3) is worker 3's, and near to it alone; a row that binds less is near to
-- each worker that has its parts
abbrev pub WorkersOfRows : Type 0
WorkersOfRows =
    (map workers_of (three_by_two ∷ (Uncut ∷ Cut (pos 2 ∷ pos 5 ∷ []) ∷ []) ∷ [] ∷ []) ≡ 6 ∷ 3 ∷ 1 ∷ [])
    × (owner_of three_by_two (valuation (0 ∷ 1 ∷ []) (int 4 ∷ int 3 ∷ [])) ≡ 3)
    × (map (λ k. near_of three_by_two k (0 ∷ 1 ∷ []) (valuation (0 ∷ 1 ∷ []) (int 4 ∷ int 3 ∷ []))) seven
    ≡ false ∷ false ∷ false ∷ true ∷ false ∷ false ∷ false ∷ [])
    × (map (λ k. near_of three_by_two k (1 ∷ []) (valuation (1 ∷ []) (int 3 ∷ []))) seven
    ≡ false ∷ true ∷ false ∷ true ∷ false ∷ true ∷ false ∷ [])
    × (map (λ k. near_of [] k [] (valuation [] [])) (0 ∷ 1 ∷ []) ≡ true ∷ false ∷ [])

-- of the events only those that the atom p(x) matches in the worker's part are seen
abbrev pub SlicesOfEvents : Type 0
SlicesOfEvents =
    slice (near_of (Hash 2 ∷ []) 0) (record { pred = 0; args = Var 0 ∷ [] } ∷ [])
    (of 0 1 ∷ of 0 2 ∷ of 1 2 ∷ [])
    ≡ of 0 2 ∷ []
