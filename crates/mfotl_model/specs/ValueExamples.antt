-- Worked examples: values, rows and events in their order, comparisons and intervals.
use Rattle.std.specs.Prelude.{◌≡◌, Bool, true, false, List, [], ◌∷◌, map, codes, negsuc}
use Rattle.std.proofs.Common.{lit≤}
use Rattle.mfotl_model.specs.Ascending.{ascending}
use Rattle.mfotl_model.specs.Events.{event_cmp}
use Rattle.mfotl_model.specs.Intervals.{in_interval}
use Rattle.mfotl_model.specs.Samples.{from, int, interval, of}
use Rattle.mfotl_model.specs.Satisfaction.{compares}
use Rattle.mfotl_model.specs.Values.{row_cmp, value_cmp}
use Rattle.mfotl_model.specs.declared.term.Sign.TheVariants.{Equal, Less, LessEqual, Greater, GreaterEqual}
use Rattle.mfotl_model.specs.declared.value.Value.{Value}
use Rattle.mfotl_model.specs.declared.value.Value.TheVariants.{Int, Text}

-- integers by number, then texts by bytes, equal values once
abbrev pub ValuesInOrder : Type 0
ValuesInOrder =
    ascending value_cmp (Text (codes "b") ∷ int 2 ∷ Text (codes "ab") ∷ Int (negsuc 2) ∷ Text (codes "a")
    ∷ int 2 ∷ Text [] ∷ int 10 ∷ [])
    ≡ Int (negsuc 2) ∷ int 2 ∷ int 10 ∷ Text [] ∷ Text (codes "a") ∷ Text (codes "ab") ∷ Text (codes "b") ∷ []

-- rows by their first values that differ, a front before what it is the front of
abbrev pub RowsInOrder : Type 0
RowsInOrder =
    ascending row_cmp ((int 2 ∷ int 1 ∷ []) ∷ (int 1 ∷ Text (codes "a") ∷ []) ∷ (int 1 ∷ [])
    ∷ (int 1 ∷ int 9 ∷ []) ∷ (int 2 ∷ int 1 ∷ []) ∷ [])
    ≡ (int 1 ∷ []) ∷ (int 1 ∷ int 9 ∷ []) ∷ (int 1 ∷ Text (codes "a") ∷ []) ∷ (int 2 ∷ int 1 ∷ []) ∷ []

-- events by predicate first
abbrev pub EventsInOrder : Type 0
EventsInOrder =
    ascending event_cmp (of 1 1 ∷ of 0 5 ∷ of 0 2 ∷ of 1 1 ∷ []) ≡ of 0 2 ∷ of 0 5 ∷ of 1 1 ∷ []

-- whether two values compare by =, <, <=, > and >=
abbrev pub by_all_signs : Value → Value → List Bool
by_all_signs a b = map (λ sign. compares sign a b) (Equal ∷ Less ∷ LessEqual ∷ Greater ∷ GreaterEqual ∷ [])

-- an integer with a larger, an equal and a smaller one; texts by bytes; and values of two sorts, which
-- compare by no sign
abbrev pub ValuesCompare : Type 0
ValuesCompare =
    (by_all_signs (int 1) (int 2) ≡ false ∷ true ∷ true ∷ false ∷ false ∷ [])
    × (by_all_signs (int 2) (int 2) ≡ true ∷ false ∷ true ∷ false ∷ true ∷ [])
    × (by_all_signs (int 3) (int 2) ≡ false ∷ false ∷ false ∷ true ∷ true ∷ [])
    × (by_all_signs (Text (codes "b")) (Text (codes "a")) ≡ false ∷ false ∷ false ∷ true ∷ true ∷ [])
    × (by_all_signs (int 1) (Text (codes "1")) ≡ false ∷ false ∷ false ∷ false ∷ false ∷ [])
    × (by_all_signs (Text (codes "1")) (int 1) ≡ false ∷ false ∷ false ∷ false ∷ false ∷ [])

-- both ends belong to an interval, and an interval may have no upper end
abbrev pub EndsBelongToIntervals : Type 0
EndsBelongToIntervals =
    (map (in_interval (interval 2 5 (lit≤ tt))) (1 ∷ 2 ∷ 5 ∷ 6 ∷ []) ≡ false ∷ true ∷ true ∷ false ∷ [])
    × (map (in_interval (from 2)) (1 ∷ 2 ∷ 99 ∷ []) ≡ false ∷ true ∷ true ∷ [])
