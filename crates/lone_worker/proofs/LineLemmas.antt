-- The front of a line in its room.
use Rattle.std.proofs.Common.{◌≡◌, ◌∙◌, ap, arith, ℕ, ◌-◌, ◌≤◌, List, ◌++◌, length, take, drop, length-append}
use Rattle.std.proofs.Common.{length-drop}
use Rattle.std.proofs.lemmas.List.{take_at}

-- what stands in the room up to its last byte
pub front_in : (room old front : List ℕ) (start : ℕ) → drop start room ≡ front ++ drop 63 old → length room ≡ 64
    → length old ≡ 64 → start ≤ 63 → take (63 - start) (drop start room) ≡ front
front_in room old front start is long same low =
    let sizes : length (drop start room) ≡ length (front ++ drop 63 old) = ap length is in
    ap (take (63 - start)) is
    ∙ take_at front (drop 63 old) (63 - start)
    (omega (arith, sizes, length-drop start room, length-append front (drop 63 old), length-drop 63 old))
