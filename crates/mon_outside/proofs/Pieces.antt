-- What was written, and what was given, piece after piece.
use Rattle.std.proofs.Common.{◌≡◌, ℕ, List, ◌++◌, take, drop, sym, ap, ◌∙◌, append_assoc, take-append-drop}
use Rattle.std.specs.declared.option.Option.{Option}
use Rattle.std.specs.Io.KnownBytes.{Appends}
use Rattle.std.proofs.KnownBytes.{Appends-trans}

-- of all the bytes a front was written, and the rest is left to write
pub record Wrote (old new : Option (List ℕ)) (bytes rest : List ℕ) : Type 0 where
  pub front : List ℕ
  pub split : bytes ≡ front ++ rest
  pub appended : Appends old new front

-- one more piece
pub wrote_more : {old mid new : Option (List ℕ)} {bytes rest : List ℕ} (count : ℕ) → Wrote old mid bytes rest
    → Appends mid new (take count rest) → Wrote old new bytes (drop count rest)
wrote_more {old} {mid} {new} {bytes} {rest} count w appended = record {
  front = w.front ++ take count rest;
  split =
      w.split ∙ ap (λ l. w.front ++ l) (sym (take-append-drop count rest))
      ∙ sym (append_assoc w.front (take count rest) (drop count rest));
  appended = Appends-trans old mid new w.front (take count rest) w.appended appended;
}
