-- Lists of rows that grow by one element behind.
use Rattle.std.proofs.Common.{◌≡◌, ℕ, ◌+◌, ◌<◌, List, [], ◌∷◌, ◌++◌, length, take, get_or, ap, sym, ◌∙◌, append-nil}
use Rattle.std.proofs.{lemmas.Grind.flat_map-append, lemmas.List.take_more}
use Rattle.std.specs.List.{flat_map}

-- what the elements up to one more give
pub flat_map_more : {X A : Type 0} (g : X → List A) (xs : List X) (i : ℕ) (x : X) (before after : List A)
    → i < length xs → x ≡ get_or xs i x → before ≡ flat_map g (take i xs) → after ≡ before ++ g x
    → after ≡ flat_map g (take (i + 1) xs)
flat_map_more g xs i x before after within is was adds =
    adds
    ∙ ap (λ b. b ++ g x) was
    ∙ ap (λ b. flat_map g (take i xs) ++ b) (sym (append-nil (g x)))
    ∙ ap (λ y. flat_map g (take i xs) ++ flat_map g (y ∷ [])) is
    ∙ sym (flat_map-append g (take i xs) (get_or xs i x ∷ []))
    ∙ ap (flat_map g) (sym (take_more xs i x within))
