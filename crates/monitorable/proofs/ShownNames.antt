-- Names that are UTF-8 are shown, and no others.
use Rattle.std.specs.Prelude.{◌≡◌, ℕ, List, []}
use Rattle.std.specs.Str.{IsUtf8}
use Rattle.std.proofs.lemmas.Bool.{cond-true, cond-false, false_from_ne_true}
use Rattle.std.proofs.lemmas.Str.{IsUtf8-from_is_utf8, is_utf8-from_IsUtf8}
use Rattle.monitorable.specs.FaultTexts.{shown_name}

pub shown-utf8 : (name : List ℕ) → IsUtf8 name → shown_name name ≡ name
shown-utf8 name utf8 = cond-true _ _ _ (is_utf8-from_IsUtf8 name utf8)

pub shown-other : (name : List ℕ) → ¬ (IsUtf8 name) → shown_name name ≡ []
shown-other name other = cond-false _ _ _ (false_from_ne_true _ (λ e. other (IsUtf8-from_is_utf8 name e)))
