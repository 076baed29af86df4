-- What reads gave, one after another, and that it is the file.
use Rattle.std.proofs.Common.{◌≡◌, ℕ, List, ◌++◌, take, None, Some, sym, ap, ◌∙◌, subst, IfSome}
use Rattle.std.proofs.lemmas.List.{append-nil}
use Rattle.std.specs.declared.option.Option.{Option}
use Rattle.mon_outside.specs.Inputs.{Moves, GaveBytes}

-- A read of no byte was the last: all that was left has been given.
pub gave_all : (old mid new : Option (List ℕ)) (before middle after buffer : List ℕ) (count : ℕ)
    → GaveBytes old mid before middle → Moves mid new buffer count → after ≡ middle ++ take count buffer → count ≡ 0
    → IfSome old (λ all. after ≡ before ++ all)
gave_all None mid new before middle after buffer count gave moves appended none = tt
gave_all (Some all) None new before middle after buffer count gave moves appended none = absurd gave.taken
gave_all (Some all) (Some left) new before middle after buffer count gave moves appended none =
    let same : after ≡ middle = subst (λ n. after ≡ middle ++ take n buffer) none appended ∙ append-nil middle in
    let whole : all ≡ gave.given = gave.taken ∙ ap (λ l. gave.given ++ l) (moves.end none) ∙ append-nil gave.given in
    same ∙ gave.appended ∙ ap (λ l. before ++ l) (sym whole)
