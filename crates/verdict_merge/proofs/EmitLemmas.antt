-- What was gathered settles what comes out.
use Rattle.std.proofs.Common.{◌∙◌, sym, refl, Some, None}
use Rattle.std.proofs.lemmas.Option.{same_Some}
use Rattle.verdict_merge.specs.Laws.{EmitsOne}

pub emits_one : EmitsOne
emits_one old new other None None (none, same) (nothing, stays) = (refl, same ∙ sym stays)
emits_one old new other None (Some verdict) (none, same) (ts, complete, comes, goes) = cc
emits_one old new other (Some verdict) None (ts, complete, comes, goes) (none, same) = cc
emits_one old new other (Some verdict) (Some found) (ts, complete, comes, goes) (time, whole, found_is, left) =
    search (same_Some)
