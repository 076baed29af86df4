-- What was written, piece after piece.
use Rattle.std.proofs.Common.{sym, refl, ℕ, List, [], ◌++◌, Option, append_assoc, append-nil, arith}
use Rattle.std.proofs.KnownBytes.{Appends-nil}
use Rattle.mon_outside.specs.Sink.{Appends, AppendsFront}

-- the whole is a front
pub whole_front : (old new : Option (List ℕ)) (bytes : List ℕ) → Appends old new bytes → AppendsFront old new bytes
whole_front old new bytes p = record { front = bytes; back = []; split = sym (append-nil bytes); appended = p }

-- so is what stands before more
pub longer_front : (old new : Option (List ℕ)) (xs ys : List ℕ) → AppendsFront old new xs
    → AppendsFront old new (xs ++ ys)
longer_front old new xs ys p = grind (arith, append_assoc)

-- nothing is a front
pub no_front : (old : Option (List ℕ)) (bytes : List ℕ) → AppendsFront old old bytes
no_front old bytes = record { front = []; back = bytes; split = refl; appended = Appends-nil old }

-- a front behind what was written
pub front_behind : (old mid new : Option (List ℕ)) (xs ys : List ℕ) → Appends old mid xs → AppendsFront mid new ys
    → AppendsFront old new (xs ++ ys)
front_behind old mid new xs ys p q = grind (arith, append_assoc)
