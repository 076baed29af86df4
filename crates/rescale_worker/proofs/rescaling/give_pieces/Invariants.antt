use Rattle.std.proofs.Common.{◌≡◌, ◌++◌, map}
use Rattle.rescale_worker.specs.declared.item.Out.TheVariants.{Piece}
use Rattle.rescale_worker.proofs.rescaling.give_pieces.Given as goal

abbrev pub invariant-loop-piece : goal.invariant-loop-piece
invariant-loop-piece l =
    l.outs.items ++ map (λ p. Piece p) l.piece-iterator.rest.items
    ≡ l.fn.outs.items ++ map (λ p. Piece p) l.fn.pieces.items
