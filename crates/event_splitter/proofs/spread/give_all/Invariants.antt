use Rattle.std.proofs.Common.{◌≡◌, ℕ, [], map, take}
use Rattle.std.specs.List.{range_with_len}
use Rattle.event_splitter.proofs.PartLemmas.{part_of}
use Rattle.event_splitter.proofs.spread.give_all.Given as goal

abbrev pub invariant-loop-event : goal.invariant-loop-event
invariant-loop-event g l =
    (ts : ℕ)
    → l.initial.parts
    ≡ map (part_of (g.S.Slicer.region l.slicer) l.atoms ts []) (range_with_len 0 (g.S.Slicer.count l.slicer))
    → l.parts
    ≡ map (part_of (g.S.Slicer.region l.slicer) l.atoms ts (take l.event-index l.events))
    (range_with_len 0 (g.S.Slicer.count l.slicer))
