use Rattle.std.proofs.Common.{◌≡◌, ◌+◌, ◌++◌, length, map, take, drop}
use Rattle.state_split.specs.Shares.{each_longer}
use Rattle.state_split.proofs.shares.lengthen.Given as goal

-- with an element behind those that wait too, each is what it shall be
abbrev pub invariant-loop-at : goal.invariant-loop-at
invariant-loop-at g l = record {
  sized : length l.shares.items ≡ length l.initial.shares.items;
  rest : l.at + length l.added.rest.items ≡ length l.shares.items;
  done : take l.at (map (λ s. s.items) l.shares.items)
      ++ each_longer (drop l.at (map (λ s. s.items) l.shares.items)) l.added.rest.items
      ≡ each_longer (map (λ s. s.items) l.initial.shares.items) l.fn.added.items;
}
