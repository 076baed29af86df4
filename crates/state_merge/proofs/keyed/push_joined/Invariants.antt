use Rattle.std.proofs.Common.{◌≡◌, ◌+◌, ◌++◌, length, map}
use Rattle.std.specs.List.{AllByRecursion}
use Rattle.state_merge.specs.Pairs.{walked}
use Rattle.state_merge.proofs.keyed.push_joined.Given as goal

abbrev pub invariant-loop-others : goal.invariant-loop-others
invariant-loop-others g l =
    let walk = walked g.K.Keyed.order g.K.Keyed.told (g.K.Keyed.both l.limit) in
    record {
      first : AllByRecursion g.K.Keyed.fits l.ones.items;
      second : AllByRecursion g.K.Keyed.fits l.others.items;
      done : map g.K.Keyed.told l.all.items ++ walk l.ones.items l.others.items
          ≡ map g.K.Keyed.told l.initial.all.items ++ walk l.fn.first.items l.fn.second.items;
    }

abbrev pub decreases-loop-others : goal.decreases-loop-others
decreases-loop-others g l = length l.ones.items + length l.others.items
