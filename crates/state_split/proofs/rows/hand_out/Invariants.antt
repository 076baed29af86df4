use Rattle.std.proofs.Common.{◌≡◌, ℕ, ◌<◌, ◌-◌, Bool, true, length, map}
use Rattle.slice_strategy.proofs.SharingLemmas.{up_to}
use Rattle.slice_strategy.specs.Sharing.{given_to}
use Rattle.state_split.specs.{Shares.with_last, Sieves.is_kept}
use Rattle.state_split.proofs.rows.hand_out.Given as goal

-- the shares of the workers before the last one that was found have the row
abbrev pub invariant-loop-next : goal.invariant-loop-next
invariant-loop-next g l =
    let test : ℕ → Bool = λ k. is_kept (g.S.Sorter.region l.sorter k) l.columns
    (g.K.Kept.row_of (g.K.Kept.told l.kept)) in
    record {
      below : l.last < g.S.Sorter.count l.sorter;
      goes : test l.last ≡ true;
      sized : length l.shares.items ≡ g.S.Sorter.count l.sorter;
      given : map (λ s. map g.K.Kept.told s.items) l.shares.items
          ≡ given_to (with_last (g.K.Kept.told l.kept)) (up_to test l.last) 0
          (map (λ s. map g.K.Kept.told s.items) l.initial.shares.items);
    }

abbrev pub decreases-loop-next : goal.decreases-loop-next
decreases-loop-next g l = g.S.Sorter.count l.sorter - l.last
