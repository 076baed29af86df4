use Rattle.std.proofs.Common.{◌≡◌, ℕ, List, [], ◌∷◌, refl, arith}
use Rattle.rescale_core.specs.{Worlds.world_after, Worlds.Step.Feed}
use Rattle.rescale_worker.specs.declared.item.Item.{Item}
use Rattle.rescale_core.proofs.CellLemmas.{fed_cell}
use Rattle.rescale_core.proofs.MachineLemmas.{cell_at, machine_fed, no_feed, one_item}
use Rattle.rescale_core.proofs.machine.Machine.feed.Goals as goal

pub returns-then-worker-len : goal.returns-then-worker-len
returns-then-worker-len c = λ entries w is.
    ((λ h. no_feed c.args.self.now entries w is c.args.worker (omega (arith, c.len.ensures)) h.0 h.1), is)

pub returns : goal.returns
returns c = λ entries w is.
    let k : ℕ = c.args.worker in
    let item = c.in-Some.item in
    let items : List Item = c.in_ok-items.items.items in
    let one : items ≡ item ∷ [] =
    one_item items c.pop.new.self.items item c.in-Some.ensures.items c.in_ok-items.ensures.few in
    let moves = rw one at (c.in_ok-items.ensures.moves w is.router) in
    let old = cell_at is k c.index_mut-cell.result.now (omega (arith, c.len.ensures)) c.index_mut-cell.ensures.value in
    let cell = fed_cell w k c.index_mut-cell.result.now _ item old c.in_ok-push_back.ensures.items refl refl refl in (
      world_after w (Feed k item),
      (item, moves.0.0, refl),
      machine_fed c.args.self.now _ entries w is k _ refl refl refl item moves.0.0 cell moves.1,
    )
