use Rattle.std.proofs.Common.{◌≡◌, ℕ, List, [], ap, arith, length, refl, sym, ◌∙◌}
use Rattle.std.proofs.{lemmas.Bool.eqb-true, lemmas.List.nil_from_length}
use Rattle.rescale_core.specs.Worlds.{ready_in}
use Rattle.rescale_worker.specs.declared.item.Item.{Item}
use Rattle.rescale_core.proofs.QueueLemmas.{all_taken}
use Rattle.rescale_core.proofs.TurnLemmas.{hands_over, may_items, moves_idle}
use Rattle.rescale_core.proofs.driver.Driver.hand_over.Goals as goal

pub swap-requires-clause-may : goal.swap-requires-clause-may
swap-requires-clause-may c =
    may_items c.args.self.now c.take_ready.new.self c.args.worker c.in_ok-items.items.items c.requires.mine
    c.in_ok-items.ensures.moves c.requires.stands.0 c.requires.stands.1

pub returns-then-is_empty-clause-did : goal.returns-then-is_empty-clause-did
returns-then-is_empty-clause-did c = λ w is.
    let d = c.args.self.now in
    let k : ℕ = c.args.worker in
    let items : List Item = c.in_ok-items.items.items in
    let ok = c.in_ok-items.items.ok in
    let none : items ≡ [] =
    nil_from_length items (sym ok.0 ∙ eqb-true c.in_ok-items.items.len 0 (sym c.if-is_empty.ensures)) in
    let all : items ≡ ready_in w k =
    all_taken 18446744073709551615 items (ready_in w k) (c.in_ok-items.ensures.first w is.router)
    (omega (arith, ok.0, ok.1)) in (
      ap length (sym none) ∙ ap length all,
      w,
      refl,
      moves_idle d (record { router = c.take_ready.new.self; main = d.main }) k items none refl
          c.in_ok-items.ensures.moves w is,
    )

pub returns-clause-did : goal.returns-clause-did
returns-clause-did c = λ w is.
    let k : ℕ = c.args.worker in
    let items : List Item = c.in_ok-items.items.items in
    let ok = c.in_ok-items.items.ok in
    let e : length items ≡ c.len-handed.result = sym (c.len-handed.ensures ∙ ok.0) in
    let all : items ≡ ready_in w k =
    all_taken 18446744073709551615 items (ready_in w k) (c.in_ok-items.ensures.first w is.router)
    (omega (arith, ok.0, ok.1)) in
    let moved = hands_over c.args.self.now (record { router = c.take_ready.new.self; main = c.swap.new.main }) k _
    c.in-Back.field-1.items items c.in-Back.ensures.did.1 c.requires.mine c.in_ok-items.ensures.moves w is in
    (sym e ∙ ap length all, moved.0, rw (← e) moved.1, moved.2)
