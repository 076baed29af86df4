use Rattle.std.proofs.Common.{◌≡◌, ◌≤◌, ◌+◌, ◌∷◌, ◌++◌, [], List, ap, sym, append_assoc, append-nil, arith, length}
use Rattle.std.proofs.Common.{length-append, map, ◌∙◌}
use Rattle.rescale_core.specs.{Chances.Chance.Sure, Queues.chances}
use Rattle.rescale_core.specs.Slots.{chance_of, ready_of, sure}
use Rattle.rescale_core.specs.declared.{slot.Slot.Slot}
use Rattle.rescale_worker.specs.declared.{item.Item.Item}
use Rattle.rescale_core.proofs.{QueueLemmas.front_more, SureLemmas.sure_chances, SureLemmas.sure_ready}
use Rattle.rescale_core.proofs.SlotLemmas.{all_first, most_first, taken_last, taken_on}
use Rattle.rescale_core.proofs.router.take_front.Goals as goal

-- the slots that were taken out, with the first of the others
front_grows : (all old new : List Slot) (items more : List Item) (item : Item)
    → (front : List Slot) × (all ≡ front ++ old) × (chances front ≡ map (λ i. Sure i) items)
    → (x : Slot) × (old ≡ x ∷ new) × (chance_of x ≡ Sure item) → more ≡ items ++ item ∷ []
    → (front : List Slot) × (all ≡ front ++ new) × (chances front ≡ map (λ i. Sure i) more)
front_grows all old new items more item t p e = (
  t.0 ++ p.0 ∷ [],
  t.1 ∙ ap (λ y. t.0 ++ y) p.1 ∙ sym (append_assoc t.0 (p.0 ∷ []) new),
  front_more t.0 p.0 items item t.2 p.2 ∙ ap (λ (is : List Item). map (λ i. Sure i) is) (sym e),
)

pub loop-init : goal.loop-init
loop-init c =
    let items = c.take_front-items.result.items in
    let taken = c.take_front-items.ensures.taken in
    record {
      taken = (sure items, taken, sure_chances items);
      count = omega (arith, c.len-counter.ensures, c.take_front-items.result.ok.0);
      ready = ap ready_of taken ∙ sure_ready items c.take_front-items.new.self;
    }

-- nothing more is there
pub returns-in-None : goal.returns-in-None
returns-in-None c =
    let t = c.loop.invariant.taken in
    let same = c.in-None.ensures.0 in
    let few : length c.loop.items.items ≤ c.args.most =
    omega (arith, c.loop.invariant.count, c.loop-test.true) in (
      t.0,
      t.1 ∙ ap (λ y. t.0 ++ y) (sym same),
      t.2,
      all_first c.args.most c.loop.items.items _
          (c.loop.invariant.ready ∙ ap (λ is. c.loop.items.items ++ is) c.in-None.ensures.1
          ∙ append-nil c.loop.items.items) few,
      few,
    )

-- the item that was taken out ends a place
pub returns-then-last : goal.returns-then-last
returns-then-last c =
    let p = c.in-Some.ensures in
    let items = c.in_ok-push-in-Some.ensures.items in
    let t = front_grows _ _ c.pop.new.self _ c.push.new.self.items _ c.loop.invariant.taken p items in
    let len = ap length items ∙ length-append c.loop.items.items (c.in-Some.item ∷ []) in
    let few : length c.push.new.self.items ≤ c.args.most =
    omega (arith, len, c.loop.invariant.count, c.loop-test.true) in (
      t.0,
      t.1,
      t.2,
      all_first c.args.most c.push.new.self.items _
          (taken_last _ _ p.0 c.in-Some.item c.loop.items.items _ p.1 p.2
          (sym c.first_ends-last.ensures ∙ c.if-last.true) c.loop.invariant.ready ∙ sym items) few,
      few,
    )

pub loop-preserved : goal.loop-preserved
loop-preserved c =
    let p = c.in-Some.ensures in
    let items = c.in_ok-push-in-Some.ensures.items in
    record {
      taken = front_grows _ _ c.pop.new.self _ c.push.new.self.items _ c.loop.invariant.taken p items;
      count = ap length items ∙ length-append c.loop.items.items (c.in-Some.item ∷ [])
          ∙ ap (λ n. n + 1) c.loop.invariant.count;
      ready = taken_on _ _ p.0 c.in-Some.item c.loop.items.items _ p.1 p.2
          (sym c.first_ends-last.ensures ∙ c.if-last.false) c.loop.invariant.ready
          ∙ ap (λ is. is ++ ready_of c.pop.new.self) (sym items);
    }

-- as many as were wanted
pub returns : goal.returns
returns c =
    let t = c.loop.invariant.taken in
    let len : length c.loop.items.items ≡ c.args.most =
    omega (arith, c.loop.invariant.count, c.loop-test.false) in (
      t.0,
      t.1,
      t.2,
      most_first c.args.most c.loop.items.items _ _ c.loop.invariant.ready len,
      (omega (arith, len)),
    )
