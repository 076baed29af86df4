use Rattle.std.proofs.Common.{◌≡◌, ◌<◌, ◌≤◌, ◌+◌, ℕ, List, [], ◌∷◌, ◌++◌, length, ap, sym, ◌∙◌, arith, length-append}
use Rattle.std.proofs.Common.{Some, Option, get_or, set, true, false, Bool, get_or-set_other}
use Rattle.std.proofs.{lemmas.Option.none-some, lemmas.Grind.get_or-set_at}
use mathlib.Core.Option.{some, some-injective}
use lib.ListN.{get_elem?}
use Rattle.atomic_table.proofs.Lists.{at_longer, at_last}
use Rattle.turn_hub.specs.declared.view.Cell.{Cell}
use Rattle.turn_hub.proofs.Keeps.{within}
use Rattle.std.specs.Mem.Slots.{slots_filled, slots_len, slots_items}
use Rattle.turn_hub.proofs.close.works_of.Goals as goal

more_works : {W I O : Type 0} (slots : List (Option (Cell W I O))) (works : List W) (n : ℕ) (c : Cell W I O)
    → length works ≡ n → get_elem? slots n ≡ some (Some c)
    → ((k : ℕ) (x : Cell W I O) → k < n → get_elem? slots k ≡ some (Some x) → get_elem? works k ≡ some x.work)
    → (k : ℕ) (x : Cell W I O) → k < n + 1 → get_elem? slots k ≡ some (Some x)
    → get_elem? (works ++ c.work ∷ []) k ≡ some x.work
more_works slots works n c long there old k x below e = grind (arith, at_last, at_longer)

all_taken : (fs : List Bool) (k n : ℕ) → k < n → n ≡ length fs → ((q : ℕ) → q < k → get_or fs q false ≡ false)
    → (q : ℕ) → q < k + 1 → get_or (set fs k false) q false ≡ false
all_taken fs k n near long old q below = grind (arith, get_or-set_at, get_or-set_other)

still_full : (fs : List Bool) (k n : ℕ) → ((q : ℕ) → k ≤ q → q < n → get_or fs q false ≡ true) → (q : ℕ) → k + 1 ≤ q
    → q < n → get_or (set fs k false) q false ≡ true
still_full fs k n old q above below = grind (arith, get_or-set_other)

pub unreachable-requires : goal.unreachable-requires
unreachable-requires g c = let i = c.loop-k.invariant in
    let has = c.requires.full.1 c.loop-k.k (rw (i.3, i.4, c.args.closed.slots.ok.0) at c.loop-k-test.true) in
    none-some has.0 (some-injective _ _ (sym (c.in-None.ensures {u = tt}).value ∙ rw i.2 has.1))

pub loop-k-preserved : goal.loop-k-preserved
loop-k-preserved g c = let i = c.loop-k.invariant in let t = c.in-Some.ensures {u = tt} in let o = t.others in
    let k : ℕ = c.loop-k.k in
    let p = c.push_reserved.ensures in
    let slots = c.loop-k.closed.slots in (
      λ q above below. rw o.1 (still_full (slots_filled slots) k (slots_len slots) i.0 q above (rw o.2 at below)),
      λ q below. rw o.1 (all_taken (slots_filled slots) k (slots_len slots) (rw i.3 at c.loop-k-test.true) slots.ok.1
          i.1 q below),
      o.0 ∙ i.2,
      i.3 ∙ sym o.2,
      o.2 ∙ i.4,
      rw (p.items, length-append) (ap (λ (n : ℕ). n + 1) i.5),
      rw (o.2, p.capacity) i.6,
      λ q x below e. rw p.items (more_works _ c.loop-k.works.items k c.in-Some.cell i.5 t.value i.7 q x below
          (rw o.0 at e)),
    )

pub returns : goal.returns
returns g c = let i = c.loop-k.invariant in let k : ℕ = c.loop-k.k in
    let whole : k ≡ length (slots_items c.args.closed.slots) = omega (arith, i.3, i.4) in
    (i.5 ∙ whole, λ q x e. i.7 q x (rw whole (within _ q (Some x) e)) (rw i.2 e))
