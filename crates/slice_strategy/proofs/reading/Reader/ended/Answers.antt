use Rattle.slice_strategy.proofs.SoundLemmas.{too_many, not_too_many, set_sound}
use Rattle.slice_strategy.proofs.reading.Reader.ended.Goals as goal

pub returns-then-count_workers-gt-MAX_WORKERS : goal.returns-then-count_workers-gt-MAX_WORKERS
returns-then-count_workers-gt-MAX_WORKERS c =
    let items = c.self.inside.entries.items in
    let many =
    too_many items c.in-Behind.head c.in-Behind.entry c.as_slice.result.now c.count_workers.result
    c.as_slice.ensures.value c.count_workers.ensures c.if-count_workers-gt-MAX_WORKERS.true in
    rw (← c.self.view_is, c.in-Behind.is) many

pub invariant_of-result : goal.invariant_of-result
invariant_of-result c =
    let items = c.self.inside.entries.items in
    set_sound items c.in-Behind.head c.in-Behind.entry c.as_slice.result.now c.count_workers.result
    c.as_slice.ensures.value c.count_workers.ensures c.if-count_workers-gt-MAX_WORKERS.false
    (rw c.in-Behind.is at c.self.invariant)

pub returns-else-count_workers-gt-MAX_WORKERS : goal.returns-else-count_workers-gt-MAX_WORKERS
returns-else-count_workers-gt-MAX_WORKERS c =
    let items = c.self.inside.entries.items in
    let few =
    not_too_many items c.in-Behind.head c.in-Behind.entry c.as_slice.result.now c.count_workers.result
    c.as_slice.ensures.value c.count_workers.ensures c.if-count_workers-gt-MAX_WORKERS.false in
    rw (← c.self.view_is, c.in-Behind.is) few
