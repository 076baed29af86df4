use Rattle.std.proofs.Common.{◌≡◌, ◌&&◌, nat_le, nat_lt, ◌∷◌, length, arith}
use Rattle.std.proofs.lemmas.Bool.{and_parts}
use Rattle.std.specs.{BTreeMap.is_at, List.list_all}
use Rattle.mfotl_model.specs.{Values.row_cmp, Tables.has_row, Tables.part}
use Rattle.row_times.specs.{PackedRows.packed_rows, Groups.times_at}
use Rattle.eval_since.proofs.ExpireLemmas.{thin_more, nothing_thinned, covered_more, fresh_front, front_far}
use Rattle.eval_since.proofs.expiry.expire.Goals as goal

pub returns-then-saturating_sub-hi-clause-fresh : goal.returns-then-saturating_sub-hi-clause-fresh
returns-then-saturating_sub-hi-clause-fresh c =
    fresh_front c.args.hi c.args.now c.loop-front.dated.items c.in-Some.front.now c.in-Some.ensures.lookup
    c.loop-front.invariant.rising (omega arith)

pub loop-front-preserved : goal.loop-front-preserved
loop-front-preserved c =
    let d = c.in-Some-pop_front.old in
    let rest = c.pop_front.new.self.items in
    let is : c.loop-front.dated.items ≡ d ∷ rest = c.in-Some-pop_front.ensures.items in
    let covered = rw is at c.loop-front.invariant.covered in
    let rising = rw is at c.loop-front.invariant.rising in
    let far = front_far c.args.hi c.args.now c.loop-front.dated.items rest c.in-Some.front.now d is
    c.in-Some.ensures.lookup (omega arith) in
    let step = c.in_ok-forget_packed.ensures.times in
    record {
      thin = λ q v. thin_more c.args.hi c.args.now (times_at c.args.groups.now q v)
          (times_at c.loop-front.groups q v) (times_at c.forget_packed.new.groups q v)
          (is_at (row_cmp (part c.args.right.now c.args.left.now v)) q && has_row (packed_rows d.rows) v)
          (c.loop-front.invariant.thin q v) (step q v);
      some = λ all. c.in_ok-forget_packed.ensures.some (c.loop-front.invariant.some all);
      placed = λ q v apart. nothing_thinned c.args.hi c.args.now (times_at c.loop-front.groups q v)
          (times_at c.forget_packed.new.groups q v)
          (is_at (row_cmp (part c.args.right.now c.args.left.now v)) q && has_row (packed_rows d.rows) v)
          (c.loop-front.invariant.placed q v apart) (step q v);
      covered = λ q v. covered_more c.args.hi c.args.now c.args.right.now c.args.left.now d rest q v
          c.loop-front.groups c.forget_packed.new.groups
          far c.loop-front.invariant.placed (covered q v) (step q v);
      rising = rising.1;
      after = λ x all. (and_parts (nat_le d.ts x) (list_all (λ e. nat_le e.ts x) rest)
          (rw is at (c.loop-front.invariant.after x all))).1;
      rows = λ all. (and_parts (nat_lt 0 (length (packed_rows d.rows)))
          (list_all (λ e. nat_lt 0 (length (packed_rows e.rows))) rest)
          (rw is at (c.loop-front.invariant.rows all))).1;
    }
