use Rattle.std.proofs.Common.{refl, sym, ap, arith, ◌∙◌}
use Rattle.rescale_core.proofs.MachineLemmas.{cell_at, cell_has_taken, machine_collects, machine_uncollected}
use Rattle.rescale_core.proofs.MachineLemmas.{no_collect}
use Rattle.rescale_core.proofs.machine.Machine.collect.Goals as goal

pub returns-then-worker-len : goal.returns-then-worker-len
returns-then-worker-len c = λ entries w is.
    (no_collect c.args.self.now entries w is c.args.worker (omega (arith, c.len.ensures)), is)

pub returns-then-taken-eq0 : goal.returns-then-taken-eq0
returns-then-taken-eq0 c =
    let none = sym c.replace-taken.ensures.value ∙ c.if-taken-eq0.true in
    machine_uncollected c.args.self.now _ c.args.worker c.index_mut-cell.result.now _ (omega (arith, c.len.ensures))
    c.index_mut-cell.ensures.value refl refl refl refl none refl refl (c.replace-taken.ensures.after ∙ sym none) refl

pub collect-requires : goal.collect-requires
collect-requires c =
    let is = c.requires.2 in record {
      taken = (
        c.requires.1,
        is.router,
        cell_has_taken c.requires.1 c.args.worker c.index_mut-cell.result.now c.replace-taken.result
            c.replace-outs.result.items
            (cell_at is c.args.worker c.index_mut-cell.result.now (omega (arith, c.len.ensures))
            c.index_mut-cell.ensures.value)
            c.replace-taken.ensures.value (ap (λ v. v.items) c.replace-outs.ensures.value),
      );
    }

pub returns : goal.returns
returns c =
    machine_collects c.args.self.now _ c.args.worker c.index_mut-cell.result.now _ c.replace-taken.result
    c.replace-outs.result.items (omega (arith, c.len.ensures)) c.index_mut-cell.ensures.value refl refl refl
    c.if-taken-eq0.false c.replace-taken.ensures.value (ap (λ v. v.items) c.replace-outs.ensures.value)
    refl refl c.replace-taken.ensures.after (ap (λ v. v.items) c.replace-outs.ensures.after ∙ c.new.ensures.items)
    c.in_ok-collect.ensures
