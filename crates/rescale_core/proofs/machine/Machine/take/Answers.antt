use Rattle.std.proofs.Common.{refl, arith}
use Rattle.rescale_core.proofs.MachineLemmas.{cell_at, machine_takes, no_take}
use Rattle.rescale_core.proofs.machine.Machine.take.Goals as goal

pub returns-then-worker-len : goal.returns-then-worker-len
returns-then-worker-len c = λ entries w is.
    (no_take c.args.self.now entries w is c.args.worker (omega (arith, c.len.ensures)), is)

pub take-requires : goal.take-requires
take-requires c =
    let is = c.requires.2 in (
      c.requires.1,
      c.args.worker,
      is.router.sound,
      cell_at is c.args.worker c.index_mut-cell.result.now (omega (arith, c.len.ensures))
          c.index_mut-cell.ensures.value,
    )

pub returns : goal.returns
returns c =
    machine_takes c.args.self.now _ c.args.worker c.index_mut-cell.result.now c.take.new.self c.in_ok-applied.applied
    (omega (arith, c.len.ensures)) c.index_mut-cell.ensures.value refl refl refl refl c.in_ok-applied.ensures
