use Rattle.std.proofs.Common.{refl, sym}
use Rattle.monitorable.proofs.ShownNames.{shown-utf8, shown-other}
use Rattle.monitorable.proofs.fault.Variable.shown.Goals as goal

pub returns-in-Ok : goal.returns-in-Ok
returns-in-Ok c =
    let read = c.in-Ok.ensures.cases in
    rw (read.0, sym c.as_bytes.ensures, shown-utf8 _ read.1) refl

pub returns-in-Err : goal.returns-in-Err
returns-in-Err c = rw (sym c.as_bytes.ensures, shown-other _ c.in-Err.ensures.cases.0) refl
