use Rattle.std.proofs.lemmas.Grind.{common_steps}
use Rattle.std.proofs.Common.{◌≡◌, Some, None, arith, refl}
use Rattle.std.specs.Map.{lookup}
use Rattle.row_times.proofs.RowKeyLemmas.{key_found}
use Rattle.row_times.proofs.keyed.KeyedRows.reaches.Goals as goal

pub returns-in-Some : goal.returns-in-Some
returns-in-Some g c =
    let eq = g.K.PartialEq.eq in
    let entries = c.args.self.now in
    let is : Some c.in-Some.times.now ≡ lookup (eq c.args.key.now) entries =
    grind (arith, common_steps, c.in-Some.ensures.value) in
    rw (key_found eq g.K.RowKey.row_of g.met.K.RowKey.same c.args.key.now entries, ← is) c.reaches.ensures

pub returns-in-None : goal.returns-in-None
returns-in-None g c =
    let eq = g.K.PartialEq.eq in
    let entries = c.args.self.now in
    let none : None ≡ lookup (eq c.args.key.now) entries = grind (arith, common_steps, c.in-None.ensures.value) in
    rw (key_found eq g.K.RowKey.row_of g.met.K.RowKey.same c.args.key.now entries, ← none) refl
