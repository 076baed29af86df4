use Rattle.std.proofs.Common.{◌≡◌, ◌++◌, drop}
use Rattle.mfotl_parse.specs.{SymbolTable.vars_of, Views.names_met}
use Rattle.mfotl_parse.proofs.symbol_table.SymbolTable.vars.Given as goal

abbrev pub invariant-loop-place : goal.invariant-loop-place
invariant-loop-place l =
    l.vars.items ++ vars_of (drop l.place (names_met l.self).free) (drop l.place l.self.free_sorts.items)
    ≡ vars_of (names_met l.self).free l.self.free_sorts.items
