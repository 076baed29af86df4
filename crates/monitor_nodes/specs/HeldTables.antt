-- The tables of positions that follow one another, wherever they are kept.
use Rattle.std.specs.Prelude.{List, [], ◌∷◌}
use Rattle.mfotl_model.specs.Tables.{TableOf}
use Rattle.monitor_nodes.specs.declared.tables.Held.{Held}
use Rattle.monitor_nodes.specs.declared.tables.Held.TheVariants.{None, One, Many}

-- the tables, in order
abbrev pub held_tables : Held → List TableOf
held_tables None = []
held_tables (One table) = table ∷ []
held_tables (Many tables) = tables.items
