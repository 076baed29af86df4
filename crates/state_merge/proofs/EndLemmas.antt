-- Where the first of two lists has nothing left, the second hasn't either, and they are united.
use Rattle.std.proofs.Common.{List, [], arith}
use Rattle.mfotl_model.specs.Tables.{TableOf}
use Rattle.monitor_state.specs.StateUnions.{ListsUnion, NodesUnion, TablesUnion}
use Rattle.monitor_state.specs.declared.state.NodeData.{NodeData}
use Rattle.state_merge.specs.Fits.{AllAlike, ListsFit, TablesFit}

pub tables_end : (ys : List TableOf) → TablesFit [] ys → TablesUnion [] ys []
tables_end ys fit = grind arith

pub lists_end : (ys : List (List TableOf)) → ListsFit [] ys → ListsUnion [] ys []
lists_end ys fit = grind arith

pub nodes_end : (ys : List NodeData) → AllAlike [] ys → NodesUnion [] ys []
nodes_end ys fit = grind arith
