-- What is true of the generations that were begun.
use Rattle.std.specs.Prelude.{◌<◌, List, map}
use Rattle.std.specs.List.{AllByRecursion}
use Rattle.mfotl_model.specs.Numbers.{Apart}
use Rattle.verdict_merge.specs.declared.rows.Begun.{Begun}

-- no two have the same number, and each has workers
pub record AreBegun (begun : List Begun) : Type 0 where
  pub apart : Apart (map (λ (b : Begun). b.generation) begun)
  pub some : AllByRecursion (λ (b : Begun). 0 < b.workers) begun
