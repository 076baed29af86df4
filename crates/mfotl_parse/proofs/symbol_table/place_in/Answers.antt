use Rattle.std.proofs.Common.{◌∙◌}
use Rattle.mfotl_parse.proofs.NamesLemmas.{place_of_key}
use Rattle.mfotl_parse.proofs.symbol_table.place_in.Goals as goal

pub returns-clause-place : goal.returns-clause-place
returns-clause-place c = c.get_index_of.ensures.index ∙ place_of_key c.args.name.now c.args.free.now.entries
