use Rattle.std.proofs.Common.{refl}
use Rattle.mfotl_model.specs.Matching.{first_value, is_match, matching_rows}
use Rattle.mfotl_model.specs.Tables.{has, part}
use Rattle.mfotl_model.proofs.examples.worked_tables.Goals as goal

pub returns-clause-tables_have_rows : goal.returns-clause-tables_have_rows
unfolding first_value has is_match matching_rows part
returns-clause-tables_have_rows c = refl

pub returns-clause-parts_of_rows : goal.returns-clause-parts_of_rows
unfolding first_value has is_match matching_rows part
returns-clause-parts_of_rows c = (refl, refl, refl, refl)

pub returns-clause-atoms_match : goal.returns-clause-atoms_match
unfolding first_value has is_match matching_rows part
returns-clause-atoms_match c = refl
