-- Rows that are looked for by a part of them.
use Rattle.std.proofs.Common.{arith, ◌≡◌, ℕ, Bool, ◌&&◌, nat_eq, length, List, [], ◌∷◌, sym, ap, ◌∙◌}
use Rattle.std.proofs.Math.Bool.{and-false}
use Rattle.std.specs.List.{list_any}
use Rattle.mfotl_model.specs.Tables.{has_row, part}
use Rattle.mfotl_model.specs.declared.{interval.Interval.Interval, value.Value.Value}
use Rattle.mfotl_model.proofs.RowLemmas.{any_and_last}
use Rattle.relations.proofs.{KeptLemmas.empty_list, MapLemmas.same_row}
use Rattle.relations.specs.KeptRows.{RowsDiffer, list_for}
use Rattle.row_times.proofs.GroupLemmas.{StandsIn, group_is}
use Rattle.eval_since.specs.{LeftOperand.grouping, LeftOperand.lead}
use Rattle.row_times.specs.{Groups.times_at, Times.reaches}

-- where a row stands in one group alone, what is found in any group and wanted is found there
pub matches_at : (interval : Interval) (x : ℕ) (k u : List Value) (wanted : Bool)
    (es : List (List Value × List (List Value × List ℕ))) → RowsDiffer es → StandsIn es k u
    → list_any (λ e. reaches interval (list_for e.1 u) x && wanted) es
    ≡ (reaches interval (times_at es k u) x && wanted)
matches_at interval x k u wanted es differ stands =
    any_and_last wanted (λ (e : List Value × List (List Value × List ℕ)). reaches interval (list_for e.1 u) x) es
    ∙ ap (λ b. b && wanted) (group_is interval x k u es differ stands)

-- what is looked up in the groups of keys is found where the row's own group is one of them
pub found_at : (interval : Interval) (x : ℕ) (k u : List Value) (keys : List (List Value))
    (es : List (List Value × List (List Value × List ℕ))) → StandsIn es k u
    → list_any (λ q. reaches interval (times_at es q u) x) keys
    ≡ (reaches interval (times_at es k u) x && has_row keys k)
found_at interval x k u [] es stands = sym (and-false (reaches interval (times_at es k u) x))
found_at interval x k u (q ∷ keys) es stands = grind (arith, same_row k q, found_at interval x k u keys es stands)

-- what the left operand speaks of, read off a group's values
pub lead_is : (left keys right : List ℕ) (u : List Value)
    → lead (nat_eq (length left) 0) (part right (grouping left keys) u) ≡ part right left u
unfolding part
lead_is left keys right u = grind (arith, empty_list left)
