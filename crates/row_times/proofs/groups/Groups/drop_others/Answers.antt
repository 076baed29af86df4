use Rattle.std.proofs.{Common.rules, lemmas.Map.Made.filter_same_pairs}
use Rattle.mfotl_model.specs.Tables.{has_row}
use Rattle.row_times.proofs.{FilledLemmas.filled_where, GroupLemmas.kept_where}
use Rattle.row_times.proofs.groups.Groups.drop_others.Goals as goal

pub returns : goal.returns
returns c = rw (← c.self.view_is) (
    let parts = c.args.parts.now.rows in
    let old = c.self.inside.groups.entries in
    let new = c.retain.new.self.entries in
    let same = filter_same_pairs _ (λ e. has_row parts e.0) _ (λ k g b w f' t. search rules) old new
    c.retain.ensures.filtered in
    record { times = λ q v. kept_where parts old new q v same; some = filled_where parts old new same })
