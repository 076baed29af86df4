use Rattle.std.proofs.Common.{refl, ap, ◌∙◌}
use Rattle.relations.specs.KeptRows.{filled}
use Rattle.mfotl_model.specs.Tables.{part}
use Rattle.row_times.specs.{Times.reaches}
use Rattle.eval_since.specs.{WindowView.kept_times}
use Rattle.eval_since.proofs.DataLemmas.{climbs_newest, data_follows}
use Rattle.eval_since.proofs.RecalledLemmas.{no_rows, recalls_is, times_are}
use Rattle.eval_since.proofs.since.SinceState.state.Goals as goal

pub returns-clause-rows : goal.returns-clause-rows
returns-clause-rows c = rw (← c.self.view_is) (
    let s = c.self.inside in
    let rows = c.in_ok-kept.field-0.items in
    λ x u. recalls_is s.window.interval rows x u c.in_ok-kept.ensures.rows
    ∙ ap (λ ts. reaches s.window.interval ts x) (times_are rows u (kept_times s.window u)
    (c.in_ok-kept.ensures.kept u)))

pub returns-clause-rule : goal.returns-clause-rule
returns-clause-rule c = rw (← c.self.view_is) (
    let s = c.self.inside in
    record {
      few = c.self.invariant.few;
      climbs = climbs_newest s.window.last s.times.items s.newest c.self.invariant.climbs;
      lefts = rw c.in_ok-copied_tables.ensures c.self.invariant.over_left;
      rights = rw c.in_ok-copied_tables-2.ensures c.self.invariant.over;
      rows = c.in_ok-kept.ensures.rows;
      sized = c.in_ok-kept.ensures.sized;
      each = c.in_ok-kept.ensures.each;
      begins = λ none. no_rows c.in_ok-kept.field-0.items (λ u. c.in_ok-kept.ensures.kept u
          ∙ ap filled (c.self.invariant.begins none (part s.window.right s.window.keys u) u));
    })

pub returns-clause-follows : goal.returns-clause-follows
returns-clause-follows c = rw (← c.self.view_is) (λ t a b v f.
    data_follows _ f c.self.invariant.inside c.self.invariant.over_left c.self.invariant.over refl
    c.in_ok-copied_tables.ensures c.in_ok-copied_tables-2.ensures (rw (← c.self.view_is) at (returns-clause-rows c)))
