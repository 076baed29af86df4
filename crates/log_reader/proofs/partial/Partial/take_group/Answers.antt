use Rattle.std.proofs.Common.{◌≡◌, [], sym, subst, ◌∙◌, refl}
use Rattle.log_reader.specs.{Cursors.IsCounted, Partials.Partial}
use Rattle.log_reader.proofs.GroupLemmas.{takes_group, none_left}
use Rattle.log_reader.proofs.partial.Partial.take_group.Goals as goal

pub returns : goal.returns
returns c =
    let none : c.self.inside.args ≡ [] = sym c.values.ensures
    ∙ none_left c.values.result.now c.if-not-is_empty.ensures in
    rw (← c.self.view_is) (takes_group c.in_ok-read.ensures c.in-Some.is (record {
      stage = sym c.may_open.ensures ∙ c.if-not-may_open.false;
      same = refl;
      args = none;
      room = c.if-self-limits.false;
      counted = subst (λ (p : Partial). IsCounted p) (sym c.self.view_is) c.requires.counted;
    }) c.in_ok-keep.ensures)
