use Rattle.std.proofs.Common.{◌≡◌, true, sym, ap, ◌∙◌}
use Rattle.log_reader.specs.Partials.{Partial, point_of, finished}
use Rattle.log_reader.specs.Stages.{is_whole}
use Rattle.log_reader.proofs.MarkLemmas.{mark_takes, mark_halts, at_completes}
use Rattle.log_reader.proofs.partial.Partial.take_marked.Goals as goal

pub returns-in-Ok : goal.returns-in-Ok
returns-in-Ok c = mark_takes _ _ _ _ _ _ c.in-len1-up.len_at_least _ c.in-Some.ensures c.in-Ok.is

pub returns-in-Err : goal.returns-in-Err
returns-in-Err c = mark_halts _ _ _ _ _ _ c.in-len1-up.len_at_least _ c.in-Some.ensures c.in-Err.is

pub returns-in-None-2 : goal.returns-in-None-2
returns-in-None-2 c =
    let same : c.take_mark.new.self ≡ c.args.self.now = c.in-None-2.ensures in
    let whole : is_whole c.args.self.now.stage ≡ true =
    sym (ap (λ (p : Partial). is_whole p.stage) (c.self.view_is ∙ same)) ∙ sym c.is_whole.ensures
    ∙ c.if-not-is_whole.false in
    at_completes c.args.self.now _ c.args.at c.args.bytes.now c.finish.result c.in-len1-up.len_at_least
    c.if-first-eq64.true whole (c.finish.ensures.point ∙ ap point_of same) (c.finish.ensures.after ∙ ap finished same)
