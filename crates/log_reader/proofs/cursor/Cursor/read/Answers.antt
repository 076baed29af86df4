use Rattle.std.proofs.Common.{ℕ, Ok, ap, ◌∙◌}
use Rattle.log_reader.specs.{Progress.answer_of, Readings.nothing_behind}
use Rattle.log_reader.proofs.Keeping.{owed_point, owed_fault, owed_end}
use Rattle.log_reader.proofs.cursor.Cursor.read.Goals as goal

pub returns-in-Ok-Some : goal.returns-in-Ok-Some
returns-in-Ok-Some c =
    let owed = owed_point c.args.sig.now c.args.limits.now c.args.kept.now _ _ c.args.ended _ _ _ _ _ _
    c.look_at-look.ensures.from c.look_at-look.ensures.bytes c.look_at-look.ensures.ended c.advance.ensures c.requires
    c.in-Ok-Some.point (c.in-Ok-Some.is ∙ ap Ok c.in-Ok-Some.field-0-is) in
    search owed

pub returns-in-Ok-None : goal.returns-in-Ok-None
returns-in-Ok-None c =
    let owed = owed_end c.args.sig.now c.args.limits.now c.args.kept.now _ _ c.args.ended _ _ _ _ _ _
    c.look_at-look.ensures.from c.look_at-look.ensures.bytes c.look_at-look.ensures.ended c.advance.ensures c.requires
    (c.in-Ok-None.is ∙ ap Ok c.in-Ok-None.field-0-is) _ _ (c.end-in-Ok-None.ensures.answer
    ∙ ap (λ (n : ℕ). answer_of c.args.ended (nothing_behind c.args.limits.now n c.args.ended
    c.advance.new.self.partial)) c.end.ensures.is)
    c.end-in-Ok-None.ensures.after in
    search owed

pub returns-in-Err : goal.returns-in-Err
returns-in-Err c =
    let owed = owed_fault c.args.sig.now c.args.limits.now c.args.kept.now _ _ c.args.ended _ _ _ _ _ _
    c.look_at-look.ensures.from c.look_at-look.ensures.bytes c.look_at-look.ensures.ended c.advance.ensures c.requires
    c.in-Err.fault c.in-Err.is in
    search owed
