use Rattle.std.proofs.Common.{◌∙◌, ap, sym, subst, Ok, length}
use Rattle.std.proofs.lemmas.Result.{err_from_is_err_and}
use Rattle.mfotl_parse.specs.{Reading.ended_at, Views.partial_of, Views.with_next}
use Rattle.mfotl_parse.proofs.ReadingLemmas.{Leads, begins_so, goes_on, shorter, ends, fails}
use Rattle.mfotl_parse.proofs.state.Parser.take_all.Goals as goal

pub loop-init : goal.loop-init
loop-init c =
    let sig = c.args.signature.now in
    let bytes = c.args.bytes.now in
    let first = partial_of c.args.self.now in
    subst (λ place. Leads sig bytes first place first) (sym c.new-lexer.ensures) (begins_so sig bytes first)

pub returns-in_err-take_next : goal.returns-in_err-take_next
returns-in_err-take_next c =
    let p = err_from_is_err_and c.from_residual.result c.from_residual.ensures.1 in
    rw (p.1, p.2) (fails c.args.signature.now c.args.bytes.now (partial_of c.args.self.now) c.loop.lexer
    (partial_of c.loop.self) c.loop.invariant c.in_err-take_next.field-0.0 c.in_err-take_next.ensures.taken)

pub loop-smaller : goal.loop-smaller
loop-smaller c =
    let after = partial_of c.take_next.new.self in
    let taken = c.in_ok-take_next.ensures.taken
    ∙ ap (λ more. Ok (with_next more c.take_next.new.self)) c.if-branch.true in
    rw c.in_ok-take_next.ensures.after (shorter c.args.signature.now c.args.bytes.now (partial_of c.args.self.now)
    c.loop.lexer (partial_of c.loop.self) c.loop.invariant after taken)

pub loop-preserved : goal.loop-preserved
loop-preserved c =
    let sig = c.args.signature.now in
    let bytes = c.args.bytes.now in
    let first = partial_of c.args.self.now in
    let after = partial_of c.take_next.new.self in
    let taken = c.in_ok-take_next.ensures.taken
    ∙ ap (λ more. Ok (with_next more c.take_next.new.self)) c.if-branch.true in
    subst (λ place. Leads sig bytes first place after) (sym c.in_ok-take_next.ensures.after)
    (goes_on sig bytes first c.loop.lexer (partial_of c.loop.self) c.loop.invariant after taken)

pub returns : goal.returns
returns c =
    let none = c.in_ok-take_next.ensures.taken
    ∙ ap (λ more. Ok (with_next more c.take_next.new.self)) c.if-branch.false in
    ends c.args.signature.now c.args.bytes.now (partial_of c.args.self.now) c.loop.lexer
    (partial_of c.loop.self) c.loop.invariant none
    ∙ ap (λ p. ended_at p.now p.context (length c.args.bytes.now))
    (sym (c.in_ok-take_next.ensures.ended c.if-branch.false))
