use Rattle.std.proofs.Common.{◌∙◌, ap, sym, Ok}
use Rattle.std.proofs.lemmas.Result.{err_from_is_err_and}
use Rattle.mfotl_lex.specs.Lexemes.{lexeme, seen}
use Rattle.mfotl_lex.proofs.Sequence.{after_shorter}
use Rattle.slice_strategy.proofs.ReadingLemmas.{begins_so, goes_on, step_fails, lex_fails, all_read}
use Rattle.slice_strategy.proofs.reading.read_strategy.Goals as goal

pub loop-token-init : goal.loop-token-init
loop-token-init c = rw (c.new-lexer.ensures, c.in_ok-reader.ensures) (begins_so c.args.vars.now c.args.bytes.now)

pub returns-in_err-reader-in-Ok-Some : goal.returns-in_err-reader-in-Ok-Some
returns-in_err-reader-in-Ok-Some c =
    let l = c.loop-token in
    let p = err_from_is_err_and c.from_residual-in_err-reader-in-Ok-Some.result
    c.from_residual-in_err-reader-in-Ok-Some.ensures.1 in
    let next = sym c.in-Ok-Some.ensures.found ∙ ap (λ o. seen (Ok o)) c.in-Ok-Some.field-0-is in
    rw (p.1, p.2) (step_fails c.args.vars.now c.args.bytes.now l.lexer l.reader l.invariant
    (lexeme c.in-Ok-Some.token) c.in_err-reader-in-Ok-Some.field-0.0 next c.in_err-reader-in-Ok-Some.ensures)

pub loop-token-smaller : goal.loop-token-smaller
loop-token-smaller c =
    let next = sym c.in-Ok-Some.ensures.found ∙ ap (λ o. seen (Ok o)) c.in-Ok-Some.field-0-is in
    rw c.next.ensures.after (after_shorter c.loop-token.lexer (lexeme c.in-Ok-Some.token) next)

pub loop-token-preserved : goal.loop-token-preserved
loop-token-preserved c =
    let l = c.loop-token in
    let next = sym c.in-Ok-Some.ensures.found ∙ ap (λ o. seen (Ok o)) c.in-Ok-Some.field-0-is in
    rw c.next.ensures.after
    (goes_on c.args.vars.now c.args.bytes.now l.lexer l.reader l.invariant c.in_ok-reader-in-Ok-Some.reader
    (lexeme c.in-Ok-Some.token) next c.in_ok-reader-in-Ok-Some.ensures)

pub returns-in-Ok-None : goal.returns-in-Ok-None
returns-in-Ok-None c =
    let l = c.loop-token in
    let next = sym c.in-Ok-None.ensures.found ∙ ap (λ o. seen (Ok o)) c.in-Ok-None.field-0-is in
    rw (all_read c.args.vars.now c.args.bytes.now l.lexer l.reader l.invariant next) c.finish.ensures

pub returns-in-Err : goal.returns-in-Err
returns-in-Err c =
    let l = c.loop-token in
    rw (lex_fails c.args.vars.now c.args.bytes.now l.lexer l.reader l.invariant c.in-Err.fault
    (sym c.in-Err.ensures.found)) c.broken.ensures
