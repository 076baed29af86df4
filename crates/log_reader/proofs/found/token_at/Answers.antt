use Rattle.std.proofs.Common.{◌≡◌, ◌-◌, ◌+◌, ℕ, List, length, drop, sym, ap, subst, ◌∙◌, arith}
use Rattle.std.proofs.{Math.Facts.Fits-of_lt, lemmas.List.length-drop}
use Rattle.mfotl_lex.specs.Lexemes.{lexeme}
use Rattle.log_reader.specs.Tokens.{IsInFront}
use Rattle.log_reader.proofs.found.token_at.Goals as goal

pub overflow_add-result : goal.overflow_add-result
overflow_add-result c =
    let seen = c.in-Some.ensures in
    let back : length c.split_at.result.1.now ≡ length c.args.look.bytes.now - c.args.at =
    ap length c.split_at.ensures.back ∙ length-drop c.args.at c.args.look.bytes.now in
    Fits-of_lt (omega (arith, seen.last, back, c.requires.within, c.requires.small))

pub overflow_sub-result : goal.overflow_sub-result
overflow_sub-result c =
    let seen = c.in-Some.ensures in
    omega (arith, seen.first)

pub returns-in-Some : goal.returns-in-Some
returns-in-Some c =
    let look = c.args.look in
    let seen : IsInFront (drop c.args.at look.bytes.now) (look.from + c.args.at) (lexeme c.in-Some.token) =
    subst (λ (r : List ℕ). IsInFront r (look.from + c.args.at) (lexeme c.in-Some.token)) c.split_at.ensures.back
    c.in-Some.ensures in
    (seen.is look.ended, ap (λ (n : ℕ). n - look.from) (sym (seen.behind look.ended)))
