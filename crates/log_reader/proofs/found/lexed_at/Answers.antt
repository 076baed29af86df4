use Rattle.std.proofs.Common.{◌≡◌, ◌-◌, ℕ, Option, Ok, None, Some, option_map, refl, sym, ap, ◌∙◌}
use Rattle.mfotl_lex.specs.Lexemes.{lexeme, seen, next_token, after}
use Rattle.mfotl_lex.specs.Places.{Place}
use Rattle.mfotl_lex.specs.declared.token.Token.{Token}
use Rattle.log_reader.proofs.found.lexed_at.Goals as goal

seen_token : (token : Option Token) → seen (Ok token) ≡ Ok (option_map lexeme token)
seen_token None = refl
seen_token (Some token) = refl

pub returns-in-Ok : goal.returns-in-Ok
returns-in-Ok c = (
  ap next_token (sym c.lexer_at-lexer.ensures) ∙ sym c.next.ensures.found ∙ ap seen c.in-Ok.is
      ∙ seen_token c.in-Ok.token,
  ap (λ (n : ℕ). n - c.args.look.from) (c.offset.ensures
      ∙ ap (λ (p : Place). p.at) (c.next.ensures.after ∙ ap after c.lexer_at-lexer.ensures)),
)

pub returns-in-Err : goal.returns-in-Err
returns-in-Err c = ap next_token (sym c.lexer_at-lexer.ensures) ∙ sym c.next.ensures.found ∙ ap seen c.in-Err.is
