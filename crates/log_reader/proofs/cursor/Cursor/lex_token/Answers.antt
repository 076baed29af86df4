use Rattle.std.proofs.Common.{◌≡◌, Option, Ok, Err, Some, None, option_map, refl, ap, ◌∙◌}
use Rattle.mfotl_lex.specs.Lexemes.{lexeme, next_token}
use Rattle.mfotl_lex.specs.declared.token.Token.{Token}
use Rattle.log_reader.specs.{Stretches.place_in, Tokens.FindsToken}
use Rattle.log_reader.proofs.TokenPlaces.{fault_run, TokenAt, token_at_offset}
use Rattle.log_reader.proofs.TokenSteps.{steps_over, blanks_over}
use Rattle.log_reader.proofs.cursor.Cursor.lex_token.Goals as goal

pub returns-in-None : goal.returns-in-None
returns-in-None c =
    let look = c.args.look in
    let place = place_in look.from look.bytes.now look.ended c.args.self.now.at in
    let found : FindsToken look.from place (Ok c.in-Ok.found) = c.in-Ok.ensures in
    let e : next_token place ≡ Ok None = found.0 ∙ ap (λ (t : Option Token). Ok (option_map lexeme t)) c.in-None.is in
    rw found.1 (blanks_over c.requires.within c.requires.counted e)

pub returns-in-Err : goal.returns-in-Err
returns-in-Err c =
    let look = c.args.look in
    let place = place_in look.from look.bytes.now look.ended c.args.self.now.at in
    let e : next_token place ≡ Err c.in-Err.fault = c.in-Err.ensures in
    record {
      reads = λ last. fault_run c.args.sig.now c.args.limits.now last c.args.self.now.partial place c.in-Err.fault e;
      same_at = refl;
      same = refl;
    }

pub returns-in-Some : goal.returns-in-Some
returns-in-Some c =
    let look = c.args.look in
    let at = c.args.self.now.at in
    let t = lexeme c.in-Some.token in
    let place = place_in look.from look.bytes.now look.ended at in
    let finds : FindsToken look.from place (Ok c.in-Ok.found) = c.in-Ok.ensures in
    let e : next_token place ≡ Ok (Some t) =
    finds.0 ∙ ap (λ (t : Option Token). Ok (option_map lexeme t)) c.in-Some.is in
    let found : TokenAt look.from look.bytes.now look.ended at t c.in-Ok.found.behind =
    rw finds.1 (token_at_offset look.from look.bytes.now look.ended at t c.requires.within e) in
    steps_over c.args.sig.now c.args.limits.now look.from look.bytes.now look.ended at c.args.self.now.partial t _ found
    c.requires.within c.requires.counted e c.take.result _ _ c.take.ensures
