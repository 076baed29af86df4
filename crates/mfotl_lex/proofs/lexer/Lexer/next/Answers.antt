use Rattle.std.proofs.Common.{None, Ok, Err, rules, subst}
use Rattle.mfotl_lex.specs.{Lexemes.next_token, Lexemes.after, Places.MovesOn}
use Rattle.mfotl_lex.proofs.{Sequence.moves_on, CoveringLemmas.none_at_end}
use Rattle.mfotl_lex.proofs.lexer.Lexer.next.Goals as goal

pub returns-in-Unshown-clause-end : goal.returns-in-Unshown-clause-end
unfolding next_token
returns-in-Unshown-clause-end c = λ told. none_at_end c.args.self.now (Ok None) (search rules) told

pub returns-in-Fails-clause-end : goal.returns-in-Fails-clause-end
unfolding next_token
returns-in-Fails-clause-end c = λ told. none_at_end c.args.self.now (Err _) (search rules) told

pub returns-in-Unshown-clause-within : goal.returns-in-Unshown-clause-within
unfolding after
returns-in-Unshown-clause-within c = subst (MovesOn c.args.self.now) (search rules) (moves_on c.args.self.now)

pub returns-in-Takes-clause-within : goal.returns-in-Takes-clause-within
unfolding after
returns-in-Takes-clause-within c = subst (MovesOn c.args.self.now) (search rules) (moves_on c.args.self.now)

pub returns-in-Fails-clause-within : goal.returns-in-Fails-clause-within
unfolding after
returns-in-Fails-clause-within c = subst (MovesOn c.args.self.now) (search rules) (moves_on c.args.self.now)
