use Rattle.std.proofs.Common.{◌≡◌, ◌∙◌, ap, subst, rules}
use Rattle.std.proofs.lemmas.Result.{IfOk-weaker}
use Rattle.clap.specs.Words.{App, FailsBy, app_of, fault_of, is_simple, is_simple_and_free, subcommand_of}
use Rattle.command_line.specs.Words.{monitor_app, texts_of, words_fault}
use Rattle.command_line.proofs.WordsLemmas.{monitor_is_free, monitor_is_simple}
use Rattle.command_line.proofs.words.matches_of.Goals as goal

pub returns-clause-rows : goal.returns-clause-rows
returns-clause-rows c =
    let words = texts_of c.args.words.now in
    let app_is : app_of c.in_ok-command.command ≡ monitor_app = search rules in
    let parse = c.try_get_matches_from in
    IfOk-weaker parse.result _ _
    (λ m h. (h (ap is_simple app_is ∙ monitor_is_simple)).1 ∙ ap (λ (a : App). subcommand_of a words) app_is)
    parse.ensures.matches

pub returns-clause-fault : goal.returns-clause-fault
unfolding words_fault
returns-clause-fault c =
    let words = texts_of c.args.words.now in
    let app_is : app_of c.in_ok-command.command ≡ monitor_app = search rules in
    let parse = c.try_get_matches_from in
    subst (λ (a : App). FailsBy (fault_of a words) parse.result) app_is
    (parse.ensures.kinds (ap is_simple_and_free app_is ∙ monitor_is_free))
