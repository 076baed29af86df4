use Rattle.std.specs.Str.Parse.{ExplainsUnsignedError, HasUnsignedDigitsIfOk, ParsesUnsigned}
use Rattle.clap.specs.Words.{found_of}
use Rattle.command_line.proofs.WordsLemmas.{seed_read}
use Rattle.command_line.proofs.words.seed_given.Goals as goal

pub returns : goal.returns
returns c =
    seed_read _ (λ t r. ParsesUnsigned 64 10 t r × ExplainsUnsignedError 10 t r × HasUnsignedDigitsIfOk t r)
    (λ t r read. read.0) (found_of c.args.options.now) c.get_one.result c.get_one.ensures.none c.get_one.ensures.value
