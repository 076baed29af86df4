use Rattle.std.proofs.Common.{Some, None, arith}
use Rattle.std.specs.Str.Parse.{ExplainsUnsignedError, HasUnsignedDigitsIfOk, ParsesUnsigned}
use Rattle.clap.specs.Words.{found_of}
use Rattle.command_line.proofs.WordsLemmas.{threads_read, threads_unread}
use Rattle.command_line.proofs.words.threads_given.Goals as goal

pub returns-in-Some-clause-given : goal.returns-in-Some-clause-given
returns-in-Some-clause-given c =
    threads_read _ (λ t r. ParsesUnsigned 32 10 t r × ExplainsUnsignedError 10 t r × HasUnsignedDigitsIfOk t r)
    (λ t r read. read.0) (found_of c.args.options.now) c.in-Some.threads c.in-Some.ensures.value

pub returns-in_default-clause-given : goal.returns-in_default-clause-given
returns-in_default-clause-given c =
    threads_unread _ (λ t r. ParsesUnsigned 32 10 t r × ExplainsUnsignedError 10 t r × HasUnsignedDigitsIfOk t r)
    (λ t r read. read.0) (found_of c.args.options.now) (Some c.in-Some.threads) _ c.in-Some.ensures.value
    (let high = c.if-threads-le-MAX_THREADS.false in omega (arith, high))

pub returns-in_default-2-clause-given : goal.returns-in_default-2-clause-given
returns-in_default-2-clause-given c =
    threads_unread _ (λ t r. ParsesUnsigned 32 10 t r × ExplainsUnsignedError 10 t r × HasUnsignedDigitsIfOk t r)
    (λ t r read. read.0) (found_of c.args.options.now) None _ c.in_default.ensures.value tt
