-- That the number of threads is the one that the words give.
use Rattle.std.proofs.Common.{◌≡◌, ℕ, codes, false, refl}
use Rattle.clap.specs.Words.{IsUnsignedIn}
use Rattle.clap.specs.declared.builder.value_parser.ValueParser.TheVariants.{Unsigned}
use Rattle.clap.proofs.{OnLiterals.clap_on_literals, ValueTestLemmas.accepts-Accepts}
use Rattle.command_line.specs.Limits.{max_threads}
use Rattle.command_line.specs.Words.{check_app, demo_app, monitor_app, run_app, sources_app}
use Rattle.command_line.specs.WordsLaw.{ThreadsAreTaken}

two : (count : ℕ) → (IsUnsignedIn 0 max_threads (codes "2") → count ≡ 2) → count ≡ 2
two count is = is (accepts-Accepts false (Unsigned 0 max_threads) (codes "2") refl)

four : (count : ℕ) → (IsUnsignedIn 0 max_threads (codes "4") → count ≡ 4) → count ≡ 4
four count is = is (accepts-Accepts false (Unsigned 0 max_threads) (codes "4") refl)

pub threads_taken : ThreadsAreTaken
unfolding monitor_app run_app check_app demo_app sources_app clap_on_literals
threads_taken = (two, four)
