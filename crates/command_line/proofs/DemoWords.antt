-- That a demo's words are taken.
use Rattle.std.proofs.Common.{arith, refl, zero, suc}
use Rattle.clap.proofs.OnLiterals.{clap_on_literals}
use Rattle.command_line.specs.Words.{check_app, command_given, command_of, demo_app, monitor_app, run_app, sources_app}
use Rattle.command_line.specs.Words.{words_fault}
use Rattle.command_line.specs.WordsLaw.{DemoIsTaken}

pub demo_taken : DemoIsTaken
unfolding command_of words_fault command_given monitor_app run_app check_app demo_app sources_app clap_on_literals
demo_taken program zero rest low number = rw number refl
demo_taken program (suc zero) rest low number = rw number refl
demo_taken program (suc (suc zero)) rest low number = rw number refl
demo_taken program (suc (suc (suc zero))) rest low number = rw number refl
demo_taken program (suc (suc (suc (suc zero)))) rest low number = rw number refl
demo_taken program (suc (suc (suc (suc (suc zero))))) rest low number = rw number refl
demo_taken program (suc (suc (suc (suc (suc (suc zero)))))) rest low number = rw number refl
demo_taken program (suc (suc (suc (suc (suc (suc (suc zero))))))) rest low number = rw number refl
demo_taken program (suc (suc (suc (suc (suc (suc (suc (suc zero)))))))) rest low number = rw number refl
demo_taken program (suc (suc (suc (suc (suc (suc (suc (suc (suc zero))))))))) rest low number = rw number refl
demo_taken program (suc (suc (suc (suc (suc (suc (suc (suc (suc (suc digit)))))))))) rest low number =
    absurd (omega (arith, low))
