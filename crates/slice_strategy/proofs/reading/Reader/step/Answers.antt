use Rattle.mfotl_lex.specs.Lexemes.{lexeme}
use Rattle.slice_strategy.specs.{Answers.stage_of, Entries.entries_of}
use Rattle.slice_strategy.proofs.SoundLemmas.{stage_fits}
use Rattle.slice_strategy.proofs.reading.Reader.step.Goals as goal

pub invariant_of-result : goal.invariant_of-result
invariant_of-result c =
    let vars = c.args.vars.now in
    let stage = stage_of c.entries.inside.stage in
    let token = lexeme c.args.token.now in
    let kind = c.args.token.now.kind in
    record {
      within = c.entries.invariant.within;
      fits =
          stage_fits vars (entries_of c.entries.inside.entries.items) stage token kind (stage_of c.in_ok-stage.stage)
          c.entries.invariant.fits
          (rw c.as_slice.ensures.value at c.in_ok-stage.ensures);
    }
