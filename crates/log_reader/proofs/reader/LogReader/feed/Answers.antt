use Rattle.std.proofs.Common.{◌≡◌, ◌++◌, false, ap, ◌∙◌}
use Rattle.log_reader.specs.Readers.{Reader, Reads}
use Rattle.log_reader.proofs.{ReaderSoundness.sound_fed, ReaderSoundness.stands_fed, ReaderLemmas.for_each}
use Rattle.log_reader.proofs.{ReaderLemmas.reads_kept}
use Rattle.log_reader.proofs.reader.LogReader.feed.Goals as goal

pub invariant_of-self-2 : goal.invariant_of-self-2
invariant_of-self-2 c =
    let inside = c.self.inside in
    let unended : inside.is_ended ≡ false = ap (λ (r : Reader). r.is_ended) c.self.view_is ∙ c.requires.«open» in
    record {
      unfed = λ e. absurd cc;
      sound = λ works. rw (unended, c.in_ok-append.ensures.ok) (sound_fed inside.sig.now inside.limits inside.kept _ _
          c.args.piece.now (rw unended at (c.self.invariant.sound works)));
    }

pub returns-clause-reads : goal.returns-clause-reads
returns-clause-reads c =
    let inside = c.self.inside in
    let unended : inside.is_ended ≡ false = ap (λ (r : Reader). r.is_ended) c.self.view_is ∙ c.requires.«open» in
    for_each _ _ c.self.view_is (λ log. Reads _ (log ++ c.args.piece.now)) (λ log st.
    reads_kept _ _ (rw (unended, c.in_ok-append.ensures.ok)
    (stands_fed inside.sig.now inside.limits log inside.kept _ _ _ c.args.piece.now (rw unended at st))))
