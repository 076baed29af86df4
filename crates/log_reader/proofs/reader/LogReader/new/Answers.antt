use Rattle.std.proofs.Common.{[], refl}
use Rattle.log_reader.proofs.{ReaderSoundness.sound_start, ReaderSoundness.stands_start, ReaderLemmas.reads_kept}
use Rattle.log_reader.proofs.reader.LogReader.new.Goals as goal

pub invariant_of-result : goal.invariant_of-result
invariant_of-result c = record {
  unfed = λ _. rw (c.new-2.ensures, c.new.ensures.items) refl;
  sound = λ _. rw (c.new-2.ensures, c.new.ensures.items)
      (sound_start c.args.sig.now c.args.limits _ _ [] c.new-3.ensures.at c.new-3.ensures.partial);
}

pub returns-clause-reads : goal.returns-clause-reads
returns-clause-reads c =
    reads_kept _ [] (rw (c.new-2.ensures, c.new.ensures.items, c.new-3.ensures.partial)
    (stands_start c.args.sig.now c.args.limits _ _ [] c.new-3.ensures.at refl))
