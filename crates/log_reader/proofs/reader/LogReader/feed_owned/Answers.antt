use Rattle.std.proofs.Common.{◌≡◌, ◌++◌, false, refl, ap, ◌∙◌}
use Rattle.log_reader.specs.Readers.{Reader, Reads}
use Rattle.log_reader.proofs.ReaderSoundness.{sound_start, stands_start, none_given}
use Rattle.log_reader.proofs.ReaderLemmas.{for_each, reads_kept}
use Rattle.log_reader.proofs.reader.LogReader.feed_owned.Goals as goal

pub invariant_of-self : goal.invariant_of-self
invariant_of-self c =
    let inside = c.self.inside in
    let unended : inside.is_ended ≡ false = ap (λ (r : Reader). r.is_ended) c.self.view_is ∙ c.requires.«open» in
    record {
      unfed = λ e. absurd cc;
      sound = λ _. rw (unended, c.new.ensures) (sound_start inside.sig.now inside.limits _ _ c.args.bytes.items
          c.new-2.ensures.at c.new-2.ensures.partial);
    }

pub returns-clause-fed : goal.returns-clause-fed
returns-clause-fed c =
    let inside = c.self.inside in
    let fed : inside.is_fed ≡ false = ap (λ (r : Reader). r.is_fed) c.self.view_is ∙ c.requires.once in
    let unended : inside.is_ended ≡ false = ap (λ (r : Reader). r.is_ended) c.self.view_is ∙ c.requires.«open» in
    let works : inside.is_broken ≡ false = ap (λ (r : Reader). r.is_broken) c.self.view_is ∙ c.requires.whole in
    let sound = c.self.invariant.sound works in
    let none = none_given inside.sig.now inside.limits inside.is_ended _ _ _ sound.log inside.kept unended
    (c.self.invariant.unfed fed) sound.stands in
    rw (← c.self.view_is, none.1, c.new-2.ensures.partial) refl

pub returns-clause-reads : goal.returns-clause-reads
returns-clause-reads c =
    let inside = c.self.inside in
    let fed : inside.is_fed ≡ false = ap (λ (r : Reader). r.is_fed) c.self.view_is ∙ c.requires.once in
    let unended : inside.is_ended ≡ false = ap (λ (r : Reader). r.is_ended) c.self.view_is ∙ c.requires.«open» in
    for_each _ _ c.self.view_is (λ log. Reads _ (log ++ c.args.bytes.items)) (λ log st.
    let none = none_given inside.sig.now inside.limits inside.is_ended _ _ _ log inside.kept unended
    (c.self.invariant.unfed fed) st in
    reads_kept _ _ (rw (none.0, unended, c.new.ensures, c.new-2.ensures.partial)
    (stands_start inside.sig.now inside.limits _ _ c.args.bytes.items c.new-2.ensures.at refl)))
