use Rattle.std.proofs.Common.{◌≡◌, false, refl, sym, ap, ◌∙◌, arith}
use Rattle.log_reader.specs.{Readers.Reader, Soundness.is_wanting}
use Rattle.log_reader.proofs.{Fewness.sound_few, Waiting.waits_little}
use Rattle.log_reader.proofs.ReaderLemmas.{answers, more_is, on_ok, reads_on}
use Rattle.log_reader.proofs.ReaderSoundness.{none_forgotten, sound_forgotten, sound_on, stands_forgotten}
use Rattle.log_reader.proofs.reader.LogReader.read_point.Goals as goal

pub invariant_of-self : goal.invariant_of-self
invariant_of-self c =
    let inside = c.self.inside in
    let works : inside.is_broken ≡ false = ap (λ (r : Reader). r.is_broken) c.self.view_is ∙ c.requires in
    let more = more_is c.read-answer.result (sym c.is_more.ensures ∙ c.if-is_more.true) in
    let fine : is_wanting c.read-answer.result ≡ false = rw more refl in
    let waits = c.read-answer.ensures.waits more in
    record {
      unfed = λ e. c.forget.ensures ∙ none_forgotten inside.limits inside.kept _ waits (c.self.invariant.unfed e);
      sound = λ _. rw c.forget.ensures (sound_forgotten inside.sig.now inside.limits inside.is_ended inside.kept _ _
          waits (sound_on inside.sig.now inside.limits inside.is_ended inside.kept _ _ _ _
          (c.self.invariant.sound works) (c.read-answer.ensures.stands fine) (c.read-answer.ensures.within fine)));
    }

pub returns-then-is_more-clause-answer : goal.returns-then-is_more-clause-answer
returns-then-is_more-clause-answer c = answers _ _ c.self.view_is c.read-answer.result c.read-answer.ensures.answer

pub returns-then-is_more-clause-reads : goal.returns-then-is_more-clause-reads
returns-then-is_more-clause-reads c =
    let inside = c.self.inside in
    let more = more_is c.read-answer.result (sym c.is_more.ensures ∙ c.if-is_more.true) in
    reads_on _ _ _ c.self.view_is c.read-answer.result (λ fine log st.
    rw c.forget.ensures (stands_forgotten inside.sig.now inside.limits log inside.is_ended inside.kept _ _ _
    (c.read-answer.ensures.waits more) (c.read-answer.ensures.stands fine log st)))

pub returns-then-is_more-clause-few : goal.returns-then-is_more-clause-few
returns-then-is_more-clause-few c =
    let inside = c.self.inside in
    let works : inside.is_broken ≡ false = ap (λ (r : Reader). r.is_broken) c.self.view_is ∙ c.requires in
    on_ok _ c.read-answer.result (λ fine. sound_few inside.sig.now inside.limits inside.is_ended inside.kept _ _
    (sound_on inside.sig.now inside.limits inside.is_ended inside.kept _ _ _ _ (c.self.invariant.sound works)
    (c.read-answer.ensures.stands fine) (c.read-answer.ensures.within fine)))

pub returns-then-is_more-clause-narrow : goal.returns-then-is_more-clause-narrow
returns-then-is_more-clause-narrow c =
    let inside = c.self.inside in
    let works : inside.is_broken ≡ false = ap (λ (r : Reader). r.is_broken) c.self.view_is ∙ c.requires in
    on_ok _ c.read-answer.result (λ fine.
    let few = sound_few inside.sig.now inside.limits inside.is_ended inside.kept _ _
    (sound_on inside.sig.now inside.limits inside.is_ended inside.kept _ _ _ _ (c.self.invariant.sound works)
    (c.read-answer.ensures.stands fine) (c.read-answer.ensures.within fine)) in
    omega (arith, few))

pub returns-then-is_more-clause-held : goal.returns-then-is_more-clause-held
returns-then-is_more-clause-held c = λ more.
    rw c.forget.ensures (waits_little c.self.inside.limits c.self.inside.kept _ (c.read-answer.ensures.waits more))

pub returns-else-is_more-clause-answer : goal.returns-else-is_more-clause-answer
returns-else-is_more-clause-answer c = answers _ _ c.self.view_is c.read-answer.result c.read-answer.ensures.answer

pub returns-else-is_more-clause-reads : goal.returns-else-is_more-clause-reads
returns-else-is_more-clause-reads c = reads_on _ _ _ c.self.view_is c.read-answer.result c.read-answer.ensures.stands

pub returns-else-is_more-clause-few : goal.returns-else-is_more-clause-few
returns-else-is_more-clause-few c =
    let inside = c.self.inside in
    let works : inside.is_broken ≡ false = ap (λ (r : Reader). r.is_broken) c.self.view_is ∙ c.requires in
    on_ok _ c.read-answer.result (λ fine. sound_few inside.sig.now inside.limits inside.is_ended inside.kept _ _
    (sound_on inside.sig.now inside.limits inside.is_ended inside.kept _ _ _ _ (c.self.invariant.sound works)
    (c.read-answer.ensures.stands fine) (c.read-answer.ensures.within fine)))

pub returns-else-is_more-clause-narrow : goal.returns-else-is_more-clause-narrow
returns-else-is_more-clause-narrow c =
    let inside = c.self.inside in
    let works : inside.is_broken ≡ false = ap (λ (r : Reader). r.is_broken) c.self.view_is ∙ c.requires in
    on_ok _ c.read-answer.result (λ fine.
    let few = sound_few inside.sig.now inside.limits inside.is_ended inside.kept _ _
    (sound_on inside.sig.now inside.limits inside.is_ended inside.kept _ _ _ _ (c.self.invariant.sound works)
    (c.read-answer.ensures.stands fine) (c.read-answer.ensures.within fine)) in
    omega (arith, few))
