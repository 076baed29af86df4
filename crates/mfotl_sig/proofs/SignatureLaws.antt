-- The laws of `specs/Laws.antt`.
use Rattle.std.proofs.Common.{◌≡◌, ◌≢◌, ℕ, true, List, [], length, Option, None, Result, Ok, Err, IfOk, IfErr, ap, sym}
use Rattle.std.proofs.Common.{◌∙◌, arith}
use Rattle.mfotl_lex.specs.declared.{fault.LexFault.LexFault, kind.Mode.TheVariants.Plain}
use Rattle.mfotl_lex.specs.FirstFault.{◌>>=◌, End, More, run}
use Rattle.mfotl_lex.specs.FirstFault as layer
use Rattle.mfotl_lex.specs.{Lexemes.Lexeme, Lexemes.tokens, Places.beginning, Texts.tail_of}
use Rattle.mfotl_lex.proofs.FirstFaultLaws as firsts
use Rattle.mfotl_lex.proofs.{FirstFaultLaws.bind_ok, Verdicts.kept_ok}
use Rattle.mfotl_lex.proofs.TextLaws as texts
use Rattle.mfotl_sig.specs.declared.{fault.SigFault.SigFault, fault.SigFault.TheVariants.Memory}
use Rattle.mfotl_sig.specs.{Answers.Gives, Causes.IsCause, Causes.IsLast, Grammar.IsAccepted, Grammar.IsViable}
use Rattle.mfotl_sig.specs.{Preds.PredOf}
use Rattle.mfotl_sig.specs.Laws.{ReadIsSpelled, SpelledIsRead, OneAnswer, IsShown, ExactFaults, ExactSoundness}
use Rattle.mfotl_sig.specs.Laws.{StaysShown}
use Rattle.mfotl_sig.specs.Reading.{DraftOf, Partial, step, at_end, at_tail, nothing_read, reading}
use Rattle.mfotl_sig.specs.Rules.{numbered, text_of, KeepsRules, IsValue}
use Rattle.mfotl_sig.proofs.{CauseLaw.follows, CauseLaw.stands, Runs.between, Runs.judge, Verdicts.IsRule}
use Rattle.mfotl_sig.proofs.{Verdicts.judged}
use Rattle.mfotl_sig.proofs.Standing.{Stands, spelled_read, spelled_run}

-- ---- what is read, and what is spelled

done_is : (end : ℕ) (done preds : List PredOf) (draft : Option DraftOf) → at_end end done draft ≡ Ok preds
    → (draft ≡ None) × (done ≡ preds)
done_is end done preds draft e = grind arith

ended : (end : ℕ) (lexical : Option LexFault) (p : Partial) (preds : List PredOf)
    → at_tail (tail_of true end lexical) p ≡ Ok preds
    → (tail_of true end lexical ≡ End end) × (p.draft ≡ None) × (p.done ≡ preds)
ended end lexical p preds e = grind (arith, done_is)

accepted_by : (ts : List Lexeme) (draft : Option DraftOf) → draft ≡ None → Stands ts draft → IsAccepted ts
accepted_by ts draft none at = grind arith

pub read_is_spelled : ReadIsSpelled
unfolding reading layer.reading
read_is_spelled bytes preds e =
    let x = text_of bytes in
    let read = bind_ok (run step x.list nothing_read) (λ p. at_tail x.tail p) preds e in
    let end = ended (length bytes) (tokens (beginning Plain bytes)).fault read.0 preds read.2 in
    let accepted = accepted_by x.list read.0.draft end.1 (stands x.list read.0 read.1) in
    let spelled = spelled_read x.list accepted.0 read.0 accepted.1 read.1 in
    grind arith

pub spelled_is_read : SpelledIsRead
unfolding reading layer.reading run
spelled_is_read bytes preds v =
    let x = text_of bytes in
    let passes =
    kept_ok IsRule (KeepsRules v.written) (judge [] v.written) (numbered 0 v.written)
    (judged v.written) v.rules in
    ap (λ r. r >>= λ p. at_tail x.tail p)
    (spelled_run x.list v.written v.spelled ∙ ap (λ r. r >>= λ done. run step [] (between done)) passes)
    ∙ ap (λ tail. at_tail tail (between (numbered 0 v.written))) v.whole
    ∙ ap (λ ps. Ok ps) (sym v.value)

pub one_answer : OneAnswer
one_answer = firsts.one_answer reading IsValue read_is_spelled spelled_is_read

-- ---- faults

pub exact_faults : ExactFaults
unfolding reading
exact_faults bytes fault =
    firsts.exact_faults step nothing_read at_tail IsViable IsCause IsLast follows (text_of bytes) fault

pub exact_soundness : ExactSoundness
exact_soundness = firsts.exact_soundness step nothing_read at_tail IsViable IsCause IsLast follows

none_shown : (p : Partial) (fault : SigFault) → at_tail More p ≡ Err fault → ⊥
none_shown p fault e = cc

pub stays_shown : StaysShown
stays_shown = texts.stays_shown step nothing_read at_tail none_shown

-- ---- what the reader answers

pub value_given : (bytes : List ℕ) (result : Result (List PredOf) SigFault) → Gives (λ s. s) result (reading bytes)
    → IfOk result (λ s. IsValue bytes s)
value_given bytes result given = grind (arith, read_is_spelled)

pub fault_shown : (bytes : List ℕ) (result : Result (List PredOf) SigFault) → Gives (λ s. s) result (reading bytes)
    → IfErr result (λ fault. fault ≢ Memory → IsShown bytes fault)
fault_shown bytes result given = grind (arith, exact_faults)
