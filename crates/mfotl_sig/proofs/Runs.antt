-- What the reader makes of tokens that the grammar spells: a verdict on each part, from left to right.
use Rattle.std.proofs.Common.{◌≡◌, ℕ, Bool, cond, List, [], ◌∷◌, length, Option, Some, None, is_some, Result, Ok, Err}
use Rattle.std.proofs.Common.{refl, ◌∙◌, arith}
use Rattle.std.specs.{Prelude.nat_le, List.AllByRecursion}
use Rattle.mfotl_lex.specs.declared.kind.Kind.TheVariants.{Word, OpenParen, CloseParen, Comma}
use Rattle.mfotl_lex.specs.{FirstFault.◌>>=◌, FirstFault.run, Lexemes.Lexeme}
use Rattle.mfotl_lex.proofs.FirstFaultLaws.{bind_assoc, bind_same}
use Rattle.mfotl_model.specs.declared.policy.Sort.{Sort}
use Rattle.mfotl_sig.specs.declared.{arguments.Stage.Stage, arguments.Stage.TheVariants.AfterOpen}
use Rattle.mfotl_sig.specs.declared.{arguments.Stage.TheVariants.AfterComma, fault.SigFault.SigFault}
use Rattle.mfotl_sig.specs.declared.fault.SigFault.TheVariants.{RepeatedName, Arity, TooMany}
use Rattle.mfotl_sig.specs.{Causes.Begun, Limits.max_predicates, Limits.max_arguments, Rules.sort_of, Rules.sort_word}
use Rattle.mfotl_sig.specs.Grammar.{Argument, Only, Labelled, Listed, WrittenPredicate, FitsArgument, FitsListed}
use Rattle.mfotl_sig.specs.Grammar.{FitsLast, Fits, spell_argument, spell_listed, spell_last, spell_pred, spell_preds}
use Rattle.mfotl_sig.specs.Preds.{PredOf, named, with_pred}
use Rattle.mfotl_sig.specs.Reading.{Partial, with_argument_sort, step, nothing_read}

-- ---- verdicts

abbrev pub first_token : Argument → Lexeme
first_token (Only word) = word
first_token (Labelled label colon word) = label

-- the sorts with that of one more argument
abbrev pub admit : List Sort → Argument → Result (List Sort) SigFault
admit sorts a =
    cond (nat_le max_arguments (length sorts)) (Err (Arity (first_token a).at))
    (with_argument_sort sorts (sort_of (sort_word a).text) (sort_word a).at)

-- with those of all
abbrev pub admit_all : List Sort → List Listed → Option Argument → Result (List Sort) SigFault
admit_all sorts [] None = Ok sorts
admit_all sorts [] (Some a) = admit sorts a
admit_all sorts (l ∷ ls) last = admit sorts l.argument >>= λ more. admit_all more ls last

abbrev pub admit_name : List PredOf → Lexeme → Result (List PredOf) SigFault
admit_name done t =
    cond (is_some (named t.text done)) (Err (RepeatedName t.at))
    (cond (nat_le max_predicates (length done)) (Err (TooMany t.at)) (Ok done))

-- the predicates with one more
abbrev pub judge_one : List PredOf → WrittenPredicate → Result (List PredOf) SigFault
judge_one done w =
    admit_name done w.name >>= λ fresh. admit_all [] w.listed w.last >>= λ all. Ok (with_pred fresh w.name.text all)

abbrev pub judge : List PredOf → List WrittenPredicate → Result (List PredOf) SigFault
judge done [] = Ok done
judge done (w ∷ ws) = judge_one done w >>= λ more. judge more ws

-- ---- one token

abbrev pub between : List PredOf → Partial
between done = record { done = done; draft = None }

abbrev pub within : List PredOf → List ℕ → List Sort → Stage → Partial
within done name sorts stage =
    record { done = done; draft = Some (record { name = name; arguments = record { sorts = sorts; stage = stage } }) }

-- where the next argument begins
abbrev pub stage_in : List Listed → Stage
stage_in [] = AfterOpen
stage_in (l ∷ ls) = AfterComma

-- a test in front of a verdict
pub cond_bind : {A B : Type 0} (b : Bool) (fault : SigFault) (r : Result A SigFault) (f : A → Result B SigFault)
    → (cond b (Err fault) r >>= f) ≡ cond b (Err fault) (r >>= f)
cond_bind b fault r f = grind arith

-- and one that showed no fault
pub cond_ok : {A : Type 0} (b : Bool) (fault : SigFault) (r : Result A SigFault) (x : A)
    → cond b (Err fault) r ≡ Ok x → r ≡ Ok x
cond_ok b fault r x e = grind arith

module _ (done : List PredOf) (name : List ℕ) where
  -- an argument and its comma, where an argument may begin
  one_run : (sorts : List Sort) (a : Argument) (t : Lexeme) (ts : List Lexeme) → FitsArgument a → t.kind ≡ Comma
      → run step (spell_argument a (t ∷ ts)) (within done name sorts AfterComma)
      ≡ (admit sorts a >>= λ more. run step ts (within done name more AfterComma))
  unfolding run step
  one_run sorts (Only w) t ts fits kind = rw (fits, kind) (simp (cond_bind, bind_assoc))
  one_run sorts (Labelled l c w) t ts fits kind = rw (fits.0, fits.1, fits.2, kind) (simp (cond_bind, bind_assoc))

  -- the last argument and the closing bracket
  end_run : (sorts : List Sort) (a : Argument) (t : Lexeme) (ts : List Lexeme) → FitsArgument a → t.kind ≡ CloseParen
      → run step (spell_argument a (t ∷ ts)) (within done name sorts AfterComma)
      ≡ (admit sorts a >>= λ all. run step ts (between (with_pred done name all)))
  unfolding run step
  end_run sorts (Only w) t ts fits kind = rw (fits, kind) (simp (cond_bind, bind_assoc))
  end_run sorts (Labelled l d w) t ts fits kind = rw (fits.0, fits.1, fits.2, kind) (simp (cond_bind, bind_assoc))

  -- behind a bracket the first argument stands as it would behind a comma
  first_run : (a : Argument) (ts : List Lexeme) → FitsArgument a
      → run step (spell_argument a ts) (within done name [] AfterOpen)
      ≡ run step (spell_argument a ts) (within done name [] AfterComma)
  unfolding run step
  first_run a ts fits = grind arith

  -- arguments, and what is behind them
  more_run : (sorts : List Sort) (ls : List Listed) (last : Option Argument) (us : List Lexeme)
      (then : List Sort → Result Partial SigFault) → AllByRecursion FitsListed ls
      → ((more : List Sort) → run step us (within done name more AfterComma) ≡ (admit_all more [] last >>= then))
      → run step (spell_listed ls us) (within done name sorts AfterComma) ≡ (admit_all sorts ls last >>= then)
  more_run sorts [] last us then fits end = end sorts
  more_run sorts (l ∷ ls) last us then fits end =
      one_run sorts l.argument l.comma (spell_listed ls us) fits.0.0 fits.0.1
      ∙ simp (bind_assoc, λ (more : List Sort). more_run more ls last us then fits.1 end)

  -- all arguments that have a comma behind them
  listed_run : (ls : List Listed) (us : List Lexeme) → AllByRecursion FitsListed ls
      → run step (spell_listed ls us) (within done name [] AfterOpen)
      ≡ (admit_all [] ls None >>= λ more. run step us (within done name more (stage_in ls)))
  listed_run [] us fits = refl
  listed_run (l ∷ ls) us fits = first_run l.argument _ fits.0.0 ∙ more_run [] (l ∷ ls) None us _ fits (λ more. refl)

  -- all arguments and the closing bracket
  closed_run : (ls : List Listed) (last : Option Argument) (t : Lexeme) (ts : List Lexeme)
      → AllByRecursion FitsListed ls → FitsLast ls last → t.kind ≡ CloseParen
      → run step (spell_listed ls (spell_last last (t ∷ ts))) (within done name [] AfterOpen)
      ≡ (admit_all [] ls last >>= λ all. run step ts (between (with_pred done name all)))
  unfolding run step
  closed_run [] None t ts fits end kind = rw kind refl
  closed_run [] (Some a) t ts fits end kind = first_run a _ end ∙ end_run [] a t ts end kind
  closed_run (l ∷ ls) None t ts fits end kind = absurd cc
  closed_run (l ∷ ls) (Some a) t ts fits end kind = grind (arith, first_run, more_run, end_run)

-- ---- predicates

-- a name and its bracket
begun_run : (done : List PredOf) (name opening : Lexeme) (ts : List Lexeme) → name.kind ≡ Word
    → opening.kind ≡ OpenParen → run step (name ∷ opening ∷ ts) (between done)
    ≡ (admit_name done name >>= λ fresh. run step ts (within fresh name.text [] AfterOpen))
unfolding run step
begun_run done name opening ts named opens = rw (named, opens) (simp cond_bind)

pred_run : (done : List PredOf) (w : WrittenPredicate) (ts : List Lexeme) → Fits w
    → run step (spell_pred w ts) (between done) ≡ (judge_one done w >>= λ more. run step ts (between more))
pred_run done w ts fits = search (begun_run, bind_assoc, closed_run)

-- whole predicates, and what is behind them
pub preds_run : (done : List PredOf) (ws : List WrittenPredicate) (ts : List Lexeme) → AllByRecursion Fits ws
    → run step (spell_preds ws ts) (between done) ≡ (judge done ws >>= λ more. run step ts (between more))
preds_run done [] ts fits = refl
preds_run done (w ∷ ws) ts fits =
    pred_run done w (spell_preds ws ts) fits.0
    ∙ simp (bind_assoc, λ (more : List PredOf). preds_run more ws ts fits.1)

-- and a predicate that is begun
pub part_run : (front rest : List Lexeme) (b : Begun front rest) → run step front nothing_read
    ≡ (judge [] b.whole >>= λ done. admit_name done b.name >>= λ fresh. admit_all [] b.listed None
    >>= λ sorts. run step rest (within fresh b.name.text sorts (stage_in b.listed)))
part_run front rest b = grind (arith, preds_run, bind_same, begun_run, listed_run)
