-- What is spelled in front of a rest, and tokens behind it.
use Rattle.std.proofs.Common.{◌≡◌, List, [], ◌∷◌, ◌++◌, Option, refl, ap, ◌∙◌, arith}
use Rattle.std.proofs.SliceLists.{all_by_recursion_push}
use Rattle.std.specs.List.{AllByRecursion}
use Rattle.mfotl_lex.specs.declared.kind.Kind.TheVariants.{CloseParen, Comma}
use Rattle.mfotl_lex.specs.Lexemes.{Lexeme}
use Rattle.mfotl_sig.specs.Causes.{Begun}
use Rattle.mfotl_sig.specs.Grammar.{Argument, Listed, WrittenPredicate, FitsArgument, FitsListed, FitsLast, Fits}
use Rattle.mfotl_sig.specs.Grammar.{spell_argument, spell_listed, spell_last, spell_begun, spell_pred, spell_preds}
use Rattle.mfotl_sig.specs.Grammar.{IsAccepted}

argument_behind : (a : Argument) (ts us : List Lexeme) → spell_argument a ts ++ us ≡ spell_argument a (ts ++ us)
argument_behind a ts us = grind arith

listed_behind : (ls : List Listed) (ts us : List Lexeme) → spell_listed ls ts ++ us ≡ spell_listed ls (ts ++ us)
listed_behind [] ts us = refl
listed_behind (l ∷ ls) ts us = simp (argument_behind, listed_behind ls ts us)

last_behind : (last : Option Argument) (ts us : List Lexeme) → spell_last last ts ++ us ≡ spell_last last (ts ++ us)
last_behind last ts us = grind (arith, argument_behind)

pub preds_behind : (ws : List WrittenPredicate) (ts us : List Lexeme)
    → spell_preds ws ts ++ us ≡ spell_preds ws (ts ++ us)
preds_behind [] ts us = refl
preds_behind (w ∷ ws) ts us = simp (listed_behind, last_behind, preds_behind ws ts us)

-- one more at the end
listed_more : (ls : List Listed) (l : Listed) (ts : List Lexeme)
    → spell_listed (ls ++ l ∷ []) ts ≡ spell_listed ls (spell_argument l.argument (l.comma ∷ ts))
listed_more [] l ts = refl
listed_more (m ∷ ls) l ts = rw (listed_more ls l ts)

preds_more : (ws : List WrittenPredicate) (w : WrittenPredicate) (ts : List Lexeme)
    → spell_preds (ws ++ w ∷ []) ts ≡ spell_preds ws (spell_pred w ts)
preds_more [] w ts = refl
preds_more (v ∷ ws) w ts = rw (preds_more ws w ts)

module _ (front rest : List Lexeme) (t : Lexeme) (b : Begun front rest) where
  -- the same predicate, gone on
  gone_on : (after more : List Lexeme) (ls : List Listed) → AllByRecursion FitsListed ls
      → after ≡ spell_preds b.whole (spell_begun b.name b.opening ls more) → Begun after more
  gone_on after more ls arguments parts = grind arith

  behind : front ++ t ∷ [] ≡ spell_preds b.whole (spell_begun b.name b.opening b.listed (rest ++ t ∷ []))
  behind = ap (λ x. x ++ t ∷ []) b.parts ∙ simp (preds_behind, listed_behind)

  -- one token more
  pub begun_more : Begun (front ++ t ∷ []) (rest ++ t ∷ [])
  begun_more = gone_on _ _ b.listed b.arguments behind

  -- a comma behind an argument
  pub begun_listed : (a : Argument) → rest ≡ spell_argument a [] → FitsArgument a → t.kind ≡ Comma
      → Begun (front ++ t ∷ []) []
  begun_listed a is fits kind =
      let l : Listed = record { argument = a; comma = t } in
      gone_on _ [] (b.listed ++ l ∷ []) (all_by_recursion_push FitsListed b.listed l b.arguments (fits, kind))
      (behind ∙ simp (is, argument_behind, listed_more))

  -- a `)` behind all arguments
  pub begun_closed : (last : Option Argument) → rest ≡ spell_last last [] → FitsLast b.listed last
      → t.kind ≡ CloseParen → IsAccepted (front ++ t ∷ [])
  begun_closed last is fits kind =
      let w : WrittenPredicate =
      record { name = b.name; opening = b.opening; listed = b.listed; last = last; closing = t } in
      let so : Fits w = assumption in
      let spelled = behind ∙ simp (is, last_behind, preds_more) in
      (b.whole ++ w ∷ [], record { fits = all_by_recursion_push Fits b.whole w b.fits so; spelled = spelled })
