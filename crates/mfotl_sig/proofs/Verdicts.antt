-- A verdict passes exactly what keeps the rules, and else shows the fault of one.
use Rattle.std.proofs.Common.{◌≡◌, ℕ, suc, ◌+◌, ◌<◌, ◌≤◌, Bool, true, false, cond, List, [], ◌∷◌, ◌++◌, length, Option}
use Rattle.std.proofs.Common.{Some, None, is_some, Result, Ok, refl, ap, inl, arith}
use Rattle.std.proofs.{lemmas.Bool.leb-false, lemmas.Bool.leb-true, lemmas.Cmp.nat_list_eq_equiv}
use Rattle.std.proofs.{lemmas.List.Elements.filter_map-append, lemmas.List.Folds.find-append}
use Rattle.std.proofs.lemmas.List.{append-nil, append_assoc, length-append}
use Rattle.std.proofs.lemmas.Map.Keys.{IsDistinct-head, IsDistinct-tail, IsDistinct-cons}
use Rattle.std.specs.List.{AllByRecursion, IsDistinct, filter_map, cons_option}
use Rattle.std.specs.{Prelude.IsSome, Prelude.◌↔◌, Option.option_or, Str.bytes_eq}
use Rattle.mfotl_lex.specs.Lexemes.{Lexeme}
use Rattle.mfotl_lex.proofs.Verdicts as layer
use Rattle.mfotl_lex.proofs.Verdicts.{breaks}
use Rattle.mfotl_model.specs.declared.policy.Sort.{Sort}
use Rattle.mfotl_sig.specs.declared.fault.SigFault.{SigFault}
use Rattle.mfotl_sig.specs.declared.fault.SigFault.TheVariants.{RepeatedName, UnknownSort, Arity, TooMany}
use Rattle.mfotl_sig.specs.Grammar.{Argument, Listed, WrittenPredicate}
use Rattle.mfotl_sig.specs.{Limits.max_predicates, Limits.max_arguments, Preds.PredOf, Preds.named}
use Rattle.mfotl_sig.specs.Rules.{sort_of, sort_word, words_of, sort_words, names_of, AllKnown, KeepsRules, numbered}
use Rattle.mfotl_sig.proofs.Runs.{first_token, admit, admit_all, admit_name, judge_one, judge}

-- a fault of a rule beside the grammar
abbrev pub IsRule : SigFault → Type 0
IsRule (RepeatedName at) = Unit {0}
IsRule (UnknownSort at) = Unit {0}
IsRule (Arity at) = Unit {0}
IsRule (TooMany at) = Unit {0}
IsRule _ = ⊥

abbrev pub Judged : {A : Type 0} → Type 0 → Result A SigFault → A → Type 0
Judged rules r x = layer.Judged IsRule rules r x

-- ---- arguments

abbrev sorts_of : List (List ℕ) → List Sort
sorts_of words = filter_map sort_of words

one_more : (sort : Option Sort) (more : List Sort) → IsSome sort → length (cons_option sort more) ≡ suc (length more)
one_more sort more some = grind arith

length-sorts_of : (words : List (List ℕ)) → AllKnown words → length (sorts_of words) ≡ length words
length-sorts_of [] known = refl
length-sorts_of (word ∷ words) known = search (one_more, length-sorts_of words known.1)

abbrev word_of : Argument → List ℕ
word_of a = (sort_word a).text

abbrev with_one : List Sort → Argument → List Sort
with_one sorts a = sorts ++ sorts_of (word_of a ∷ [])

longer : (sorts : List Sort) (a : Argument) → IsSome (sort_of (word_of a))
    → length (with_one sorts a) ≡ length sorts + 1
longer sorts a some = cc (length-append sorts (sorts_of (word_of a ∷ [])), length-sorts_of (word_of a ∷ []) (some, tt))

abbrev OneKept : List Sort → Argument → Type 0
OneKept sorts a = (length sorts < max_arguments) × IsSome (sort_of (word_of a))

one_judged : (sorts : List Sort) (a : Argument) → Judged (OneKept sorts a) (admit sorts a) (with_one sorts a)
one_judged sorts a = grind (arith, first_token, leb-true, breaks, leb-false)

abbrev AllKept : List Sort → List (List ℕ) → Type 0
AllKept sorts words = (length sorts + length words ≤ max_arguments) × AllKnown words

pub all_judged : (sorts : List Sort) (ls : List Listed) (last : Option Argument) → length sorts ≤ max_arguments
    → Judged (AllKept sorts (words_of ls last)) (admit_all sorts ls last) (sorts ++ sorts_of (words_of ls last))
all_judged sorts [] None few = inl ((omega arith, tt), rw append-nil)
all_judged sorts [] (Some a) few = grind (arith, one_judged)
all_judged sorts (l ∷ ls) last few =
    let a = l.argument in
    let more = with_one sorts a in
    let words = words_of ls last in
    rw (filter_map-append sort_of (word_of a ∷ []) words, ← append_assoc)
    (layer.then_judged IsRule (OneKept sorts a) (admit sorts a) more (AllKept more words)
    (AllKept sorts (word_of a ∷ words)) _ _ (λ one rest. (omega (arith, rest.0, longer sorts a one.1), (one.1, rest.1)))
    (λ k. ((omega (arith, k.0), k.1.0), (omega (arith, k.0, longer sorts a k.1.0), k.1.1)))
    (one_judged sorts a)
    (λ one. all_judged more ls last (omega (arith, one.0, longer sorts a one.1))))

length-words_of : (ls : List Listed) → length (words_of ls None) ≡ length ls
length-words_of [] = refl
length-words_of (l ∷ ls) = ap suc (length-words_of ls)

-- so many were admitted, and no more than there may be
pub listed_count : (sorts : List Sort) (ls : List Listed) → admit_all [] ls None ≡ Ok sorts
    → (length sorts ≡ length ls) × (length ls ≤ max_arguments)
listed_count sorts ls ok = grind (arith, all_judged, length-words_of, length-sorts_of)

-- ---- predicates

-- the name is new, and there is room
abbrev IsAdmitted : List PredOf → List ℕ → Type 0
IsAdmitted done name = (named name done ≡ None) × (length done < max_predicates)

name_judged : (done : List PredOf) (t : Lexeme) → Judged (IsAdmitted done t.text) (admit_name done t) done
name_judged done t = grind (arith, is_some, breaks, leb-true, leb-false)

-- the predicate that is written behind others
abbrev pred_behind : List PredOf → WrittenPredicate → PredOf
pred_behind done w = record { number = length done; name = w.name.text; sorts = sorts_of (sort_words w) }

abbrev and_pred : List PredOf → WrittenPredicate → List PredOf
and_pred done w = done ++ pred_behind done w ∷ []

abbrev PredKept : List PredOf → WrittenPredicate → Type 0
PredKept done w = IsAdmitted done w.name.text × AllKept [] (sort_words w)

pred_judged : (done : List PredOf) (w : WrittenPredicate)
    → Judged (PredKept done w) (judge_one done w) (and_pred done w)
pred_judged done w = grind (arith, admit_name, name_judged, admit_all, all_judged)

-- none of the names stands among the predicates
abbrev Apart : List PredOf → List WrittenPredicate → Type 0
Apart done ws = AllByRecursion (λ w. named w.name.text done ≡ None) ws

absent_behind : (done : List PredOf) (name : List ℕ) (p : PredOf)
    → (named name (done ++ p ∷ []) ≡ None) ↔ ((named name done ≡ None) × (bytes_eq p.name name ≡ false))
absent_behind done name p =
    rw (find-append, nat_list_eq_equiv.symm p.name name) (by (named name done) (bytes_eq name p.name))
  where
    by : (found : Option PredOf) (same : Bool)
        → (option_or found (cond same (Some p) None) ≡ None) ↔ ((found ≡ None) × (same ≡ false))
    by (Some q) same = (λ e. absurd cc, λ k. absurd (cc (k.0)))
    by None true = (λ e. absurd cc, λ k. absurd (cc (k.1)))
    by None false = (λ e. (refl, refl), λ k. refl)

apart_behind : (done : List PredOf) (p : PredOf) (ws : List WrittenPredicate)
    → Apart (done ++ p ∷ []) ws ↔ (Apart done ws × AllByRecursion (λ y. bytes_eq p.name y ≡ false) (names_of ws))
apart_behind done p [] = (λ a. (tt, tt), λ k. tt)
apart_behind done p (w ∷ ws) = grind (arith, absent_behind, apart_behind done p ws)

apart_from_none : (ws : List WrittenPredicate) → Apart [] ws
apart_from_none [] = tt
apart_from_none (w ∷ ws) = (refl, apart_from_none ws)

-- what predicates behind others keep
abbrev KeptBehind : List PredOf → List WrittenPredicate → Type 0
KeptBehind done ws = Apart done ws × KeepsRules ws × (length done + length ws ≤ max_predicates)

module _ (done : List PredOf) (w : WrittenPredicate) (ws : List WrittenPredicate) where
  size : length (and_pred done w) ≡ length done + 1
  size = length-append done (pred_behind done w ∷ [])

  kept_first : PredKept done w → KeptBehind (and_pred done w) ws → KeptBehind done (w ∷ ws)
  kept_first one (apart, rules, few) =
      let split = (apart_behind done (pred_behind done w) ws).0 apart in
      let all : length done + length (w ∷ ws) ≤ max_predicates = omega (arith, size) in
      let keeps : KeepsRules (w ∷ ws) =
      record {
        distinct = IsDistinct-cons bytes_eq w.name.text (names_of ws) split.1 rules.distinct;
        few = omega arith;
        short = (omega (arith, one.1.0), rules.short);
        known = (one.1.1, rules.known);
      } in
      ((one.0.0, split.0), keeps, all)

  first_kept : KeptBehind done (w ∷ ws) → PredKept done w × KeptBehind (and_pred done w) ws
  first_kept (apart, rules, few) =
      let differ = IsDistinct-head bytes_eq w.name.text (names_of ws) rules.distinct in
      let rest : KeepsRules ws =
      record {
        distinct = IsDistinct-tail bytes_eq w.name.text (names_of ws) rules.distinct;
        few = omega (arith, rules.few);
        short = rules.short.1;
        known = rules.known.1;
      } in (
        ((apart.0, omega arith), (omega (arith, rules.short.0), rules.known.0)),
        ((apart_behind done (pred_behind done w) ws).1 (apart.1, differ), rest, omega (arith, size)),
      )

  numbered_on : and_pred done w ++ numbered (length (and_pred done w)) ws ≡ done ++ numbered (length done) (w ∷ ws)
  numbered_on = grind (arith, size, append_assoc)

preds_judged : (done : List PredOf) (ws : List WrittenPredicate) → length done ≤ max_predicates
    → Judged (KeptBehind done ws) (judge done ws) (done ++ numbered (length done) ws)
unfolding IsDistinct
preds_judged done [] room = grind (arith, append-nil)
preds_judged done (w ∷ ws) room =
    rw (← numbered_on done w ws)
    (layer.then_judged IsRule (PredKept done w) (judge_one done w) (and_pred done w) (KeptBehind (and_pred done w) ws)
    (KeptBehind done (w ∷ ws)) _ _ (kept_first done w ws) (first_kept done w ws) (pred_judged done w)
    (λ one. preds_judged (and_pred done w) ws (omega (arith, size done w ws, one.0.1))))

-- predicates pass exactly where they keep the rules, and are numbered in order
pub judged : (ws : List WrittenPredicate) → Judged (KeepsRules ws) (judge [] ws) (numbered 0 ws)
judged ws = grind (arith, apart_from_none ws, preds_judged)
