-- The rules beside the grammar, and the value of a text that keeps them.
use Rattle.std.specs.Prelude.{◌≡◌, ℕ, suc, ◌≤◌, List, [], ◌∷◌, length, map, Option, Some, None, IsSome, codes}
use Rattle.std.specs.Prelude.{if◌then◌else◌}
use Rattle.std.specs.List.{AllByRecursion, IsDistinct, filter_map}
use Rattle.std.specs.Str.{bytes_eq}
use Rattle.mfotl_lex.specs.declared.fault.LexFault.{LexFault}
use Rattle.mfotl_lex.specs.declared.kind.Mode.TheVariants.{Plain}
use Rattle.mfotl_lex.specs.FirstFault as layer
use Rattle.mfotl_lex.specs.FirstFault.{End}
use Rattle.mfotl_lex.specs.Lexemes.{Lexeme}
use Rattle.mfotl_lex.specs.Texts as texts
use Rattle.mfotl_model.specs.declared.policy.Sort.{Sort}
use Rattle.mfotl_model.specs.declared.policy.Sort.TheVariants.{Int, Text}
use Rattle.mfotl_sig.specs.Grammar.{Argument, Only, Labelled, Listed, WrittenPredicate, Spells}
use Rattle.mfotl_sig.specs.Limits.{max_predicates, max_arguments}
use Rattle.mfotl_sig.specs.Preds.{PredOf}

-- the sort that a Word names
abbrev pub sort_of : List ℕ → Option Sort
sort_of word =
    if bytes_eq word (codes "int") then Some Int
    else if bytes_eq word (codes "string") then Some Text
    else None

-- the Word of an argument's sort
abbrev pub sort_word : Argument → Lexeme
sort_word (Only word) = word
sort_word (Labelled label colon word) = word

-- the Words of the sorts of all arguments
abbrev pub words_of : List Listed → Option Argument → List (List ℕ)
words_of [] None = []
words_of [] (Some argument) = (sort_word argument).text ∷ []
words_of (l ∷ listed) last = (sort_word l.argument).text ∷ words_of listed last

-- and of a predicate
abbrev pub sort_words : WrittenPredicate → List (List ℕ)
sort_words p = words_of p.listed p.last

-- the names of predicates
abbrev pub names_of : List WrittenPredicate → List (List ℕ)
names_of preds = map (λ p. p.name.text) preds

-- each of the Words names a sort
abbrev pub AllKnown : List (List ℕ) → Type 0
AllKnown words = AllByRecursion (λ word. IsSome (sort_of word)) words

-- the rules that the grammar doesn't say
pub record KeepsRules (preds : List WrittenPredicate) : Type 0 where
  -- no name stands twice
  pub distinct : IsDistinct bytes_eq (names_of preds)
  pub few : length preds ≤ max_predicates
  pub short : AllByRecursion (λ p. length (sort_words p) ≤ max_arguments) preds
  pub known : AllByRecursion (λ p. AllKnown (sort_words p)) preds

-- the predicates, numbered from n on
abbrev pub numbered : ℕ → List WrittenPredicate → List PredOf
numbered n [] = []
numbered n (p ∷ preds) =
    record { number = n; name = p.name.text; sorts = filter_map sort_of (sort_words p) } ∷ numbered (suc n) preds

-- the tokens of a signature's bytes, which are all there are
abbrev pub text_of : List ℕ → layer.Text Lexeme LexFault
text_of bytes = texts.text_of Plain bytes

-- the text is whole tokens that spell these predicates, and they keep the rules
pub record IsValue (bytes : List ℕ) (preds : List PredOf) : Type 0 where
  pub written : List WrittenPredicate
  pub whole : (text_of bytes).tail ≡ End (length bytes)
  pub spelled : Spells (text_of bytes).list written
  pub rules : KeepsRules written
  pub value : preds ≡ numbered 0 written
