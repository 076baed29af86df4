-- The reader's symbol table tells a clash of sorts where the places in the text do.
use Rattle.std.proofs.Common.{◌≡◌, ℕ, ◌+◌, Bool, false, List, [], ◌∷◌, Option, Some, None, refl, arith}
use Rattle.std.specs.{List.list_any, Option.option_map, Prelude.◌&&◌, Prelude.find}
use Rattle.mfotl_model.specs.declared.policy.Sort.{Sort}
use Rattle.mfotl_sig.specs.Preds.{PredOf}
use Rattle.mfotl_parse.specs.declared.term.Pair.{Pair}
use Rattle.mfotl_parse.specs.{Grammar.Tree, GrammarLaws.ClashesAgree, Meanings.all_names, States.SymbolTable}
use Rattle.mfotl_parse.specs.Mentions.{Binding, SortMention, Occurs, Stands, Compares, quantified_count, mentions}
use Rattle.mfotl_parse.specs.Mentions.{ask_other, place_of_mention, sorts_apart, is_of, is_uneven, sort_clash}
use Rattle.mfotl_parse.specs.SymbolTable.{sort_of, differ, uneven_pair}
use Rattle.mfotl_parse.proofs.MentionSteps.{refers_sort, given_to, PairsOf, Follows}
use Rattle.mfotl_parse.proofs.MentionTrees.{all_follow}

module _ (all : List SortMention) (count : ℕ) (n : SymbolTable) (f : Follows all count n) (unclashed : n.clash ≡ None)
  where
    -- another sort is asked of the left than the right was given
    abbrev other_asked : Option Sort → Binding → List SortMention → Bool
    other_asked None left ms = false
    other_asked (Some q) left ms = ask_other left q ms

    -- whether an occurrence of the left differs from one of the right, by what the right was given
    apart_is : (left right : Binding) (ms : List SortMention)
        → list_any (λ one. is_of left one && sorts_apart all right one) ms ≡ other_asked (given_to right n) left ms
    apart_is left right [] = grind arith
    apart_is left right (Occurs b at s ∷ ms) = grind (arith, f.sorts unclashed right s, apart_is left right ms)
    apart_is left right (Stands given at s ∷ ms) = grind (arith, apart_is left right ms)
    apart_is left right (Compares l r at ∷ ms) = grind (arith, apart_is left right ms)

    uneven_is : (left right : Binding) (at : ℕ) → is_uneven all (Compares left right at)
        ≡ differ (given_to left n) (given_to right n)
    uneven_is left right at = grind (arith, apart_is left right all, f.sorts unclashed left)

    -- the first in the table is the first in the text
    first_pair : (ms : List SortMention) (ps : List Pair) → PairsOf n.free ms ps
        → option_map (λ (pair : Pair). pair.at) (find (λ pair. differ (sort_of pair.left n) (sort_of pair.right n)) ps)
        ≡ option_map place_of_mention (find (is_uneven all) ms)
    first_pair [] [] h = refl
    first_pair [] (p ∷ ps) h = absurd cc
    first_pair (Occurs b at s ∷ ms) ps h = first_pair ms ps h
    first_pair (Stands given at s ∷ ms) ps h = first_pair ms ps h
    first_pair (Compares left right at ∷ ms) [] h = absurd h
    first_pair (Compares left right at ∷ ms) (p ∷ ps) h =
        grind (
          arith,
          first_pair ms ps h.1,
          h.0.at_is,
          refers_sort left p.left n h.0.left_is,
          refers_sort right p.right n h.0.right_is,
          uneven_is left right at,
        )

-- ---- the law

pub clashes_agree : ClashesAgree
clashes_agree sig tree =
    grind (
      arith,
      (all_follow sig tree).clash,
      (all_follow sig tree).pairs,
      first_pair (mentions sig tree) (0 + quantified_count tree) (all_names sig tree) (all_follow sig tree),
    )

-- what no clash in the text says of the table
pub table_even : (sig : List PredOf) (tree : Tree) → sort_clash sig tree ≡ None
    → ((all_names sig tree).clash ≡ None) × (uneven_pair (all_names sig tree) ≡ None)
table_even sig tree e = grind (arith, clashes_agree sig tree)

-- and the reverse
pub text_even : (sig : List PredOf) (tree : Tree) → (all_names sig tree).clash ≡ None
    → uneven_pair (all_names sig tree) ≡ None → sort_clash sig tree ≡ None
text_even sig tree c u = cc (clashes_agree sig tree)
