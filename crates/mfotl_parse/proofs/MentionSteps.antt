-- Each step of the reader's symbol table gives to sorts what a mention in the text asks.
use Rattle.std.proofs.Common.{◌≡◌, ℕ, suc, Bool, true, false, cond, not, List, [], ◌∷◌, ◌++◌, length, Option, Some}
use Rattle.std.proofs.Common.{None, refl, sym, ap, ◌∙◌, arith}
use Rattle.std.proofs.{lemmas.Bool.eq-eqb, lemmas.Bool.eqb-true, lemmas.List.Folds.list_any-append}
use Rattle.std.proofs.lemmas.List.{append-nil, append_assoc, length-append, length-set}
use Rattle.std.specs.{Prelude.◌||◌, Prelude.slice_get, Str.bytes_eq}
use Rattle.mfotl_model.specs.declared.policy.Sort.{Sort}
use Rattle.mfotl_parse.specs.declared.{term.Pair.Pair, term.Variable.Variable}
use Rattle.mfotl_parse.specs.declared.term.Variable.TheVariants as variables
use Rattle.mfotl_parse.specs.Mentions.{Binding, Unbound, BoundAs, same_binding, SortMention, Occurs, Stands, Compares}
use Rattle.mfotl_parse.specs.Mentions.{asks_other, ask_other, clashes, place_of_mention, first_clash, or_else}
use Rattle.mfotl_parse.specs.{States.SymbolTable, WellSorted.same_sort}
use Rattle.mfotl_parse.specs.SymbolTable.{free_place, bound_or_free, with_free, occurring, bound_more, given_at}
use Rattle.mfotl_parse.specs.SymbolTable.{sort_of, with_sort, agreed, occurred, require_sort, differ}
use Rattle.mfotl_parse.proofs.NamesOrder.{HasPlace, never_first, same_sorts}
use Rattle.mfotl_parse.proofs.PlaceLemmas.{place_of_name, stays_found, found_last, same_names, name_is, one_name}
use Rattle.mfotl_parse.proofs.PlaceLemmas.{none_more, none_past, sort_more, sort_set}

-- the sort at a place
abbrev place_sort : Option ℕ → List (Option Sort) → Option Sort
place_sort None given = None
place_sort (Some k) given = given_at (slice_get given k)

-- the sort that the table gives to a variable
abbrev pub given_to : Binding → SymbolTable → Option Sort
given_to (Unbound name) n = place_sort (place_of_name name n.free) n.free_sorts
given_to (BoundAs k) n = given_at (slice_get n.bound_sorts k)

-- the table's variable is this one
abbrev pub Refers : Binding → Variable → List (List ℕ × ℕ) → Type 0
Refers (Unbound name) (variables.Free k) free = place_of_name name free ≡ Some k
Refers (Unbound name) (variables.Bound k) free = ⊥
Refers (BoundAs j) (variables.Free k) free = ⊥
Refers (BoundAs j) (variables.Bound k) free = j ≡ k

pub refers_sort : (b : Binding) (v : Variable) (n : SymbolTable) → Refers b v n.free → given_to b n ≡ sort_of v n
refers_sort b v n r = grind arith

same_is : (b c : Binding) → same_binding b c ≡ true → b ≡ c
same_is (Unbound a) (Unbound d) e = ap Unbound (same_names a d e)
same_is (Unbound a) (BoundAs k) e = absurd cc
same_is (BoundAs j) (Unbound d) e = absurd cc
same_is (BoundAs j) (BoundAs k) e = ap BoundAs (eqb-true j k e)

-- ---- a variable that was given a sort

set_free : (a d : List ℕ) (k : ℕ) (s : Sort) (n : SymbolTable) → place_of_name d n.free ≡ Some k
    → HasPlace (variables.Free k) n → given_to (Unbound a) (with_sort (variables.Free k) s n)
    ≡ cond (bytes_eq a d) (Some s) (given_to (Unbound a) n)
set_free a d k s n r within =
    grind (arith, same_names a d, name_is d, one_name a d n.free k, sort_set n.free_sorts k s, eqb-true, eq-eqb)

set_given : (c b : Binding) (v : Variable) (s : Sort) (n : SymbolTable) → Refers b v n.free → HasPlace v n
    → given_to c (with_sort v s n) ≡ cond (same_binding c b) (Some s) (given_to c n)
set_given c b v s n r within = grind (arith, set_free, sort_set)

-- nothing else changes
record OnlySorts (n m : SymbolTable) : Type 0 where
  bound : length m.bound_sorts ≡ length n.bound_sorts
  sized : length m.free_sorts ≡ length n.free_sorts
  free : m.free ≡ n.free
  clash : m.clash ≡ n.clash
  pairs : m.pairs ≡ n.pairs

only_sorts : (v : Variable) (s : Sort) (n : SymbolTable) → OnlySorts n (with_sort v s n)
only_sorts v s n = grind (arith, length-set)

-- ---- compared variables

-- the table's pair is this one
pub record IsPair (free : List (List ℕ × ℕ)) (left right : Binding) (at : ℕ) (pair : Pair) : Type 0 where
  pub at_is : pair.at ≡ at
  pub left_is : Refers left pair.left free
  pub right_is : Refers right pair.right free

-- the first is such a pair, and so are the others
abbrev pub BeginsWith : (Pair → Type 0) → (List Pair → Type 0) → List Pair → Type 0
BeginsWith First Rest [] = ⊥
BeginsWith First Rest (pair ∷ ps) = First pair × Rest ps

-- the table's pairs are those of the mentions
abbrev pub PairsOf : List (List ℕ × ℕ) → List SortMention → List Pair → Type 0
PairsOf free [] ps = ps ≡ []
PairsOf free (Occurs b at s ∷ ms) ps = PairsOf free ms ps
PairsOf free (Stands given at s ∷ ms) ps = PairsOf free ms ps
PairsOf free (Compares left right at ∷ ms) ps =
    BeginsWith (λ pair. IsPair free left right at pair) (λ rest. PairsOf free ms rest) ps

pairs_append : (free : List (List ℕ × ℕ)) (ms more : List SortMention) (ps qs : List Pair) → PairsOf free ms ps
    → PairsOf free more qs → PairsOf free (ms ++ more) (ps ++ qs)
pairs_append free [] more [] qs h k = k
pairs_append free [] more (p ∷ ps) qs h k = absurd cc
pairs_append free (Occurs b at s ∷ ms) more ps qs h k = pairs_append free ms more ps qs h k
pairs_append free (Stands given at s ∷ ms) more ps qs h k = pairs_append free ms more ps qs h k
pairs_append free (Compares left right at ∷ ms) more [] qs h k = absurd h
pairs_append free (Compares left right at ∷ ms) more (p ∷ ps) qs h k = (h.0, pairs_append free ms more ps qs h.1 k)

pairs_stay : (free later : List (List ℕ × ℕ)) → ((b : Binding) (v : Variable) → Refers b v free → Refers b v later)
    → (ms : List SortMention) (ps : List Pair) → PairsOf free ms ps → PairsOf later ms ps
pairs_stay free later stay [] ps h = h
pairs_stay free later stay (Occurs b at s ∷ ms) ps h = pairs_stay free later stay ms ps h
pairs_stay free later stay (Stands given at s ∷ ms) ps h = pairs_stay free later stay ms ps h
pairs_stay free later stay (Compares left right at ∷ ms) [] h = absurd h
pairs_stay free later stay (Compares left right at ∷ ms) (p ∷ ps) h = search (pairs_stay free later stay ms ps h.1)

-- ---- the first clash

clash_more : (front ms : List SortMention) (m : SortMention) → first_clash front (ms ++ m ∷ [])
    ≡ or_else (first_clash front ms) (cond (clashes (front ++ ms) m) (Some (place_of_mention m)) None)
clash_more front [] m = cc (append-nil front)
clash_more front (x ∷ ms) m = grind (arith, append_assoc, clash_more (front ++ x ∷ []) ms m)

-- ---- what the table says behind mentions, where so many variables were quantified

pub record Follows (before : List SortMention) (count : ℕ) (n : SymbolTable) : Type 0 where
  pub counted : length n.bound_sorts ≡ count
  pub sized : length n.free_sorts ≡ length n.free
  pub clash : n.clash ≡ first_clash [] before
  pub sorts : n.clash ≡ None → (b : Binding) (s : Sort) → ask_other b s before ≡ differ (given_to b n) (Some s)
  pub pairs : PairsOf n.free before n.pairs

nothing_more : (b : Bool) → (b || (false || false)) ≡ b
nothing_more b = grind arith

module _ (before : List SortMention) (count : ℕ) (n : SymbolTable) (f : Follows before count n) where
  clash_is : (m : SortMention) (x : Bool) → (n.clash ≡ None → clashes before m ≡ x)
      → or_else n.clash (cond x (Some (place_of_mention m)) None) ≡ first_clash [] (before ++ m ∷ [])
  clash_is m x test = grind (arith, clash_more)

  same_clash : (o : Option ℕ) → o ≡ or_else o None
  same_clash o = grind arith

  pairs_same : (m : SortMention) → PairsOf n.free (m ∷ []) [] → PairsOf n.free (before ++ m ∷ []) n.pairs
  pairs_same m none = grind (arith, append-nil n.pairs, pairs_append n.free before (m ∷ []) n.pairs)

  -- it asks this sort of what has that one
  matched : (l s : Sort) (m : SortMention) → PairsOf n.free (m ∷ []) []
      → (n.clash ≡ None → clashes before m ≡ not (same_sort l s))
      → (same_sort l s ≡ true → n.clash ≡ None → (c : Binding) (t : Sort)
      → (differ (given_to c n) (Some t) || (asks_other c t m || false)) ≡ differ (given_to c n) (Some t))
      → Follows (before ++ m ∷ []) count (agreed l (place_of_mention m) s n)
  matched l s m none test same =
      grind (
        arith,
        same_clash n.clash,
        clash_is m (not (same_sort l s)) test,
        list_any-append,
        never_first,
        pairs_same m none,
      )

  pub stands : (given : Sort) (at : ℕ) (sort : Sort)
      → Follows (before ++ Stands given at sort ∷ []) count (agreed given at sort n)
  stands given at sort =
      matched given sort (Stands given at sort) refl (λ none. refl)
      (λ e none c t. nothing_more (differ (given_to c n) (Some t)))

  -- a variable that had no sort
  first_sort : (b : Binding) (at : ℕ) (s : Sort) (later : ℕ) (m : SymbolTable) → given_to b n ≡ None
      → ((c : Binding) → given_to c m ≡ cond (same_binding c b) (Some s) (given_to c n))
      → length m.bound_sorts ≡ later → length m.free_sorts ≡ length n.free_sorts → m.free ≡ n.free
      → m.clash ≡ n.clash → m.pairs ≡ n.pairs → Follows (before ++ Occurs b at s ∷ []) later m
  first_sort b at s later m none given counted sized free clash pairs = record {
    counted = counted;
    sized = sized ∙ f.sized ∙ ap length (sym free);
    clash = clash ∙ same_clash n.clash ∙ clash_is (Occurs b at s) false (λ e. grind (arith, f.sorts e b s, none));
    sorts = λ e c t. grind (arith, list_any-append, f.sorts (sym clash ∙ e) c t, same_is c b, given c, none);
    pairs = grind (arith, pairs, free, pairs_same (Occurs b at s) refl);
  }

  pub occurs : (b : Binding) (v : Variable) (at : ℕ) (s : Sort) → Refers b v n.free → HasPlace v n
      → Follows (before ++ Occurs b at s ∷ []) count (require_sort v at s n)
  occurs b v at s r within = by_given (sort_of v n) (refers_sort b v n r)
    where
      by_given : (given : Option Sort) → given_to b n ≡ given
          → Follows (before ++ Occurs b at s ∷ []) count (occurred given v at s n)
      by_given None is =
          let o = only_sorts v s n in
          first_sort b at s count (with_sort v s n) is (λ c. set_given c b v s n r within) (o.bound ∙ f.counted)
          o.sized o.free o.clash o.pairs
      by_given (Some l) is =
          matched l s (Occurs b at s) refl (λ none. f.sorts none b s ∙ ap (λ (o : Option Sort). differ o (Some s)) is)
          (λ e none c t. grind (arith, same_is c b, same_sorts l s e))

  -- a `_`
  pub blank : (at : ℕ) (s : Sort)
      → Follows (before ++ Occurs (BoundAs count) at s ∷ []) (suc count) (bound_more (Some s) n)
  blank at s =
      first_sort (BoundAs count) at s (suc count) (bound_more (Some s) n)
      (none_past n.bound_sorts count (omega (arith, f.counted))) (λ c. grind (arith, sort_more, f.counted))
      (omega (arith, f.counted, length-append n.bound_sorts (Some s ∷ []))) refl refl refl refl

  pub compares : (left right : Binding) (v w : Variable) (at : ℕ) → Refers left v n.free → Refers right w n.free
      → Follows (before ++ Compares left right at ∷ []) count
      (record n { pairs = n.pairs ++ record { at = at; left = v; right = w } ∷ [] })
  compares left right v w at r q =
      let pair : Pair = record { at = at; left = v; right = w } in
      let is : IsPair n.free left right at pair = record { at_is = refl; left_is = r; right_is = q } in
      record {
        counted = f.counted;
        sized = f.sized;
        clash = same_clash n.clash ∙ clash_is (Compares left right at) false (λ e. refl);
        sorts = λ e c t. grind (arith, list_any-append, f.sorts e c t);
        pairs = pairs_append n.free before (Compares left right at ∷ []) n.pairs (pair ∷ []) f.pairs (is, refl);
      }

  -- a quantified variable
  pub bound : Follows before (suc count) (bound_more None n)
  bound = record {
    counted = omega (arith, f.counted, length-append n.bound_sorts (None ∷ []));
    sized = f.sized;
    clash = f.clash;
    sorts = λ e b s. grind (arith, f.sorts e b s, none_more);
    pairs = f.pairs;
  }

-- ---- names

-- what binds a name, by the variable that a quantifier gave it
abbrev pub from_scope : Option ℕ → List ℕ → Binding
from_scope (Some k) name = BoundAs k
from_scope None name = Unbound name

refers_more : (b : Binding) (v : Variable) (free : List (List ℕ × ℕ)) (one : List ℕ × ℕ) → Refers b v free
    → Refers b v (free ++ one ∷ [])
refers_more b v free one r = grind (arith, stays_found)

pub met_refers : (bound : Option ℕ) (name : List ℕ) (at : ℕ) (n : SymbolTable) (b : Binding) (v : Variable)
    → Refers b v n.free → Refers b v (occurring bound name at n).free
met_refers bound name at n b v r = grind (arith, refers_more)

-- the name's variable is the one that binds it
pub name_refers : (bound : Option ℕ) (name : List ℕ) (at : ℕ) (n : SymbolTable)
    → Refers (from_scope bound name) (bound_or_free bound name n) (occurring bound name at n).free
name_refers bound name at n = grind (arith, found_last, name_is)

pub met_follows : (before : List SortMention) (count : ℕ) (n : SymbolTable) (bound : Option ℕ) (name : List ℕ) (at : ℕ)
    → Follows before count n → Follows before count (occurring bound name at n)
met_follows before count n (Some k) name at f = f
met_follows before count n None name at f = by_place (free_place name n) refl
  where
    given : (c : Binding) → free_place name n ≡ None → given_to c (with_free None name at n) ≡ given_to c n
    given c e = grind (arith, found_last, stays_found, none_more, none_past, f.sized)

    by_place : (place : Option ℕ) → free_place name n ≡ place → Follows before count (with_free place name at n)
    by_place (Some k) e = f
    by_place None e = record {
      counted = f.counted;
      sized = omega (arith, f.sized, length-append n.free ((name, at) ∷ []), length-append n.free_sorts (None ∷ []));
      clash = f.clash;
      sorts = λ none b s. f.sorts none b s ∙ ap (λ (o : Option Sort). differ o (Some s)) (sym (given b e));
      pairs = pairs_stay n.free (n.free ++ (name, at) ∷ []) (λ b v r. refers_more b v n.free (name, at) r) before
          n.pairs f.pairs;
    }
