-- The columns of a policy that was read are the free variables of its formula, and its occurrences have their sorts.
use Rattle.std.proofs.Common.{◌≡◌, ℕ, suc, ◌+◌, ◌<◌, ◌≤◌, List, [], ◌∷◌, length, map, Option, Some, None, Result}
use Rattle.std.proofs.Common.{Ok, Err, refl, sym, ap, subst, ◌∙◌, arith}
use Rattle.std.proofs.lemmas.Bool.{lt-ltb}
use Rattle.std.specs.{Prelude.slice_get, Prelude.IfOk, List.range_with_len}
use Rattle.mfotl_model.specs.declared.{policy.Policy.Policy, policy.Sort.Sort}
use Rattle.mfotl_model.specs.{Formulas.form, FreeVariables.fv}
use Rattle.mfotl_model.proofs.VariableLemmas.{joined_none}
use Rattle.mfotl_sig.specs.Preds.{PredOf}
use Rattle.mfotl_parse.specs.declared.fault.PolicyFault.{PolicyFault}
use Rattle.mfotl_parse.specs.{Grammar.Tree, Reading.PolicyOf, Reading.reading, States.SymbolTable, States.no_names}
use Rattle.mfotl_parse.specs.{Views.policy_of as policy_seen, Views.Gives, WellSorted.sort_or_integer}
use Rattle.mfotl_parse.specs.{WellSorted.IsWellSorted, Limits.max_free}
use Rattle.mfotl_parse.specs.Meanings.{no_scope, all_names, value, KeepsRules, IsValue}
use Rattle.mfotl_parse.specs.SymbolTable.{given_at, uneven_pair, vars_of}
use Rattle.mfotl_parse.proofs.{BoundVariables.only_free, FreeNames.few_met, LimitLemmas.length_vars_of}
use Rattle.mfotl_parse.proofs.{MentionClashes.table_even, NamesOrder.grows_not, NamesOrder.tree_grows}
use Rattle.mfotl_parse.proofs.{PolicyLaws.read_is_spelled, SortedTrees.given_by, SortedTrees.tree_sorted}
use Rattle.mfotl_parse.proofs.{VariableOrder.tree_order}

-- the sorts of the columns from a number on
columns_from : (given : ℕ → Option Sort) (from : ℕ) (free : List (List ℕ × ℕ)) (sorts : List (Option Sort))
    → length sorts ≡ length free → ((k : ℕ) → k < length free → given (from + k) ≡ given_at (slice_get sorts k))
    → map (λ v. v.sort) (vars_of free sorts) ≡ map (λ x. sort_or_integer (given x)) (range_with_len from (length free))
unfolding vars_of
columns_from given from [] sorts sized each = refl
columns_from given from (known ∷ free) [] sized each = absurd (omega (arith, sized))
columns_from given from (known ∷ free) (sort ∷ sorts) sized each =
    grind (
      arith,
      each 0 (omega arith),
      columns_from given (from + 1) free sorts (omega (arith, sized))
          (λ k below. ap given (next k) ∙ each (suc k) (omega (arith, below))),
    )
  where
    next : (k : ℕ) → from + 1 + k ≡ from + suc k
    next k = omega arith

module _ (sig : List PredOf) (tree : Tree) (rules : KeepsRules sig tree) where
  abbrev last : SymbolTable
  last = all_names sig tree

  even : (last.clash ≡ None) × (uneven_pair last ≡ None)
  even = table_even sig tree rules.even

  few : length last.free ≤ max_free
  few = few_met sig tree rules.few_free

  free_is : fv (value sig tree no_scope no_names) ≡ range_with_len 0 (length (vars_of last.free last.free_sorts))
  free_is =
      sym (only_free sig tree no_names few)
      ∙ sym (joined_none _)
      ∙ tree_order sig tree no_scope no_names few
      ∙ ap (range_with_len 0) (sym (length_vars_of last.free last.free_sorts))

  columns_are : map (λ v. v.sort) (vars_of last.free last.free_sorts)
      ≡ map (λ x. sort_or_integer (given_by last x)) (range_with_len 0 (length (vars_of last.free last.free_sorts)))
  columns_are =
      columns_from (given_by last) 0 last.free last.free_sorts ((tree_grows sig tree no_scope no_names).sized refl)
      (λ k below. low k (omega (arith, below, few)))
      ∙ ap (λ (n : ℕ). map (λ x. sort_or_integer (given_by last x)) (range_with_len 0 n))
      (sym (length_vars_of last.free last.free_sorts))
    where
      low : (k : ℕ) → k < max_free → given_by last (0 + k) ≡ given_at (slice_get last.free_sorts k)
      low k below = grind (arith, lt-ltb k max_free below)

  none_open : (name : List ℕ) (k : ℕ) → no_scope name ≡ Some k → k < length (no_names).bound_sorts
  none_open name k e = absurd cc

  pub well_sorted : IsWellSorted sig (vars_of last.free last.free_sorts) (value sig tree no_scope no_names)
  well_sorted = record {
    free = free_is;
    given = given_by last;
    fits = tree_sorted sig last even.0 even.1 few tree no_scope no_names none_open refl
        rules.parts (grows_not last);
    columns = columns_are;
  }

value_sorted : (bytes : List ℕ) (sig : List PredOf) (policy : PolicyOf) → IsValue bytes sig policy
    → IsWellSorted sig policy.vars policy.formula
value_sorted bytes sig policy v =
    subst (λ (p : PolicyOf). IsWellSorted sig p.vars p.formula) (sym v.value) (well_sorted sig v.tree v.rules)

-- a policy that was read
pub sorted_given : (bytes : List ℕ) (sig : List PredOf) (result : Result Policy PolicyFault)
    → Gives policy_seen result (reading bytes sig)
    → IfOk result (λ policy. IsWellSorted sig policy.vars (form policy.formula))
sorted_given bytes sig (Ok policy) given =
    value_sorted bytes sig (policy_seen policy) (read_is_spelled sig bytes (policy_seen policy) given)
sorted_given bytes sig (Err fault) given = tt
