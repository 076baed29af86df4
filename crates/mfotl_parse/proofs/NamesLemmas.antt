-- The map of free variables and the list that clauses see.
use Rattle.std.proofs.Common.{◌≡◌, ℕ, zero, suc, ◌+◌, ◌≤◌, Bool, cond, ltb, List, [], ◌∷◌, ◌++◌, length, map, drop}
use Rattle.std.proofs.Common.{Option, Some, refl, sym, ap, ◌∙◌, arith}
use Rattle.std.specs.{List.position, List.prefix_len, Prelude.slice_get, Str.bytes_eq, Global.Vec}
use Rattle.std.proofs.lemmas.List.{length-map, map-append, drop_all}
use Rattle.mfotl_model.specs.declared.{policy.Sort.Sort, policy.Var.Var}
use Rattle.mfotl_parse.specs.{SymbolTable.var_of, SymbolTable.vars_of, Views.known_of}

prefix_len_map : {A B : Type 0} (p : B → Bool) (f : A → B) (xs : List A) → prefix_len p (map f xs)
    ≡ prefix_len (λ x. p (f x)) xs
prefix_len_map p f [] = refl
prefix_len_map p f (x ∷ xs) = ap (λ (n : ℕ). cond (p (f x)) (1 + n) 0) (prefix_len_map p f xs)

-- the place of a key is that of its name
pub place_of_key : (name : List ℕ) (entries : List (Vec ℕ × ℕ))
    → position (λ (k : Vec ℕ). bytes_eq name k.items) (map (λ e. e.0) entries)
    ≡ position (λ (known : List ℕ × ℕ). bytes_eq name known.0) (map known_of entries)
place_of_key name entries = simp (ltb, prefix_len_map, length-map)

-- one more free variable of those in the map
pub known_more : (entries : List (Vec ℕ × ℕ)) (key : Vec ℕ) (name : List ℕ) (at : ℕ) → key.items ≡ name
    → map known_of (entries ++ (key, at) ∷ []) ≡ map known_of entries ++ (name, at) ∷ []
known_more entries key name at same = cc (map-append known_of entries ((key, at) ∷ []))

-- the variable at a place comes next
pub vars_of_more : (free : List (List ℕ × ℕ)) (given : List (Option Sort)) (i : ℕ) (var : Var)
    → var_of (slice_get free i) (slice_get given i) ≡ Some var
    → vars_of (drop i free) (drop i given) ≡ var ∷ vars_of (drop (suc i) free) (drop (suc i) given)
unfolding vars_of
vars_of_more [] given i var e = absurd cc
vars_of_more (k ∷ free) [] zero var e = cc
vars_of_more (k ∷ free) (s ∷ given) zero var e = cc
vars_of_more (k ∷ free) [] (suc i) var e =
    ap (vars_of (drop i free)) (sym (drop_all i [] (omega arith))) ∙ vars_of_more free [] i var e
vars_of_more (k ∷ free) (s ∷ given) (suc i) var e = vars_of_more free given i var e

pub vars_of_all : (free : List (List ℕ × ℕ)) (given : List (Option Sort)) (i : ℕ) → length free ≤ i
    → vars_of (drop i free) given ≡ []
unfolding vars_of
vars_of_all free given i past = ap (λ (xs : List (List ℕ × ℕ)). vars_of xs given) (drop_all i free past)
