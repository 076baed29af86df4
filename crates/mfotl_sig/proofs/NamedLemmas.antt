-- What a look-up by name finds.
use Rattle.std.proofs.Common.{◌≡◌, ◌≢◌, ◌↔◌, ℕ, Bool, true, false, List, [], ◌∷◌, map, length, suc, Option, Some, None}
use Rattle.std.proofs.Common.{option_map, Bor, All, Contains, refl, ap, sym, ◌∙◌, ◌⊎◌, inl, inr, arith}
use Rattle.std.proofs.{lemmas.Cmp.nat_list_eq_equiv, lemmas.List.get_or-map, lemmas.List.length-map}
use Rattle.std.proofs.lemmas.List.Elements.{All-nil, All-cons, All-map, All-contains, Contains-get_or}
use Rattle.std.proofs.lemmas.List.Elements.{Contains-append_right}
use Rattle.std.specs.{Cmp.Lexicographic.same_text, Option.option_copied, Prelude.IsNone, Prelude.IfSome, Str.bytes_eq}
use Rattle.mfotl_sig.specs.declared.pred.Pred.{Pred}
use Rattle.mfotl_sig.specs.Preds.{PredOf, pred_of, named}
use Rattle.mfotl_sig.specs.{Grammar.WrittenPredicate, Rules.names_of, Rules.numbered}

-- the names of predicates
abbrev pub names : List PredOf → List (List ℕ)
names preds = map (λ p. p.name) preds

-- a predicate with the name is one of them
pub record Finds (name : List ℕ) (preds : List PredOf) : Type 0 where
  pub pred : PredOf
  pub found : named name preds ≡ Some pred
  pub same : pred.name ≡ name
  pub member : Contains preds pred

-- none has it
pub record Lacks (name : List ℕ) (preds : List PredOf) : Type 0 where
  pub none : named name preds ≡ None
  pub differ : All (λ p. p.name ≢ name) preds

with_first : (name : List ℕ) (p : PredOf) (ps : List PredOf) (b : Bool) → bytes_eq name p.name ≡ b
    → Finds name ps ⊎ Lacks name ps → Finds name (p ∷ ps) ⊎ Lacks name (p ∷ ps)
with_first name p ps true same rest =
    let is = sym (same_text name p.name (sym same)) in
    inl (record { pred = p; found = rw same; same = is; member = Contains-get_or (p ∷ ps) 0 p (omega arith) })
with_first name p ps false other (inl f) =
    let member = Contains-append_right (p ∷ []) ps f.pred f.member in
    inl (record { pred = f.pred; found = rw other f.found; same = f.same; member = member })
with_first name p ps false other (inr l) =
    let differs : p.name ≢ name =
    λ is. cc (sym (nat_list_eq_equiv.refl name) ∙ ap (bytes_eq name) (sym is) ∙ other) in
    inr (record { none = rw other l.none; differ = All-cons (λ q. q.name ≢ name) p ps differs l.differ })

pub look_up : (name : List ℕ) (preds : List PredOf) → Finds name preds ⊎ Lacks name preds
look_up name [] = inr (record { none = refl; differ = All-nil (λ q. q.name ≢ name) })
look_up name (p ∷ ps) = with_first name p ps (bytes_eq name p.name) refl (look_up name ps)

-- ---- written predicates, numbered

names_numbered : (ws : List WrittenPredicate) (n : ℕ) → names (numbered n ws) ≡ names_of ws
names_numbered [] n = refl
names_numbered (w ∷ ws) n = ap (λ ns. w.name.text ∷ ns) (names_numbered ws (suc n))

pub length-numbered : (ws : List WrittenPredicate) (n : ℕ) → length (numbered n ws) ≡ length ws
length-numbered [] n = refl
length-numbered (w ∷ ws) n = ap suc (length-numbered ws (suc n))

pub present : (name : List ℕ) (ws : List WrittenPredicate) → Finds name (numbered 0 ws) → Contains (names_of ws) name
present name ws f = grind (arith, get_or-map, length-map, names_numbered)

pub absent : (name : List ℕ) (ws : List WrittenPredicate) → Lacks name (numbered 0 ws) → Contains (names_of ws) name → ⊥
absent name ws l among =
    let preds = numbered 0 ws in
    All-contains (λ y. y ≢ name) (names preds) name (All-map (λ y. y ≢ name) (λ p. p.name) preds l.differ)
    (rw (names_numbered ws 0) among) refl

-- what a call lent is the predicate of the name
abbrev pub Lends : Option (Bor Pred) → List ℕ → List PredOf → Type 0
Lends lent name preds = option_map pred_of (option_copied lent) ≡ named name preds

pub record IsLent (lent : Option (Bor Pred)) (name : List ℕ) (preds : List PredOf) : Type 0 where
  pub none : IsNone lent ↔ All (λ p. p.name ≢ name) preds
  pub name_is : IfSome lent (λ p. p.now.name ≡ name)
  pub member : IfSome lent (λ p. Contains preds (pred_of p.now))

lent_by : (lent : Option (Bor Pred)) (name : List ℕ) (preds : List PredOf) → Lends lent name preds
    → Finds name preds ⊎ Lacks name preds → IsLent lent name preds
lent_by lent name preds e h = grind arith

pub is_lent : (lent : Option (Bor Pred)) (name : List ℕ) (preds : List PredOf) → Lends lent name preds
    → IsLent lent name preds
is_lent lent name preds e = lent_by lent name preds e (look_up name preds)
