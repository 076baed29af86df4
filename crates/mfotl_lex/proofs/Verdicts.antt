-- Verdicts on tokens that a grammar spells: the rules beside it are kept, or one is broken and its fault is shown.
use Rattle.std.proofs.Common.{◌≡◌, Result, Ok, Err, refl, ap, subst, ◌∙◌, ◌⊎◌, inl, inr, arith}
use Rattle.mfotl_lex.specs.FirstFault.{◌>>=◌}

module _ {E : Type 0} (IsRule : E → Type 0) where
  pub record Broken {A : Type 0} (rules : Type 0) (r : Result A E) : Type 0 where
    pub broken : rules → ⊥
    pub fault : E
    pub is_rule : IsRule fault
    pub shown : r ≡ Err fault

  -- the rules are kept, and the value is this; or one is broken, and its fault is shown
  abbrev pub Judged : {A : Type 0} → Type 0 → Result A E → A → Type 0
  Judged rules r x = (rules × (r ≡ Ok x)) ⊎ Broken rules r

  pub breaks : {A : Type 0} (rules : Type 0) (fault : E) → IsRule fault → (rules → ⊥) → Broken {A = A} rules (Err fault)
  breaks rules fault is_rule broken = record { broken = broken; fault = fault; is_rule = is_rule; shown = refl }

  still_broken : {A B : Type 0} {rules others : Type 0} {r : Result A E} {r' : Result B E} → (b : Broken rules r)
      → (others → rules) → r' ≡ Err b.fault → Broken others r'
  still_broken b from shown = grind arith

  module _ {A : Type 0} (rules : Type 0) (r : Result A E) (x : A) where
    pub judged_ok : (y : A) → Judged rules r x → r ≡ Ok y → rules × (y ≡ x)
    judged_ok y (inl kept) e = (kept.0, cc (e, kept.1))
    judged_ok y (inr b) e = absurd (cc (e, b.shown))

    pub kept_ok : Judged rules r x → rules → r ≡ Ok x
    kept_ok (inl kept) rules = kept.1
    kept_ok (inr b) rules = absurd (b.broken rules)

    pub judged_rule : (fault : E) → Judged rules r x → r ≡ Err fault → IsRule fault
    judged_rule fault (inl kept) e = absurd (cc (e, kept.1))
    judged_rule fault (inr b) e = let same : b.fault ≡ fault = cc (e, b.shown) in subst IsRule same b.is_rule

    -- a verdict, and then one more
    pub then_judged : {B : Type 0} (more all : Type 0) (f : A → Result B E) (y : B) → (rules → more → all)
        → (all → rules × more) → Judged rules r x → (rules → Judged more (f x) y) → Judged all (r >>= f) y
    then_judged more all f y to from (inr b) later = inr (still_broken b (λ k. (from k).0) (rw b.shown))
    then_judged more all f y to from (inl kept) later = grind (arith, still_broken)

    -- the same verdict in other words
    pub judged_as : (others : Type 0) (y : A) → (rules → others) → (others → rules) → x ≡ y → Judged rules r x
        → Judged others r y
    judged_as others y to from same (inl kept) = inl (to kept.0, kept.1 ∙ ap (λ x. Ok x) same)
    judged_as others y to from same (inr b) = inr (still_broken b from b.shown)
