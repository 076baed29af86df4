-- Tokens one by one: what is the same of the reader of strategies and the reader of scripts.
use Rattle.std.proofs.Common.{◌≡◌, List, [], ◌∷◌, ◌++◌, Result, Ok, arith}
use Rattle.mfotl_lex.specs.FirstFault.{◌>>=◌, run}
use Rattle.mfotl_lex.proofs.{FirstFaultLaws.run-append, FirstFaultLaws.bind_same, Verdicts.Judged, Verdicts.then_judged}

-- a result that is given on as it is
all_of : {A E : Type 0} (r : Result A E) → (r >>= λ x. Ok x) ≡ r
all_of r = grind arith

-- a fault of a rule, whatever its cause
pub told : {A E : Type 0} (IsRule IsCause : E → Type 0) (rules : Type 0) (r : Result A E) (x : A)
    → Judged (λ fault. IsRule fault × IsCause fault) rules r x → Judged IsRule rules r x
told IsRule IsCause rules r x h = grind arith

module _ {S T E : Type 0} (step : S → T → Result S E) (start : S) where
  pub one_more : (front : List T) (t : T) → run step (front ++ t ∷ []) start ≡ (run step front start >>= λ s. step s t)
  unfolding run
  one_more front t = simp (run-append, bind_same, all_of)

  -- a verdict, and that on one token more
  pub then_token : (IsRule : E → Type 0) (front : List T) (t : T) (rules more all : Type 0) (p q : S)
      → (rules → more → all) → (all → rules × more) → Judged IsRule rules (run step front start) p
      → (rules → Judged IsRule more (step p t) q) → Judged IsRule all (run step (front ++ t ∷ []) start) q
  then_token IsRule front t rules more all p q to from before next = grind (arith, one_more, then_judged)
