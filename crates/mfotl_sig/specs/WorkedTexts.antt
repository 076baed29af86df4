-- Texts and what is read of them, worked out by hand.
use Rattle.std.specs.Prelude.{◌≡◌, ℕ, List, [], ◌∷◌, codes, Ok, Err}
use Rattle.mfotl_lex.specs.declared.fault.LexFaultKind.TheVariants.{BadByte}
use Rattle.mfotl_model.specs.declared.policy.Sort.{Sort}
use Rattle.mfotl_model.specs.declared.policy.Sort.TheVariants.{Int, Text}
use Rattle.mfotl_sig.specs.declared.fault.SigFault.TheVariants.{Lex, Syntax, RepeatedName, UnknownSort, Arity}
use Rattle.mfotl_sig.specs.Preds.{PredOf}
use Rattle.mfotl_sig.specs.Reading.{reading}

-- a predicate with these parts
abbrev pub pred : ℕ → List ℕ → List Sort → PredOf
pred number name sorts = record { number = number; name = name; sorts = sorts }

-- what is read
pub record WorkedValues : Type 0 where
  pub empty : reading [] ≡ Ok []
  pub no_argument : reading (codes "tick()") ≡ Ok (pred 0 (codes "tick") [] ∷ [])
  pub two : reading (codes "p(int)q(a:string,int)")
      ≡ Ok (pred 0 (codes "p") (Int ∷ []) ∷ pred 1 (codes "q") (Text ∷ Int ∷ []) ∷ [])
  pub label_is_no_sort : reading (codes "p(string:int)") ≡ Ok (pred 0 (codes "p") (Int ∷ []) ∷ [])
  pub any_word : reading (codes "_() NOT()") ≡ Ok (pred 0 (codes "_") [] ∷ pred 1 (codes "NOT") [] ∷ [])

-- what isn't
pub record WorkedFaults : Type 0 where
  pub repeated : reading (codes "p(int) p(string)") ≡ Err (RepeatedName 7)
  pub first_of_two : reading (codes "p() p() p()") ≡ Err (RepeatedName 4)
  pub before_a_broken_byte : reading (codes "p() p() $") ≡ Err (RepeatedName 4)
  pub unknown : reading (codes "p(float)") ≡ Err (UnknownSort 2)
  pub shown_by_the_next_token : reading (codes "p(float$") ≡ Err (Lex (record { kind = BadByte; at = 7 }))
  pub not_shown_by_the_end : reading (codes "p(float") ≡ Err (Syntax 7)
  pub syntax_before : reading (codes "p(float x)") ≡ Err (Syntax 8)
  pub behind_a_label : reading (codes "p(a:float$") ≡ Err (UnknownSort 4)
  pub nine : reading (codes "p(int,int,int,int,int,int,int,int,int)") ≡ Err (Arity 34)
  pub at_the_end : reading (codes "p # and no more") ≡ Err (Syntax 15)
  pub comma_before_nothing : reading (codes "p(int,)") ≡ Err (Syntax 6)
