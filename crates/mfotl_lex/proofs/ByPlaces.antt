-- Of a reader that knows where in the grammar it stands: what each token does there gives most of what it owes.
use Rattle.std.proofs.Common.{◌≡◌, ℕ, List, [], ◌∷◌, ◌++◌, Result, Ok, Err, refl, sym, ap, subst, ◌∙◌, ◌⊎◌, inl, inr}
use Rattle.std.specs.Prelude.{IfOk, IfErr}
use Rattle.mfotl_lex.specs.FirstFault.{run, EndsViability}
use Rattle.mfotl_lex.proofs.FirstFaultLaws.{holds_behind, run_none, run_behind, run_token}

module _ {T E : Type 0} (IsViable : List T → Type 0) (IsCause : List T → T → E → Type 0) where
  -- the grammar goes on with the token; then the reader stands behind it, or the token is the cause of its fault
  pub record Goes {A : Type 0} (Stands : List T → A → Type 0) (front : List T) (t : T) (r : Result A E) : Type 0 where
    pub viable : IsViable (front ++ t ∷ [])
    pub place : IfOk r (Stands (front ++ t ∷ []))
    pub cause : IfErr r (IsCause front t)

  -- or the grammar doesn't go on with it
  abbrev pub Further : {A : Type 0} → E → (List T → A → Type 0) → List T → T → Result A E → Type 0
  Further syntax Stands front t r = (r ≡ Err syntax) ⊎ Goes Stands front t r

module _ {S T E : Type 0} (step : S → T → Result S E) (start : S) (at : T → ℕ) (syntax : ℕ → E)
    (IsViable : List T → Type 0) (IsCause : List T → T → E → Type 0) (Stands : List T → S → Type 0) where
  pub record KnowsPlaces : Type 0 where
    pub begins : Stands [] start
    pub further : (front : List T) (s : S) (t : T) → run step front start ≡ Ok s → Stands front s
        → Further IsViable IsCause (syntax (at t)) Stands front t (step s t)
    -- a token that shows Syntax ends viability, and is the cause
    pub unviable : (front : List T) (s : S) (t : T) (place : ℕ) → run step front start ≡ Ok s
        → step s t ≡ Err (syntax place)
        → IsViable (front ++ t ∷ []) → ⊥
    pub caused : (front : List T) (t : T) (place : ℕ) → EndsViability IsViable at front t place
        → IsCause front t (syntax place)

  record Reached (front : List T) (s : S) : Type 0 where
    ran : run step front start ≡ Ok s
    stands : Stands front s

  module _ (knows : KnowsPlaces) where
    keeps : (front : List T) (s q : S) (t : T) → Reached front s → step s t ≡ Ok q → Reached (front ++ t ∷ []) q
    keeps front s q t r e =
        record {
          ran = run_behind step front (t ∷ []) start s r.ran ∙ run_token step t [] s q e ∙ run_none step q;
          stands = elim (knows.further front s t r.ran r.stands) [
            | inl stops ↦ absurd (cc (stops, e))
            | inr goes ↦ subst (λ r. IfOk r (Stands (front ++ t ∷ []))) e goes.place
          ];
        }

    -- wherever a run without a fault ends
    pub reached : (ts : List T) (s : S) → run step ts start ≡ Ok s → Stands ts s
    reached ts s ran =
        let begins : Reached [] start = record { ran = run_none step start; stands = knows.begins } in
        (holds_behind step Reached keeps [] ts start s begins ran).stands

    -- a fault's token is its cause
    pub token_caused : (front : List T) (s : S) (t : T) (fault : E) → run step front start ≡ Ok s → step s t ≡ Err fault
        → IsCause front t fault
    token_caused front s t fault ran e =
        elim (knows.further front s t ran (reached front s ran)) [
          | inl stops ↦
              let same : syntax (at t) ≡ fault = cc (stops, e) in
              subst (IsCause front t) same (knows.caused front t (at t) (record {
                ends = knows.unviable front s t (at t) ran stops;
                stands = refl;
              }))
          | inr goes ↦ subst (λ r. IfErr r (IsCause front t)) e goes.cause
        ]

    -- and one that ends viability shows Syntax
    pub ends_shown : (front : List T) (s : S) (t : T) (place : ℕ) → run step front start ≡ Ok s
        → EndsViability IsViable at front t place → step s t ≡ Err (syntax place)
    ends_shown front s t place ran v =
        elim (knows.further front s t ran (reached front s ran)) [
          | inl stops ↦ stops ∙ ap (λ n. Err (syntax n)) (sym v.stands)
          | inr goes ↦ absurd (v.ends goes.viable)
        ]
