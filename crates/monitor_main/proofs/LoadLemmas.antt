-- From the ends of the single files to those of both.
use Rattle.std.proofs.Common.{◌≡◌, refl, ℕ, arith, ◌≤◌, List, [], ◌∷◌}
use Rattle.std.specs.Prelude.{Result, Ok}
use Rattle.mon_outside.specs.Files.{Files, ToldFiles, content}
use Rattle.mon_outside.specs.{Inputs.Name, Inputs.asked_more, Views.InputsView}
use Rattle.mfotl_sig.specs.Preds.{PredOf}
use Rattle.monitor_main.specs.Tasks.{CheckedPolicy, checked_over, policy_at, signature_of}
use Rattle.monitor_main.specs.{Unread.source_bytes, FilesAsked.source_names}
use Rattle.command_line.specs.Words.{Sources}
use Rattle.monitor_main.specs.Loading.{HasNoPolicy, IsLoadFault, IsRefused, LoadsSources, NoPolicy, StopsInSources}
use Rattle.monitor_main.specs.declared.{refusal.InputFile.InputFile, refusal.Refusal.Refusal}
use Rattle.monitor_main.specs.declared.refusal.InputFile.TheVariants as file
use Rattle.monitor_main.proofs.ToldLemmas.{asked_twice, told_all, told_both, told_map}

-- ---- a file is refused

-- the file that was asked for last is refused, so the loading stops there
pub fault_of : {Y : Type 0} (last : InputFile) (name : Name) (due : List ℕ → Result Y Refusal)
    (before mid after : InputsView) → before.faults ≤ mid.faults → (r : Refusal) → IsRefused last name due mid after r
    → IsLoadFault last before after r
fault_of last name due before mid after later r h = grind arith

-- ---- the signature is refused

module _ (sources : Sources) (before after : InputsView) where
  no_signature_in : (r : Refusal) (files : Files) → HasNoPolicy sources files (content files sources.sig) after r
      → NoPolicy sources files file.Signature after r
  unfolding source_bytes
  no_signature_in r files why = record { all = content files sources.sig; reached = refl; why = why }

  signature_refuses : (r : Refusal) → IsRefused file.Signature sources.sig signature_of before after r
      → ToldFiles before.files (λ files. NoPolicy sources files file.Signature after r)
  unfolding policy_at
  signature_refuses r h = grind (arith, told_map, no_signature_in, told_all)

-- no signature, so no policy over it
pub no_signature : {sources : Sources} {before after : InputsView} {r : Refusal}
    → after.asked ≡ asked_more before.asked (sources.sig ∷ [])
    → IsRefused file.Signature sources.sig signature_of before after r → StopsInSources sources before after r
no_signature {sources = sources} {before = before} {after = after} {r = r} asked h =
    grind (arith, fault_of, signature_refuses)

-- ---- the signature is read

-- the policy behind an accepted signature
behind_sig : (sources : Sources) (files : Files) (sig : List PredOf) → signature_of (content files sources.sig) ≡ Ok sig
    → policy_at sources files ≡ checked_over sig (content files sources.policy)
unfolding policy_at
behind_sig sources files sig e = rw e refl

module _ (sources : Sources) (before mid after : InputsView) (sig : List PredOf)
    (same : mid.files ≡ before.files) (later : before.faults ≤ mid.faults)
    (asked_sig : mid.asked ≡ asked_more before.asked (sources.sig ∷ []))
    (asked_policy : after.asked ≡ asked_more mid.asked (sources.policy ∷ []))
    (sig_is : ToldFiles before.files (λ files. signature_of (content files sources.sig) ≡ Ok sig)) where
  both_asked : after.asked ≡ asked_more before.asked (source_names sources file.Policy)
  both_asked = cc (asked_twice before.asked (sources.sig ∷ []) (sources.policy ∷ []))

  -- both
  pub policy_made : {checked : CheckedPolicy}
      → ToldFiles mid.files (λ files. checked_over sig (content files sources.policy) ≡ Ok checked)
      → LoadsSources sources checked before after
  policy_made made = grind (arith, both_asked, told_both, behind_sig)

  no_policy_in : (r : Refusal) (files : Files) → signature_of (content files sources.sig) ≡ Ok sig
      → HasNoPolicy sources files (content files sources.policy) after r → NoPolicy sources files file.Policy after r
  unfolding source_bytes
  no_policy_in r files s why = record { all = content files sources.policy; reached = rw s refl; why = why }

  policy_refuses : (r : Refusal) → IsRefused file.Policy sources.policy (checked_over sig) mid after r
      → ToldFiles before.files (λ files. NoPolicy sources files file.Policy after r)
  policy_refuses r h = grind (arith, told_both, no_policy_in, told_map, behind_sig)

  -- no policy
  pub no_policy : {r : Refusal} → IsRefused file.Policy sources.policy (checked_over sig) mid after r
      → StopsInSources sources before after r
  no_policy {r = r} h = search (both_asked, fault_of, policy_refuses)
