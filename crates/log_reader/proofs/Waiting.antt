-- Where a reader waits for more it holds little: no token's front is longer than a Text's quote and content.
use Rattle.std.proofs.Common.{◌≡◌, ℕ, suc, ◌≤◌, false, List, [], ◌∷◌, length, refl, arith}
use Rattle.std.specs.{Prelude.◌==◌, Str.is_utf8}
use Rattle.std.proofs.lemmas.Bool.{cases_Bool, cond_both, ltb-false}
use Rattle.std.proofs.lemmas.List.{length-drop, length-take}
use Rattle.mfotl_lex.proofs.Sequence.{next_is, scan_at, unshown}
use Rattle.mfotl_lex.specs.Bytes.{hash, quote}
use Rattle.mfotl_lex.specs.Scans.{word_scan, closed_text, text_end, text_scan, log_scan}
use Rattle.mfotl_lex.specs.declared.{scan.Scan.Scan, scan.Scan.TheVariants.Unshown}
use Rattle.log_reader.specs.declared.limits.Limits.{Limits}
use Rattle.log_reader.specs.Limits.{held_limit}
use Rattle.log_reader.specs.Stretches.{Stretch, Waits, forgotten}

-- what a scan that shows nothing says
abbrev Waiting : Type 0 → Scan → Type 0
Waiting P s = s ≡ Unshown → P

word_little : (limit count len : ℕ) → Waiting (len ≤ limit) (word_scan false limit count len)
word_little limit count len = grind arith

closed_shows : (P : Type 0) (content : List ℕ) → Waiting P (closed_text content)
unfolding closed_text
closed_shows P content = cond_both (is_utf8 content) _ _ (Waiting P) (λ _. λ e. absurd cc) (λ _. λ e. absurd cc)

end_open : (content bytes : List ℕ) → Waiting (length bytes ≡ 0) (text_end false content bytes)
unfolding text_end
end_open content [] = λ e. refl
end_open content (b ∷ bytes) =
    cond_both (b == quote) _ _ (Waiting (suc (length bytes) ≡ 0)) (λ _. closed_shows _ content) (λ _. λ e. absurd cc)

text_little : (bytes : List ℕ) → Waiting (length bytes ≤ 4096) (text_scan false bytes)
unfolding text_scan
text_little bytes = grind (arith, cases_Bool, end_open, length-drop, ltb-false)

-- a comment aside, the bytes that show nothing are few
log_little : (b : ℕ) (bytes : List ℕ) → (b == hash) ≡ false
    → Waiting (length (b ∷ bytes) ≤ held_limit) (log_scan false (b ∷ bytes))
unfolding log_scan
log_little b bytes other = grind (arith, cond_both, word_little, text_little)

pub waits_little : (limits : Limits) (s : Stretch) (at : ℕ) → Waits limits s at
    → length (forgotten s at).bytes ≤ held_limit
waits_little limits s at w = grind (arith, unshown, scan_at, next_is, cond_both, length-take, log_little)
