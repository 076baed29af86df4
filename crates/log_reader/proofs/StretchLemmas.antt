-- Where a reader stands in what it keeps, with more bytes behind it and without those that are done with.
use Rattle.std.proofs.Common.{◌≡◌, ℕ, suc, zero, ◌+◌, ◌-◌, ◌≤◌, Bool, false, List, [], ◌∷◌, ◌++◌, length, take, drop}
use Rattle.std.proofs.Common.{refl, ap, ap₂, arith, append-nil}
use Rattle.std.proofs.{lemmas.Bool.cases_Bool, lemmas.Bool.eqb-true, Math.Seq.take-nil}
use Rattle.std.proofs.lemmas.List.{length-append, length-drop, length-take, drop-append-le, take_all}
use Rattle.mfotl_lex.proofs.ShorteningLemmas.{shortening}
use Rattle.mfotl_lex.specs.{Blanks.blank_len, Bytes.hash, Growing.grown, Lexemes.tokens}
use Rattle.log_reader.specs.declared.limits.Limits.{Limits}
use Rattle.log_reader.specs.Cursors.{MayComeLater}
use Rattle.log_reader.specs.Stretches.{Stretch, stretch_end, with_piece, looked_at, is_end_told, stretch_place, behind}
use Rattle.log_reader.specs.Stretches.{comment_of, shortened}
use Rattle.log_reader.proofs.TokenSteps.{later_self}

-- ---- lists

take-append : (n : ℕ) (xs ys : List ℕ) → take n (xs ++ ys) ≡ take n xs ++ take (n - length xs) ys
take-append n [] ys = grind (arith, take-nil)
take-append zero (x ∷ xs) ys = let none : 0 - suc (length xs) ≡ 0 = omega arith in rw none refl
take-append (suc n) (x ∷ xs) ys = grind (arith, take-append n xs ys)

drop-take_less : (n m : ℕ) (xs : List ℕ) → drop n (take m xs) ≡ take (m - n) (drop n xs)
drop-take_less zero m xs = let same : m ≡ m - 0 = omega arith in ap (λ (k : ℕ). take k xs) same
drop-take_less (suc n) m [] = rw (take-nil m, take-nil (m - suc n)) refl
drop-take_less (suc n) zero (x ∷ xs) = let none : 0 - suc n ≡ 0 = omega arith in rw none refl
drop-take_less (suc n) (suc m) (x ∷ xs) = grind (arith, drop-take_less n m xs)

module _ (limits : Limits) (s : Stretch) where
  -- ---- more bytes

  -- those that come later and are looked at
  abbrev pub further : List ℕ → List ℕ
  further more = take (limits.bytes - s.from - length s.bytes) more

  pub place_grown : (ended later : Bool) (more : List ℕ) (at : ℕ) → at ≤ length (looked_at limits s)
      → stretch_place limits (with_piece s more) later at
      ≡ grown (stretch_place limits s ended at) (further more) (is_end_told limits (with_piece s more) later)
  place_grown ended later more at within = simp (take-append, drop-append-le)

  pub later_told : (ended later : Bool) (more : List ℕ) → MayComeLater ended more later
      → MayComeLater (is_end_told limits s ended) (further more) (is_end_told limits (with_piece s more) later)
  later_told ended later more h = grind (arith, append-nil, take-nil, later_self)

  -- ---- without what is done with

  pub behind_place : (at : ℕ) → at ≤ length s.bytes → (more : List ℕ) (later : Bool)
      → stretch_place limits (with_piece (behind s at) more) later 0 ≡ stretch_place limits (with_piece s more) later at
  behind_place at within more later = grind (arith, ap₂, drop-append-le, drop-take_less, length-append, length-drop)

  pub behind_end : (at : ℕ) → at ≤ length s.bytes → stretch_end (behind s at) ≡ stretch_end s
  behind_end at within = omega (arith, length-drop at s.bytes, within)

-- ---- an open comment

module _ (limits : Limits) (from : ℕ) where
  abbrev at_comment : List ℕ → Stretch
  at_comment bytes = record { from = from; bytes = bytes }

  hash_place : (comment more : List ℕ) (later : Bool) → blank_len false (hash ∷ comment) ≡ 0
      → from + suc (length comment) ≤ limits.bytes
      → tokens
      (stretch_place limits (with_piece (record { from = from + length comment; bytes = hash ∷ [] }) more) later 0)
      ≡ tokens (stretch_place limits (with_piece (at_comment (hash ∷ comment)) more) later 0)
  hash_place comment more later none short = grind (arith, take_all, take-append, ap₂, length-append, shortening)

  comment_place : (bytes more : List ℕ) (later : Bool) → blank_len false bytes ≡ 0 → from + length bytes ≤ limits.bytes
      → tokens (stretch_place limits (with_piece (shortened (at_comment bytes)) more) later 0)
      ≡ tokens (stretch_place limits (with_piece (at_comment bytes) more) later 0)
  comment_place bytes more later none short = grind (arith, cases_Bool, eqb-true, hash_place, take_all, ap₂)

pub comment_within : (bytes : List ℕ) → comment_of bytes ≤ length bytes
comment_within bytes = grind arith

pub shortened_end : (s : Stretch) → stretch_end (shortened s) ≡ stretch_end s
shortened_end s = omega (arith, length-take (length s.bytes - comment_of s.bytes) s.bytes, comment_within s.bytes)

pub shortened_place : (limits : Limits) (s : Stretch) → blank_len false s.bytes ≡ 0 → stretch_end s ≤ limits.bytes
    → (more : List ℕ) (later : Bool) → tokens (stretch_place limits (with_piece (shortened s) more) later 0)
    ≡ tokens (stretch_place limits (with_piece s more) later 0)
shortened_place limits s none short more later = comment_place limits s.from s.bytes more later none short
