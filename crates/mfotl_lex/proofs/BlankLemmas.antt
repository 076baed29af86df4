-- Blanks: how a count goes on with more bytes, and what it leaves.
use Rattle.std.proofs.Common.{◌≡◌, ℕ, suc, ◌+◌, ◌≤◌, ◌<◌, Bool, true, false, List, [], ◌∷◌, ◌++◌, length, take, drop}
use Rattle.std.proofs.Common.{refl, sym, ap, ◌∙◌, ◌⊎◌, inl, inr, arith, zero-add}
use Rattle.std.specs.Prelude.{◌==◌}
use Rattle.std.proofs.lemmas.Bool.{cases_Bool, cases_lt, cond-true, cond-false}
use Rattle.std.proofs.lemmas.List.{append-nil, length-drop, length-take-le, nil_from_length, take-append-drop}
use Rattle.mfotl_lex.specs.Bytes.{line_feed, hash, is_space}
use Rattle.mfotl_lex.specs.Blanks.{blank_len, comment_len}
use Rattle.mfotl_lex.proofs.BlankLoop.{blanks_within}

-- ---- one byte

pub blank_space : (ended : Bool) (b : ℕ) (bytes : List ℕ) → is_space b ≡ true
    → blank_len ended (b ∷ bytes) ≡ suc (blank_len ended bytes)
unfolding blank_len
blank_space ended b bytes h = cond-true (is_space b) _ _ h

blank_hash : (ended : Bool) (b : ℕ) (bytes : List ℕ) → is_space b ≡ false → (b == hash) ≡ true
    → blank_len ended (b ∷ bytes) ≡ comment_len ended 1 bytes
unfolding blank_len
blank_hash ended b bytes h k = cond-false (is_space b) _ _ h ∙ cond-true (b == hash) _ _ k

-- no blank stands before a byte that is neither whitespace nor `#`
pub blank_len-none : (ended : Bool) (b : ℕ) (bytes : List ℕ) → is_space b ≡ false → (b == hash) ≡ false
    → blank_len ended (b ∷ bytes) ≡ 0
unfolding blank_len
blank_len-none ended b bytes h k = cond-false (is_space b) _ _ h ∙ cond-false (b == hash) _ _ k

-- a blank, the beginning of a comment, or neither
first_byte : (b : ℕ) → ((ended : Bool) (bytes : List ℕ) → blank_len ended (b ∷ bytes) ≡ suc (blank_len ended bytes))
    ⊎ (((ended : Bool) (bytes : List ℕ) → blank_len ended (b ∷ bytes) ≡ comment_len ended 1 bytes)
    ⊎ ((ended : Bool) (bytes : List ℕ) → blank_len ended (b ∷ bytes) ≡ 0))
first_byte b = grind (arith, cases_Bool (is_space b), blank_space, cases_Bool (b == hash), blank_hash, blank_len-none)

-- the end of a comment, or a byte of it
comment_byte : (b : ℕ) → ((ended : Bool) (count : ℕ) (bytes : List ℕ)
    → comment_len ended count (b ∷ bytes) ≡ suc count + blank_len ended bytes)
    ⊎ ((ended : Bool) (count : ℕ) (bytes : List ℕ)
    → comment_len ended count (b ∷ bytes) ≡ comment_len ended (suc count) bytes)
unfolding blank_len
comment_byte b = grind (arith, cases_Bool (b == line_feed), cond-true, cond-false)

comment_end : (count : ℕ) → comment_len false count [] ≡ 0
unfolding blank_len
comment_end count = refl

comment_end_told : (count : ℕ) → comment_len true count [] ≡ count
unfolding blank_len
comment_end_told count = refl

pub blank_nil : (ended : Bool) → blank_len ended [] ≡ 0
unfolding blank_len
blank_nil ended = refl

-- ---- with more bytes behind

-- a comment isn't closed, or it takes some bytes with the blanks behind it, where the count goes on
abbrev GoesOn : Bool → ℕ → List ℕ → List ℕ → Type 0
GoesOn ended count bytes more =
    (comment_len false count bytes ≡ 0) ⊎ ((n : ℕ) × (comment_len false count bytes ≡ count + suc n) ×
    (comment_len ended count (bytes ++ more) ≡ count + suc n + blank_len ended (drop (suc n) bytes ++ more)))

mutual
  -- the blanks go on where those of the front end
  pub blank_len-append : (ended : Bool) (bytes more : List ℕ) → blank_len ended (bytes ++ more)
      ≡ blank_len false bytes + blank_len ended (drop (blank_len false bytes) bytes ++ more)
  blank_len-append ended [] more = rw blank_nil (sym (zero-add (blank_len ended more)))
  blank_len-append ended (b ∷ bytes) more = elim (first_byte b) [
    | inl f ↦ rw (f ended (bytes ++ more), f false bytes, blank_len-append ended bytes more) (omega arith)
    | inr g ↦ elim g [
      | inl f ↦ elim (comment_len-append ended 1 bytes more) [
        | inl z ↦ rw (f false bytes ∙ z) (sym (zero-add _))
        | inr w ↦
            let e : comment_len false 1 bytes ≡ suc (suc w.0) = omega (arith, w.1) in
            rw (f ended (bytes ++ more), f false bytes, w.2, e) (omega arith)
      ]
      | inr f ↦ rw (f false bytes) (sym (zero-add _))
    ]
  ]

  comment_len-append : (ended : Bool) (count : ℕ) (bytes more : List ℕ) → GoesOn ended count bytes more
  comment_len-append ended count [] more = inl (comment_end count)
  comment_len-append ended count (b ∷ bytes) more = elim (comment_byte b) [
    | inl f ↦ inr (
      blank_len false bytes,
      rw f (omega arith),
      rw (f ended count (bytes ++ more), blank_len-append ended bytes more) (omega arith),
    )
    | inr f ↦ elim (comment_len-append ended (suc count) bytes more) [
      | inl z ↦ inl (rw f z)
      | inr w ↦ inr (suc w.0, rw (f, w.1) (omega arith), rw (f ended count (bytes ++ more), w.2) (omega arith))
    ]
  ]

-- a comment that isn't closed goes on with more bytes
comment_goes_on : (ended : Bool) (count : ℕ) (comment more : List ℕ) → comment_len false count comment ≡ 0
    → comment_len ended count (comment ++ more) ≡ comment_len ended (length comment + count) more
comment_goes_on ended count [] more none = rw zero-add refl
comment_goes_on ended count (b ∷ comment) more none = elim (comment_byte b) [
  | inl f ↦ absurd (omega (arith, sym (f false count comment) ∙ none))
  | inr f ↦
      let e : suc (length comment) + count ≡ length comment + suc count = omega arith in
      rw (f ended count (comment ++ more), e)
      (comment_goes_on ended (suc count) comment more (sym (f false count comment) ∙ none))
]

-- ---- the end told or not

-- the blanks are those whose end is shown, and those behind
pub told_more : (ended : Bool) (bytes : List ℕ)
    → blank_len ended bytes ≡ blank_len false bytes + blank_len ended (drop (blank_len false bytes) bytes)
told_more ended bytes = simp append-nil at (blank_len-append ended bytes [])

none_shown : (bytes : List ℕ) → blank_len false (drop (blank_len false bytes) bytes) ≡ 0
none_shown bytes = omega (arith, told_more false bytes)

-- where no blank's end is shown there is none, or a comment up to the end
none_or_all : (bytes : List ℕ) → blank_len false bytes ≡ 0
    → (blank_len true bytes ≡ 0) ⊎ (blank_len true bytes ≡ length bytes)
none_or_all [] none = inl (blank_nil true)
none_or_all (b ∷ bytes) none = elim (first_byte b) [
  | inl f ↦ absurd (omega (arith, sym (f false bytes) ∙ none))
  | inr g ↦ elim g [
    | inl f ↦
        let goes = comment_goes_on true 1 bytes [] (sym (f false bytes) ∙ none) in
        inr (rw f (omega (arith, simp (append-nil, comment_end_told) at goes)))
    | inr f ↦ inl (f true bytes)
  ]
]

-- where blanks end before the bytes do, the end changes nothing
blanks_before_end : (bytes : List ℕ) → blank_len true bytes < length bytes
    → blank_len false bytes ≡ blank_len true bytes
blanks_before_end bytes lt = grind (arith, none_or_all, none_shown, told_more, length-drop)

-- ---- nothing but the blanks that are counted

-- bytes before which no blank's end is shown aren't all blanks, whatever stands behind them
no_blanks : (bytes more : List ℕ) → blank_len false bytes ≡ 0 → blank_len false (bytes ++ more) ≡ length bytes
    → length bytes ≡ 0
no_blanks [] more none all = refl
no_blanks (b ∷ bytes) more none all = elim (first_byte b) [
  | inl f ↦ absurd (omega (arith, sym (f false bytes) ∙ none))
  | inr g ↦ elim g [
    | inl f ↦
        let goes = comment_goes_on false 1 bytes more (sym (f false bytes) ∙ none) in
        let whole : comment_len false 1 (bytes ++ more) ≡ suc (length bytes) = sym (f false (bytes ++ more)) ∙ all in
        elim (comment_len-append false (length bytes + 1) more []) [
          | inl z ↦ absurd (omega (arith, goes, whole, z))
          | inr w ↦ absurd (omega (arith, goes, whole, w.1))
        ]
    | inr f ↦ absurd (omega (arith, sym (f false (bytes ++ more)) ∙ all))
  ]
]

-- a front as long as the blanks is blanks
all_blanks : (front more : List ℕ) → blank_len false (front ++ more) ≡ length front
    → blank_len false front ≡ length front
all_blanks front more all = grind (arith, no_blanks, none_shown, blank_len-append, length-drop, blanks_within)

-- the blanks alone are counted whole
pub blank_len-take : (bytes : List ℕ) → blank_len false (take (blank_len false bytes) bytes) ≡ blank_len false bytes
blank_len-take bytes =
    let n = blank_len false bytes in
    let long = length-take-le n bytes (blanks_within false bytes) in
    all_blanks (take n bytes) (drop n bytes) (ap (blank_len false) (take-append-drop n bytes) ∙ sym long) ∙ long

-- ---- what stands behind the blanks

-- no blank stands there
pub blank_len-drop : (ended : Bool) (bytes : List ℕ) → blank_len ended (drop (blank_len ended bytes) bytes) ≡ 0
blank_len-drop false bytes = none_shown bytes
blank_len-drop true bytes =
    grind (arith, cases_lt, blanks_before_end, told_more, nil_from_length, length-drop, blank_nil)

-- the blanks before a byte are whole
pub blanks_are_whole : (ended : Bool) (bytes : List ℕ) → blank_len ended bytes < length bytes
    → blank_len false (take (blank_len ended bytes) bytes) ≡ blank_len ended bytes
blanks_are_whole false bytes lt = blank_len-take bytes
blanks_are_whole true bytes lt = rw (← blanks_before_end bytes lt) (blank_len-take bytes)

pub no_space : (ended : Bool) (b : ℕ) (bytes : List ℕ) → blank_len ended (b ∷ bytes) ≡ 0 → is_space b ≡ false
no_space ended b bytes none = grind (arith, blank_space, cases_Bool)

comment_counts : (count : ℕ) (bytes : List ℕ) → count ≤ comment_len true count bytes
comment_counts count [] = rw comment_end_told (omega arith)
comment_counts count (b ∷ bytes) = grind (arith, comment_byte b, comment_counts (suc count) bytes)

-- at the end every comment is a blank
pub no_hash : (b : ℕ) (bytes : List ℕ) → blank_len true (b ∷ bytes) ≡ 0 → (b == hash) ≡ false
no_hash b bytes none = grind (arith, no_space, cases_Bool, comment_counts, blank_hash)

-- ---- a comment that stays open

-- a comment that began k bytes earlier is k bytes longer, if it is closed or at the end
abbrev Longer : Bool → ℕ → ℕ → List ℕ → Type 0
Longer ended k count bytes =
    ((comment_len ended count bytes ≡ 0) × (comment_len ended (k + count) bytes ≡ 0))
    ⊎ ((0 < comment_len ended count bytes) ×
    (comment_len ended (k + count) bytes ≡ k + comment_len ended count bytes))

comment_longer : (ended : Bool) (k count : ℕ) (bytes : List ℕ) → 0 < count → Longer ended k count bytes
comment_longer false k count [] some = inl (comment_end count, comment_end (k + count))
comment_longer true k count [] some = rw (comment_end_told count, comment_end_told (k + count)) (inr (some, refl))
comment_longer ended k count (b ∷ bytes) some = elim (comment_byte b) [
  | inl f ↦ rw (f ended count bytes, f ended (k + count) bytes) (inr (omega arith, omega arith))
  | inr f ↦
      let e : k + suc count ≡ suc (k + count) = omega arith in
      rw (f ended count bytes, f ended (k + count) bytes, ← e)
      (comment_longer ended k (suc count) bytes (omega arith))
]

-- an open comment before more bytes: none of them is a blank, or so many more as it has
pub blanks_of_open : (ended : Bool) (comment more : List ℕ) → blank_len false (hash ∷ comment) ≡ 0
    → ((blank_len ended (hash ∷ more) ≡ 0) × (blank_len ended (hash ∷ (comment ++ more)) ≡ 0))
    ⊎ ((0 < blank_len ended (hash ∷ more)) ×
    (blank_len ended (hash ∷ (comment ++ more)) ≡ length comment + blank_len ended (hash ∷ more)))
blanks_of_open ended comment more none = grind (arith, blank_hash, comment_goes_on, comment_longer)
