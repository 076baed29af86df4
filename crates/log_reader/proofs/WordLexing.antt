-- Writing blanks, words and marks of a log, and cutting them into the same tokens again.
use Rattle.std.proofs.Common.{◌≡◌, ℕ, ◌+◌, ◌<◌, ◌≤◌, Bool, true, false, not, List, [], ◌∷◌, ◌++◌, length, take, drop}
use Rattle.std.proofs.Common.{Some, None, refl, ap, ◌∙◌, arith}
use Rattle.std.proofs.{Math.Seq.take-append_seam, Math.Seq.drop-append_seam, lemmas.List.length-append}
use Rattle.std.specs.List.{list_all, prefix_len}
use Rattle.mfotl_lex.specs.{Blanks.blank_len, Bytes.is_space, Bytes.in_log_word, Contents.content_of, Places.Place}
use Rattle.mfotl_lex.specs.{Places.mode_behind, Scans.log_scan, Scans.log_mark}
use Rattle.mfotl_lex.specs.Lexemes.{tokens, tokens_within, next_token, after}
use Rattle.mfotl_lex.specs.declared.{kind.Kind.Kind, kind.Kind.TheVariants.Word, kind.Mode.TheVariants.Log}
use Rattle.mfotl_lex.proofs.Sequence.{tokens_token}
use Rattle.log_reader.specs.Grammar.{symbols_of}
use Rattle.log_reader.specs.Symbols.{Symbol, Says, Bare, symbol_of}
use Rattle.log_reader.proofs.TokenFronts.{IsWhole, in_front, mark_whole, word_whole, blank_tokens}

-- the bytes from an offset of a log on, which are all there are
abbrev pub place_of : ℕ → List ℕ → Place
place_of at bytes = record { mode = Log; at = at; rest = bytes; ended = true }

-- they are whole tokens, and the grammar sees these symbols in them
pub record Cuts (bytes : List ℕ) (symbols : List Symbol) (at : ℕ) : Type 0 where
  pub seen : symbols_of (tokens (place_of at bytes)).list ≡ symbols
  pub whole : (tokens (place_of at bytes)).fault ≡ None

-- so wherever they stand
abbrev pub CutsInto : List ℕ → List Symbol → Type 0
CutsInto bytes symbols = (at : ℕ) → Cuts bytes symbols at

pub nothing_cut : CutsInto [] []
unfolding tokens tokens_within next_token after blank_len log_scan
nothing_cut at = record { seen = refl; whole = refl }

-- ---- blanks

-- a blank in front changes nothing
pub blank_cut : (b : ℕ) (bytes : List ℕ) (symbols : List Symbol) → is_space b ≡ true → CutsInto bytes symbols
    → CutsInto (b ∷ bytes) symbols
blank_cut b bytes symbols space cuts at = grind (arith, blank_tokens)

-- ---- tokens

place_behind : (bytes : List ℕ) (kind : Kind) (n at : ℕ) → IsWhole bytes kind n
    → after (place_of at bytes) ≡ place_of (at + n) (drop n bytes)
unfolding after mode_behind
place_behind bytes kind n at w = grind arith

-- a token in front
token_cut : (bytes more : List ℕ) (symbols : List Symbol) (kind : Kind) (n : ℕ) → IsWhole bytes kind n
    → drop n bytes ≡ more → CutsInto more symbols
    → CutsInto bytes (symbol_of kind (content_of kind (take n bytes)) ∷ symbols)
token_cut bytes more symbols kind n w behind cuts at =
    let found = tokens_token (place_of at bytes) _ ((in_front bytes at kind n w).is true) in
    let on = place_behind bytes kind n at w ∙ ap (place_of (at + n)) behind in
    let seen = symbol_of kind (content_of kind (take n bytes)) in
    grind arith

-- ---- marks

pub mark_cut : (b : ℕ) (kind : Kind) (more : List ℕ) (symbols : List Symbol) → log_mark b ≡ Some kind
    → CutsInto more symbols → CutsInto (b ∷ more) (symbol_of kind (content_of kind (b ∷ [])) ∷ symbols)
mark_cut b kind more symbols mark cuts =
    token_cut (b ∷ more) more symbols kind 1 (mark_whole b more kind mark) refl cuts

-- ---- words

-- a byte that no word has is in front
abbrev pub begins_apart : List ℕ → Bool
begins_apart [] = false
begins_apart (b ∷ bytes) = not (in_log_word b)

apart : (more : List ℕ) → begins_apart more ≡ true → (prefix_len in_log_word more ≡ 0) × (0 < length more)
apart more a = grind arith

first_in : (b : ℕ) (word : List ℕ) → list_all in_log_word (b ∷ word) ≡ true → in_log_word b ≡ true
first_in b word all = grind arith

word_len : (word more : List ℕ) → list_all in_log_word word ≡ true → begins_apart more ≡ true
    → prefix_len in_log_word (word ++ more) ≡ length word
word_len [] more all a = (apart more a).0
word_len (b ∷ word) more all a = grind (arith, first_in, word_len word more (grind arith) a)

pub word_cut : (word more : List ℕ) (symbols : List Symbol) → list_all in_log_word word ≡ true → 0 < length word
    → length word ≤ 4096 → begins_apart more ≡ true → CutsInto more symbols
    → CutsInto (word ++ more) (Says (Bare word) ∷ symbols)
word_cut word more symbols all some short a cuts at =
    let behind : 0 < length more = (apart more a).1 in
    let whole = word_whole (word ++ more) (length word) (word_len word more all a) some short
    (omega (arith, behind, length-append word more)) in
    let cut = token_cut (word ++ more) more symbols Word (length word) whole (drop-append_seam word more) cuts at in
    grind (arith, take-append_seam)
