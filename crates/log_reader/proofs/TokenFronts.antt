-- What is seen straight in a log's bytes is what a lexer would find there.
use Rattle.std.proofs.Common.{◌≡◌, ℕ, ◌+◌, ◌≤◌, ◌<◌, Bool, true, false, List, [], ◌∷◌, length, take, drop, Option, Some}
use Rattle.std.proofs.Common.{None, Ok, IfSome, get_or, sym, ap, subst, ◌∙◌, arith}
use Rattle.std.specs.{Prelude.◌==◌, List.prefix_len}
use Rattle.std.proofs.lemmas.Bool.{eqb-true, le-ltb, lt-ltb, or_right, cond_both}
use Rattle.std.proofs.{lemmas.Bool.Decides.nat_tests, lemmas.List.length-take}
use Rattle.mfotl_lex.proofs.{BlankLemmas.blank_len-none, BlankLemmas.blank_space, GrowingLemmas.tokens_same}
use Rattle.mfotl_lex.proofs.Sequence.{next_is, after_is, scan_at}
use Rattle.mfotl_lex.specs.{Blanks.blank_len, Places.Place, Scans.log_scan, Scans.log_mark}
use Rattle.mfotl_lex.specs.Bytes.{quote, hash, is_space, in_log_word}
use Rattle.mfotl_lex.specs.Lexemes.{Lexeme, lexeme, past_blanks, token_at, place_after, next_token, after, tokens}
use Rattle.mfotl_lex.specs.declared.{kind.Kind.Kind, kind.Kind.TheVariants.Word, scan.Scan.Scan}
use Rattle.mfotl_lex.specs.declared.{scan.Scan.TheVariants.Takes, token.Token.Token}
use Rattle.log_reader.specs.Tokens.{front_of, blank_before, IsInFront}

-- a whole token without blanks before it
pub record IsWhole (bytes : List ℕ) (kind : Kind) (n : ℕ) : Type 0 where
  pub scanned : (ended : Bool) → log_scan ended bytes ≡ Takes kind n
  pub bare : (ended : Bool) → blank_len ended bytes ≡ 0
  pub inner : n ≤ length bytes

pub in_front : (bytes : List ℕ) (at : ℕ) (kind : Kind) (n : ℕ) → IsWhole bytes kind n
    → IsInFront bytes at (record { kind = kind; at = at; text = take n bytes })
in_front bytes at kind n w = grind (arith, next_is, after_is, length-take)

-- ---- marks

-- a byte that is a mark, and no other
record Marks (b : ℕ) : Type 0 where
  space : is_space b ≡ false
  comment : (b == hash) ≡ false
  word : in_log_word b ≡ false
  text : (b == quote) ≡ false

marks_of : (b : ℕ) (kind : Kind) → log_mark b ≡ Some kind → Marks b
marks_of b kind = grind (arith, cond_both, eqb-true)

pub mark_whole : (b : ℕ) (more : List ℕ) (kind : Kind) → log_mark b ≡ Some kind → IsWhole (b ∷ more) kind 1
unfolding log_scan
mark_whole b more kind e = grind (arith, marks_of b kind e, blank_len-none)

-- ---- words

no_blank : (b : ℕ) → in_log_word b ≡ true → is_space b ≡ false
no_blank b h = grind (arith, nat_tests)

no_comment : (b : ℕ) → in_log_word b ≡ true → (b == hash) ≡ false
no_comment b h = grind (arith, nat_tests)

first_in : (b : ℕ) (bytes : List ℕ) (n : ℕ) → prefix_len in_log_word (b ∷ bytes) ≡ n → 0 < n → in_log_word b ≡ true
first_in b bytes n e some = grind arith

pub word_whole : (bytes : List ℕ) (n : ℕ) → prefix_len in_log_word bytes ≡ n → 0 < n → n ≤ 4096
    → n < length bytes → IsWhole bytes Word n
unfolding log_scan
word_whole [] n e some few inner = absurd (omega (arith, inner))
word_whole (b ∷ bytes) n e some few inner =
    grind (arith, first_in, le-ltb, lt-ltb, or_right, blank_len-none, no_blank, no_comment)

pub word_in_front : (bytes : List ℕ) (at n : ℕ) → prefix_len in_log_word bytes ≡ n → 0 < n → n ≤ 4096
    → n < length bytes → IsInFront bytes at (record { kind = Word; at = at; text = take n bytes })
word_in_front bytes at n e some few inner = in_front bytes at Word n (word_whole bytes n e some few inner)

-- ---- one blank

past_blank : (ended : Bool) (b : ℕ) (bytes : List ℕ) (at : ℕ) → is_space b ≡ true
    → past_blanks (front_of (b ∷ bytes) at ended) ≡ past_blanks (front_of bytes (at + 1) ended)
past_blank ended b bytes at space = grind (arith, blank_space)

-- behind a token it doesn't matter where its blanks begin
same_behind : (p q place : Place) (s : Scan) (t : Lexeme) → token_at place s ≡ Ok (Some t)
    → place_after p place s ≡ place_after q place s
same_behind p q place s t e = grind arith

-- a blank in front of bytes
module _ (b : ℕ) (bytes : List ℕ) (at : ℕ) (space : is_space b ≡ true) (ended : Bool) where
  abbrev here : Place
  here = front_of (b ∷ bytes) at ended

  abbrev there : Place
  there = front_of bytes (at + 1) ended

  same_next : next_token here ≡ next_token there
  same_next =
      next_is here
      ∙ ap (λ (q : Place). token_at q (log_scan ended q.rest)) (past_blank ended b bytes at space)
      ∙ sym (next_is there)

  same_after : (t : Lexeme) → next_token there ≡ Ok (Some t) → after here ≡ after there
  same_after t e =
      after_is here
      ∙ ap (λ (q : Place). place_after here q (log_scan ended q.rest)) (past_blank ended b bytes at space)
      ∙ same_behind here there (past_blanks there) (scan_at there) t (sym (next_is there) ∙ e)
      ∙ sym (after_is there)

  -- the tokens are those behind it
  pub blank_tokens : tokens here ≡ tokens there
  blank_tokens = tokens_same here there (past_blank ended b bytes at space)

-- a token behind a blank is in front of both
pub blank_in_front : (b : ℕ) (bytes : List ℕ) (at : ℕ) (t : Lexeme) → is_space b ≡ true
    → IsInFront bytes (at + 1) t → IsInFront (b ∷ bytes) at t
blank_in_front b bytes at t space f = record {
  is = λ ended. same_next b bytes at space ended ∙ f.is ended;
  behind = λ ended.
      ap (λ (r : Place). r.at) (same_after b bytes at space ended t (f.is ended)) ∙ f.behind ended;
  first = omega (arith, f.first);
  last = omega (arith, f.last);
}

-- ---- as a call sees them

pub word_at : (bytes : List ℕ) (at n : ℕ) (text : List ℕ) → n ≡ prefix_len in_log_word bytes → (n ≡ 0 → ⊥)
    → n ≤ 4096 → (n ≡ length bytes → ⊥) → n ≤ length bytes → text ≡ take n bytes
    → IsInFront bytes at (record { kind = Word; at = at; text = text })
word_at bytes at n text e some few inner within is =
    rw is (word_in_front bytes at n (sym e) (omega (arith, some)) few (omega (arith, inner, within)))

-- a mark is the first byte
pub mark_seen : (bytes : List ℕ) (at : ℕ) (kind : Kind) → 1 ≤ length bytes → log_mark (get_or bytes 0 0) ≡ Some kind
    → IsInFront bytes at (record { kind = kind; at = at; text = get_or bytes 0 0 ∷ [] })
mark_seen [] at kind some e = absurd (omega (arith, some))
mark_seen (b ∷ bytes) at kind some e = in_front (b ∷ bytes) at kind 1 (mark_whole b bytes kind e)

pub mark_at : (bytes : List ℕ) (at : ℕ) (kind : Kind) (text : List ℕ) → 1 ≤ length bytes
    → log_mark (get_or bytes 0 0) ≡ Some kind → text ≡ take 1 bytes
    → IsInFront bytes at (record { kind = kind; at = at; text = text })
mark_at [] at kind text some e is = absurd (omega (arith, some))
mark_at (b ∷ bytes) at kind text some e is = rw is (mark_seen (b ∷ bytes) at kind some e)

pub blank_past : (bytes : List ℕ) (at : ℕ) (t : Lexeme)
    → IsInFront (drop (blank_before bytes) bytes) (at + blank_before bytes) t → IsInFront bytes at t
blank_past [] at t f = let same : at + 0 ≡ at = omega arith in subst (λ (n : ℕ). IsInFront [] n t) same f
blank_past (b ∷ bytes) at t f =
    cond_both (is_space b) 1 0 (λ (n : ℕ). IsInFront (drop n (b ∷ bytes)) (at + n) t → IsInFront (b ∷ bytes) at t)
    (λ space. blank_in_front b bytes at t space)
    (λ _ f. let same : at + 0 ≡ at = omega arith in subst (λ (n : ℕ). IsInFront (b ∷ bytes) n t) same f) f

pub blank_at : (bytes : List ℕ) (at n : ℕ) (behind : List ℕ) (token : Option Token) → n ≡ blank_before bytes
    → behind ≡ drop n bytes → IfSome token (λ t. IsInFront behind (at + n) (lexeme t))
    → IfSome token (λ t. IsInFront bytes at (lexeme t))
blank_at bytes at n behind None count is f = tt
blank_at bytes at n behind (Some t) count is f = blank_past bytes at (lexeme t) (rw (is, count) at f)
