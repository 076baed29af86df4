-- What the words' reader rests on.
use Rattle.std.proofs.Common.{◌≡◌, ◌<◌, ◌≤◌, ap, arith, List, [], ◌∷◌, ◌++◌, ℕ, Bool, true, false, refl, ◌&&◌, ◌||◌}
use Rattle.std.proofs.Common.{codes}
use Rattle.std.proofs.lemmas.Bool.Decides.{nat_tests}
use Rattle.std.specs.{List.list_any, Box.box_value}
use Rattle.std.specs.Prelude.{Box, Option, Some, None, option_map, count_by, nat_lt, if◌then◌else◌, IfSome, Result, Ok}
use Rattle.std.specs.Prelude.{Err}
use Rattle.std.specs.Str.Parse.{ParsesUnsigned, digits_value, without_leading_plus}
use Rattle.clap.specs.Words.{ReadsOne, Row, Text, first_value, first_of, rows_of, subcommand_rows, IsUnsignedIn, one_of}
use Rattle.clap.specs.Words.{one_text, is_simple, is_simple_and_free}
use Rattle.clap.specs.declared.{parser.matches.ArgMatches.TheViews.out-SubCommand, parser.matches.SubCommand.SubCommand}
use Rattle.clap.specs.declared.{parser.matches.Found.Found, builder.value_parser.ValueParser.TheVariants.Unsigned}
use Rattle.clap.proofs.{OnLiterals.clap_on_literals, ValueTestLemmas.Accepts-accepts, ValueTestLemmas.accepts-Accepts}
use Rattle.clap.proofs.{WalkLemmas.first_value-rows, WalkLemmas.one_text-rows}
use Rattle.clap.specs.ValueTests.{is_unsigned_in}
use Rattle.command_line.specs.Limits.{max_seed, max_threads}
use Rattle.command_line.specs.Words.{IsThreadCount, check_app, demo_app, monitor_app, name_if_any, run_app, seed_by}
use Rattle.command_line.specs.Words.{seed_option, sources_app}

-- the first value of an option
pub first_value_rows : (f : Found) (id : Text) → first_value f id ≡ first_of id (rows_of f)
first_value_rows = first_value-rows

module _ {Z : Type 0} where
  -- a subcommand's name and its rows
  pub named_rows : (sub : Option (Box SubCommand Z)) {name : Text} {rows : List Row}
      → Some name ≡ option_map (λ b. (out-SubCommand (box_value b)).name.now) sub
      → Some rows ≡ option_map (λ p. p.1) (subcommand_rows sub) → subcommand_rows sub ≡ Some (name, rows)
  named_rows sub n r = grind arith

  pub no_rows : (sub : Option (Box SubCommand Z))
      → None ≡ option_map (λ b. (out-SubCommand (box_value b)).name.now) sub → subcommand_rows sub ≡ None
  no_rows sub n = grind arith

-- ---- the number of threads

module _ (E : Type 0) (gives : List ℕ → Result ℕ E → Type 0)
    (parses : (text : List ℕ) (r : Result ℕ E) → gives text r → ParsesUnsigned 32 10 text r) (f : Found) where
  -- what a typed getter may read of the option
  abbrev pub Reads : Option ℕ → Type 0
  Reads result = (text : List ℕ) → one_text f (codes "threads") ≡ Some text → ReadsOne gives text result

  at_text : (P : Text → Type 0) → ((text : Text) → one_text f (codes "threads") ≡ Some text → P text)
      → IfSome (one_of (codes "threads") (rows_of f)) P
  at_text P each = grind (arith, codes, one_text-rows)

  -- the number that was read is the text's
  pub threads_read : (n : ℕ) → Reads (Some n) → IsThreadCount (rows_of f) n
  threads_read n reads = at_text _ (λ text e passed. (parses text (Ok n) (reads text e)).1)

  -- a text that writes a number from 0 to 64 is read as one
  unread : (o : Option ℕ) → IfSome o (λ n. max_threads < n) → (text : Text) → ReadsOne gives text o
      → IsUnsignedIn 0 max_threads text → ⊥
  unread o high text h passed = grind arith

  -- elsewhere any number may stand for the text's
  pub threads_unread : (o : Option ℕ) (other : ℕ) → Reads o → IfSome o (λ n. max_threads < n)
      → IsThreadCount (rows_of f) other
  threads_unread o other reads high = at_text _ (λ text e passed. absurd (unread o high text (reads text e) passed))

-- ---- the seed

module _ (E : Type 0) (gives : List ℕ → Result ℕ E → Type 0)
    (parses : (text : List ℕ) (r : Result ℕ E) → gives text r → ParsesUnsigned 64 10 text r) (f : Found) where
  -- what is read of a text is the number that it writes, if it writes one that may be a seed
  read_seed : (text : Text) (result : Option ℕ) → ReadsOne gives text result → result ≡ seed_by (Some text)
  read_seed text (Some n) h =
      let p = parses text (Ok n) h in
      let most : digits_value 10 (without_leading_plus text) ≤ max_seed = let low = p.0.1 in omega (arith, low) in
      let passes : is_unsigned_in 0 max_seed text ≡ true =
      Accepts-accepts false (Unsigned 0 max_seed) text (p.0.0, p.0.1, omega arith, most) in
      rw passes (ap Some p.1)
  read_seed text None h = by (is_unsigned_in 0 max_seed text) refl
    where
      by : (b : Bool) → is_unsigned_in 0 max_seed text ≡ b
          → None ≡ (if b then Some (digits_value 10 (without_leading_plus text)) else None)
      by true e =
          let a = accepts-Accepts false (Unsigned 0 max_seed) text e in
          absurd (parses text (Err h.0) h.1 (a.0, a.1))
      by false e = refl

  -- the seed that was read is the one among the rows
  pub seed_read : (result : Option ℕ) → (one_text f (codes "seed") ≡ None → result ≡ None)
      → ((text : Text) → one_text f (codes "seed") ≡ Some text → ReadsOne gives text result)
      → result ≡ seed_option (rows_of f)
  seed_read result none some = by (one_of (codes "seed") (rows_of f)) (one_text-rows f (codes "seed"))
    where
      by : (o : Option Text) → one_text f (codes "seed") ≡ o → result ≡ seed_by o
      by None e = none e
      by (Some text) e = read_seed text result (some text e)

-- more than one of a run's files: of two, of one that may be left out, and of another
pub two_of_run : (p : List ℕ → Bool) (a b d : List ℕ) (o : Option (List ℕ))
    → nat_lt 1 (count_by p (a ∷ b ∷ (name_if_any o ++ d ∷ [])))
    ≡ (if p a then (p b || list_any p (name_if_any o)) || p d
    else if p b then list_any p (name_if_any o) || p d else list_any p (name_if_any o) && p d)
two_of_run p a b d o = grind arith

-- more than one of two
pub two_of_two : (p : List ℕ → Bool) (a b : List ℕ) → nat_lt 1 (count_by p (a ∷ b ∷ [])) ≡ (p a && p b)
two_of_two p a b = grind (arith, nat_tests)

-- the matches and the faults of the command are given by its definition
pub monitor_is_simple : is_simple monitor_app ≡ true
unfolding monitor_app run_app check_app demo_app sources_app clap_on_literals
monitor_is_simple = refl

pub monitor_is_free : is_simple_and_free monitor_app ≡ true
unfolding monitor_app run_app check_app demo_app sources_app clap_on_literals
monitor_is_free = refl
