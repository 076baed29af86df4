-- What the class of a Word says of its text.
use Rattle.std.proofs.Common.{◌≡◌, ℕ, Bool, List, sym, arith}
use Rattle.std.proofs.lemmas.Slice.Eq.{bytes_eq-Decides}
use Rattle.std.specs.Prelude.{codes, cond}
use Rattle.mfotl_lex.specs.Lexemes.{Lexeme}
use Rattle.mfotl_parse.specs.declared.class.Class.{Class}
use Rattle.mfotl_parse.specs.declared.class.Class.TheVariants as classes
use Rattle.mfotl_parse.specs.Classes.{class_of, word_class, operator_class, temporal_class}

-- not of this class, so of the one below
below : (b : Bool) (c d : Class) → (c ≡ classes.Blank → ⊥) → cond b c d ≡ classes.Blank → d ≡ classes.Blank
below b c d differs e = grind arith

no_temporal : (word : List ℕ) → temporal_class word ≡ classes.Blank → ⊥
unfolding temporal_class
no_temporal word e = grind arith

no_operator : (word : List ℕ) → operator_class word ≡ classes.Blank → ⊥
unfolding operator_class
no_operator word e = grind (arith, no_temporal, below)

blank_word : (word : List ℕ) → word_class word ≡ classes.Blank → word ≡ codes "_"
unfolding word_class
blank_word word e = grind (arith, bytes_eq-Decides, no_operator, below)

-- `_` is the only Word of its class
pub blank_text : (t : Lexeme) → class_of t ≡ classes.Blank → codes "_" ≡ t.text
blank_text t e = sym (grind (arith, blank_word))
