-- The grammar of a change script, from left to right:
--     script := | script "before" Integer strategy
-- The Integer isn't negative.
use Rattle.std.specs.Prelude.{◌≡◌, ℕ, pos, Bool, true, false, List, [], ◌∷◌, ◌++◌, int_lt, codes}
use Rattle.std.specs.Str.{bytes_eq}
use Rattle.mfotl_lex.specs.declared.kind.Kind.{Kind}
use Rattle.mfotl_lex.specs.declared.kind.Kind.TheVariants.{Word, Integer}
use Rattle.mfotl_lex.specs.FirstFault as layer
use Rattle.mfotl_lex.specs.Lexemes.{Lexeme}
use Rattle.slice_strategy.specs.Grammar.{Entries, Fits, spell}
use Rattle.slice_strategy.specs.Rules.{number}

-- whole changes, one behind the other: each is a Word `before`, a number and entries
pub data Script : Type 0 where
  NoChange : Script
  Change : Script → Lexeme → Lexeme → Entries → Script

-- whether a token is the Word `before`
abbrev pub is_before : Kind → List ℕ → Bool
is_before Word text = bytes_eq text (codes "before")
is_before _ text = false

-- the same as a fact
abbrev pub IsBefore : Lexeme → Type 0
IsBefore t = is_before t.kind t.text ≡ true

-- an Integer that isn't negative
abbrev pub IsNumber : Lexeme → Type 0
IsNumber t = (t.kind ≡ Integer) × (int_lt (number t) (pos 0) ≡ false)

-- the tokens are of the kinds that the grammar asks for
abbrev pub FitsScript : Script → Type 0
FitsScript NoChange = Unit {0}
FitsScript (Change s word n es) = FitsScript s × IsBefore word × IsNumber n × Fits es

-- the tokens
abbrev pub spell_script : Script → List Lexeme
spell_script NoChange = []
spell_script (Change s word n es) = ((spell_script s ++ word ∷ []) ++ n ∷ []) ++ spell [] es

-- the tokens are these changes
pub record SpellsScript (ts : List Lexeme) (s : Script) : Type 0 where
  pub fits : FitsScript s
  pub spelled : ts ≡ spell_script s

-- the grammar accepts the tokens, the other rules apart
abbrev pub IsScript : List Lexeme → Type 0
IsScript ts = (s : Script) × SpellsScript ts s

-- the tokens can go on to some that the grammar accepts
abbrev pub IsViableScript : List Lexeme → Type 0
IsViableScript ts = layer.IsViable IsScript ts
