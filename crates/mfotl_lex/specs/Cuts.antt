-- Texts and the tokens that they are cut into, in brief.
use Rattle.std.specs.Prelude.{◌≡◌, ℕ, List, length, map, Option, Some, None}
use Rattle.mfotl_lex.specs.declared.fault.LexFault.{LexFault}
use Rattle.mfotl_lex.specs.declared.fault.LexFaultKind.{LexFaultKind}
use Rattle.mfotl_lex.specs.declared.kind.Kind.{Kind}
use Rattle.mfotl_lex.specs.declared.kind.Mode.{Mode}
use Rattle.mfotl_lex.specs.Lexemes.{Lexeme, tokens}
use Rattle.mfotl_lex.specs.Places.{beginning}

-- a token by its kind, its offset and how many bytes it has
pub record Brief : Type 0 where
  pub kind : Kind
  pub at : ℕ
  pub len : ℕ

-- the tokens of a text, and the fault behind them
pub record Cut : Type 0 where
  pub list : List Brief
  pub fault : Option LexFault

-- a text, and how it is cut
abbrev pub Worked : Type 0
Worked = List ℕ × Cut

-- so it is cut
abbrev pub cut : Mode → List ℕ → Cut
cut mode bytes = record {
  list =
      map (λ (t : Lexeme). record {
        kind = t.kind;
        at = t.at;
        len = length t.text;
      }) (tokens (beginning mode bytes)).list;
  fault = (tokens (beginning mode bytes)).fault;
}

-- each text is cut as worked out
abbrev pub TextsAreCut : Mode → List Worked → Type 0
TextsAreCut mode texts = map (λ (w : Worked). cut mode w.0) texts ≡ map (λ (w : Worked). w.1) texts

-- a token of these bytes
abbrev pub token : Kind → ℕ → ℕ → Brief
token kind at len = record { kind = kind; at = at; len = len }

-- tokens and no fault
abbrev pub whole : List Brief → Cut
whole list = record { list = list; fault = None }

-- tokens and a fault behind them
abbrev pub stops : List Brief → LexFaultKind → ℕ → Cut
stops list kind at = record { list = list; fault = Some (record { kind = kind; at = at }) }
