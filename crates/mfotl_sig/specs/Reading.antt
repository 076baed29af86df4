-- Reading a signature token by token, up to the first fault.
use Rattle.std.specs.Prelude.{◌≡◌, ◌<◌, ℕ, List, [], ◌∷◌, ◌++◌, length, Option, Some, None, is_some, nat_le}
use Rattle.std.specs.Prelude.{if◌then◌else◌, Result, Ok, Err}
use Rattle.mfotl_lex.specs.declared.fault.LexFault.{LexFault}
use Rattle.mfotl_lex.specs.declared.kind.Kind.{Kind}
use Rattle.mfotl_lex.specs.declared.kind.Kind.TheVariants.{Word, OpenParen, CloseParen, Comma, Colon}
use Rattle.mfotl_lex.specs.FirstFault as layer
use Rattle.mfotl_lex.specs.FirstFault.{◌>>=◌, Tail, Broken, End, More}
use Rattle.mfotl_lex.specs.Lexemes.{Lexeme}
use Rattle.mfotl_model.specs.declared.policy.Sort.{Sort}
use Rattle.mfotl_sig.specs.declared.arguments.Stage.{Stage}
use Rattle.mfotl_sig.specs.declared.arguments.Stage.TheVariants.{AfterName, AfterOpen, AfterWord, AfterLabel}
use Rattle.mfotl_sig.specs.declared.arguments.Stage.TheVariants.{AfterSort, AfterComma}
use Rattle.mfotl_sig.specs.declared.fault.SigFault.{SigFault}
use Rattle.mfotl_sig.specs.declared.fault.SigFault.TheVariants.{Lex, Syntax, RepeatedName, UnknownSort, Arity, TooMany}
use Rattle.mfotl_sig.specs.Limits.{max_predicates, max_arguments}
use Rattle.mfotl_sig.specs.Preds.{PredOf, named, with_pred}
use Rattle.mfotl_sig.specs.Rules.{sort_of, text_of}

-- what was read of a predicate's arguments: the sorts of the whole ones, and the last token's place
pub record ArgumentsOf : Type 0 where
  pub sorts : List Sort
  pub stage : Stage

-- arguments that go on, or the sorts of all of them, which a `)` has ended
pub data ProgressOf : Type 0 where
  Open : ArgumentsOf → ProgressOf
  Closed : List Sort → ProgressOf

-- a predicate of which a part was read
pub record DraftOf : Type 0 where
  pub name : List ℕ
  pub arguments : ArgumentsOf

-- whole predicates, and a part of the one behind them
pub record Partial : Type 0 where
  pub done : List PredOf
  pub draft : Option DraftOf

-- the grammar can't go on with the token
abbrev pub syntax_at : {A : Type 0} → Lexeme → Result A SigFault
syntax_at t = Err (Syntax t.at)

-- the arguments go on with a token of this place
abbrev pub arguments_open : List Sort → Stage → Result ProgressOf SigFault
arguments_open sorts stage = Ok (Open (record { sorts = sorts; stage = stage }))

-- a Word, which a `:` may make a label
abbrev pub word_stage : Lexeme → Stage
word_stage t = AfterWord (sort_of t.text) t.at

-- one more argument, whose sort's Word stands at the offset
abbrev pub with_argument_sort : List Sort → Option Sort → ℕ → Result (List Sort) SigFault
with_argument_sort sorts (Some sort) at = Ok (sorts ++ sort ∷ [])
with_argument_sort sorts None at = Err (UnknownSort at)

-- behind a name stands a `(`
abbrev pub after_name : List Sort → Lexeme → Kind → Result ProgressOf SigFault
after_name sorts t OpenParen = arguments_open sorts AfterOpen
after_name sorts t _ = syntax_at t

-- behind a `(` the first argument, or a `)`
abbrev pub after_open : List Sort → Lexeme → Kind → Result ProgressOf SigFault
after_open sorts t Word = arguments_open sorts (word_stage t)
after_open sorts t CloseParen = Ok (Closed sorts)
after_open sorts t _ = syntax_at t

-- a Word is a label where a `:` follows; else it is the sort, and its fault is shown only now
abbrev pub after_word : List Sort → Option Sort → ℕ → Lexeme → Kind → Result ProgressOf SigFault
after_word sorts sort at t Colon = arguments_open sorts AfterLabel
after_word sorts sort at t Comma = with_argument_sort sorts sort at >>= λ more. arguments_open more AfterComma
after_word sorts sort at t CloseParen = with_argument_sort sorts sort at >>= λ more. Ok (Closed more)
after_word sorts sort at t _ = syntax_at t

-- behind a label the Word of the sort
abbrev pub after_label : List Sort → Lexeme → Kind → Result ProgressOf SigFault
after_label sorts t Word = with_argument_sort sorts (sort_of t.text) t.at >>= λ more. arguments_open more AfterSort
after_label sorts t _ = syntax_at t

-- behind a labelled argument a comma or a `)`
abbrev pub after_sort : List Sort → Lexeme → Kind → Result ProgressOf SigFault
after_sort sorts t Comma = arguments_open sorts AfterComma
after_sort sorts t CloseParen = Ok (Closed sorts)
after_sort sorts t _ = syntax_at t

-- behind a comma the next argument, if there is room for it
abbrev pub after_comma : List Sort → Lexeme → Kind → Result ProgressOf SigFault
after_comma sorts t Word =
    if nat_le max_arguments (length sorts) then Err (Arity t.at) else arguments_open sorts (word_stage t)
after_comma sorts t _ = syntax_at t

-- what the next token, of this kind, makes of arguments
abbrev pub stage_step : List Sort → Lexeme → Stage → Kind → Result ProgressOf SigFault
stage_step sorts t AfterName kind = after_name sorts t kind
stage_step sorts t AfterOpen kind = after_open sorts t kind
stage_step sorts t (AfterWord sort at) kind = after_word sorts sort at t kind
stage_step sorts t AfterLabel kind = after_label sorts t kind
stage_step sorts t AfterSort kind = after_sort sorts t kind
stage_step sorts t AfterComma kind = after_comma sorts t kind

-- and by its own kind
abbrev pub arguments_step : ArgumentsOf → Lexeme → Result ProgressOf SigFault
arguments_step a t = stage_step a.sorts t a.stage t.kind

-- a predicate's name, where one may stand
abbrev pub begins : List PredOf → Lexeme → Kind → Result Partial SigFault
begins done t Word =
    if is_some (named t.text done) then Err (RepeatedName t.at)
    else if nat_le max_predicates (length done) then Err (TooMany t.at)
    else Ok (record {
      done = done;
      draft = Some (record { name = t.text; arguments = record { sorts = []; stage = AfterName } });
    })
begins done t _ = syntax_at t

-- a predicate that a `)` has ended is the last one
abbrev pub with_progress : List PredOf → List ℕ → ProgressOf → Partial
with_progress done name (Open arguments) =
    record { done = done; draft = Some (record { name = name; arguments = arguments }) }
with_progress done name (Closed sorts) = record { done = with_pred done name sorts; draft = None }

-- a token within a predicate, or a name
abbrev pub step_from : List PredOf → Option DraftOf → Lexeme → Result Partial SigFault
step_from done None t = begins done t t.kind
step_from done (Some p) t = arguments_step p.arguments t >>= λ progress. Ok (with_progress done p.name progress)

-- what the next token makes of what was read
unfoldable pub step : Partial → Lexeme → Result Partial SigFault
step p t = step_from p.done p.draft t

-- the input's end stands at the offset `end`: between two predicates, or too early
abbrev pub at_end : ℕ → List PredOf → Option DraftOf → Result (List PredOf) SigFault
at_end end done None = Ok done
at_end end done (Some p) = Err (Syntax end)

-- behind the whole tokens: a fault of the lexer, the end, or the predicates so far where more may come
abbrev pub at_tail : Tail LexFault → Partial → Result (List PredOf) SigFault
at_tail (Broken fault) p = Err (Lex fault)
at_tail (End end) p = at_end end p.done p.draft
at_tail More p = Ok p.done

-- what was read stands, where no fault of the lexer is behind the tokens
abbrev pub unbroken : Tail LexFault → Partial → Result Partial SigFault
unbroken (Broken fault) p = Err (Lex fault)
unbroken _ p = Ok p

-- what all tokens of a text make of what was read
unfoldable pub tokens_read : List ℕ → Partial → Result Partial SigFault
tokens_read bytes p = layer.reading step p unbroken (text_of bytes)

-- no token was read
abbrev pub nothing_read : Partial
nothing_read = record { done = []; draft = None }

-- the predicates of a text, or its first fault
unfoldable pub reading : List ℕ → Result (List PredOf) SigFault
reading bytes = layer.reading step nothing_read at_tail (text_of bytes)

-- the name of an open predicate is new, and there is room for it
abbrev pub HasNewName : List PredOf → Option DraftOf → Type 0
HasNewName done None = Unit {0}
HasNewName done (Some p) = (named p.name done ≡ None) × (length done < max_predicates)
