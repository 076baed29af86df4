-- Reading tokens from left to right up to the first fault: what is the same of every reader. A reader is
-- a step, which makes of what was read and the next token what is read then, or the fault that the token
-- shows, and what it makes of what stands behind the tokens.
use Rattle.std.specs.Prelude.{◌≡◌, ◌↔◌, ◌⊎◌, ℕ, List, [], ◌∷◌, ◌++◌, Result, Ok, Err}

infixl 10 ◌>>=◌
-- a value goes on, a fault stays
abbrev pub ◌>>=◌ : {A B E : Type 0} → Result A E → (A → Result B E) → Result B E
(Ok x) >>= f = f x
(Err fault) >>= f = Err fault

-- what stands behind the whole tokens of a text
pub data Tail (L : Type 0) : Type 0 where
  -- bytes that show a fault by themselves
  Broken : L → Tail L
  -- the text's end, at this offset
  End : ℕ → Tail L
  -- nothing that is shown: more bytes may come
  More : Tail L

-- the whole tokens of a text, and what stands behind them
pub record Text (T L : Type 0) : Type 0 where
  pub list : List T
  pub tail : Tail L

module _ {S T E : Type 0} (step : S → T → Result S E) where
  -- what tokens make of what was read, up to the first fault
  unfoldable pub run : List T → S → Result S E
  run [] s = Ok s
  run (t ∷ ts) s = step s t >>= λ q. run ts q

  -- tokens that show no fault, and then one that does
  pub record StopsAt (s : S) (ts : List T) (fault : E) : Type 0 where
    pub front : List T
    pub token : T
    pub back : List T
    pub read : S
    pub parts : ts ≡ front ++ token ∷ back
    pub sound : run front s ≡ Ok read
    pub stop : step read token ≡ Err fault

-- what follows a step that shows no fault
abbrev pub if_sound : {S E O : Type 0} → Result S E → (S → List O) → List O
if_sound (Ok s) more = more s
if_sound (Err fault) more = []

module _ {S T E O : Type 0} (step : S → T → Result S E) (gives : S → T → List O) where
  -- what a reader gives on its way: for each token up to the one that shows a fault, this one too, and then
  -- what `last` gives behind tokens that show none
  unfoldable pub given : (S → List O) → List T → S → List O
  given last [] s = last s
  given last (t ∷ ts) s = gives s t ++ if_sound (step s t) (λ q. given last ts q)

module _ {S T L E V : Type 0} (step : S → T → Result S E) (start : S) (at_tail : Tail L → S → Result V E) where
  -- the value of a text, or its first fault
  unfoldable pub reading : Text T L → Result V E
  reading x = run step x.list start >>= λ s. at_tail x.tail s

module _ {T : Type 0} (IsAccepted : List T → Type 0) where
  -- the grammar goes on behind the tokens
  abbrev pub IsViable : List T → Type 0
  IsViable ts = (more : List T) × IsAccepted (ts ++ more)

module _ {T : Type 0} (IsViable : List T → Type 0) (at : T → ℕ) where
  -- the token ends viability behind the front: Syntax stands at it
  pub record EndsViability (front : List T) (token : T) (place : ℕ) : Type 0 where
    pub ends : IsViable (front ++ token ∷ []) → ⊥
    pub stands : place ≡ at token

module _ {T L : Type 0} (IsAccepted : List T → Type 0) where
  -- the text ends behind tokens that the grammar doesn't accept: Syntax stands at the end
  pub record EndsTooEarly (ts : List T) (tail : Tail L) (place : ℕ) : Type 0 where
    pub unaccepted : IsAccepted ts → ⊥
    pub stands : tail ≡ End place

-- Here a reader's faults are told in the words of its grammar: `IsViable` of tokens with which it can go on,
-- `IsCause front t fault` where the token t shows the fault behind the front, and `IsLast ts tail fault` where
-- what stands behind the tokens shows it.
module _ {T E : Type 0} (IsViable : List T → Type 0) (IsCause : List T → T → E → Type 0) where
  -- no token shows a fault
  abbrev pub ShowNone : List T → Type 0
  ShowNone ts =
      (front : List T) (t : T) (back : List T) (fault : E) → ts ≡ front ++ t ∷ back → IsCause front t fault → ⊥

  -- the first token that shows a fault: those before it are viable and show none
  pub record ShownByToken (ts : List T) (fault : E) : Type 0 where
    pub front : List T
    pub token : T
    pub back : List T
    pub parts : ts ≡ front ++ token ∷ back
    pub viable : IsViable front
    pub clear : ShowNone front
    pub cause : IsCause front token fault

  module _ {L : Type 0} (IsLast : List T → Tail L → E → Type 0) where
    -- what stands behind the tokens, which are viable and show none
    pub record ShownByTail (x : Text T L) (fault : E) : Type 0 where
      pub viable : IsViable x.list
      pub clear : ShowNone x.list
      pub cause : IsLast x.list x.tail fault

    -- the fault that is shown first
    abbrev pub IsFirst : Text T L → E → Type 0
    IsFirst x fault = ShownByToken x.list fault ⊎ ShownByTail x fault

module _ {S T L E V : Type 0} (step : S → T → Result S E) (start : S) (at_tail : Tail L → S → Result V E)
    (IsViable : List T → Type 0) (IsCause : List T → T → E → Type 0) (IsLast : List T → Tail L → E → Type 0) where
  -- What a reader owes: behind tokens that show no fault, each token and what stands behind all of them show
  -- just the fault of which they are the cause; and such tokens are viable.
  pub record FollowsGrammar : Type 0 where
    pub viable : (ts : List T) (s : S) → run step ts start ≡ Ok s → IsViable ts
    pub token : (front : List T) (s : S) (t : T) (fault : E) → run step front start ≡ Ok s
        → (step s t ≡ Err fault) ↔ IsCause front t fault
    pub tail : (ts : List T) (s : S) (tail : Tail L) (fault : E) → run step ts start ≡ Ok s
        → (at_tail tail s ≡ Err fault) ↔ IsLast ts tail fault

  -- the reader shows no fault exactly where no token is the cause of one
  abbrev pub ExactSoundness : Type 0
  ExactSoundness = (ts : List T) → ((s : S) × (run step ts start ≡ Ok s)) ↔ ShowNone IsViable IsCause ts

  -- each fault is told exactly where it is the first that is shown
  abbrev pub ExactFaults : Type 0
  ExactFaults = (x : Text T L) (fault : E)
      → (reading step start at_tail x ≡ Err fault) ↔ IsFirst IsViable IsCause IsLast x fault

-- ---- values and faults

module _ {X V E : Type 0} (answer : X → Result V E) (IsValue : X → V → Type 0) where
  -- what is read is a value
  abbrev pub ReadIsValue : Type 0
  ReadIsValue = (x : X) (v : V) → answer x ≡ Ok v → IsValue x v

  -- a value is read
  abbrev pub ValueIsRead : Type 0
  ValueIsRead = (x : X) (v : V) → IsValue x v → answer x ≡ Ok v

  -- the text has one value, and no fault
  pub record HasValue (x : X) : Type 0 where
    pub value : V
    pub is_value : IsValue x value
    pub only : (other : V) → IsValue x other → other ≡ value
    pub sound : (fault : E) → answer x ≡ Err fault → ⊥

  -- the text has one first fault, and no value
  pub record HasFault (x : X) : Type 0 where
    pub fault : E
    pub first : answer x ≡ Err fault
    pub only : (other : E) → answer x ≡ Err other → other ≡ fault
    pub worthless : (v : V) → IsValue x v → ⊥

  -- each text has exactly one of the two
  abbrev pub OneAnswer : Type 0
  OneAnswer = (x : X) → HasValue x ⊎ HasFault x
