-- What follows of a reader that owes what `FollowsGrammar` says.
use Rattle.std.proofs.Common.{◌≡◌, ◌⊎◌, inl, inr, List, [], ◌∷◌, ◌++◌, Result, Ok, Err, refl, sym, ap, ◌∙◌, arith}
use Rattle.std.proofs.lemmas.List.{append-nil, append_assoc}
use Rattle.mfotl_lex.specs.FirstFault.{◌>>=◌, Tail, Text, run, StopsAt, reading, ShowNone, ShownByToken, IsFirst}
use Rattle.mfotl_lex.specs.FirstFault.{FollowsGrammar, ExactSoundness, ExactFaults, ReadIsValue, ValueIsRead, HasValue}
use Rattle.mfotl_lex.specs.FirstFault.{HasFault, OneAnswer}

pub bind_ok : {A B E : Type 0} (r : Result A E) (f : A → Result B E) (y : B) → (r >>= f) ≡ Ok y
    → (x : A) × (r ≡ Ok x) × (f x ≡ Ok y)
bind_ok (Ok x) f y e = (x, refl, e)
bind_ok (Err fault) f y e = absurd cc

pub bind_assoc : {A B C E : Type 0} (r : Result A E) (f : A → Result B E) (g : B → Result C E)
    → ((r >>= f) >>= g) ≡ (r >>= λ x. f x >>= g)
bind_assoc (Ok x) f g = refl
bind_assoc (Err fault) f g = refl

pub bind_same : {A B E : Type 0} (r : Result A E) (f g : A → Result B E) → ((x : A) → f x ≡ g x) → (r >>= f) ≡ (r >>= g)
bind_same (Ok x) f g same = same x
bind_same (Err fault) f g same = refl

module _ {S T E : Type 0} (step : S → T → Result S E) where
  -- one token, where it shows no fault, and where it does
  pub run_token : (t : T) (ts : List T) (s q : S) → step s t ≡ Ok q → run step (t ∷ ts) s ≡ run step ts q
  unfolding run
  run_token t ts s q e = ap (λ r. r >>= λ x. run step ts x) e

  pub run_fault : (t : T) (ts : List T) (s : S) (fault : E) → step s t ≡ Err fault → run step (t ∷ ts) s ≡ Err fault
  unfolding run
  run_fault t ts s fault e = ap (λ r. r >>= λ x. run step ts x) e

  pub run_none : (s : S) → run step [] s ≡ Ok s
  unfolding run
  run_none s = refl

  -- one list of tokens, and then another
  pub run-append : (front back : List T) (s : S)
      → run step (front ++ back) s ≡ (run step front s >>= λ q. run step back q)
  unfolding run
  run-append [] back s = refl
  run-append (t ∷ front) back s =
      bind_same (step s t) _ _ (λ q. run-append front back q)
      ∙ sym (bind_assoc (step s t) (λ q. run step front q) (λ q. run step back q))

  -- tokens behind some that show no fault
  pub run_behind : (front back : List T) (s q : S) → run step front s ≡ Ok q
      → run step (front ++ back) s ≡ run step back q
  run_behind front back s q e = run-append front back s ∙ ap (λ r. r >>= λ x. run step back x) e

  -- a fault that tokens show stays, whatever stands behind them
  pub fault_stays : (front back : List T) (s : S) (fault : E) → run step front s ≡ Err fault
      → run step (front ++ back) s ≡ Err fault
  fault_stays front back s fault e = run-append front back s ∙ ap (λ r. r >>= λ x. run step back x) e

  -- tokens that show no fault have no front that shows one
  pub sound_front : (front back : List T) (s q : S) → run step (front ++ back) s ≡ Ok q
      → (p : S) × (run step front s ≡ Ok p) × (run step back p ≡ Ok q)
  sound_front front back s q e = grind (arith, bind_ok, run-append)

  -- what each step keeps holds behind a run
  pub holds_behind : (Holds : List T → S → Type 0)
      → ((front : List T) (s q : S) (t : T) → Holds front s → step s t ≡ Ok q → Holds (front ++ t ∷ []) q)
      → (front ts : List T) (s q : S) → Holds front s → run step ts s ≡ Ok q → Holds (front ++ ts) q
  unfolding run
  holds_behind Holds keeps front [] s q holds e = grind (arith, append-nil)
  holds_behind Holds keeps front (t ∷ ts) s q holds e =
      let first = bind_ok (step s t) (λ x. run step ts x) q e in
      rw append_assoc at
      (holds_behind Holds keeps (front ++ t ∷ []) ts first.0 q (keeps front s first.0 t holds first.1) first.2)

  -- the token that shows a fault stops the run, whatever stands behind it
  pub stops : (s : S) (ts : List T) (fault : E) → StopsAt step s ts fault → run step ts s ≡ Err fault
  stops s ts fault x =
      cc (run_behind x.front (x.token ∷ x.back) s x.read x.sound, run_fault x.token x.back x.read fault x.stop)

  stopped_by : (s : S) (t : T) (ts : List T) (fault : E) (r : Result S E) → step s t ≡ r
      → ((q : S) → run step ts q ≡ Err fault → StopsAt step q ts fault) → (r >>= λ q. run step ts q) ≡ Err fault
      → StopsAt step s (t ∷ ts) fault
  stopped_by s t ts fault (Ok q) e later f =
      let x = later q f in
      record {
        front = t ∷ x.front;
        token = x.token;
        back = x.back;
        read = x.read;
        parts = ap (λ us. t ∷ us) x.parts;
        sound = run_token t x.front s q e ∙ x.sound;
        stop = x.stop;
      }
  stopped_by s t ts fault (Err other) e later f = grind (arith, run_none s)

  -- a run that shows a fault has a token that shows it
  pub stopped : (s : S) (ts : List T) (fault : E) → run step ts s ≡ Err fault → StopsAt step s ts fault
  unfolding run
  stopped s [] fault e = absurd cc
  stopped s (t ∷ ts) fault e = stopped_by s t ts fault (step s t) refl (λ q f. stopped q ts fault f) e

module _ {S T L E V : Type 0} (step : S → T → Result S E) (start : S) (at_tail : Tail L → S → Result V E)
    (IsViable : List T → Type 0) (IsCause : List T → T → E → Type 0) (IsLast : List T → Tail L → E → Type 0)
    (follows : FollowsGrammar step start at_tail IsViable IsCause IsLast) where
  -- tokens that show no fault are no cause of one
  pub sound_clear : (ts : List T) (s : S) → run step ts start ≡ Ok s → ShowNone IsViable IsCause ts
  sound_clear ts s e front t back fault parts cause =
      let first = sound_front step front (t ∷ back) start s (ap (λ us. run step us start) (sym parts) ∙ e) in
      let stop = (follows.token front first.0 t fault first.1).1 cause in
      let other = run_fault step t back first.0 fault stop in
      absurd (cc (other, first.2))

  clear_so : (ts : List T) (r : Result S E) → run step ts start ≡ r → ShowNone IsViable IsCause ts
      → (s : S) × (run step ts start ≡ Ok s)
  clear_so ts (Ok s) e clear = (s, e)
  clear_so ts (Err fault) e clear =
      let x = stopped step start ts fault e in
      absurd
      (clear x.front x.token x.back fault x.parts ((follows.token x.front x.read x.token fault x.sound).0 x.stop))

  -- tokens that are no cause of a fault show none
  pub clear_sound : (ts : List T) → ShowNone IsViable IsCause ts → (s : S) × (run step ts start ≡ Ok s)
  clear_sound ts clear = clear_so ts (run step ts start) refl clear

  pub exact_soundness : ExactSoundness step start at_tail IsViable IsCause IsLast
  exact_soundness ts = (λ (s, e). sound_clear ts s e, λ clear. clear_sound ts clear)

  -- the token that stops a run is the first that shows a fault
  pub stop_shown : (ts : List T) (fault : E) → StopsAt step start ts fault → ShownByToken IsViable IsCause ts fault
  stop_shown ts fault x = grind (arith, sound_clear)

  shown_stop : (ts : List T) (fault : E) → ShownByToken IsViable IsCause ts fault → StopsAt step start ts fault
  shown_stop ts fault x = grind (arith, clear_sound)

  shown : (x : Text T L) (fault : E) (r : Result S E) → run step x.list start ≡ r
      → (r >>= λ s. at_tail x.tail s) ≡ Err fault → IsFirst IsViable IsCause IsLast x fault
  shown x fault (Ok s) e f = grind (arith, sound_clear)
  shown x fault (Err other) e f = inl (stop_shown x.list fault (stopped step start x.list fault (e ∙ cc f)))

  shows : (x : Text T L) (fault : E) → IsFirst IsViable IsCause IsLast x fault
      → reading step start at_tail x ≡ Err fault
  unfolding reading
  shows x fault (inl v) = rw (stops step start x.list fault (shown_stop x.list fault v))
  shows x fault (inr v) = grind (arith, clear_sound)

  pub exact_faults : ExactFaults step start at_tail IsViable IsCause IsLast
  unfolding reading
  exact_faults x fault = (λ e. shown x fault (run step x.list start) refl e, λ v. shows x fault v)

module _ {X V E : Type 0} (answer : X → Result V E) (IsValue : X → V → Type 0)
    (read : ReadIsValue answer IsValue) (value : ValueIsRead answer IsValue) where
  answered : (x : X) (r : Result V E) → answer x ≡ r → HasValue answer IsValue x ⊎ HasFault answer IsValue x
  answered x (Ok v) e =
      inl (record {
        value = v;
        is_value = read x v e;
        only = λ other is. cc (e, value x other is);
        sound = λ fault f. cc (e, f);
      })
  answered x (Err fault) e = grind arith

  pub one_answer : OneAnswer answer IsValue
  one_answer x = answered x (answer x) refl
