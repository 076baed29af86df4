-- The time-points that tokens give are those of their completed fronts.
use Rattle.std.proofs.Common.{◌≡◌, ◌⊎◌, inl, inr, ℕ, Bool, true, false, List, [], ◌∷◌, ◌++◌, Result, Ok, Err, refl, sym}
use Rattle.std.proofs.Common.{ap, subst, ◌∙◌, append_assoc}
use Rattle.std.proofs.lemmas.Bool.{and_parts}
use Rattle.mfotl_lex.specs.{FirstFault.Tail, Lexemes.Lexeme}
use Rattle.mfotl_model.specs.declared.event.TimePoint.{TimePoint}
use Rattle.mfotl_sig.specs.Preds.{PredOf}
use Rattle.log_reader.specs.declared.{fault.LogFault.LogFault, limits.Limits.Limits, stage.Stage.Stage}
use Rattle.log_reader.specs.declared.stage.Stage.TheVariants.{Between, AfterStamp, AfterClose}
use Rattle.log_reader.specs.{CompletedPoints.Closes, Grammar.symbols_of, Partials.Partial, Partials.point_of}
use Rattle.log_reader.specs.{Stages.is_whole, Stages.completes, Steps.step, Steps.completed, Symbols.symbol}
use Rattle.log_reader.specs.{Symbols.ends_point}
use Rattle.log_reader.specs.Readings.{Reading, Ending, behind, went_on, run, finish_at}
use Rattle.log_reader.proofs.{LogJudging.last, LogJudging.whole_finish, LogLaws.whole, StepStages.completed_none}
use Rattle.log_reader.proofs.{StepStages.completed_one}

-- ---- lists

no_points : (a b : List TimePoint) → [] ≡ a ++ b → a ≡ []
no_points [] b e = refl
no_points (x ∷ a) b e = absurd cc

one_point : (point : TimePoint) (a b : List TimePoint) → point ∷ [] ≡ a ++ b → (a ≡ []) ⊎ (a ≡ point ∷ [])
one_point point [] b e = inl refl
one_point point (x ∷ a) b e =
    let none : a ≡ [] = no_points a b cc in
    inr cc

-- ---- the end of tokens that are all there are

-- what is given at an end without a fault
finish_gives : (len : ℕ) (p : Partial) (s : Stage) (points : List TimePoint) → finish_at len p s ≡ whole points
    → (points ≡ []) ⊎ ((points ≡ point_of p ∷ []) × (is_whole s ≡ true))
finish_gives len p Between points e = inl (ap (λ (r : Reading). r.points) (sym e))
finish_gives len p AfterStamp points e = inr (ap (λ (r : Reading). r.points) (sym e), refl)
finish_gives len p AfterClose points e = inr (ap (λ (r : Reading). r.points) (sym e), refl)
finish_gives len p _ points e = absurd (let ending = ap (λ (r : Reading). r.ending) e in cc)

-- behind tokens that are not all there are, at most the present time-point is given, and where it is completed
abbrev pub GivesAtMost : ℕ → (Partial → Reading) → Tail LogFault → Partial → Type 0
GivesAtMost len last tail p =
    ((last p).points ≡ []) ⊎ (((last p).points ≡ point_of p ∷ []) × (is_whole p.stage ≡ true) × Closes [] tail)

-- where the end is, the present time-point is given if it is whole
abbrev pub GivesAtEnd : (Partial → Reading) → Tail LogFault → Partial → Type 0
GivesAtEnd last tail p = Closes [] tail → is_whole p.stage ≡ true → (last p).points ≡ point_of p ∷ []

module _ (sig : List PredOf) (limits : Limits) (len : ℕ) (ends : Partial → Reading) (tail : Tail LogFault) where
  -- the reading of tokens that are all there are
  abbrev pub fin : Partial → List Lexeme → Reading
  fin p ts = run sig limits (last sig limits len) p ts

  -- a front that is completed gives these time-points
  pub record Front (p : Partial) (ts : List Lexeme) (points : List TimePoint) : Type 0 where
    pub front : List Lexeme
    pub back : List Lexeme
    pub parts : ts ≡ front ++ back
    pub reads : fin p front ≡ whole points
    pub closed : Closes (symbols_of back) tail

  -- ---- each time-point that is given is completed

  -- the present time-point is completed here
  front_here : (p : Partial) (ts : List Lexeme) → is_whole p.stage ≡ true → Closes (symbols_of ts) tail
      → Front p ts (point_of p ∷ [])
  unfolding run
  front_here p ts is closed = record {
    front = [];
    back = ts;
    parts = refl;
    reads = whole_finish sig limits len p p.stage is;
    closed = closed;
  }

  -- a token that shows no fault, in front
  front_more : (p q : Partial) (t : Lexeme) (ts : List Lexeme) (here points : List TimePoint) → completed p t ≡ here
      → step sig limits p t ≡ Ok q → Front q ts points → Front p (t ∷ ts) (here ++ points)
  unfolding run
  front_more p q t ts here points gives e f = record {
    front = t ∷ f.front;
    back = f.back;
    parts = ap (λ (us : List Lexeme). t ∷ us) f.parts;
    reads = rw (gives, e, f.reads);
    closed = f.closed;
  }

  abbrev pub Found : Partial → List Lexeme → List TimePoint → Type 0
  Found p ts a = (a ≡ []) ⊎ Front p ts a

  module _ (gives : (p : Partial) → GivesAtMost len ends tail p) where
    at_end : (p : Partial) (a b : List TimePoint) → (ends p).points ≡ a ++ b → Found p [] a
    at_end p a b e = elim (gives p) [
      | inl none ↦ inl (no_points a b (sym none ∙ e))
      | inr one ↦ elim (one_point (point_of p) a b (sym one.0 ∙ e)) [
        | inl none ↦ inl none
        | inr same ↦ inr (subst (Front p []) (sym same) (front_here p [] one.1 one.2))
      ]
    ]

    abbrev pub Later : List Lexeme → Type 0
    Later ts = (q : Partial) (a b : List TimePoint) → (run sig limits ends q ts).points ≡ a ++ b → Found q ts a

    -- a token that completes nothing
    pass : (p : Partial) (t : Lexeme) (ts : List Lexeme) (a b : List TimePoint) (r : Result Partial LogFault)
        → step sig limits p t ≡ r → completed p t ≡ [] → (went_on r (λ q. run sig limits ends q ts)).points ≡ a ++ b
        → Later ts → Found p (t ∷ ts) a
    pass p t ts a b (Err fault) s none e later = inl (no_points a b e)
    pass p t ts a b (Ok q) s none e later = elim (later q a b e) [
      | inl nothing ↦ inl nothing
      | inr f ↦ inr (front_more p q t ts [] a none s f)
    ]

    -- a token that completes the present time-point
    complete : (p : Partial) (t : Lexeme) (ts : List Lexeme) (a b : List TimePoint) (r : Result Partial LogFault)
        → step sig limits p t ≡ r → completed p t ≡ point_of p ∷ [] → is_whole p.stage ≡ true
        → ends_point (symbol t) ≡ true
        → point_of p ∷ (went_on r (λ q. run sig limits ends q ts)).points ≡ a ++ b → Later ts → Found p (t ∷ ts) a
    complete p t ts [] b r s one is closes e later = inl refl
    complete p t ts (x ∷ a) b (Err fault) s one is closes e later =
        let none : a ≡ [] = no_points a b cc in
        let here : point_of p ∷ [] ≡ x ∷ a = cc in
        inr (subst (Front p (t ∷ ts)) here (front_here p (t ∷ ts) is closes))
    complete p t ts (x ∷ a) b (Ok q) s one is closes e later =
        let same : point_of p ≡ x = cc in
        let rest : (run sig limits ends q ts).points ≡ a ++ b = cc in
        elim (later q a b rest) [
          | inl none ↦
              let here : point_of p ∷ [] ≡ x ∷ a = cc in
              inr (subst (Front p (t ∷ ts)) here (front_here p (t ∷ ts) is closes))
          | inr f ↦ inr (subst (λ (y : TimePoint). Front p (t ∷ ts) (y ∷ a)) same
              (front_more p q t ts (point_of p ∷ []) a one s f))
        ]

    by_token : (p : Partial) (t : Lexeme) (ts : List Lexeme) (a b : List TimePoint) (c : Bool)
        → completes p.stage (symbol t) ≡ c
        → completed p t ++ (went_on (step sig limits p t) (λ q. run sig limits ends q ts)).points ≡ a ++ b → Later ts
        → Found p (t ∷ ts) a
    by_token p t ts a b true c e later =
        let why = and_parts (is_whole p.stage) (ends_point (symbol t)) c in
        complete p t ts a b (step sig limits p t) refl (completed_one p t c) why.0 why.1
        (rw (completed_one p t c) at e) later
    by_token p t ts a b false c e later =
        pass p t ts a b (step sig limits p t) refl (completed_none p t c) (rw (completed_none p t c) at e) later

    pub fronts : (ts : List Lexeme) (p : Partial) (a b : List TimePoint) → (run sig limits ends p ts).points ≡ a ++ b
        → Found p ts a
    unfolding run
    fronts [] p a b e = at_end p a b e
    fronts (t ∷ ts) p a b e = by_token p t ts a b (completes p.stage (symbol t)) refl e (λ q a b e. fronts ts q a b e)

  -- ---- each time-point that is completed is given

  -- the reading begins with these
  abbrev pub Begins : Partial → List Lexeme → List TimePoint → Type 0
  Begins p ts points = (more : List TimePoint) × ((run sig limits ends p ts).points ≡ points ++ more)

  module _ (gives : (p : Partial) → GivesAtEnd ends tail p) where
    -- the present time-point is completed by what follows
    point_given : (p : Partial) (back : List Lexeme) → is_whole p.stage ≡ true → Closes (symbols_of back) tail
        → Begins p back (point_of p ∷ [])
    unfolding run
    point_given p [] is closed = ([], gives p closed is)
    point_given p (t ∷ back) is closed =
        let c : completes p.stage (symbol t) ≡ true = rw (is, closed) refl in
        let rest = (went_on (step sig limits p t) (λ q. run sig limits ends q back)).points in
        (rest, ap (λ (ps : List TimePoint). ps ++ rest) (completed_one p t c))

    begin_here : (p : Partial) (back : List Lexeme) (points : List TimePoint) → finish_at len p p.stage ≡ whole points
        → Closes (symbols_of back) tail → Begins p back points
    begin_here p back points e closed = elim (finish_gives len p p.stage points e) [
      | inl none ↦ (
        (run sig limits ends p back).points,
        ap
            (λ (ps : List TimePoint). ps ++ (run sig limits ends p back).points) (sym none),
      )
      | inr one ↦ subst (Begins p back) (sym one.0) (point_given p back one.1 closed)
    ]

    begin_more : (p : Partial) (t : Lexeme) (front back : List Lexeme) (points : List TimePoint)
        (r : Result Partial LogFault)
        → step sig limits p t ≡ r → behind (completed p t) (went_on r (λ q. fin q front)) ≡ whole points
        → ((q : Partial) (points : List TimePoint) → fin q front ≡ whole points → Begins q (front ++ back) points)
        → Begins p (t ∷ front ++ back) points
    unfolding run
    begin_more p t front back points (Err fault) s e later =
        absurd (let ending = ap (λ (r : Reading). r.ending) e in cc)
    begin_more p t front back points (Ok q) s e later =
        let inner = (fin q front).points in
        let clear : fin q front ≡ whole inner =
        ap (λ (x : Ending). record { points = inner; ending = x }) (ap (λ (r : Reading). r.ending) e) in
        let rest = later q inner clear in (
          rest.0,
          rw (s, rest.1, ← append_assoc) (ap (λ (r : Reading). r.points ++ rest.0) e),
        )

    pub begins : (front back : List Lexeme) (p : Partial) (points : List TimePoint) → fin p front ≡ whole points
        → Closes (symbols_of back) tail → Begins p (front ++ back) points
    unfolding run
    begins [] back p points e closed = begin_here p back points e closed
    begins (t ∷ front) back p points e closed =
        begin_more p t front back points (step sig limits p t) refl e
        (λ q points e. begins front back q points e closed)
