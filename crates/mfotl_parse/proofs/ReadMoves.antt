-- Tokens are read exactly where the grammar goes on with each of them and all rules on the way are kept.
use Rattle.std.proofs.Common.{◌≡◌, Bool, true, false, cond, ℕ, List, [], ◌∷◌, ◌++◌, Option, Some, None, Ok, Err, refl}
use Rattle.std.proofs.Common.{ap, ◌∙◌, arith}
use Rattle.mfotl_lex.specs.{FirstFault.run, Lexemes.Lexeme}
use Rattle.mfotl_lex.proofs.FirstFaultLaws.{bind_ok, run_none, run_token}
use Rattle.mfotl_sig.specs.Preds.{PredOf}
use Rattle.mfotl_parse.specs.declared.fault.PolicyFault.{PolicyFault}
use Rattle.mfotl_parse.specs.{Reading.transition, Reading.step, States.Partial, Shows.Showing, Shows.silent}
use Rattle.mfotl_parse.specs.Transitions.{Limit, Rule, Transition, goes, fault_of, kept, given}
use Rattle.mfotl_parse.specs.Viability.{if_moved, accepts, goes_through}
use Rattle.mfotl_parse.proofs.SpelledMoves.{moves, moves_nothing, moves_first, moves_cons, AreKept, kept_both}
use Rattle.mfotl_parse.proofs.SpelledMoves.{kept_front, kept_back, same_next}
use Rattle.mfotl_parse.proofs.TracedMoves.{broken, traced, trace, trace_move, trace_both}

-- ---- the rules of one token

pub kept_goes : (rules : List Rule) (p : Partial) → AreKept rules → kept rules p ≡ Ok p
kept_goes [] p k = refl
kept_goes (rule ∷ rules) p k = cc (kept_goes rules p k.1)

kept_ok : (rules : List Rule) (p q : Partial) → kept rules p ≡ Ok q → AreKept rules × (p ≡ q)
kept_ok [] p q e = (tt, cc)
kept_ok (rule ∷ rules) p q e = grind (arith, kept_ok rules p q)

-- rules that are kept show nothing
none_broken : (rules : List Rule) → AreKept rules → broken rules ≡ []
none_broken [] k = refl
none_broken (rule ∷ rules) k = search (broken, none_broken rules k.1)

all_kept : (rules : List Rule) → broken rules ≡ [] → AreKept rules
all_kept [] e = tt
all_kept (rule ∷ rules) e = grind (arith, broken, all_kept rules)

-- the first that is broken
pub kept_broken : (rules : List Rule) (next : Partial) (fault : PolicyFault) (others : List PolicyFault)
    → broken rules ≡ fault ∷ others → kept rules next ≡ Err fault
kept_broken [] next fault others e = absurd cc
kept_broken (rule ∷ rules) next fault others e = grind (arith, broken, kept_broken rules next fault others)

-- a rule's fault is shown in front of others
pub record BrokenFirst (rules : List Rule) (fault : PolicyFault) : Type 0 where
  pub limit : Limit
  pub at : ℕ
  pub is : fault_of limit at ≡ fault
  pub others : List PolicyFault
  pub shown : broken rules ≡ fault ∷ others

pub first_broken : (rules : List Rule) (next : Partial) (fault : PolicyFault) → kept rules next ≡ Err fault
    → BrokenFirst rules fault
first_broken [] next fault e = absurd cc
first_broken (rule ∷ rules) next fault e = by_broken rule.broken refl (first_broken rules next fault) e
  where
    by_broken : (b : Bool) → rule.broken ≡ b → (kept rules next ≡ Err fault → BrokenFirst rules fault)
        → cond b (Err (fault_of rule.limit rule.at)) (kept rules next) ≡ Err fault → BrokenFirst (rule ∷ rules) fault
    by_broken true is later f =
        let one : fault_of rule.limit rule.at ≡ fault = cc in
        record {
          limit = rule.limit;
          at = rule.at;
          is = one;
          others = broken rules;
          shown = grind (arith, broken, is, one);
        }
    by_broken false is later f =
        let b = later f in
        record { limit = b.limit; at = b.at; is = b.is; others = b.others; shown = grind (arith, broken, is, b.shown) }

module _ (sig : List PredOf) where
  -- ---- one token

  step_goes : (p q : Partial) (t : Lexeme) (rules : List Rule) → transition sig p t ≡ goes rules q → AreKept rules
      → step sig p t ≡ Ok q
  unfolding step
  step_goes p q t rules e k = ap (given t.at) e ∙ kept_goes rules q k

  step_moves : (p q : Partial) (t : Lexeme) → step sig p t ≡ Ok q
      → (rules : List Rule) × (transition sig p t ≡ goes rules q) × AreKept rules
  unfolding step
  step_moves p q t e = grind (arith, kept_ok)

  -- ---- tokens

  pub moves_read : (ts : List Lexeme) (p q : Partial) (rules : List Rule) → moves sig ts p ≡ goes rules q
      → AreKept rules → run (step sig) ts p ≡ Ok q
  unfolding moves
  moves_read [] p q rules e k = run_none (step sig) p ∙ ap (λ x. Ok x) (same_next e)
  moves_read (t ∷ ts) p q rules e k =
      let c = moves_cons sig t ts p q rules e in
      let all : AreKept (c.own ++ c.later) = rw c.all k in
      run_token (step sig) t ts p c.between
      (step_goes p c.between t c.own c.first (kept_front c.own c.later all))
      ∙ moves_read ts c.between q c.later c.rest (kept_back c.own c.later all)

  at_once : (p q : Partial) → run (step sig) [] p ≡ Ok q → p ≡ q
  unfolding run
  at_once p q e = cc

  pub read_moves : (ts : List Lexeme) (p q : Partial) → run (step sig) ts p ≡ Ok q
      → (rules : List Rule) × (moves sig ts p ≡ goes rules q) × AreKept rules
  unfolding run
  read_moves [] p q e = ([], moves_nothing sig p ∙ ap (goes []) (at_once p q e), tt)
  read_moves (t ∷ ts) p q e =
      let one = bind_ok (step sig p t) (λ n. run (step sig) ts n) q e in
      let first = step_moves p one.0 t one.1 in
      let later = read_moves ts one.0 q one.2 in (
        first.0 ++ later.0,
        moves_first sig t ts p one.0 q first.0 later.0 first.1 later.1,
        kept_both first.0 later.0 first.2 later.2,
      )

  -- the reader accepts from there on as it does behind them
  pub accepts_moves : (ts more : List Lexeme) (p q : Partial) (rules : List Rule) → moves sig ts p ≡ goes rules q
      → accepts sig (ts ++ more) p ≡ accepts sig more q
  unfolding moves accepts
  accepts_moves [] more p q rules e = ap (accepts sig more) (same_next e)
  accepts_moves (t ∷ ts) more p q rules e =
      let c = moves_cons sig t ts p q rules e in
      ap (λ o. if_moved o (accepts sig (ts ++ more))) c.first ∙ accepts_moves ts more c.between q c.later c.rest

  pub accepts_read : (ts more : List Lexeme) (p q : Partial) → run (step sig) ts p ≡ Ok q
      → accepts sig (ts ++ more) p ≡ accepts sig more q
  accepts_read ts more p q e = let m = read_moves ts p q e in accepts_moves ts more p q m.0 m.1

  -- ---- what they show

  shows_silent : (ts : List Lexeme) (p q : Partial) (rules : List Rule) → moves sig ts p ≡ goes rules q
      → AreKept rules → trace sig ts p ≡ silent ts
  unfolding trace
  shows_silent [] p q rules e k = refl
  shows_silent (t ∷ ts) p q rules e k =
      let c = moves_cons sig t ts p q rules e in
      let all : AreKept (c.own ++ c.later) = rw c.all k in
      trace_move sig t ts p c.between c.own c.first
      ∙ ap (λ x. x ∷ trace sig ts c.between) (none_broken c.own (kept_front c.own c.later all))
      ∙ ap (λ (x : Showing). [] ∷ x) (shows_silent ts c.between q c.later c.rest (kept_back c.own c.later all))

  -- tokens that are read show nothing, and those behind them what they show there
  pub read_silent : (ts more : List Lexeme) (p q : Partial) → run (step sig) ts p ≡ Ok q
      → trace sig (ts ++ more) p ≡ silent ts ++ trace sig more q
  read_silent ts more p q e = grind (arith, read_moves, trace_both, trace, shows_silent)

  silent_one : (t : Lexeme) (ts more : List Lexeme) (later : Showing) (p : Partial) (o : Option Transition)
      → transition sig p t ≡ o → ((n : Partial) → trace sig (ts ++ more) n ≡ silent ts ++ later → (read : Partial)
      × (run (step sig) ts n ≡ Ok read)) → traced t.at o (trace sig (ts ++ more)) ≡ [] ∷ (silent ts ++ later)
      → (read : Partial) × (run (step sig) (t ∷ ts) p ≡ Ok read)
  silent_one t ts more later p None is further e = absurd cc
  silent_one t ts more later p (Some m) is further e =
      let none : broken m.rules ≡ [] = cc in
      let rest : trace sig (ts ++ more) m.next ≡ silent ts ++ later = cc in
      let r = further m.next rest in (
        r.0,
        run_token (step sig) t ts p m.next (step_goes p m.next t m.rules is (all_kept m.rules none)) ∙ r.1,
      )

  -- and tokens that show nothing are read
  pub silent_read : (ts more : List Lexeme) (later : Showing) (p : Partial)
      → trace sig (ts ++ more) p ≡ silent ts ++ later → (read : Partial) × (run (step sig) ts p ≡ Ok read)
  unfolding trace
  silent_read [] more later p e = (p, run_none (step sig) p)
  silent_read (t ∷ ts) more later p e =
      silent_one t ts more later p (transition sig p t) refl (λ n f. silent_read ts more later n f) e

  -- ---- where the grammar goes on with each of them

  pub goes_on_moves : (ts : List Lexeme) (p : Partial) → goes_through sig ts p ≡ true
      → (rules : List Rule) × (q : Partial) × (moves sig ts p ≡ goes rules q)
  unfolding goes_through
  goes_on_moves [] p on = ([], p, moves_nothing sig p)
  goes_on_moves (t ∷ ts) p on = by_move (transition sig p t) refl (λ n so. goes_on_moves ts n so) on
    where
      by_move : (o : Option Transition) → transition sig p t ≡ o
          → ((n : Partial) → goes_through sig ts n ≡ true
          → (rules : List Rule) × (q : Partial) × (moves sig ts n ≡ goes rules q))
          → if_moved o (goes_through sig ts) ≡ true
          → (rules : List Rule) × (q : Partial) × (moves sig (t ∷ ts) p ≡ goes rules q)
      by_move None is further so = absurd cc
      by_move (Some m) is further so =
          let r = further m.next so in
          (m.rules ++ r.0, r.1, moves_first sig t ts p m.next r.1 m.rules r.0 is r.2)

  -- a front of what is accepted
  pub goes_on_front : (ts more : List Lexeme) (p : Partial) → accepts sig (ts ++ more) p ≡ true
      → goes_through sig ts p ≡ true
  unfolding goes_through accepts
  goes_on_front [] more p ends = refl
  goes_on_front (t ∷ ts) more p ends = grind (arith, goes_on_front ts more)
