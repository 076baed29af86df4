-- The laws of `specs/GrammarLaws.antt`.
use Rattle.std.proofs.Common.{◌≡◌, ◌≢◌, ℕ, ◌+◌, ◌≤◌, true, List, [], ◌∷◌, ◌++◌, length, Option, None, Result, Ok, Err}
use Rattle.std.proofs.Common.{IfOk, IfErr, refl, ap, sym, ◌∙◌, inl, inr, arith}
use Rattle.std.proofs.lemmas.Option.{slice_get_cases, slice_get_past}
use Rattle.std.specs.Prelude.{slice_get}
use Rattle.mfotl_lex.specs.declared.{fault.LexFault.LexFault, kind.Mode.TheVariants.Plain}
use Rattle.mfotl_lex.specs.FirstFault as layer
use Rattle.mfotl_lex.specs.FirstFault.{◌>>=◌, End, More, run}
use Rattle.mfotl_lex.specs.{Lexemes.Lexeme, Lexemes.tokens, Places.beginning, Texts.tail_of}
use Rattle.mfotl_lex.proofs.FirstFaultLaws as firsts
use Rattle.mfotl_lex.proofs.FirstFaultLaws.{bind_ok}
use Rattle.mfotl_lex.proofs.TextLaws as texts
use Rattle.mfotl_model.specs.declared.policy.Policy.{Policy}
use Rattle.mfotl_sig.specs.Preds.{PredOf}
use Rattle.mfotl_parse.specs.declared.{fault.PolicyFault.PolicyFault, term.Pair.Pair}
use Rattle.mfotl_parse.specs.declared.fault.PolicyFault.TheVariants.{Lex, Syntax, Memory}
use Rattle.mfotl_parse.specs.{Causes.IsCause, Causes.IsLast, Limits.max_free, Occurrences.free_variables}
use Rattle.mfotl_parse.specs.{SymbolTable.uneven_pair, Viability.FirstFaults, Viability.is_whole}
use Rattle.mfotl_parse.specs.{Views.policy_of as policy_seen, Views.Gives}
use Rattle.mfotl_parse.specs.Grammar.{Tree, Fits, spelling, BeginsFormula}
use Rattle.mfotl_parse.specs.GrammarLaws.{SpelledIsRead, ReadIsSpelled, OneAnswer, SyntaxExactly, AreRead, IsSilent}
use Rattle.mfotl_parse.specs.GrammarLaws.{SilentAreRead, ExactSoundness, IsShown, EachFaultIsShown, ExactSyntax}
use Rattle.mfotl_parse.specs.GrammarLaws.{ExactLex, StaysShown}
use Rattle.mfotl_parse.specs.Meanings.{no_scope, all_names, value, node_count, KeepsRules, IsValue, policy_of}
use Rattle.mfotl_parse.specs.Reading.{PolicyOf, step, sorted, checked_at_end, ended_at, at_tail, text_of, reading_on}
use Rattle.mfotl_parse.specs.Reading.{reading}
use Rattle.mfotl_parse.specs.States.{no_names, depth, Stage, Context, Partial, AfterOperand, nothing_read}
use Rattle.mfotl_parse.proofs.{CauseLaw.follows, FreeNames.all_free, FreeNames.few_met, MentionClashes.table_even}
use Rattle.mfotl_parse.proofs.{MentionClashes.text_even, LimitLemmas.few_value, SpelledMoves.at_place}
use Rattle.mfotl_parse.proofs.{TracedMoves.trace, TracedTrees.shows_whole, ViabilityLemmas.completes}
use Rattle.mfotl_parse.proofs.ReadMoves.{moves_read, accepts_moves, read_silent, silent_read, goes_on_moves}
use Rattle.mfotl_parse.proofs.ReadMoves.{goes_on_front}
use Rattle.mfotl_parse.proofs.WholeTrees.{whole, viable, begins, read_viable, whole_formula, rules_kept, finished_by}

-- ---- what is read, and what is spelled

whole_reads : (now : Stage) (c : Context) (end : ℕ) (policy : PolicyOf) → ended_at now c end ≡ Ok policy
    → is_whole now c.stack ≡ true
unfolding ended_at
whole_reads now c end policy e = grind arith

ends : (end : ℕ) (lexical : Option LexFault) (p : Partial) (policy : PolicyOf)
    → at_tail (tail_of true end lexical) p ≡ Ok policy
    → (tail_of true end lexical ≡ End end) × (ended_at p.now p.context end ≡ Ok policy)
ends end lexical p policy e = grind arith

record Unrefused (clash : Option ℕ) (uneven : Option Pair) (ninth : Option (List ℕ × ℕ))
    (policy other : PolicyOf) : Type 0 where
  unclashed : clash ≡ None
  even : uneven ≡ None
  few : ninth ≡ None
  same : other ≡ policy

unrefused : (clash : Option ℕ) (uneven : Option Pair) (ninth : Option (List ℕ × ℕ)) (policy other : PolicyOf)
    → sorted clash uneven ninth policy ≡ Ok other → Unrefused clash uneven ninth policy other
unrefused clash uneven ninth policy other e = grind arith

at_most : (free : List (List ℕ × ℕ)) → slice_get free max_free ≡ None → length free ≤ max_free
at_most free e = elim ((slice_get_cases free max_free).1) [ inl some ↦ absurd (cc (some.2, e)) | inr past ↦ past.0 ]

module _ (sig : List PredOf) (bytes : List ℕ) (policy : PolicyOf) (p : Partial)
    (ran : run (step sig) (text_of bytes).list nothing_read ≡ Ok p) (ended : (text_of bytes).tail ≡ End (length bytes))
    (tree : Tree) (fits : Fits 1 tree) (spelled : (text_of bytes).list ≡ spelling tree)
    (read : ended_at p.now p.context (length bytes) ≡ Ok policy) where
  value_by : IsValue bytes sig policy
  unfolding depth
  value_by =
      let names = all_names sig tree in
      let done = sym (finished_by sig (text_of bytes).list p ran tree fits spelled (length bytes)) ∙ read in
      let u = unrefused names.clash (uneven_pair names) (slice_get names.free max_free) (policy_of sig tree) policy
      done in
      let keeps = (whole sig tree fits).kept.1 (omega arith)
      (rules_kept sig (text_of bytes).list p ran tree fits spelled) in
      record {
        tree = tree;
        whole = ended;
        fits = fits;
        spelled = spelled;
        rules = record {
          parts = keeps.2;
          few_nodes = omega (arith, keeps.0);
          few_levels = omega (arith, keeps.1);
          even = text_even sig tree u.unclashed u.even;
          few_free = at_most (free_variables tree)
              (ap (λ free. slice_get free max_free) (sym (all_free sig tree)) ∙ u.few);
        };
        value = u.same;
      }

pub read_is_spelled : ReadIsSpelled
unfolding reading reading_on layer.reading
read_is_spelled sig bytes policy e =
    let x = text_of bytes in
    let r = bind_ok (run (step sig) x.list nothing_read) (λ p. at_tail x.tail p) policy e in
    let end = ends (length bytes) (tokens (beginning Plain bytes)).fault r.0 policy r.2 in
    let f = whole_formula sig x.list r.0 r.1 (whole_reads r.0.now r.0.context (length bytes) policy end.1) in
    value_by sig bytes policy r.0 r.1 end.0 f.0 f.1 f.2 end.1

module _ (sig : List PredOf) (tree : Tree) (rules : KeepsRules sig tree) where
  finishes : checked_at_end (all_names sig tree) (value sig tree no_scope no_names) ≡ Ok (policy_of sig tree)
  finishes = grind (arith, table_even, slice_get_past, few_met)

pub spelled_is_read : SpelledIsRead
unfolding reading reading_on layer.reading
spelled_is_read sig bytes policy v =
    let x = text_of bytes in
    let t = whole sig v.tree v.fits in
    let kept = t.kept.0 (omega (arith, v.rules.few_nodes), omega (arith, v.rules.few_levels), v.rules.parts) in
    let there = at_place (AfterOperand t.form) t.stack (0 + node_count v.tree) (all_names sig v.tree) in
    let ran = ap (λ ts. run (step sig) ts nothing_read) v.spelled
    ∙ moves_read sig (spelling v.tree) nothing_read there t.rules t.reached kept in
    grind (
      arith,
      ran,
      v.whole,
      finished_by sig x.list there ran v.tree v.fits v.spelled (length bytes),
      finishes sig v.tree v.rules,
      v.value,
    )

pub one_answer : OneAnswer
one_answer sig =
    firsts.one_answer (λ bytes. reading bytes sig) (λ bytes. IsValue bytes sig) (read_is_spelled sig)
    (spelled_is_read sig)

-- ---- faults

pub each_fault_is_shown : EachFaultIsShown
unfolding reading reading_on
each_fault_is_shown bytes sig fault =
    firsts.exact_faults (step sig) nothing_read at_tail BeginsFormula (IsCause sig) (IsLast sig) (follows sig)
    (text_of bytes) fault

pub exact_soundness : ExactSoundness
exact_soundness sig =
    firsts.exact_soundness (step sig) nothing_read at_tail BeginsFormula (IsCause sig) (IsLast sig) (follows sig)

pub exact_syntax : ExactSyntax
exact_syntax bytes sig at = each_fault_is_shown bytes sig (Syntax at)

pub exact_lex : ExactLex
exact_lex bytes sig fault = grind (arith, each_fault_is_shown bytes sig (Lex fault))

none_shown : (p : Partial) (fault : PolicyFault) → at_tail More p ≡ Err fault → ⊥
none_shown p fault e = cc

pub stays_shown : StaysShown
stays_shown sig = texts.stays_shown (step sig) nothing_read at_tail none_shown

pub syntax_exactly : SyntaxExactly
syntax_exactly = record {
  sound = read_viable;
  token = λ sig ts p t ran. (
    λ e. (((follows sig).token ts p t (Syntax t.at) ran).0 e).ends,
    λ none. ((follows sig).token ts p t (Syntax t.at) ran).1 (record { ends = none; stands = refl }),
  );
  end = λ sig ts p at ran. (
    λ e. (((follows sig).tail ts p (End at) (Syntax at) ran).0 e).unaccepted,
    λ none. ((follows sig).tail ts p (End at) (Syntax at) ran).1 (record { unaccepted = none; stands = refl }),
  );
}

-- ---- tokens that show none

module _ (sig : List PredOf) (ts : List Lexeme) where
  are_read : IsSilent sig ts → AreRead sig ts
  are_read s = grind (arith, silent_read, trace, shows_whole sig s.tree s.fits)

  are_silent : AreRead sig ts → IsSilent sig ts
  are_silent (p, ran) =
      let f = read_viable sig ts p ran in
      record {
        tree = f.1.0;
        fits = f.1.1;
        more = f.0;
        spelled = sym f.1.2;
        later = trace sig f.0 p;
        shown = grind (arith, shows_whole sig f.1.0 f.1.1, f.1.2, read_silent sig ts f.0 nothing_read p ran);
      }

pub silent_are_read : SilentAreRead
silent_are_read sig ts = (are_silent sig ts, are_read sig ts)

-- ---- where the grammar goes on

stays_behind : (sig : List PredOf) (tail : layer.Tail LexFault) (ts more : List Lexeme) (fault : PolicyFault)
    → run (step sig) ts nothing_read ≡ Err fault
    → layer.reading (step sig) nothing_read at_tail (record { list = ts ++ more; tail = tail }) ≡ Err fault
unfolding layer.reading
stays_behind sig tail ts more fault e =
    ap (λ r. r >>= λ p. at_tail tail p) (firsts.fault_stays (step sig) ts more nothing_read fault e)

pub first_faults : FirstFaults
first_faults = record {
  viable = λ sig ts. (
    λ on.
        let m = goes_on_moves sig ts nothing_read on in
        let due = completes sig m.1 in
        (due.0, accepts_moves sig ts due.0 nothing_read m.1 m.0 m.2 ∙ due.1),
    λ v. goes_on_front sig ts v.0 nothing_read v.1,
  );
  syntax = λ sig ts p t ran. (
    λ e v. (syntax_exactly.token sig ts p t ran).0 e (viable sig (ts ++ t ∷ []) v),
    λ none. (syntax_exactly.token sig ts p t ran).1 (λ b. none (begins sig (ts ++ t ∷ []) b)),
  );
  stays = stays_behind;
  one = λ sig bytes policy fault is_policy is_fault. absurd cc;
}

-- ---- what a call that gives the reading returns

module _ (bytes : List ℕ) (sig : List PredOf) where
  pub value_given : (result : Result Policy PolicyFault) → Gives policy_seen result (reading bytes sig)
      → IfOk result (λ policy. IsValue bytes sig (policy_seen policy))
  value_given result given = grind (arith, read_is_spelled)

  pub shown_given : (result : Result Policy PolicyFault) → Gives policy_seen result (reading bytes sig)
      → IfErr result (λ fault. fault ≢ Memory → IsShown bytes sig fault)
  shown_given result given = grind (arith, each_fault_is_shown)

  pub few_given : (result : Result Policy PolicyFault) → Gives policy_seen result (reading bytes sig)
      → IfOk result (λ policy. length policy.vars ≤ max_free)
  few_given result given = grind (arith, few_value, value_given)
