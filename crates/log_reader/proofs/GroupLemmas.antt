-- Groups that are read straight from the bytes lead where their tokens would.
use Rattle.std.proofs.Common.{◌≡◌, ℕ, ◌+◌, ◌-◌, ◌≤◌, ◌<◌, Bool, true, false, List, [], ◌∷◌, ◌++◌, length, drop, get_or, Option}
use Rattle.std.proofs.Common.{Some, None, Result, Ok, Err, IfOk, IfSome, ℤ, refl, sym, ap, subst, ◌∙◌, arith}
use Rattle.std.proofs.lemmas.Bool.{cond_both, lt-ltb, eqb-true}
use Rattle.std.proofs.lemmas.List.{drop-drop, length-append, length-drop, nil_from_length}
use Rattle.std.specs.Prelude.{◌==◌}
use Rattle.mfotl_lex.specs.{Bytes.is_space, Growing.grown, Places.Place}
use Rattle.mfotl_lex.specs.Lexemes.{Tokens, after, tokens}
use Rattle.mfotl_model.specs.declared.{policy.Sort.Sort, value.Value.Value}
use Rattle.mfotl_sig.specs.Preds.{PredOf}
use Rattle.log_reader.specs.declared.groups.Read.{Read}
use Rattle.log_reader.specs.declared.{limits.Limits.Limits, fault.LogFault.LogFault, stage.Stage.Stage}
use Rattle.log_reader.specs.declared.stage.Stage.TheVariants.{AfterName, AfterOpen, AfterValue, AfterComma, AfterClose}
use Rattle.log_reader.specs.{Cursors.IsCounted, Cursors.Leads, Partials.Partial, Readings.run, Readings.behind_tokens}
use Rattle.log_reader.specs.{Stretches.place_in, Symbols.Bare}
use Rattle.log_reader.specs.Groups.{may_open, mark_behind, TakesPlain, TakesMarked, LeadsOn, IsOpen, MayBeginGroup}
use Rattle.log_reader.specs.Groups.{closed_with, read_to, with_group, ReadsValues, ReadsGroup}
use Rattle.log_reader.specs.Quick.{IsInteger, is_value_due, TakesTokenInFront, TakesStamp, StepsMark}
use Rattle.log_reader.specs.Steps.{step, stepped, valued, group_closed}
use Rattle.log_reader.specs.Tokens.{front_of, blank_before, IsInFront}
use Rattle.mfotl_lex.specs.declared.kind.Kind.TheVariants.{Word, OpenParen, CloseParen, Comma}
use Rattle.mfotl_model.specs.declared.policy.Sort.TheVariants as sorts
use Rattle.mfotl_model.specs.declared.value.Value.TheVariants as values
use Rattle.log_reader.proofs.QuickLemmas.{writes_number, integer_takes, value_goes}
use Rattle.log_reader.proofs.{MarkLemmas.mark_steps, MarkLemmas.mark_takes, TokenFronts.blank_tokens}
use Rattle.log_reader.proofs.{TokenSteps.took_leads}
use Rattle.log_reader.proofs.TokenPlaces.{TokenAt, token_at_offset, place_behind}

pub none_left : {X : Type 0} (xs : List X) → true ≡ (length xs == 0) → xs ≡ []
none_left xs e = nil_from_length xs (eqb-true (length xs) 0 (sym e))

pub two_of : {X : Type 0} (xs : List X) (d e : X) → 2 ≤ length xs → length xs < 3
    → get_or xs 0 d ∷ get_or xs 1 e ∷ [] ≡ xs
two_of [] d e some few = absurd (omega arith)
two_of (x ∷ []) d e some few = absurd (omega arith)
two_of (x ∷ y ∷ []) d e some few = refl
two_of (x ∷ y ∷ z ∷ xs) d e some few = absurd (omega arith)

-- ---- values

pub plain_integer : (at : ℕ) (bytes : List ℕ) (value : ℤ) (n : ℕ) → IsInteger bytes value n
    → TakesPlain sorts.Int at bytes (values.Int value) n
plain_integer at bytes value n i = record {
  within = let inner : n < length bytes = (writes_number bytes i.number n i.digits).inner in omega (arith, inner);
  takes = λ sig limits p due awaits is. integer_takes sig limits p _ at bytes value n due i awaits is refl;
}

word_steps : (sig : List PredOf) (limits : Limits) (p : Partial) (at : ℕ) (text : List ℕ) (due : List Sort)
    → is_value_due p.stage ≡ true → p.due ≡ sorts.Text ∷ due
    → step sig limits p (record { kind = Word; at = at; text = text })
    ≡ Ok (record p { stage = AfterValue; due = due; args = p.args ++ values.Text text ∷ [] })
unfolding step
word_steps sig limits p at text due awaits is =
    ap (stepped sig limits p (record { kind = Word; at = at; text = text })) (value_goes p.stage (Bare text) awaits).0
    ∙ ap (valued at (Bare text) p) is

pub plain_word_text : (at : ℕ) (bytes text value : List ℕ)
    → IsInFront bytes at (record { kind = Word; at = at; text = text }) → value ≡ text
    → TakesPlain sorts.Text at bytes (values.Text value) (length text)
plain_word_text at bytes text value front is = rw is (record {
  within = omega (arith, front.last);
  takes = λ sig limits p due awaits due_is. record {
    token = record { kind = Word; at = at; text = text };
    front = front;
    end = refl;
    goes_on = (value_goes p.stage (Bare text) awaits).1;
    steps = word_steps sig limits p at text due awaits due_is;
  };
})

-- ---- steps from an offset

abbrev took : Result (Unit {0}) LogFault
took = Ok tt

module _ {from : ℕ} {looked : List ℕ} {ended : Bool} {sig : List PredOf} {limits : Limits} where
  pub stay : {at : ℕ} {p : Partial} → at ≤ length looked → IsCounted p → Leads sig limits from looked ended at p [] at p
  stay le c = record { reads = λ more later is last. refl; within = le; counted = c; given = omega arith }

  pub go_on : {at b c : ℕ} {p q r : Partial} → Leads sig limits from looked ended at p [] b q
      → Leads sig limits from looked ended b q [] c r → Leads sig limits from looked ended at p [] c r
  go_on x y = record {
    reads = λ more later is last. x.reads more later is last ∙ y.reads more later is last;
    within = y.within;
    counted = y.counted;
    given = omega (arith, x.given, y.given);
  }

module _ (from : ℕ) (looked : List ℕ) (ended : Bool) (sig : List PredOf) (limits : Limits) where
  abbrev Goes : ℕ → Partial → ℕ → Partial → Type 0
  Goes at p at' q = Leads sig limits from looked ended at p [] at' q

  module _ (at : ℕ) (p : Partial) (le : at ≤ length looked) (c : IsCounted p) where
    -- a token in front leads behind it
    pub front_leads : (n : ℕ) (q : Partial) → TakesTokenInFront sig limits p (from + at) (drop at looked) n q
        → Goes at p (at + n) q × (at < at + n)
    front_leads n q f =
        let here = place_in from looked ended at in
        let far : (after here).at - from ≡ at + n = omega (arith, f.front.behind ended, f.end) in
        took_leads sig limits from looked ended at p f.token (at + n) q
        (subst (TokenAt from looked ended at f.token) far
        (token_at_offset from looked ended at f.token le (f.front.is ended))) c f.goes_on f.steps

    blank_goes : (rest : List ℕ) → drop at looked ≡ rest → Goes at p (at + blank_before rest) p
    blank_goes [] e = subst (λ (k : ℕ). Goes at p k p) (omega arith) (stay le c)
    blank_goes (b ∷ rest) e = cond_both (is_space b) 1 0 (λ (k : ℕ). Goes at p (at + k) p)
        (λ space. record {
          reads = λ more later is last.
              ap (λ (ts : Tokens). run sig limits (behind_tokens ts.fault last) p ts.list)
              (ap (λ (r : List ℕ). tokens (front_of (r ++ more) (from + at) later)) e
              ∙ blank_tokens b (rest ++ more) (from + at) space later
              ∙ sym (ap (λ (r : List ℕ). tokens (front_of (drop 1 r ++ more) (from + at + 1) later)) e)
              ∙ ap (λ (q : Place). tokens (grown q more later)) (place_behind from looked ended at 1));
          within = let n : length (drop at looked) ≡ length (b ∷ rest) = ap length e in
              omega (arith, n, length-drop at looked);
          counted = c;
          given = omega arith;
        })
        (λ _. subst (λ (k : ℕ). Goes at p k p) (omega arith) (stay le c))

    -- one blank in front, or none, changes nothing
    pub blank_leads : Goes at p (at + blank_before (drop at looked)) p
    blank_leads = blank_goes (drop at looked) refl

    module _ (some : 1 ≤ length (drop at looked)) where
      mark_leads : (q : Partial) → StepsMark limits p (from + at) (get_or (drop at looked) 0 0) took q
          → Goes at p (at + 1) q
      mark_leads q s = (front_leads 1 q (mark_takes sig limits p q (from + at) (drop at looked) some took s refl)).0

      pub comma_leads : p.stage ≡ AfterValue → get_or (drop at looked) 0 0 ≡ 44
          → Goes at p (at + 1) (record p { stage = AfterComma })
      comma_leads stage is = mark_leads _
          (mark_steps 44 Comma AfterValue AfterComma stage is refl refl refl (λ _. refl))

      pub closing_leads : p.stage ≡ AfterValue → p.due ≡ [] → get_or (drop at looked) 0 0 ≡ 41
          → Goes at p (at + 1) (closed_with p p.args)
      closing_leads stage due is = mark_leads _ (mark_steps 41 CloseParen AfterValue AfterClose stage is refl refl refl
          (λ _. ap (group_closed (from + at) p) due
          ∙ ap (λ (d : List Sort). Ok (record (closed_with p p.args) { due = d })) due))

      abbrev begun : Partial
      begun = record p { stage = AfterOpen; groups = p.groups + 1; due = p.sorts }

      pub opening_leads : (s : Stage) → p.stage ≡ s → may_open s ≡ true → p.groups < limits.events
          → get_or (drop at looked) 0 0 ≡ 40 → Goes at p (at + 1) begun
      opening_leads AfterName stage may room is = mark_leads begun
          (mark_steps 40 OpenParen AfterName AfterOpen stage is refl refl refl (λ _. rw (lt-ltb _ _ room) refl))
      opening_leads AfterClose stage may room is = mark_leads begun
          (mark_steps 40 OpenParen AfterClose AfterOpen stage is refl refl refl (λ _. rw (lt-ltb _ _ room) refl))
      opening_leads _ stage may room is = absurd cc

lead_on : {limits : Limits} {from : ℕ} {looked : List ℕ} {ended : Bool} {at at' : ℕ} {p q : Partial} → at ≤ at'
    → ((sig : List PredOf) → Goes from looked ended sig limits at p at' q) → LeadsOn limits from looked ended at p at' q
lead_on further leads =
    let one = leads [] in
    record { leads = leads; within = one.within; counted = one.counted; further = further }

module _ (limits : Limits) (from : ℕ) (looked : List ℕ) (ended : Bool) (at : ℕ) (p : Partial) where
  pub lead_stay : at ≤ length looked → IsCounted p → LeadsOn limits from looked ended at p at p
  lead_stay le c = lead_on (omega arith) (λ sig. stay le c)

  pub lead_further : (b c : ℕ) (q r : Partial) → LeadsOn limits from looked ended at p b q
      → LeadsOn limits from looked ended b q c r → LeadsOn limits from looked ended at p c r
  lead_further b c q r x y = lead_on (omega (arith, x.further, y.further)) (λ sig. go_on (x.leads sig) (y.leads sig))

-- behind a `(` these values were read, and then these sorts are due
abbrev pub so_far : Partial → List Value → List Sort → Partial
so_far p [] due = record p { stage = AfterOpen; due = due; args = [] }
so_far p (v ∷ vs) due = read_to p (v ∷ vs) due

module _ (from : ℕ) (looked : List ℕ) (ended : Bool) (sorts : List Sort) (start : ℕ) where
  -- the tokens from behind the `(` on up to an offset give these values
  pub record SoFar (args : List Value) (due : List Sort) (at : ℕ) : Type 0 where
    pub within : at ≤ length looked
    pub later : start + length args ≤ at
    pub leads : (sig : List PredOf) (limits : Limits) (p : Partial) → IsOpen sorts p
        → Goes from looked ended sig limits start p at (so_far p args due)

  pub begins : start ≤ length looked → SoFar [] sorts start
  begins le = record {
    within = le;
    later = omega arith;
    leads = λ sig limits p o. rw (← o.stage, ← o.due, ← o.args) (stay le o.counted);
  }

  pub reads : (args : List Value) (due : List Sort) (at : ℕ) → SoFar args due at → 0 < length args
      → ReadsValues from looked ended sorts start args due at
  reads [] due at s some = absurd (omega (arith, some))
  reads (v ∷ vs) due at s some = (
    λ limits p o. lead_on (omega (arith, s.later)) (λ sig. s.leads sig limits p o),
    omega (arith, s.later),
  )

  -- the same where a value is due
  record Standing (args : List Value) (due : List Sort) (at : ℕ) : Type 0 where
    stage : Stage
    awaits : is_value_due stage ≡ true
    leads : (sig : List PredOf) (limits : Limits) (p : Partial) → IsOpen sorts p
        → Goes from looked ended sig limits start p at (record p { stage = stage; due = due; args = args })

  standing : (args : List Value) (sort : Sort) (more : List Sort) (at : ℕ) → SoFar args (sort ∷ more) at
      → Standing args (sort ∷ more) at
  standing [] sort more at s = record { stage = AfterOpen; awaits = refl; leads = s.leads }
  standing (v ∷ vs) sort more at s = record { stage = AfterComma; awaits = refl; leads = s.leads }

-- where a value is due, such a value and the mark behind it
module _ {from : ℕ} {looked : List ℕ} {ended : Bool} {sorts : List Sort} {start : ℕ} {args : List Value}
    {more : List Sort} {at mark behind : ℕ} {sort : Sort} {value : Value} (within : at ≤ length looked)
    (s : Standing from looked ended sorts start args (sort ∷ more) at)
    (t : TakesMarked sort mark from looked at value behind) (sig : List PredOf) (limits : Limits) (p : Partial)
    (o : IsOpen sorts p) where
  abbrev longer : List Value
  longer = args ++ value ∷ []

  abbrev valued_with : Partial
  valued_with = record p { stage = AfterValue; due = more; args = longer }

  over_value : Goes from looked ended sig limits start p (at + t.n) valued_with
  over_value =
      let reached = s.leads sig limits p o in
      go_on reached
      (front_leads from looked ended sig limits at (record p { stage = s.stage; due = sort ∷ more; args = args })
      within reached.counted t.n valued_with (t.plain.takes sig limits _ more s.awaits refl)).0

  mark_some : 1 ≤ length (drop (at + t.n) looked)
  mark_some = omega (arith, t.end, t.within, length-drop (at + t.n) looked)

  over_comma : mark ≡ 44
      → Goes from looked ended sig limits start p behind (record p { stage = AfterComma; due = more; args = longer })
  over_comma is = rw t.end
      (go_on over_value (comma_leads from looked ended sig limits (at + t.n) valued_with over_value.within
      over_value.counted mark_some refl (t.is ∙ is)))

  over_group : more ≡ [] → mark ≡ 41 → Goes from looked ended sig limits start p behind (closed_with p longer)
  over_group none is = rw t.end
      (go_on over_value (closing_leads from looked ended sig limits (at + t.n) valued_with over_value.within
      over_value.counted mark_some refl none (t.is ∙ is)))

some_read : (p : Partial) (args : List Value) (value : Value) (due : List Sort)
    → so_far p (args ++ value ∷ []) due ≡ read_to p (args ++ value ∷ []) due
some_read p [] value due = refl
some_read p (v ∷ vs) value due = refl

-- one value more, and the mark behind it
pub one_more : {from : ℕ} {looked : List ℕ} {ended : Bool} {sorts : List Sort} {start : ℕ} (args : List Value)
    (sort : Sort) (more : List Sort) {at behind : ℕ} {value : Value}
    → SoFar from looked ended sorts start args (sort ∷ more) at
    → TakesMarked sort (mark_behind more) from looked at value behind
    → SoFar from looked ended sorts start (args ++ value ∷ []) more behind
one_more {from} {looked} {ended} {sorts} {start} args sort [] {at} {behind} {value} s t = record {
  within = t.within;
  later = omega (arith, s.later, t.end, length-append args (value ∷ []));
  leads = λ sig limits p o. rw (some_read p args value [])
      (over_group s.within (standing from looked ended sorts start args sort [] at s) t sig limits p o refl refl);
}
one_more {from} {looked} {ended} {sorts} {start} args sort (next ∷ last) {at} {behind} {value} s t = record {
  within = t.within;
  later = omega (arith, s.later, t.end, length-append args (value ∷ []));
  leads = λ sig limits p o. rw (some_read p args value (next ∷ last))
      (over_comma s.within (standing from looked ended sorts start args sort (next ∷ last) at s) t sig limits p o refl);
}

-- the first value of a group
pub first_one : {from : ℕ} {looked : List ℕ} (ended : Bool) {start behind : ℕ} (sort : Sort) (more : List Sort)
    {value : Value} → start ≤ length looked → TakesMarked sort (mark_behind more) from looked start value behind
    → SoFar from looked ended (sort ∷ more) start (value ∷ []) more behind
first_one ended sort more le t = one_more [] sort more (begins _ _ ended (sort ∷ more) _ le) t

opened : (p : Partial) (row : List Value) (due : List Sort)
    → read_to (record p { stage = AfterOpen; groups = p.groups + 1; due = p.sorts }) row due ≡ with_group p row due
opened p row [] = refl
opened p row (sort ∷ due) = refl

-- behind a blank or none and a `(`
module _ (from : ℕ) (looked : List ℕ) (ended : Bool) (sorts : List Sort) (at : ℕ) (front rest : List ℕ) (blanks : ℕ)
    (le : at ≤ length looked) (front_is : front ≡ drop at looked) (blanks_is : blanks ≡ blank_before front)
    (rest_is : rest ≡ drop blanks front) (some : 1 ≤ length rest) (is : get_or rest 0 0 ≡ 40) where
  mark_at : rest ≡ drop (at + blanks) looked
  mark_at = rest_is ∙ ap (drop blanks) front_is ∙ drop-drop blanks at looked

  group_row : (row : List Value) (due : List Sort) (behind : ℕ)
      → ReadsValues from looked ended sorts (at + blanks + 1) row due behind
      → ReadsGroup from looked ended sorts at row due behind
  group_row row due behind v = (
    λ limits p r. rw (← opened p row due) (lead_on (omega (arith, v.1)) (λ sig.
        let same : blanks ≡ blank_before (drop at looked) = blanks_is ∙ ap blank_before front_is in
        let past = subst (λ (k : ℕ). Goes from looked ended sig limits at p (at + k) p) (sym same)
        (blank_leads from looked ended sig limits at p le r.counted) in
        let begun = opening_leads from looked ended sig limits (at + blanks) p past.within r.counted
        (rw mark_at at some) p.stage refl r.stage r.room (rw mark_at at is) in
        go_on past
        (go_on begun ((v.0 limits (record p { stage = AfterOpen; groups = p.groups + 1; due = p.sorts }) (record {
          stage = refl;
          due = r.same;
          args = r.args;
          counted = begun.counted;
        })).leads sig)))),
    omega (arith, v.1),
  )

  pub group_reads : {E : Type 0} (found : Result (Option Read) E)
      → IfOk found (λ f. IfSome f (λ x.
      ReadsValues from looked ended sorts (at + blanks + 1) x.args x.due.now x.behind))
      → IfOk found (λ f. IfSome f (λ x. ReadsGroup from looked ended sorts at x.args x.due.now x.behind))
  group_reads (Ok (Some x)) v = group_row x.args x.due.now x.behind v
  group_reads (Ok None) v = tt
  group_reads (Err error) v = tt

-- ---- the call

pub some_due : (p : Partial) (row : List Value) (due : List Sort) → (length due == 0) ≡ false
    → read_to p row due ≡ record p { stage = AfterComma; due = due; args = row }
some_due p row [] e = absurd cc
some_due p row (sort ∷ due) e = refl

pub takes_group : {limits : Limits} {from : ℕ} {looked : List ℕ} {ended : Bool} {at : ℕ} {p q : Partial}
    {found : Option Read} {read : Read}
    → IfSome found (λ x. ReadsGroup from looked ended p.sorts at x.args x.due.now x.behind) → found ≡ Some read
    → MayBeginGroup limits p.sorts p → q ≡ with_group p read.args read.due.now
    → LeadsOn limits from looked ended at p read.behind q × (at < read.behind)
takes_group {limits} {from} {looked} {ended} {at} {p} reads is ready after =
    let r = rw is at reads in
    (rw after (r.0 limits p ready), r.1)

-- a timestamp in front leads behind it
pub stamp_leads : {from : ℕ} {looked : List ℕ} (ended : Bool) {at n : ℕ} {p q : Partial} {rest : List ℕ}
    → at ≤ length looked → IsCounted p → rest ≡ drop at looked → TakesStamp p (from + at) rest (Some n) q
    → (sig : List PredOf) (limits : Limits) → Leads sig limits from looked ended at p [] (at + n) q × (at < at + n)
stamp_leads {from} {looked} ended {at} {n} {p} {q} le c is takes sig limits =
    front_leads from looked ended sig limits at p le c n q (rw is at (takes sig limits))
