-- What one node does in a step.
use Rattle.std.proofs.Common.{◌||◌, None, ◌≡◌, ℕ, suc, ◌+◌, ◌<◌, true, false, nat_eq, nat_lt, List, [], ◌∷◌, ◌++◌}
use Rattle.std.proofs.Common.{length, refl, sym, ap, ◌∙◌, arith, append_assoc, append-nil}
use Rattle.std.proofs.lemmas.Bool.{and_parts, lt-ltb, ltb-true, cond-true, cond-false, ne_eqb}
use Rattle.std.proofs.{lemmas.List.length-map, lemmas.List.map-append, Math.Seq.get_or-append_seam}
use Rattle.std.specs.{List.list_any, Cmp.both_ways}
use Rattle.mfotl_model.proofs.LogicLemmas.{among_without, same_number}
use Rattle.mfotl_model.specs.{ActiveDomain.adom, ActiveDomain.constants, Counts.settled_count, Domains.in_domain}
use Rattle.mfotl_model.specs.{Domains.Includes, Formulas.Form, Log.times, Regions.Passes, Settled.settled}
use Rattle.mfotl_model.specs.{Tables.TableOf, Tables.has, Times.NeverFalls}
use Rattle.mfotl_model.specs.Exact.{View, Covers, Exact, AllExact}
use Rattle.mfotl_model.specs.FreeVariables.{fv, among, without, variables_in}
use Rattle.mfotl_model.specs.Satisfaction.{Valuation, sat, with_value, event_of, has_event}
use Rattle.mfotl_model.specs.declared.{event.TimePoint.TimePoint, formula.Bound.Bound, term.Atom.Atom as OneAtom}
use Rattle.mfotl_model.specs.declared.{value.Value.Value}
use Rattle.core_arranging.specs.Windows.{is_window, left_operand}
use Rattle.eval_since.specs.{PreviousView.PrevOf, SinceView.SinceOf}
use Rattle.monitorable.proofs.{DomainLaw.domain, DomainLemmas.any_with, DomainLemmas.any_witness}
use Rattle.monitorable.proofs.{DomainRows.has_constants, DomainRows.has_log}
use Rattle.monitorable.specs.CoreForms.{CoreForm, meaning, True, False, Atom, Compare, Not, And, Or, Exists, Previous}
use Rattle.monitorable.specs.CoreForms.{Next, Since, Until}
use Rattle.monitorable.specs.Fragment.{Names, frag}
use Rattle.eval_bool.specs.{JoinView.ChildOf, JoinView.JoinOf, OrView.OrOf}
use Rattle.monitor_nodes.proofs.{OrSteps.or_steps, JoinSteps.join_steps, JoinSteps.tests_settled, CountLemmas.count_is}
use Rattle.monitor_nodes.proofs.{ExactLemmas.log_more, ExactLemmas.rising_before, SinceSteps.since_steps}
use Rattle.monitor_nodes.proofs.{PreviousSteps.previous_steps, NextSteps.next_steps, UntilSteps.until_steps}
use Rattle.monitor_nodes.proofs.{FilterSteps.filter_steps}
use Rattle.monitor_nodes.specs.{OrFeeding.OrTakes, JoinFeeding.JoinTakes, Feeding.SinceTakes}
use Rattle.monitor_nodes.specs.{PreviousFeeding.PreviousTakes, NextFeeding.NextTakes, UntilFeeding.UntilTakes}
use Rattle.monitor_nodes.specs.{FilterFeeding.FilterTakes, Quantified.IsWithout, Quantified.Quantifies, Stacks.Pops}
use Rattle.monitor_nodes.specs.{Stacks.PopsMany, Views.reached}
use Rattle.eval_until.specs.{NextView.NextOf, UntilView.UntilOf}
use Rattle.monitor_nodes.specs.Operands.{adds_none, is_keyed, operands}
use Rattle.monitor_nodes.specs.Operands.{window_operands}
use Rattle.monitor_nodes.specs.declared.filter.FilterState.{FilterState}
use Rattle.monitor_nodes.specs.Stands.{ChildrenStand, IsConstant, IsConjunction, JoinStands}
use Rattle.monitor_nodes.specs.Steps.{TakesPoint, News, Premises, StackNews, longer}
use Rattle.monitor_nodes.specs.declared.node.Node.TheVariants as node

module _ (view : View) (point : TimePoint) where
  unstack : (below : List CoreForm) (f : CoreForm) (stack : List (List TableOf))
      → StackNews view point (below ++ f ∷ []) stack
      → (rest : List (List TableOf)) × (top : List TableOf) × (stack ≡ rest ++ top ∷ []) × StackNews view point below
      rest × News view point f top
  unstack [] f (top ∷ []) s = ([], top, refl, tt, s.0)
  unstack (g ∷ below) f (tables ∷ stack) s =
      let r = unstack below f stack s.1 in (tables ∷ r.0, r.1, ap (λ xs. tables ∷ xs) r.2, (s.0, r.3), r.4)
  unstack below f more s = absurd assumption

  -- the top of the stack is the last operand's
  pops_top : {stack rest : List (List TableOf)} {top : List TableOf} (below : List CoreForm) (f : CoreForm)
      → StackNews view point (below ++ f ∷ []) stack → Pops stack rest top
      → StackNews view point below rest × News view point f top
  pops_top {stack} below f news pops = grind (arith, unstack)

  -- the two topmost are two operands'
  pops_two : {stack mid rest : List (List TableOf)} {ls rs : List TableOf} (below : List CoreForm) (f g : CoreForm)
      → StackNews view point (below ++ f ∷ g ∷ []) stack → Pops stack mid rs → Pops mid rest ls
      → StackNews view point below rest × News view point f ls × News view point g rs
  pops_two below f g news last first =
      let one = pops_top (below ++ f ∷ []) g (rw (append_assoc below (f ∷ []) (g ∷ [])) news) last in
      let two = pops_top below f one.0 first in
      (two.0, two.1, one.1)

  -- the three topmost are three operands'
  pops_three : {stack high mid rest : List (List TableOf)} {fs ls rs : List TableOf} (below : List CoreForm)
      (f a b : CoreForm)
      → StackNews view point (below ++ f ∷ a ∷ b ∷ []) stack → Pops stack high rs → Pops high mid ls → Pops mid rest fs
      → StackNews view point below rest × News view point f fs × StackNews view point (a ∷ b ∷ []) (ls ∷ rs ∷ [])
  pops_three below f a b news last second first =
      let two = pops_two (below ++ f ∷ []) a b (rw (append_assoc below (f ∷ []) (a ∷ b ∷ [])) news) last second in
      let one = pops_top below f two.0 first in
      (one.0, one.1, (two.1, (two.2, tt)))

-- what is settled wherever the log is
count_all : (t : List ℕ) → NeverFalls t → (f : Form) → ((i : ℕ) → settled t f i ≡ nat_lt i (length t))
    → length t ≡ settled_count t f
count_all t rising f is =
    count_is t rising f (length t) (λ j low. is j ∙ lt-ltb j (length t) low)
    (λ h. let low : length t < length t = ltb-true (length t) (length t) (sym (is (length t)) ∙ h) in
    absurd (omega arith))

-- one position more is settled of what is settled wherever the log is
module _ (view : View) (point : TimePoint) (rising : NeverFalls (times (longer view point).log)) (f : CoreForm)
    (all : (t : List ℕ) (i : ℕ) → settled t (meaning f) i ≡ nat_lt i (length t)) where
  reached_all : reached view f ≡ length view.log
  reached_all =
      sym (count_all (times view.log) (rising_before view point rising) (meaning f) (all (times view.log)))
      ∙ length-map view.log (λ p. p.ts)

  one_new : (table : TableOf) → Exact (longer view point) (meaning f) (length view.log) table
      → News view point f (table ∷ [])
  one_new table exact = grind (arith, reached_all, log_more, length-map, count_all)

constant_one : {view : View} {point given : TimePoint} {whole f : CoreForm} {table : TableOf} {tables : List TableOf}
    (below : List CoreForm) (stack : List (List TableOf)) → Premises view point given whole f → IsConstant f table
    → ((t : List ℕ) (i : ℕ) → settled t (meaning f) i ≡ nat_lt i (length t)) → tables ≡ table ∷ []
    → StackNews view point (below ++ operands f) stack
    → IsConstant f table × Unit {0} × StackNews view point below stack × News view point f tables
constant_one {view} {point} {given} {whole} {f} {table} below stack premises is all made stacked = (
  is,
  tt,
  rw (is.alone, append-nil) at stacked,
  rw made
      (one_new view point premises.rising f all table
      (record {
        columns = is.columns;
        rows = λ dom v covers near. is.rows (longer view point).log dom v (length view.log);
      })),
)

pub constant_advances : (table : TableOf) (given : TimePoint) (stack : List (List TableOf)) (tables : List TableOf)
    → tables ≡ table ∷ [] → TakesPoint (node.Constant table) given stack (node.Constant table) stack tables
unfolding settled
constant_advances table given stack tables made view point whole True below premises is stands stacked =
    constant_one below stack premises is (λ t i. refl) made stacked
constant_advances table given stack tables made view point whole False below premises is stands stacked =
    constant_one below stack premises is (λ t i. refl) made stacked
constant_advances table given stack tables made view point whole (Compare c) below premises is stands stacked =
    constant_one below stack premises is (λ t i. refl) made stacked
constant_advances table given stack tables made view point whole (Not f) below premises is stands stacked =
    constant_one below stack premises is (λ t i. tests_settled t i (Not f) is.alone) made stacked
constant_advances table given stack tables made view point whole (And f g) below premises is stands stacked =
    constant_one below stack premises is
    (λ t i. tests_settled t i (And f g) (grind arith)) made stacked
constant_advances table given stack tables made view point whole f below premises is stands stacked = absurd is

pub atom_advances : (atom : OneAtom) (given : TimePoint) (stack : List (List TableOf)) (table : TableOf)
    (tables : List TableOf) → table.columns ≡ variables_in atom.args
    → ((v : Valuation) → has table v ≡ has_event given.db (event_of v atom)) → tables ≡ table ∷ []
    → TakesPoint (node.Atom atom) given stack (node.Atom atom) stack tables
unfolding sat fv settled
atom_advances atom given stack table tables columns rows made view point whole (Atom a) below premises is stands
    stacked = (
      is,
      tt,
      rw append-nil at stacked,
      rw made
          (one_new view point premises.rising (Atom a) (λ t i. refl) table
          (record {
            columns = columns ∙ ap (λ (b : OneAtom). variables_in b.args) is;
            rows = grind (arith, map-append, length-map, get_or-append_seam);
          })),
    )
atom_advances atom given stack table tables columns rows made view point whole f below premises is stands stacked =
    absurd is

module _ (view : View) (x : Bound) (f whole : CoreForm) (passes : Passes (fv view.whole) view.near)
    (whole_is : view.whole ≡ meaning whole)
    (apart : among x.number (fv (meaning whole)) ≡ false) (used : among x.number (fv (meaning f)) ≡ true)
    (names : Names) (accepted : frag names f ≡ None)
    (constant : Includes (constants (meaning whole)) (constants (meaning f))) where
  -- a near row without the variable is near with any value of it
  near_with : (v : Valuation) (a : Value) → view.near (without x.number (fv (meaning f))) v ≡ true
      → view.near (fv (meaning f)) (with_value v x.number a) ≡ true
  near_with v a h = grind (arith, ne_eqb, among_without, cond-false)

  with_itself : (v : Valuation) (a : Value) → with_value v x.number a x.number ≡ a
  with_itself v a = cond-true (nat_eq x.number x.number) a (v x.number) (same_number x.number)

  -- what satisfies the operand has its value in the domain
  ranges : (dom : List Value) (v : Valuation) (i : ℕ) (a : Value) → Covers view dom
      → sat view.log dom (with_value v x.number a) i (meaning f) ≡ true → in_domain dom a ≡ true
  ranges dom v i a covers h =
      let base : List Value = adom view.log view.whole in
      let own : in_domain base (with_value v x.number a x.number) ≡ true =
      (domain view.log base names f accepted (has_log view.log view.whole)
      (λ c m. has_constants view.log view.whole c
      (ap (λ w. in_domain (constants w) c) whole_is ∙ constant c m)) (with_value v x.number a) i).0
      dom x.number h used in
      ap (in_domain dom) (sym (with_itself v a)) ∙ covers (with_value v x.number a x.number) own

  exists_exact : (i : ℕ) (table quantified : TableOf) → IsWithout x.number table quantified
      → Exact view (meaning f) i table → Exact view (meaning (Exists x f)) i quantified
  unfolding sat fv
  exists_exact i table quantified is exact =
      record {
        columns = is.columns ∙ ap (without x.number) exact.columns;
        rows = λ dom v covers near.
            both_ways (has quantified v) (list_any (λ a. sat view.log dom (with_value v x.number a) i (meaning f)) dom)
            (λ h.
            let w = (is.rows v).0 h in
            let holds : sat view.log dom (with_value v x.number w.0) i (meaning f) ≡ true =
            sym (exact.rows dom (with_value v x.number w.0) covers (near_with v w.0 near)) ∙ w.1 in
            any_with (λ a. sat view.log dom (with_value v x.number a) i (meaning f)) w.0 dom holds
            (ranges dom v i w.0 covers holds))
            (λ h.
            let w = any_witness (λ a. sat view.log dom (with_value v x.number a) i (meaning f)) dom h in
            (is.rows v).1 (w.0, exact.rows dom (with_value v x.number w.0) covers (near_with v w.0 near) ∙ w.1));
      }

  exists_all : (i : ℕ) (tables qs : List TableOf) → Quantifies x.number tables qs → AllExact view (meaning f) i tables
      → AllExact view (meaning (Exists x f)) i qs
  exists_all i [] [] q all = tt
  exists_all i (t ∷ tables) (r ∷ qs) q all = (exists_exact i t r q.0 all.0, exists_all (i + 1) tables qs q.1 all.1)
  exists_all i tables qs q all = absurd assumption

quantifies_length : (x : ℕ) (tables qs : List TableOf) → Quantifies x tables qs → length tables ≡ length qs
quantifies_length x [] [] q = refl
quantifies_length x (t ∷ tables) (r ∷ qs) q = ap suc (quantifies_length x tables qs q.1)
quantifies_length x tables qs q = absurd assumption

pub quantifies_more : (x : ℕ) (tables qs : List TableOf) (table q : TableOf) → Quantifies x tables qs
    → IsWithout x table q → Quantifies x (tables ++ table ∷ []) (qs ++ q ∷ [])
quantifies_more x [] [] table q all one = (one, tt)
quantifies_more x (t ∷ tables) (r ∷ qs) table q all one = (all.0, quantifies_more x tables qs table q all.1 one)
quantifies_more x tables qs table q all one = absurd assumption

pub exists_advances : (var : ℕ) {given : TimePoint} {stack rest : List (List TableOf)} {tables qs : List TableOf}
    → Pops stack rest tables → Quantifies var tables qs
    → TakesPoint (node.Exists var) given stack (node.Exists var) rest qs
unfolding settled settled_count
exists_advances var {tables = tables} {qs = qs} pops q view point whole (Exists x f) below premises is stands stacked =
    grind (arith, pops_top view point below f stacked pops, quantifies_length, exists_all)
exists_advances var pops q view point whole f below premises is stands stacked = absurd is

pub since_advances : {old new : SinceOf} (order : TableOf) {given : TimePoint} {stack mid rest : List (List TableOf)}
    {ls rs tables : List TableOf}
    → Pops stack mid rs → Pops mid rest ls → SinceTakes order.columns old given.ts ls rs new tables
    → TakesPoint (node.Since old order) given stack (node.Since new order) rest tables
since_advances order last first takes view point whole (Since i f g) below premises is stands stacked =
    let news = pops_two view point below (left_operand f) g stacked last first in
    let steps = since_steps is stands news.1 news.2 takes premises.ts premises.rising premises.passes
    premises.sound.0 in
    (steps.0, steps.1, news.0, steps.2)
since_advances order last first takes view point whole f below premises is stands stacked = absurd is

pub until_advances : {old new : UntilOf} (order : TableOf) {given : TimePoint} {stack mid rest : List (List TableOf)}
    {ls rs tables : List TableOf}
    → Pops stack mid rs → Pops mid rest ls → UntilTakes order.columns old given.ts ls rs new tables
    → TakesPoint (node.Until old order) given stack (node.Until new order) rest tables
until_advances order last first takes view point whole (Until i f g) below premises is stands stacked =
    let news = pops_two view point below (left_operand f) g stacked last first in
    let steps = until_steps is stands news.1 news.2 takes premises.ts premises.rising premises.passes
    premises.sound.0 in
    (steps.0, steps.1, news.0, steps.2)
until_advances order last first takes view point whole f below premises is stands stacked = absurd is

module _ (view : View) (point : TimePoint) where
  -- the stack's tables over two lists of cores
  split_news : (below fs : List CoreForm) (stack : List (List TableOf)) → StackNews view point (below ++ fs) stack
      → (rest : List (List TableOf)) × (tops : List (List TableOf)) × (stack ≡ rest ++ tops) × (length tops ≡ length fs)
      × StackNews view point below rest × StackNews view point fs tops
  split_news [] fs stack news = ([], stack, refl, news_length fs stack news, tt, news)
    where
      news_length : (fs : List CoreForm) (stack : List (List TableOf)) → StackNews view point fs stack
          → length stack ≡ length fs
      news_length [] [] news = refl
      news_length (f ∷ fs) (tables ∷ stack) news = ap suc (news_length fs stack news.1)
      news_length [] (tables ∷ stack) news = absurd news
      news_length (f ∷ fs) [] news = absurd news
  split_news (g ∷ below) fs [] news = absurd news
  split_news (g ∷ below) fs (tables ∷ stack) news =
      let r = split_news below fs stack news.1 in
      (tables ∷ r.0, r.1, ap (λ xs. tables ∷ xs) r.2, r.3, (news.0, r.4), r.5)

  pops_many : {n : ℕ} {stack rest tops : List (List TableOf)} (below fs : List CoreForm) → n ≡ length fs
      → StackNews view point (below ++ fs) stack → PopsMany n stack rest tops
      → StackNews view point below rest × StackNews view point fs tops
  pops_many {stack = stack} below fs is news pops = grind (arith, split_news)

children_length : (view : View) (i : ℕ) (fs : List CoreForm) (cs : List ChildOf) → ChildrenStand view i fs cs
    → length cs ≡ length fs
children_length view i [] [] stand = refl
children_length view i (f ∷ fs) (c ∷ cs) stand = ap suc (children_length view i fs cs stand.1)
children_length view i fs cs stand = absurd assumption

join_taken : {view : View} {point given : TimePoint} {whole : CoreForm} {old new : JoinOf}
    {stack rest lists : List (List TableOf)} {tables : List TableOf} (f : CoreForm) (below : List CoreForm)
    → Premises view point given whole f → IsConjunction f old → JoinStands view f old
    → StackNews view point (below ++ operands f) stack
    → PopsMany (length old.children) stack rest lists → JoinTakes old lists new tables
    → IsConjunction f new × JoinStands (longer view point) f new × StackNews view point below rest
    × News view point f tables
join_taken {view} {point} {old = old} f below premises is stands stacked pops takes =
    let news = pops_many view point below (operands f)
    (children_length view old.pulled (operands f) old.children stands.children) stacked pops in
    let steps = join_steps view point premises.rising premises.passes is stands news.1 takes in
    (steps.0, steps.1, news.0, steps.2)

pub join_advances : {old new : JoinOf} {given : TimePoint} {stack rest lists : List (List TableOf)}
    {tables : List TableOf} → PopsMany (length old.children) stack rest lists → JoinTakes old lists new tables
    → TakesPoint (node.Join old) given stack (node.Join new) rest tables
join_advances pops takes view point whole (And f g) below premises is stands stacked =
    join_taken (And f g) below premises is stands stacked pops takes
join_advances pops takes view point whole (Not f) below premises is stands stacked =
    join_taken (Not f) below premises is stands stacked pops takes
join_advances pops takes view point whole f below premises is stands stacked = absurd is

pub or_advances : {old new : OrOf} {given : TimePoint} {stack mid rest : List (List TableOf)}
    {ls rs tables : List TableOf} → Pops stack mid rs → Pops mid rest ls → OrTakes old ls rs new tables
    → TakesPoint (node.Or old) given stack (node.Or new) rest tables
or_advances last first takes view point whole (Or f g) below premises is stands stacked =
    let news = pops_two view point below f g stacked last first in
    let steps = or_steps news.1 news.2 is stands takes premises.rising premises.passes in
    (steps.0, steps.1, news.0, steps.2)
or_advances last first takes view point whole f below premises is stands stacked = absurd is

pub previous_advances : {old new : PrevOf} {given : TimePoint} {stack rest : List (List TableOf)}
    {operand tables : List TableOf} → Pops stack rest operand → PreviousTakes old given.ts operand new tables
    → TakesPoint (node.Previous old) given stack (node.Previous new) rest tables
previous_advances pops takes view point whole (Previous i f) below premises is stands stacked =
    let news = pops_top view point below f stacked pops in
    let steps = previous_steps news.1 is stands takes premises.ts premises.rising in
    (steps.0, steps.1, news.0, steps.2)
previous_advances pops takes view point whole f below premises is stands stacked = absurd is

pub next_advances : {old new : NextOf} {given : TimePoint} {stack rest : List (List TableOf)}
    {operand tables : List TableOf} → Pops stack rest operand → NextTakes old given.ts operand new tables
    → TakesPoint (node.Next old) given stack (node.Next new) rest tables
next_advances pops takes view point whole (Next i f) below premises is stands stacked =
    let news = pops_top view point below f stacked pops in
    let steps = next_steps news.1 is stands takes premises.ts premises.rising in
    (steps.0, steps.1, news.0, steps.2)
next_advances pops takes view point whole f below premises is stands stacked = absurd is

-- the three topmost are a filter's operands'
pops_filtered : (view : View) (point : TimePoint) (below : List CoreForm) (f w : CoreForm)
    {stack high mid rest : List (List TableOf)} {fs ls rs : List TableOf} → is_window w ≡ true
    → StackNews view point (below ++ (f ∷ window_operands w)) stack → Pops stack high rs → Pops high mid ls
    → Pops mid rest fs
    → StackNews view point below rest × News view point f fs × StackNews view point (window_operands w) (ls ∷ rs ∷ [])
pops_filtered view point below f (Since i a b) is news last second first =
    pops_three view point below f (left_operand a) b news last second first
pops_filtered view point below f (Until i a b) is news last second first =
    pops_three view point below f (left_operand a) b news last second first
pops_filtered view point below f w is news last second first = absurd (let clash : true ≡ false = sym is in cc)

pub filter_advances : {old new : FilterState} {given : TimePoint} {stack high mid rest : List (List TableOf)}
    {fs ls rs tables : List TableOf}
    → Pops stack high rs → Pops high mid ls → Pops mid rest fs → FilterTakes old given.ts fs ls rs new tables
    → TakesPoint (node.Filter old) given stack (node.Filter new) rest tables
filter_advances last second first takes view point whole (And f g) below premises is stands stacked =
    let news = pops_filtered view point below f (left_operand g)
    (and_parts (is_window (left_operand g)) (adds_none f g || is_keyed f g) is.only).0 (rw is.only at stacked)
    last second first in
    let steps = filter_steps whole is stands news.1 news.2 takes premises.ts premises.rising premises.passes
    (grind arith) in
    (steps.0, steps.1, news.0, steps.2)
filter_advances last second first takes view point whole f below premises is stands stacked = absurd is
