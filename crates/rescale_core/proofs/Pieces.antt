-- The pieces among what answers.
use Rattle.std.proofs.Common.{◌≡◌, ◌≢◌, ℕ, ◌+◌, ◌<◌, ◌≤◌, Bool, true, false, ◌&&◌, nat_eq, Option, Some, List, [], ◌∷◌}
use Rattle.std.proofs.Common.{◌++◌, length, filter, map, drop, sym, refl, ap, ◌∙◌, subst, ⊎_elim, append_assoc}
use Rattle.std.proofs.Common.{append-nil, arith, ne_eqb, length-append, cond}
use Rattle.std.proofs.{lemmas.Bool.cases_eq, lemmas.Bool.Decides.nat_tests, lemmas.List.Elements.filter-append}
use Rattle.std.proofs.{lemmas.List.length-map, Math.Seq.drop-append_seam, Permutation.every_append}
use Rattle.mfotl_model.specs.{Numbers.Apart, Numbers.NotIn, Strategies.Strategy, Strategies.workers_of}
use Rattle.rescale_core.proofs.{Fitting.every_map, WorldLemmas.AreChanges, WorldLemmas.Rises}
use Rattle.rescale_core.specs.{Soundly.Known, Soundly.last_part, Handing.for_place, Worlds.pieces_in}
use Rattle.rescale_worker.specs.{Lines.ChangeOfStrategy, Lines.Due, Workers.newly}
use Rattle.rescale_worker.specs.Phases.{IsPieceFor, AnswersOne, Parts, Answers, rows_for}
use Rattle.std.specs.List.{AllByRecursion}
use Rattle.monitorable.specs.CoreForms.{CoreForm}
use Rattle.monitor_state.specs.declared.state.Piece.{Piece}
use Rattle.rescale_worker.specs.declared.{item.Out.Out, item.Out.TheVariants.Rows as OfRows}
use Rattle.rescale_worker.specs.declared.{item.Out.TheVariants.Piece as OfPiece}
use Rattle.rescale_worker.specs.Lines.Due.{Slicing, Parting, Hole}

-- ---- lists

pub every_front : {A : Type 0} (P : A → Type 0) (xs ys : List A) → AllByRecursion P (xs ++ ys) → AllByRecursion P xs
every_front P [] ys h = tt
every_front P (x ∷ xs) ys h = (h.0, every_front P xs ys h.1)

pub every_behind : {A : Type 0} (P : A → Type 0) (xs ys : List A) → AllByRecursion P (xs ++ ys) → AllByRecursion P ys
every_behind P [] ys h = h
every_behind P (x ∷ xs) ys h = every_behind P xs ys h.1

-- a filter keeps all, or none
pub all_pass : {A : Type 0} (test : A → Bool) (xs : List A) → AllByRecursion (λ x. test x ≡ true) xs
    → filter test xs ≡ xs
all_pass test [] a = refl
all_pass test (x ∷ xs) a = rw a.0 (ap (λ ys. x ∷ ys) (all_pass test xs a.1))

pub none_pass : {A : Type 0} (test : A → Bool) (xs : List A) → AllByRecursion (λ x. test x ≡ false) xs
    → filter test xs ≡ []
none_pass test [] a = refl
none_pass test (x ∷ xs) a = rw a.0 (none_pass test xs a.1)

-- at most one more, by another worker than all the others
pub distinct_lone : {A : Type 0} (by : A → ℕ) (xs ys : List A) → Apart (map by xs) → length ys ≤ 1
    → AllByRecursion (λ y. AllByRecursion (λ x. by x ≢ by y) xs) ys → Apart (map by (xs ++ ys))
distinct_lone by xs [] d l e = rw append-nil d
distinct_lone by xs (y ∷ (z ∷ ys)) d l e = absurd (omega arith)
distinct_lone {A} by xs (y ∷ []) d l e = distinct xs d e.0
  where
    not_in : (n : ℕ) (xs : List A) → NotIn n (map by xs) → n ≢ by y → NotIn n (map by (xs ++ y ∷ []))
    not_in n [] a b = (b, tt)
    not_in n (x ∷ xs) a b = (a.0, not_in n xs a.1 b)

    distinct : (xs : List A) → Apart (map by xs) → AllByRecursion (λ x. by x ≢ by y) xs
        → Apart (map by (xs ++ y ∷ []))
    distinct [] d e = (tt, tt)
    distinct (x ∷ xs) d e = (not_in (by x) xs d.0 e.0, distinct xs d.1 e.1)

same_length : {A : Type 0} (a b x y : List A) → length a ≡ length b → a ++ x ≡ b ++ y → x ≡ y
same_length a b x y l e =
    sym (drop-append_seam a x) ∙ ap (drop (length a)) e ∙ ap (λ n. drop n (b ++ y)) l ∙ drop-append_seam b y

-- ---- answers, cut in two

-- how many outs answer it
abbrev outs_for : CoreForm → ℕ → Due → ℕ
outs_for c k (Slicing g s log p) = length (newly c log p)
outs_for c k (Parting t) = workers_of t.new
outs_for c k (Hole t j) = 0

gives_length : (c : CoreForm) (k : ℕ) (d : Due) (a : List Out) → AnswersOne c k d a → length a ≡ outs_for c k d
gives_length c k (Slicing g s log p) a e = ap length e ∙ length-map (newly c log p) (rows_for c k g s log p)
gives_length c k (Parting t) a e = e.0
gives_length c k (Hole t j) a e = ap length e

pub answers_cut : (c : CoreForm) (k : ℕ) (ds es : List Due) (a b : List Out) → Answers c k ds a
    → Answers c k (ds ++ es) (a ++ b) → Answers c k es b
answers_cut c k [] es a b x y = subst (λ z. Answers c k es (z ++ b)) x y
answers_cut c k (d ∷ ds) es a b x y = answers_cut c k ds es x.1 b x.4
    (subst (Answers c k (ds ++ es))
    (sym (same_length x.0 y.0 (x.1 ++ b) y.1 (gives_length c k d x.0 x.3 ∙ sym (gives_length c k d y.0 y.3))
    (sym (append_assoc x.0 x.1 b) ∙ ap (λ z. z ++ b) (sym x.2) ∙ y.2))) y.4)

-- ---- the pieces in answers

pub pieces_more : (a b : List Out) → pieces_in (a ++ b) ≡ pieces_in a ++ pieces_in b
pieces_more [] b = refl
pieces_more (OfRows r ∷ a) b = pieces_more a b
pieces_more (OfPiece p ∷ a) b = ap (λ x. p ∷ x) (pieces_more a b)

no_pieces_in : (c : CoreForm) (k g : ℕ) (s : Strategy) (log : List _) (p : _) (is : List ℕ)
    → pieces_in (map (rows_for c k g s log p) is) ≡ []
no_pieces_in c k g s log p [] = refl
no_pieces_in c k g s log p (i ∷ is) = no_pieces_in c k g s log p is

pub last_more : (g : ℕ) (xs ys : List Due) → last_part g (xs ++ ys) ≡ last_part (last_part g xs) ys
last_more g [] ys = refl
last_more g (Slicing h s log p ∷ xs) ys = last_more g xs ys
last_more g (Parting t ∷ xs) ys = last_more t.generation xs ys
last_more g (Hole t j ∷ xs) ys = last_more g xs ys

-- a front of the line, and what is behind it
pub rises_apart : (g : ℕ) (xs ys : List Due) → Rises g (xs ++ ys) → Rises g xs × Rises (last_part g xs) ys
rises_apart g [] ys r = (tt, r)
rises_apart g (Slicing h s log p ∷ xs) ys r = rises_apart g xs ys r
rises_apart g (Parting t ∷ xs) ys r = let h = rises_apart t.generation xs ys r.1 in ((r.0, h.0), h.1)
rises_apart g (Hole t j ∷ xs) ys r = rises_apart g xs ys r

pub last_rises : (g : ℕ) (xs : List Due) → Rises g xs → g ≤ last_part g xs
last_rises g [] r = omega arith
last_rises g (Slicing h s log p ∷ xs) r = last_rises g xs r
last_rises g (Parting t ∷ xs) r = let h = last_rises t.generation xs r.1 in let l = r.0 in omega arith
last_rises g (Hole t j ∷ xs) r = last_rises g xs r

pub changes_apart : (f : ℕ → Option ChangeOfStrategy) (xs ys : List Due) → AreChanges f (xs ++ ys)
    → AreChanges f xs × AreChanges f ys
changes_apart f [] ys r = (tt, r)
changes_apart f (Slicing h s log p ∷ xs) ys r = changes_apart f xs ys r
changes_apart f (Parting t ∷ xs) ys r = let h = changes_apart f xs ys r.1 in ((r.0, h.0), h.1)
changes_apart f (Hole t j ∷ xs) ys r = let h = changes_apart f xs ys r.1 in ((r.0, h.0), h.1)

-- a piece that a part of k gave
pub record Came (f : ℕ → Option ChangeOfStrategy) (c : CoreForm) (k lo hi : ℕ) (p : Piece) : Type 0 where
  pub known : Known f c p
  pub from : p.from ≡ k
  pub above : lo < p.generation
  pub within : p.generation ≤ hi

-- the first of the pieces that a part gave
pub first_piece : (c : CoreForm) (k : ℕ) (t : ChangeOfStrategy) (k2 : ℕ) (p : Piece) (os : List Out)
    → Parts c k t k2 (OfPiece p ∷ os) → (p.from ≡ k) × IsPieceFor c t k2 p
first_piece c k t k2 p os ps =
    let same : ps.0.0 ≡ p = (let x = ps.0.1 in cc) in
    subst (λ (y : Piece). (y.from ≡ k) × IsPieceFor c t k2 y) same (ps.0.2, ps.0.3)

parts_came : (f : ℕ → Option ChangeOfStrategy) (c : CoreForm) (k lo hi : ℕ) (t : ChangeOfStrategy) (k2 : ℕ)
    (os : List Out)
    → f t.generation ≡ Some t → lo < t.generation → t.generation ≤ hi → k2 + length os ≡ workers_of t.new
    → Parts c k t k2 os → AllByRecursion (Came f c k lo hi) (pieces_in os)
parts_came f c k lo hi t k2 [] e l h n ps = tt
parts_came f c k lo hi t k2 (OfRows r ∷ os) e l h n ps = let x = ps.0.1 in cc
parts_came f c k lo hi t k2 (OfPiece p ∷ os) e l h n ps =
    let first = first_piece c k t k2 p os ps in
    let is : IsPieceFor c t k2 p = first.1 in
    let g_is : p.generation ≡ t.generation = is.generation in
    let to : p.to ≡ k2 = is.to in (
      record {
        known = record {
          change = t;
          is = ap f g_is ∙ e;
          piece_for = subst (λ (y : ℕ). IsPieceFor c t y p) (sym to) is;
          near = omega arith;
        };
        from = first.0;
        above = omega arith;
        within = omega arith;
      },
      parts_came f c k lo hi t (k2 + 1) os e l h (omega arith) ps.1,
    )

pub answers_came : (f : ℕ → Option ChangeOfStrategy) (c : CoreForm) (k lo g : ℕ) (ds : List Due) (os : List Out)
    → lo ≤ g → Rises g ds → AreChanges f ds → Answers c k ds os
    → AllByRecursion (Came f c k lo (last_part g ds)) (pieces_in os)
answers_came f c k lo g [] os low r t a = rw a tt
answers_came f c k lo g (Slicing h s log p ∷ ds) os low r t a =
    rw (a.2, pieces_more a.0 a.1, ap pieces_in a.3 ∙ no_pieces_in c k h s log p (newly c log p))
    (answers_came f c k lo g ds a.1 low r t a.4)
answers_came f c k lo g (Parting u ∷ ds) os low r t a =
    let up = r.0 in
    let l : length a.0 ≡ workers_of u.new = a.3.0 in
    rw (a.2, pieces_more a.0 a.1)
    (every_append (Came f c k lo (last_part u.generation ds)) (pieces_in a.0) (pieces_in a.1)
    (parts_came f c k lo (last_part u.generation ds) u 0 a.0 t.0 (omega arith) (last_rises u.generation ds r.1)
    (omega arith) a.3.1)
    (answers_came f c k lo u.generation ds a.1 (omega arith) r.1 t.1 a.4))
answers_came f c k lo g (Hole u j ∷ ds) os low r t a =
    rw (a.2, pieces_more a.0 a.1, ap pieces_in a.3) (answers_came f c k lo g ds a.1 low r t.1 a.4)

-- ---- at most one piece for a place

pub skips : (g q : ℕ) (p : Piece) (ps : List Piece) → p.generation ≢ g → for_place g q (p ∷ ps) ≡ for_place g q ps
skips g q p ps n =
    ap (λ b. cond (b && nat_eq p.to q) (p ∷ for_place g q ps) (for_place g q ps)) (ne_eqb p.generation g n)

came_none : (f : ℕ → Option ChangeOfStrategy) (c : CoreForm) (k lo hi g q : ℕ) (ps : List Piece)
    → AllByRecursion (Came f c k lo hi) ps → g ≤ lo → for_place g q ps ≡ []
came_none f c k lo hi g q ps a e =
    none_pass (λ p. nat_eq p.generation g && nat_eq p.to q) ps
    (every_map _ _ ps (λ p h. (let above = h.above in grind (arith, nat_tests))) a)

parts_none : (c : CoreForm) (k : ℕ) (t : ChangeOfStrategy) (k2 g q : ℕ) (os : List Out) → Parts c k t k2 os
    → (t.generation ≡ g → q < k2) → for_place g q (pieces_in os) ≡ []
parts_none c k t k2 g q [] ps e = refl
parts_none c k t k2 g q (OfRows r ∷ os) ps e = let x = ps.0.1 in cc
parts_none c k t k2 g q (OfPiece p ∷ os) ps e =
    let is : IsPieceFor c t k2 p = (first_piece c k t k2 p os ps).1 in
    let g_is : p.generation ≡ t.generation = is.generation in
    let to : p.to ≡ k2 = is.to in
    let rest = parts_none c k t (k2 + 1) g q os ps.1 (λ same. (let l = e same in omega arith)) in
    let test : (nat_eq p.generation g && nat_eq p.to q) ≡ false = grind (arith, nat_tests) in
    rw test rest

parts_lone : (c : CoreForm) (k : ℕ) (t : ChangeOfStrategy) (k2 g q : ℕ) (os : List Out) → Parts c k t k2 os
    → length (for_place g q (pieces_in os)) ≤ 1
parts_lone c k t k2 g q [] ps = omega arith
parts_lone c k t k2 g q (OfRows r ∷ os) ps = parts_lone c k t (k2 + 1) g q os ps.1
parts_lone c k t k2 g q (OfPiece p ∷ os) ps =
    let to : p.to ≡ k2 = (first_piece c k t k2 p os ps).1.to in
    let rest = parts_lone c k t (k2 + 1) g q os ps.1 in
    let none : p.to ≡ q → length (for_place g q (pieces_in os)) ≡ 0 =
    λ e. ap length (parts_none c k t (k2 + 1) g q os ps.1 (λ _. (omega arith))) in
    grind (arith, nat_tests)

pub answers_lone : (f : ℕ → Option ChangeOfStrategy) (c : CoreForm) (k lo g q : ℕ) (ds : List Due) (os : List Out)
    → Rises lo ds → AreChanges f ds → Answers c k ds os → length (for_place g q (pieces_in os)) ≤ 1
answers_lone f c k lo g q [] os r t a = rw a (omega arith)
answers_lone f c k lo g q (Slicing h s log p ∷ ds) os r t a =
    rw (a.2, pieces_more a.0 a.1, ap pieces_in a.3 ∙ no_pieces_in c k h s log p (newly c log p))
    (answers_lone f c k lo g q ds a.1 r t a.4)
answers_lone f c k lo g q (Parting u ∷ ds) os r t a =
    let here : List Piece = for_place g q (pieces_in a.0) in
    let later : List Piece = for_place g q (pieces_in a.1) in
    let both : for_place g q (pieces_in os) ≡ here ++ later =
    rw (a.2, pieces_more a.0 a.1)
    (filter-append (λ p. nat_eq p.generation g && nat_eq p.to q) (pieces_in a.0) (pieces_in a.1)) in
    let long : length (for_place g q (pieces_in os)) ≡ length here + length later =
    ap length both ∙ length-append here later in
    let one : length here ≤ 1 = parts_lone c k u 0 g q a.0 a.3.1 in
    let rest : length later ≤ 1 = answers_lone f c k u.generation g q ds a.1 r.1 t.1 a.4 in
    ⊎_elim
    (λ same. let none : length later ≡ 0 =
    ap length (came_none f c k u.generation (last_part u.generation ds) g q (pieces_in a.1)
    (answers_came f c k u.generation u.generation ds a.1 (omega arith) r.1 t.1 a.4) (omega arith)) in omega arith)
    (λ other. let none : length here ≡ 0 =
    ap length (parts_none c k u 0 g q a.0 a.3.1 (λ same. absurd (other same))) in omega arith)
    (cases_eq u.generation g)
answers_lone f c k lo g q (Hole u j ∷ ds) os r t a =
    rw (a.2, pieces_more a.0 a.1, ap pieces_in a.3) (answers_lone f c k lo g q ds a.1 r t.1 a.4)
