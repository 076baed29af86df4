-- Each step keeps the rule.
use Rattle.std.proofs.Common.{◌≡◌, ◌≢◌, ◌⊎◌, ℕ, suc, zero, ◌<◌, List, [], ◌∷◌, ◌++◌, length, set, sym, refl, ap, ◌∙◌}
use Rattle.std.proofs.Common.{inl, inr, ⊎_elim, arith, Option, Some, None, length-set, get_or-set_same}
use Rattle.std.proofs.Common.{get_or-set_other, eqb-true, append-nil}
use Rattle.std.proofs.{Math.Logic.⊎_map, lemmas.Option.none-some, lemmas.Option.same_Some}
use Rattle.std.proofs.{lemmas.Bool.false_from_ne_true, lemmas.List.set-get_or}
use mathlib.Core.Logic.{dite}
use mathlib.Core.Option.{some, none, some-injective, some-ne-none}
use mathlib.Core.Option as maybe
use native.Mathlib.Decide.{ℕ_discrete}
use lib.ListN.{get_elem?}
use Rattle.std.specs.Prelude.{slice_index}
use Rattle.atomic_table.specs.Table.{State, keeps, takes, gives, Allows, step}
use Rattle.atomic_table.proofs.Lists.{at_set, set_here, set_else}
use Rattle.turn_hub.specs.declared.{view.Cell.Cell, view.Line.Line, view.View.View}
use Rattle.turn_hub.specs.Rule.{Rests, Ready, Due, Has, Out, CellOk, Ruled}
use Rattle.turn_hub.specs.Steps.{Seated, looked, with_line, handed_over, main_looks, hands_over}

module _ {A : Type 0} where
  pub within : (xs : List A) (i : ℕ) (a : A) → get_elem? xs i ≡ some a → i < length xs
  within [] i a e = absurd (some-ne-none a (sym e))
  within (x ∷ xs) zero a e = omega arith
  within (x ∷ xs) (suc i) a e = let h = within xs i a e in omega arith

  pub there : (xs : List A) (i : ℕ) → i < length xs → (a : A) × (get_elem? xs i ≡ some a)
  there [] i h = absurd (omega arith)
  there (x ∷ xs) zero h = (x, refl)
  there (x ∷ xs) (suc i) h = there xs i (omega arith)

module _ {W S I O : Type 0} where
  -- a seat with a number was there with it, where the seat id moves and gets no other number
  was : (views : List (View W S I O)) (id : ℕ) (v w : View W S I O) → get_elem? views id ≡ some v
      → ((q : ℕ) → w.number ≡ Some q → v.number ≡ Some q)
      → (j : ℕ) (u : View W S I O) (q : ℕ) → get_elem? (set views id w) j ≡ some u → u.number ≡ Some q
      → (u' : View W S I O) × (get_elem? views j ≡ some u') × (u'.number ≡ Some q)
  was views id v w seated number j u q e num = grind (arith, ⊎_elim, at_set)

  -- who has the cell still has it, where another seat moves
  pub still_out : (views : List (View W S I O)) (id : ℕ) (v w : View W S I O) (k : ℕ) → get_elem? views id ≡ some v
      → (o : Out views k) → (o.1 ≡ v → ⊥) → Out (set views id w) k
  still_out views id v w k seated o other = grind (arith, set_else, some-injective)

module _ {W S I O : Type 0} (stands : S → List I → List O → W → Type 0) (may : S → List I → Type 0)
    (refused : W → Type 0) where
  -- a word that was written is read
  pub same_word : (s : State (Option (Cell W I O)) (View W S I O)) (k n : ℕ) → Ruled stands may refused s
      → k < length s.homes → slice_index (set s.words k n) k ≡ n
  same_word s k n r near = get_or-set_same s.words k n 0 (omega (arith, r.wide))

  -- the seat id has no cell and gets another view, and what main knows stays
  pub renewed : (s : State (Option (Cell W I O)) (View W S I O)) (r : Ruled stands may refused s) (id : ℕ)
      (v w main' : View W S I O) → get_elem? s.views id ≡ some v → v.has ≡ None → w.has ≡ None
      → ((q : ℕ) → w.number ≡ Some q → v.number ≡ Some q) → get_elem? (set s.views id w) 0 ≡ some main'
      → (main'.number ≡ None) × (main'.lines ≡ r.main.lines) × (main'.made ≡ r.main.made)
      × (main'.has ≡ r.main.has) × (r.main.has ≢ None → main'.cell ≡ r.main.cell)
      → Ruled stands may refused record { words = s.words; homes = s.homes; views = set s.views id w }
  renewed s r id v w main' seated none_held none_left number first like = record {
    main = main';
    first = first;
    no_hand = like.0;
    wide = r.wide;
    lined = ap length like.1 ∙ r.lined;
    has = λ c e. let e' = sym like.3 ∙ e in
        rw (like.1, like.4 (λ z. none-some c (sym z ∙ e'))) (r.has c e');
    each_cell = λ k l e. let ok = r.each_cell k l (rw like.1 at e) in
        record {
          known = ok.known;
          allowed = ok.allowed;
          mine = ok.mine;
          ready = λ z. ⊎_map (λ t. t) (λ t. (rw like.3 t.0, like.4 t.0 ∙ t.1)) (ok.ready z);
          due = λ one. ⊎_map (λ t. t) (λ o. still_out s.views id v w k seated o (grind arith)) (ok.due one);
          marked = ok.marked;
        };
    each_hand = λ j u k e num. let o = was s.views id v w seated number j u k e num in
        record {
          below = rw like.2 (r.each_hand j o.0 k o.1 o.2).below;
          has = λ c h. ⊎_elim (λ t. absurd cc) (λ t. rw like.1 ((r.each_hand j u k t.1 num).has c h))
              (at_set s.views id j w u e);
        };
    once = λ i j u y k e f num num'. let a = was s.views id v w seated number i u k e num in let b =
        was s.views id v w seated number j y k f num' in r.once i j a.0 b.0 k a.1 b.1 a.2 b.2;
  }

  -- the cell k and the seat id move, and what main knows of the others stays
  pub record Moved (s : State (Option (Cell W I O)) (View W S I O)) (r : Ruled stands may refused s) (k n id : ℕ)
      (home : maybe.Option (Option (Cell W I O))) (v w main' : View W S I O) (l : Line S I O) : Type 0 where
    pub seated : get_elem? s.views id ≡ some v
    pub near : k < length s.homes
    pub first : get_elem? (set s.views id w) 0 ≡ some main'
    pub kept : (main'.number ≡ None) × (main'.made ≡ r.main.made) × (length main'.lines ≡ length r.main.lines)
    pub number : (q : ℕ) → w.number ≡ Some q → v.number ≡ Some q
    pub lines : (q : ℕ) → q ≢ k → get_elem? main'.lines q ≡ get_elem? r.main.lines q
    pub line : get_elem? main'.lines k ≡ some l
    pub here : CellOk stands may refused (set s.homes k home) (set s.views id w) main' k n l
    pub has : (c : Cell W I O) → main'.has ≡ Some c
        → Has stands (set s.words k n) main'.lines main'.cell 0 c (Ready stands)
    pub others : (q : ℕ) → q ≢ k → r.main.has ≢ None → r.main.cell ≡ q → (main'.has ≢ None) × (main'.cell ≡ q)
    pub only : (q : ℕ) → v.number ≡ Some q → q ≡ k
    pub mine : (c : Cell W I O) → v.number ≡ Some k → w.has ≡ Some c
        → Has stands (set s.words k n) main'.lines k 1 c (Due stands)
    pub alone : (j : ℕ) (u : View W S I O) (c : Cell W I O) → j ≢ id → get_elem? s.views j ≡ some u
        → u.number ≡ Some k → u.has ≡ Some c → ⊥

  pub moved : (s : State (Option (Cell W I O)) (View W S I O)) (r : Ruled stands may refused s) (k n id : ℕ)
      (home : maybe.Option (Option (Cell W I O))) (v w main' : View W S I O) (l : Line S I O)
      → Moved s r k n id home v w main' l → Ruled stands may refused
      record { words = set s.words k n; homes = set s.homes k home; views = set s.views id w }
  moved s r k n id home v w main' l m = record {
    main = main';
    first = m.first;
    no_hand = m.kept.0;
    wide = length-set s.words k n ∙ r.wide ∙ sym (length-set s.homes k home);
    lined = m.kept.2 ∙ r.lined ∙ sym (length-set s.homes k home);
    has = m.has;
    each_cell = λ q l' e. dite (ℕ_discrete q k)
        (λ is. rw (is, same_word s k n r m.near, some-injective l' l (sym e ∙ rw is m.line)) m.here)
        (λ other. let ok = r.each_cell q l' (sym (m.lines q other) ∙ e) in
        rw (get_or-set_other s.words k q n 0 other) record {
          known = ok.known;
          allowed = ok.allowed;
          mine = ok.mine;
          ready = λ z. ⊎_map (λ t. (t.0, grind (arith, set_else), t.2)) (λ t. grind arith) (ok.ready z);
          due = λ z. ⊎_map (λ t. (t.0, grind (arith, set_else), t.2))
              (λ o. still_out s.views id v w q m.seated o (grind arith)) (ok.due z);
          marked = λ z. let t = ok.marked z in (t.0, grind (arith, set_else), t.2);
        });
    each_hand = λ j u q e num. let o = was s.views id v w m.seated m.number j u q e num in
        record {
          below = rw m.kept.1 (r.each_hand j o.0 q o.1 o.2).below;
          has = λ c h. ⊎_elim
              (λ t. let num' = m.number q (rw t.1 num) in let is : q ≡ k = m.only q num' in
              rw is (m.mine c (rw is at num') (rw t.1 h)))
              (λ t. dite (ℕ_discrete q k) (λ is. absurd (grind arith))
              (λ other. let had = (r.each_hand j u q t.1 num).has c h in
              (had.0, m.lines q other ∙ had.1, get_or-set_other s.words k q n 0 other ∙ had.2, had.3)))
              (at_set s.views id j w u e);
        };
    once = λ i j u y q e f num num'. let a = was s.views id v w m.seated m.number i u q e num in let b =
        was s.views id v w m.seated m.number j y q f num' in r.once i j a.0 b.0 q a.1 b.1 a.2 b.2;
  }

  module _ (s : State (Option (Cell W I O)) (View W S I O)) (r : Ruled stands may refused s) (k : ℕ)
      (near : k < length s.homes) (l : Line S I O) (line : get_elem? r.main.lines k ≡ some l) where
    new_first : (w : View W S I O) → get_elem? (set s.views 0 w) 0 ≡ some w
    new_first w = set_here s.views 0 w (within s.views 0 r.main r.first)

    -- main's step at the cell k, whose word is main's
    main_moves : (n : ℕ) (home : maybe.Option (Option (Cell W I O))) (w : View W S I O) (next : Line S I O)
        → slice_index s.words k ≡ 0 → (r.main.has ≢ None → r.main.cell ≡ k)
        → (w.number ≡ None) × (w.made ≡ r.main.made) × (length w.lines ≡ length r.main.lines)
        → ((q : ℕ) → q ≢ k → get_elem? w.lines q ≡ get_elem? r.main.lines q) → get_elem? w.lines k ≡ some next
        → CellOk stands may refused (set s.homes k home) (set s.views 0 w) w k n next
        → ((c : Cell W I O) → w.has ≡ Some c → (n ≡ 0) × (w.cell ≡ k) × Ready stands next c)
        → Ruled stands may refused
        record { words = set s.words k n; homes = set s.homes k home; views = set s.views 0 w }
    main_moves n home w next z held like lines is here has = moved s r k n 0 home r.main w w next record {
      seated = r.first;
      near = near;
      first = new_first w;
      kept = like;
      number = λ q num. absurd (grind arith);
      lines = lines;
      line = is;
      here = here;
      has = λ c e. let h = has c e in (next, rw h.1 is, rw h.1 (same_word s k n r near) ∙ h.0, h.2);
      others = λ q other h is. absurd (other (sym is ∙ held h));
      only = λ q num. absurd (grind arith);
      mine = λ c num h. absurd (grind arith);
      alone = λ j u c _ at' num h. let one = ((r.each_hand j u k at' num).has c h).2 in omega arith;
    }

  pub main_loads : (n id k : ℕ) (me : Seated W S I O) → id ≡ 0 → me.0.has ≡ None → length me.0.lines ≡ n → k < n
      → Allows (Ruled stands may refused) n id me k (λ y. y) (main_looks stands (step n k 0 0 none) me)
  main_loads n id k me is_first none_held lined near s r wide seated small =
      let is : me.0 ≡ r.main = some-injective me.0 r.main (sym seated ∙ rw is_first r.first) in
      let nothing : r.main.has ≡ None = rw (← is) none_held in
      let near' : k < length s.homes = omega arith in
      let t = there r.main.lines k (omega (arith, r.lined)) in
      let o = r.each_cell k t.0 t.1 in
      let x : ℕ = slice_index s.words k in
      rw (is_first, is) (dite (ℕ_discrete x 0)
      (λ z. let h : Rests s.homes k (Ready stands t.0) = ⊎_elim (λ h. h) (λ h. absurd (h.0 nothing)) (o.ready z) in (
        looked r.main k x (Some h.0),
        takes k (Some h.0),
        h.1,
        main_moves s r k near' t.0 t.1 x maybe.none (looked r.main k x (Some h.0)) t.0 z (λ has. absurd (has nothing))
            (r.no_hand, refl, refl) (λ q other. refl) t.1 record {
              known = o.known;
              allowed = o.allowed;
              mine = o.mine;
              ready = λ _. inr ((λ e. none-some h.0 (sym e)), refl);
              due = λ one. absurd (omega arith);
              marked = λ two. absurd (omega arith);
            } (λ c e. (z, refl, rw (same_Some h.0 c e) at h.2)),
        (((λ _. (h.0, refl, (t.0, t.1, h.2))), (λ nz. absurd (nz z)), o.known), (λ nz. absurd (nz z))),
      ))
      (λ nz. (
        looked r.main k x None,
        keeps,
        tt,
        rw set-get_or (renewed s r 0 r.main (looked r.main k x None) (looked r.main k x None) r.first nothing refl
            (λ q num. num) (new_first s r k near' t.0 t.1 (looked r.main k x None))
            (r.no_hand, refl, refl, sym nothing, λ h. absurd (h nothing))),
        (
          ((λ z. absurd (nz z)), (λ _. refl), o.known),
          (λ _. (t.0, t.1, false_from_ne_true t.0.mine (λ e. nz (o.mine e)))),
        ),
      )))

  pub main_stores : (n id k x : ℕ) (me : Seated W S I O) (v : View W S I O) (more : List (ℕ × Option (Cell W I O)))
      (l : Line S I O) (c cf c' : Cell W I O) (new : ℕ) → id ≡ 0 → k < n
      → me ≡ (looked v k x (Some cf), (k, Some c') ∷ more) → c ≡ cf → get_elem? v.lines k ≡ some l → c'.work ≡ c.work
      → c'.outs.items ≡ [] → c'.count ≡ length c'.items.items → may l.seed (l.handed ++ c'.items.items)
      → ((new ≡ 0) × (c'.items.items ≡ [])) ⊎ ((new ≡ 1) × (c'.items.items ≢ []))
      → Allows (Ruled stands may refused) n id me k (λ _. new) (λ _ m'. hands_over (step n k new 0 none) me new m')
  main_stores n id k x me v more l c cf c' new is_first near holds same line work outs count allowed turn s r wide
      seated small =
      let is : me.0 ≡ r.main = some-injective me.0 r.main (sym seated ∙ rw is_first r.first) in
      let near' : k < length s.homes = omega arith in
      let line' : get_elem? r.main.lines k ≡ some l = rw (← is, holds) line in
      let has : r.main.has ≡ Some c = rw (← is, holds, same) in
      let cell : r.main.cell ≡ k = rw (← is, holds) in
      let next : Line S I O = handed_over l c c' new in
      let home = set_here s.homes k (some (Some c')) near' in
      let held : Has stands s.words r.main.lines k 0 c (Ready stands) = rw cell at (r.has c has) in
      let stood : stands l.seed l.handed (l.back ++ c.outs.items) c'.work =
      rw (work, sym (some-injective held.0 l (sym held.1 ∙ line'))) held.3.0 in
      let kept = main_moves s r k near' l line' new (some (Some c')) (with_line r.main k new next) next held.2
      (λ _. cell) (r.no_hand, refl, length-set r.main.lines k next) (λ q other. set_else r.main.lines k q next other)
      (set_here r.main.lines k next (within r.main.lines k l line')) record {
        known = grind arith;
        allowed = allowed;
        mine = λ e. eqb-true new 0 e;
        ready = λ z. inl (c', home, (grind (arith, append-nil), count, λ _. outs));
        due = λ one. inl (c', home, (l.handed, refl, stood, outs, count));
        marked = λ two. absurd (grind arith);
      } (λ y e. absurd (none-some y e)) in
      rw (is_first, is) (
        with_line r.main k new next,
        gives,
        tt,
        rw holds kept,
        (l, c, c', line', has, rw holds, refl),
      )
