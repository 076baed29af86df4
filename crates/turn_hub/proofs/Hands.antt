-- A hand's steps keep the rule.
use Rattle.std.proofs.Common.{◌≡◌, ◌≢◌, ◌⊎◌, ℕ, ◌<◌, List, ◌∷◌, ◌++◌, true, length, set, sym, refl, ap, ◌∙◌, inl, inr}
use Rattle.std.proofs.Common.{⊎_elim, arith, Option, Some, None, get_or-set_other}
use mathlib.Core.Logic.{dite}
use mathlib.Core.Option.{some, none, some-injective}
use mathlib.Core.Option as maybe
use native.Mathlib.Decide.{ℕ_discrete}
use lib.ListN.{get_elem?}
use Rattle.std.specs.Prelude.{slice_index}
use Rattle.std.proofs.{lemmas.List.set-get_or, lemmas.Option.none-some, lemmas.Option.same_Some}
use Rattle.atomic_table.specs.Table.{State, keeps, takes as takes_slot, gives, Allows, Joins, step}
use Rattle.atomic_table.proofs.Lists.{set_here, set_else, set_again}
use Rattle.turn_hub.specs.declared.{view.Cell.Cell, view.Line.Line, view.View.View}
use Rattle.turn_hub.specs.Work.{Leads}
use Rattle.turn_hub.specs.Rule.{CellOk, Rests, Ready, Due, Ruled}
use Rattle.turn_hub.specs.Steps.{Seated, looked, emptied, spent, hand_looks, gives_back}
use Rattle.turn_hub.specs.{Answers.ServedAs, declared.hub.Served.TheVariants.Memory}
use Rattle.turn_hub.proofs.Keeps.{moved, renewed, same_word, within, there}
use Rattle.turn_hub.proofs.Slots.{same_slot}

module _ {W S I O : Type 0} (stands : S → List I → List O → W → Type 0) (may : S → List I → Type 0)
    (refused : W → Type 0) where
  -- what was due becomes ready, or the cell is broken
  abbrev pub LeavesWord : ℕ → Cell W I O → Cell W I O → Type 0
  LeavesWord new c c' = ((new ≡ 0) × ((y : Line S I O) → may y.seed y.handed → (y.mine ≡ true → ⊥) → Due stands y c
      → Ready stands y c')) ⊎ ((new ≡ 2) × refused c'.work)

  module _ (s : State (Option (Cell W I O)) (View W S I O)) (r : Ruled stands may refused s) (id k : ℕ)
      (v : View W S I O) (seated : get_elem? s.views id ≡ some v) (number : v.number ≡ Some k)
      (near : k < length s.homes) (l : Line S I O) (line : get_elem? r.main.lines k ≡ some l) where
    not_first : id ≢ 0
    not_first e = grind arith

    main_stays : (w : View W S I O) → get_elem? (set s.views id w) 0 ≡ some r.main
    main_stays w = set_else s.views id 0 w (λ e. not_first (sym e)) ∙ r.first

    -- who holds the cell k is this seat
    holder : (j : ℕ) (u : View W S I O) → get_elem? s.views j ≡ some u → u.number ≡ Some k → (j ≡ id) × (u ≡ v)
    holder j u at' num = grind arith

    -- the hand's step at its cell, whose word is the hand's
    hand_moves : (n : ℕ) (home : maybe.Option (Option (Cell W I O))) (w : View W S I O) → w.number ≡ Some k
        → slice_index s.words k ≡ 1 → CellOk stands may refused (set s.homes k home) (set s.views id w) r.main k n l
        → ((c : Cell W I O) → w.has ≡ Some c → (n ≡ 1) × Due stands l c)
        → Ruled stands may refused
        record { words = set s.words k n; homes = set s.homes k home; views = set s.views id w }
    hand_moves n home w same one here mine = moved stands may refused s r k n id home v w r.main l record {
      seated = seated;
      near = near;
      first = main_stays w;
      kept = (r.no_hand, refl, refl);
      number = λ q num. number ∙ sym same ∙ num;
      lines = λ q other. refl;
      line = line;
      here = here;
      has = λ c h. let had = r.has c h in (had.0, had.1, grind (arith, get_or-set_other), had.3);
      others = λ q other h is. (h, is);
      only = λ q num. sym (same_Some k q (sym number ∙ num));
      mine = λ c num h. let m = mine c h in (l, line, same_word stands may refused s k n r near ∙ m.0, m.1);
      alone = λ j u c other at' num h. other (holder j u at' num).0;
    }

  pub hand_loads : (n id k : ℕ) (me : Seated W S I O) → me.0.number ≡ Some k → me.0.has ≡ None → k < n
      → Allows (Ruled stands may refused) n id me k (λ y. y) (hand_looks stands may (step n k 0 0 none) me)
  hand_loads n id k me number nothing near s r wide seated small =
      let near' : k < length s.homes = omega arith in
      let t = there r.main.lines k (omega (arith, r.lined)) in
      let l : Line S I O = t.0 in
      let o = r.each_cell k l t.1 in
      let x : ℕ = slice_index s.words k in
      dite (ℕ_discrete x 1)
      (λ one. let h : Rests s.homes k (Due stands l) = ⊎_elim (λ h. h)
      (λ h. absurd (h.4 (rw (holder s r id k me.0 seated number near' l t.1 h.0 h.1 h.2 h.3).1 nothing)))
      (o.due one) in let d = h.2 in let w : View W S I O = looked me.0 k x (Some h.0) in (
        w,
        takes_slot k (Some h.0),
        h.1,
        hand_moves s r id k me.0 seated number near' l t.1 x maybe.none w number one record {
          known = o.known;
          allowed = o.allowed;
          mine = o.mine;
          ready = λ z. absurd (omega arith);
          due = λ _. inr (id, w, set_here s.views id w (within s.views id me.0 seated), number, λ e. absurd cc);
          marked = λ two. absurd (omega arith);
        } (λ c e. (one, rw (same_Some h.0 c e) at d)),
        (
          (λ _. (h.0, refl, ((l.seed, d.0, l.back, d.2, rw d.1 at o.allowed), d.3))),
          (λ no'. absurd (no' one)),
          o.known,
        ),
      ))
      (λ no'. (
        looked me.0 k x None,
        keeps,
        tt,
        rw set-get_or (renewed stands may refused s r id me.0 (looked me.0 k x None) r.main seated nothing refl
            (λ q num. num) (main_stays s r id k me.0 seated number near' l t.1 (looked me.0 k x None))
            (r.no_hand, refl, refl, refl, λ _. refl)),
        ((λ one. absurd (no' one)), (λ _. refl), o.known),
      ))

  pub hand_stores : (n id k x : ℕ) (me : Seated W S I O) (v : View W S I O) (more : List (ℕ × Option (Cell W I O)))
      (c cf c' : Cell W I O) (new : ℕ) → v.number ≡ Some k → k < n
      → me ≡ (looked v k x (Some cf), (k, Some c') ∷ more) → c ≡ cf → LeavesWord new c c'
      → Allows (Ruled stands may refused) n id me k (λ _. new) (λ _ m'. gives_back (step n k new 0 none) me new m')
  hand_stores n id k x me v more c cf c' new number near holds same turn s r wide seated small =
      let near' : k < length s.homes = omega arith in
      let m : ℕ = length c.items.items in
      let has : me.0.has ≡ Some c = rw (holds, same) in
      let number' : me.0.number ≡ Some k = rw holds number in
      let t = there r.main.lines k (omega (arith, r.lined)) in
      let l : Line S I O = t.0 in
      let ok = r.each_cell k l t.1 in
      let had = (r.each_hand id me.0 k seated number').has c has in
      let one : slice_index s.words k ≡ 1 = had.2 in
      let due : Due stands l c = rw (some-injective had.0 l (sym had.1 ∙ t.1)) at had.3 in
      let not_mine : l.mine ≡ true → ⊥ = λ m. let z = ok.mine m in omega arith in
      let kept = hand_moves s r id k me.0 seated number' near' l t.1 new (some (Some c'))
      (emptied me.0 new m c') number' one
      record {
        known = grind arith;
        allowed = ok.allowed;
        mine = λ m. absurd (not_mine m);
        ready = λ z. inl (c', set_here s.homes k (some (Some c')) near', grind arith);
        due = λ now. absurd (grind arith);
        marked = λ two. (c', set_here s.homes k (some (Some c')) near', grind arith);
      } (λ y e. absurd (none-some y e)) in (
        emptied me.0 new m c',
        gives,
        tt,
        rw (ap (λ (y : Seated W S I O). y.1) holds) kept,
        (c, c', has, rw holds, refl),
      )

  -- a cell that was left as broken with the work of c', to which memory was refused
  pub served_refused : (n k x : ℕ) (m0 me me' : Seated W S I O) (cf c' : Cell W I O)
      → me ≡ (looked m0.0 k x (Some cf), (k, Some c') ∷ m0.1) → x ≡ 1 → refused c'.work
      → gives_back (step n k 2 0 none) me 2 me' → ServedAs refused m0.0 k Memory me'.0
  served_refused n k x m0 me me' cf c' e one ref h =
      rw (h.4, e) ((refl, refl, one, refl), refl, (h.1, refl, rw (same_slot e h.3) ref))

  -- what was due and was worked is ready
  pub due_ready : (c c' : Cell W I O) (gave : List O) → c'.outs.items ≡ c.outs.items ++ gave
      → Leads stands may c.work c.items.items c'.work gave → c'.count ≡ c.count → (y : Line S I O)
      → may y.seed y.handed → (y.mine ≡ true → ⊥) → Due stands y c → Ready stands y c'
  due_ready c c' gave outs led count y allowed not_mine d = grind arith

  -- a hand's seat that is joined to main's keeps the rule
  pub hands_join : (id : ℕ) (v : View W S I O) (j : ℕ) (w : View W S I O) → id ≡ 0 → w.has ≡ None
      → Joins (Ruled stands may refused) id v j w v spent
  hands_join id v j w is_first nothing s r seated other at' =
      let same = set_again s.views id v seated in
      let stays = set_else s.views j 0 spent (λ e. other (sym e ∙ sym is_first)) ∙ r.first in
      rw same (renewed stands may refused s r j w spent r.main (rw same at at') nothing refl
      (λ q e. absurd (none-some q e)) stays (r.no_hand, refl, refl, refl, λ _. refl))
