use Rattle.std.proofs.Common.{◌∙◌, ◌≤◌, ◌+◌, ◌++◌, ◌∷◌, [], List, ℕ, sym, ap, drop, map, length, append_assoc, add-one}
use Rattle.std.proofs.Common.{arith}
use Rattle.std.proofs.lemmas.List.{append-nil, length-map}
use Rattle.mfotl_model.specs.declared.policy.Var.{Var}
use Rattle.mfotl_parse.specs.{SymbolTable.vars_of, Views.known_of}
use Rattle.mfotl_parse.proofs.NamesLemmas.{vars_of_more, vars_of_all}
use Rattle.mfotl_parse.proofs.symbol_table.SymbolTable.vars.Goals as goal

pub loop-place-preserved : goal.loop-place-preserved
loop-place-preserved c =
    let free = map known_of c.args.self.now.free.entries in
    let given = c.args.self.now.free_sorts.items in
    let before = c.loop-place.vars.items in
    let place = c.loop-place.place in
    let var = c.in_ok-var.var in
    let step = vars_of_more free given place var c.in_ok-var.ensures in
    ap (λ (ys : List Var). ys ++ vars_of (drop (place + 1) free) (drop (place + 1) given)) c.in_ok-push.ensures.items
    ∙ append_assoc before (var ∷ []) (vars_of (drop (place + 1) free) (drop (place + 1) given))
    ∙ ap (λ (k : ℕ). before ++ (var ∷ vars_of (drop k free) (drop k given))) (add-one place)
    ∙ ap (λ (ys : List Var). before ++ ys) (sym step)
    ∙ c.loop-place.invariant

pub returns : goal.returns
returns c =
    let free = map known_of c.args.self.now.free.entries in
    let before = c.loop-place.vars.items in
    let past : length free ≤ c.loop-place.place = omega (arith, length-map c.args.self.now.free.entries known_of) in
    c.new.ensures ∙ sym (append-nil before)
    ∙ ap (λ (ys : List Var). before ++ ys) (sym (vars_of_all free _ c.loop-place.place past))
    ∙ c.loop-place.invariant
