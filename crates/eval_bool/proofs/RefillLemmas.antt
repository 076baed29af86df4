-- Children whose tables are put in the place of others.
use Rattle.std.proofs.Common.{◌≡◌, ℕ, List, [], ◌∷◌, map, refl, sym, subst, ap, ◌∙◌, arith}
use Rattle.std.specs.List.{AllByRecursion}
use Rattle.mfotl_model.specs.Tables.{TableOf}
use Rattle.relations.specs.Pushed.{AreOver}
use Rattle.eval_bool.specs.BoolData.{JoinRule, TablesOver, with_tables}
use Rattle.eval_bool.specs.{IsJoin.FewFrom, JoinView.ChildOf}
use Rattle.eval_bool.specs.declared.recalled.JoinData.{JoinData}
use Rattle.eval_bool.proofs.ChildLemmas.{Alike, alike_itself}

-- only the tables change
pub alike_with : (children : List ChildOf) (tables : List (List TableOf)) → Alike children (with_tables children tables)
alike_with [] tables = tt
alike_with (c ∷ children) [] = (refl, refl, alike_itself children)
alike_with (c ∷ children) (ts ∷ tables) = (refl, refl, alike_with children tables)

with_itself : (children : List ChildOf) → with_tables children (map (λ c. c.tables) children) ≡ children
with_itself [] = refl
with_itself (c ∷ children) = ap (λ cs. c ∷ cs) (with_itself children)

-- their own tables change nothing
pub with_own : (children : List ChildOf) (tables : List (List TableOf)) → tables ≡ map (λ c. c.tables) children
    → with_tables children tables ≡ children
with_own children tables own = ap (with_tables children) own ∙ with_itself children

over_itself : (children : List ChildOf) → AllByRecursion (λ c. AreOver c.columns c.tables) children
    → TablesOver children (map (λ c. c.tables) children)
over_itself [] all = tt
over_itself (c ∷ children) all = (all.0, over_itself children all.1)

pub over_own : (children : List ChildOf) (tables : List (List TableOf)) → tables ≡ map (λ c. c.tables) children
    → AllByRecursion (λ c. AreOver c.columns c.tables) children → TablesOver children tables
over_own children tables own all = subst (TablesOver children) (sym own) (over_itself children all)

pub few_own : (pulled : ℕ) (children : List ChildOf) (tables : List (List TableOf))
    → tables ≡ map (λ c. c.tables) children → FewFrom pulled children → FewFrom pulled (with_tables children tables)
few_own pulled children tables own few = subst (FewFrom pulled) (sym (with_own children tables own)) few

-- children over the same columns take the same tables
pub over_alike : (xs ys : List ChildOf) (tables : List (List TableOf)) → Alike xs ys → TablesOver xs tables
    → TablesOver ys tables
over_alike [] [] tables same over = over
over_alike [] (y ∷ ys) tables same over = absurd same
over_alike (x ∷ xs) [] tables same over = absurd same
over_alike (x ∷ xs) (y ∷ ys) [] same over = absurd over
over_alike (x ∷ xs) (y ∷ ys) (ts ∷ tables) same over = grind (arith, over_alike xs ys tables same.2 over.1)

-- and are the same with them
pub with_alike : (xs ys : List ChildOf) (tables : List (List TableOf)) → Alike xs ys → TablesOver xs tables
    → with_tables xs tables ≡ with_tables ys tables
with_alike [] [] tables same over = refl
with_alike [] (y ∷ ys) tables same over = absurd same
with_alike (x ∷ xs) [] tables same over = absurd same
with_alike (x ∷ xs) (y ∷ ys) [] same over = absurd over
with_alike (x ∷ xs) (y ∷ ys) (ts ∷ tables) same over = λ i.
    record { columns = same.0 i; negated = same.1 i; tables = ts } ∷ with_alike xs ys tables same.2 over.1 i

-- so the rule is the same for both
pub rule_alike : (xs ys : List ChildOf) (kept : JoinData) → Alike xs ys → JoinRule xs kept → JoinRule ys kept
rule_alike xs ys kept same rule = grind (arith, over_alike, with_alike)
