use Rattle.std.proofs.Common.{◌≡◌, ◌∙◌, ℕ, List, None, ap, sym, subst, map}
use Rattle.std.specs.Str.{bytes_eq}
use Rattle.indexmap.specs.IndexMap.{get_by}
use Rattle.indexmap.proofs.CallerLemmas.{insert_entry-new}
use Rattle.mfotl_parse.specs.Views.{known_of}
use Rattle.mfotl_parse.proofs.NamesLemmas.{known_more}
use Rattle.mfotl_parse.proofs.symbol_table.add_free.Goals as goal

pub returns : goal.returns
returns c =
    let absent = subst (λ (n : List ℕ). get_by (λ k. bytes_eq n k.items) c.args.free.now ≡ None)
    (sym c.in_ok-key.ensures.items) c.requires in
    ap (map known_of)
    (c.in_ok-insert.ensures.entries
    ∙ insert_entry-new (λ a b. bytes_eq a.items b.items) c.args.free.now c.in_ok-key.key c.args.at absent)
    ∙ known_more c.args.free.now.entries c.in_ok-key.key c.args.name.now c.args.at c.in_ok-key.ensures.items
