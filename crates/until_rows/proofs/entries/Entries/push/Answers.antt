use Rattle.until_rows.proofs.EntriesLemmas.{ascend_push}
use Rattle.until_rows.proofs.entries.Entries.push.Goals as goal

pub invariant_of-self-2 : goal.invariant_of-self-2
invariant_of-self-2 c = rw c.in_ok-push_back.ensures.items
    record {
      places = ascend_push c.self.inside.list c.args.entry c.self.invariant.places
          (rw (← c.self.view_is) at c.requires);
      rising = c.next_level-level.ensures c.self.inside.list c.back.ensures c.self.invariant.rising;
    }
