use Rattle.state_split.proofs.ShareLemmas.{told_more}
use Rattle.state_split.proofs.rows.give_copy.Goals as goal

pub returns : goal.returns
returns g c =
    told_more g.K.Kept.told c.args.share.now.items c.push.new.self.items c.in_ok-copied.field-0
    (g.K.Kept.told c.args.kept.now) c.in_ok-push.ensures.items c.in_ok-copied.ensures
