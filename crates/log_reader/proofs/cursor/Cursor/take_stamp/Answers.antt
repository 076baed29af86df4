use Rattle.std.proofs.Common.{◌≡◌, [], arith}
use Rattle.std.proofs.Math.Facts.{Fits-of_lt}
use Rattle.log_reader.specs.Limits.{standard}
use Rattle.log_reader.proofs.GroupLemmas.{stamp_leads, stay}
use Rattle.log_reader.proofs.cursor.Cursor.take_stamp.Goals as goal

pub overflow_add-self : goal.overflow_add-self
overflow_add-self c =
    let there = stamp_leads c.args.look.ended c.requires.within c.requires.counted c.split_at.ensures.back
    c.in-Some.ensures [] standard in
    Fits-of_lt (omega (arith, there.0.within, c.requires.small))

pub returns-in-Some : goal.returns-in-Some
returns-in-Some c =
    let leads = stamp_leads c.args.look.ended c.requires.within c.requires.counted c.split_at.ensures.back
    c.in-Some.ensures in
    let there = leads [] standard in
    record {
      leads = λ sig limits. (leads sig limits).0;
      within = there.0.within;
      counted = there.0.counted;
      further = omega (arith, there.1);
    }

pub returns-in-None : goal.returns-in-None
returns-in-None c =
    let same : c.take_stamp.new.self ≡ c.args.self.now.partial = c.in-None.ensures in
    record {
      leads = λ sig limits. rw same (stay c.requires.within c.requires.counted);
      within = c.requires.within;
      counted = rw same c.requires.counted;
      further = omega arith;
    }
