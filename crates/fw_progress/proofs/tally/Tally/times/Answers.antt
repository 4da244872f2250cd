use Rattle.std.proofs.Common.{◌≡◌, true, false, [], ◌∷◌, rules, sym, ap, ◌∙◌}
use Rattle.std.specs.Ordering.{is_eq}
use Rattle.fw_time.specs.Stamp.{stamp_cmp}
use Rattle.fw_progress.specs.Few.{entries_of}
use Rattle.fw_progress.specs.Tally.{times_in}
use Rattle.fw_progress.proofs.AloneLaws.{alone-found, alone-absent}
use Rattle.fw_progress.proofs.tally.Tally.times.Goals as goal

pub returns-in-One : goal.returns-in-One
returns-in-One c =
    let was : (c.in-One.stamp, c.in-One.count) ∷ [] ≡ c.args.self.now = ap entries_of (sym c.in-One.is) ∙ c.self.view_is in
    let one : is_eq (stamp_cmp c.args.at.now c.in-One.stamp) ≡ true = search rules in
    alone-found c.args.at.now c.in-One.stamp c.in-One.count one ∙ ap (times_in c.args.at.now) was

pub returns-in-One-2 : goal.returns-in-One-2
returns-in-One-2 c =
    let was : (c.in-One.stamp, c.in-One.count) ∷ [] ≡ c.args.self.now = ap entries_of (sym c.in-One.is) ∙ c.self.view_is in
    let other : is_eq (stamp_cmp c.args.at.now c.in-One.stamp) ≡ false = search rules in
    alone-absent c.args.at.now c.in-One.stamp c.in-One.count other ∙ ap (times_in c.args.at.now) was
