use Rattle.std.proofs.Common.{◌<◌, arith, refl}
use Rattle.fw_progress.proofs.TallyLaws.{many_more, none_more}
use Rattle.fw_progress.proofs.tally.add_many.Goals as goal

pub returns-then-count-eq0-clause-ok : goal.returns-then-count-eq0-clause-ok
returns-then-count-eq0-clause-ok c = none_more c.args.counts.now.entries c.args.at.now c.args.count c.if-count-eq0.true

pub returns-clause-ok : goal.returns-clause-ok
returns-clause-ok c =
    let some : 0 < c.args.count = omega arith in
    many_more c.args.counts.now.entries c.raise.new.counts.entries c.args.at.now c.args.count _ some refl
    c.in_ok-raise.ensures.ordered c.in_ok-raise.ensures.ok.0 c.in_ok-raise.ensures.entries
