use Rattle.std.proofs.Common.{[], get_or, length, refl, subst}
use Rattle.std.proofs.lemmas.Result.{IfOk-weaker}
use Rattle.fw_progress.specs.Progress.{ChangesAt, stamps_of_part}
use Rattle.fw_progress.specs.Trace.{StandForManyMore}
use Rattle.fw_progress.proofs.FollowTraceLaws.{carried-some, carried-none}
use Rattle.fw_progress.proofs.traces.add_carried.Goals as goal

pub returns-then-not-has_any_of : goal.returns-then-not-has_any_of
returns-then-not-has_any_of c =
    let old = c.args.lists.now.items in
    subst (λ part. ChangesAt c.args.edge [] (StandForManyMore c.args.at.now (length (stamps_of_part part c.args.sent.now))) old old) c.part_on.ensures
    (record {
      one_each = refl;
      here = carried-none c.part_on.result c.args.sent.now c.args.at.now (get_or old c.args.edge []) c.has_any_of.result c.has_any_of.ensures c.if-not-has_any_of.true;
      others = λ k n. refl;
    })

pub returns : goal.returns
returns c =
    let old = c.args.lists.now.items in
    let new = c.add_on.new.lists.items in
    let at = c.args.at.now in
    IfOk-weaker c.add_on.result _ _
    (λ u d.
    subst (λ part. ChangesAt c.args.edge [] (StandForManyMore at (length (stamps_of_part part c.args.sent.now))) old new) c.part_on.ensures
    (record {
      one_each = d.one_each;
      here = carried-some c.part_on.result c.args.sent.now at (get_or old c.args.edge []) (get_or new c.args.edge []) c.has_any_of.result c.has_any_of.ensures c.if-not-has_any_of.false d.here;
      others = d.others;
    }))
    c.add_on.ensures.thinned
