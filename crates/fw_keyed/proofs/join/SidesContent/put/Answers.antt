use Rattle.std.proofs.Common.{◌≡◌, ◌==◌, true, false, arith}
use Rattle.std.proofs.lemmas.Bool.Decides.{nat_tests}
use Rattle.std.proofs.lemmas.Result.{on_ok_weaker, on_err_weaker}
use Rattle.fw_bag.specs.Arrivals.{recs_where}
use Rattle.fw_keyed.specs.Sides.{is_left}
use Rattle.fw_keyed.proofs.SideLaws.{more_left, more_right, is_right}
use Rattle.fw_keyed.proofs.join.SidesContent.put.Goals as goal

pub returns-then-side-eq0-clause-ok : goal.returns-then-side-eq0-clause-ok
returns-then-side-eq0-clause-ok c = λ t came h.
    let first : (c.args.side == 0) ≡ true = grind (arith, nat_tests) in
    on_ok_weaker c.push_at.result
    (λ l. more_left c.push_at.new.values c.args.self.now.right (record { side = c.args.side; at = t; rec = c.args.rec }) came first l h.1)
    (c.push_at.ensures.ok (recs_where is_left came) h.0)

pub returns-then-side-eq0-clause-err : goal.returns-then-side-eq0-clause-err
returns-then-side-eq0-clause-err c = λ came h.
    on_err_weaker c.push_at.result (λ l. (l, h.1)) (c.push_at.ensures.err (recs_where is_left came) h.0)

pub returns-else-side-eq0-clause-ok : goal.returns-else-side-eq0-clause-ok
returns-else-side-eq0-clause-ok c = λ t came h.
    let second : (c.args.side == 0) ≡ false = grind (arith, nat_tests) in
    on_ok_weaker c.push_at-else-side-eq0.result
    (λ r. more_right c.args.self.now.left c.push_at-else-side-eq0.new.values (record { side = c.args.side; at = t; rec = c.args.rec }) came second h.0 r)
    (c.push_at-else-side-eq0.ensures.ok (recs_where is_right came) h.1)

pub returns-else-side-eq0-clause-err : goal.returns-else-side-eq0-clause-err
returns-else-side-eq0-clause-err c = λ came h.
    on_err_weaker c.push_at-else-side-eq0.result (λ r. (h.0, r)) (c.push_at-else-side-eq0.ensures.err (recs_where is_right came) h.1)
