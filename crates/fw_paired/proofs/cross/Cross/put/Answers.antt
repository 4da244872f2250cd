use Rattle.std.proofs.Common.{◌≡◌, ◌==◌, true, false, arith}
use Rattle.std.specs.Prelude.{filter}
use Rattle.std.proofs.lemmas.Bool.Decides.{nat_tests}
use Rattle.std.proofs.lemmas.Result.{on_ok_weaker, on_err_weaker}
use Rattle.fw_bag.specs.Arrivals.{arrival}
use Rattle.fw_keyed.specs.Sides.{is_left}
use Rattle.fw_paired.specs.Pairs.{is_right}
use Rattle.fw_paired.proofs.CrossLaws.{more_first, more_second}
use Rattle.fw_paired.proofs.cross.Cross.put.Goals as goal

pub returns-then-side-eq0-clause-ok : goal.returns-then-side-eq0-clause-ok
returns-then-side-eq0-clause-ok c = λ came h.
    let here : (c.args.side == 0) ≡ true = grind (arith, nat_tests) in
    on_ok_weaker c.push_at.result
    (λ l. let m = more_first c.push_at.new.values c.args.self.now.second (arrival c.args.side c.args.at.now c.args.rec) came here l h.second in
    record { first = m.0; second = m.1 })
    (c.push_at.ensures.ok c.args.side (filter is_left came) h.first)

pub returns-then-side-eq0-clause-err : goal.returns-then-side-eq0-clause-err
returns-then-side-eq0-clause-err c = λ came h.
    on_err_weaker c.push_at.result (λ l. record { first = l; second = h.second }) (c.push_at.ensures.err (filter is_left came) h.first)

pub returns-else-side-eq0-clause-ok : goal.returns-else-side-eq0-clause-ok
returns-else-side-eq0-clause-ok c = λ came h.
    let there : (c.args.side == 0) ≡ false = grind (arith, nat_tests) in
    on_ok_weaker c.push_at-else-side-eq0.result
    (λ r. let m = more_second c.args.self.now.first c.push_at-else-side-eq0.new.values (arrival c.args.side c.args.at.now c.args.rec) came there h.first r in
    record { first = m.0; second = m.1 })
    (c.push_at-else-side-eq0.ensures.ok c.args.side (filter is_right came) h.second)

pub returns-else-side-eq0-clause-err : goal.returns-else-side-eq0-clause-err
returns-else-side-eq0-clause-err c = λ came h.
    on_err_weaker c.push_at-else-side-eq0.result (λ r. record { first = h.first; second = r }) (c.push_at-else-side-eq0.ensures.err (filter is_right came) h.second)
