use Rattle.std.proofs.Common.{◌≡◌, ◌∙◌, ap, true}
use Rattle.fw_time.specs.Stamp.{in_domain}
use Rattle.fw_frontier.proofs.BelowLaws.{names-limit, in_domain-one}
use Rattle.fw_frontier.proofs.below.front_until.Goals as goal

pub returns : goal.returns
returns c = λ e.
    let b = c.args.bounds.now in
    let inside : in_domain b c.new.result ≡ true = ap (in_domain b) c.new.ensures ∙ in_domain-one b c.greatest_of.result c.in-Some.limit e c.greatest_of.ensures c.if-limit-greatest_of.false in
    let n = c.in_ok-front.ensures.names b (inside, tt) in
    rw c.in-Some.is (names-limit b c.greatest_of.result c.in-Some.limit c.in_ok-front.front c.greatest_of.ensures (rw c.new.ensures at n))
