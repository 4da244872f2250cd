use Rattle.fw_frontier.proofs.TopLaws.{tops-cover, tops-domain, tops-apart, tops-greatest}
use Rattle.fw_frontier.proofs.tops.inside.Goals as goal

pub returns-clause-cover : goal.returns-clause-cover
returns-clause-cover c = rw (c.keep_in_domain.ensures, c.in_ok-tops.ensures) (tops-cover c.args.bounds.now c.args.outside.now)

pub returns-clause-domain : goal.returns-clause-domain
returns-clause-domain c = rw (c.keep_in_domain.ensures, c.in_ok-tops.ensures) (tops-domain c.args.bounds.now c.args.outside.now)

pub returns-clause-apart : goal.returns-clause-apart
returns-clause-apart c = rw (c.keep_in_domain.ensures, c.in_ok-tops.ensures) (tops-apart c.args.bounds.now c.args.outside.now)

pub returns-clause-greatest : goal.returns-clause-greatest
returns-clause-greatest c = rw (c.keep_in_domain.ensures, c.in_ok-tops.ensures) (tops-greatest c.args.bounds.now c.args.outside.now)
