use Rattle.fw_frontier.proofs.BelowLaws.{none-within, some-within, within-some}
use Rattle.fw_frontier.proofs.below.is_at_most.Goals as goal

pub returns-in-None-Some : goal.returns-in-None-Some
returns-in-None-Some c = rw (c.in-None-Some.is-0, c.in-None-Some.is-1) ((λ t n h. cc), λ h. none-within _ h)

pub returns-in-Some-Some : goal.returns-in-Some-Some
returns-in-Some-Some c = rw (c.in-Some-Some.is-0, c.in-Some-Some.is-1) (some-within _ _, within-some _ _)
