use Rattle.fw_hold.proofs.turn.mark_of.Goals as goal

pub returns-clause-digests : goal.returns-clause-digests
returns-clause-digests c = record { flow = c.is_digest.ensures; inputs = c.is_digest-2.ensures; schedule = c.is_digest-3.ensures }
