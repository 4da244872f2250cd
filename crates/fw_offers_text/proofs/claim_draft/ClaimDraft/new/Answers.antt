use Rattle.std.proofs.Common.{arith}
use Rattle.fw_offers_text.proofs.PlaceLaws.{nothing_claimed}
use Rattle.fw_offers_text.proofs.claim_draft.ClaimDraft.new.Goals as goal

pub returns : goal.returns
returns c = nothing_claimed c.args.flow.now c.loop-place._place c.loop-place.cuts.items c.new.result.items (omega arith) c.loop-place.invariant c.new.ensures.items
