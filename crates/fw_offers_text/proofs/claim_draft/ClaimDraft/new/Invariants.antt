use Rattle.std.proofs.Common.{◌≡◌, None, replicate}
use Rattle.fw_offers_text.proofs.claim_draft.ClaimDraft.new.Given as goal

abbrev pub invariant-loop-place : goal.invariant-loop-place
invariant-loop-place l = l.cuts.items ≡ replicate l._place None
