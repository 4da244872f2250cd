use Rattle.std.proofs.Common.{◌≡◌, Option}
use Rattle.std.specs.List.{filter_map}
use Rattle.fw_flow.specs.declared.choice.Cut.{Cut}
use Rattle.fw_offers_text.proofs.claim_draft.all_told.Given as goal

abbrev pub invariant-loop-cut : goal.invariant-loop-cut
invariant-loop-cut l = l.told.items ≡ filter_map (λ (cut : Option Cut). cut) l.yielded
