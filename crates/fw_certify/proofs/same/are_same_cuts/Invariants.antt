use Rattle.std.proofs.Common.{◌≡◌, ℕ, ◌<◌, get_or}
use Rattle.fw_flow.specs.declared.choice.Cut.TheVariants.{Present}
use Rattle.fw_certify.proofs.same.are_same_cuts.Given as goal

abbrev pub invariant-loop-place : goal.invariant-loop-place
invariant-loop-place l = (p : ℕ) → p < l.place → get_or l.cuts p Present ≡ get_or l.others p Present
