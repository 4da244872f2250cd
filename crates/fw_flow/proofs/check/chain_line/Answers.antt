use Rattle.std.proofs.Common.{sym, ◌∙◌, arith, below_more}
use Rattle.std.proofs.lemmas.Bool.{false≢true}
use Rattle.fw_flow.specs.WellFormed.{HasShortChain}
use Rattle.fw_flow.proofs.Tests.{IsFirstBreak-here, chain_at}
use Rattle.fw_flow.proofs.check.chain_line.Goals as goal

pub returns-then-not-is_chain_short : goal.returns-then-not-is_chain_short
returns-then-not-is_chain_short c = λ flow made.
    IsFirstBreak-here (HasShortChain flow) c.args.lines.now c.loop-place.place (omega arith) (c.loop-place.invariant flow made)
    (λ h.
    false≢true
    (sym c.if-not-is_chain_short.true ∙ c.is_chain_short.ensures flow made
    ∙ sym (chain_at flow c.args.loops.now made c.loop-place.place c.index-loops-place.result c.index-loops-place.is (omega arith)) ∙ h))

pub loop-place-preserved : goal.loop-place-preserved
loop-place-preserved c = λ flow made.
    below_more (HasShortChain flow) c.loop-place.place (c.loop-place.invariant flow made)
    (chain_at flow c.args.loops.now made c.loop-place.place c.index-loops-place.result c.index-loops-place.is (omega arith)
    ∙ sym (c.is_chain_short.ensures flow made) ∙ c.if-not-is_chain_short.false)
