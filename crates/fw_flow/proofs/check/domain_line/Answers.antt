use Rattle.std.proofs.Common.{sym, ◌∙◌, arith, below_more}
use Rattle.std.proofs.lemmas.Bool.{false≢true}
use Rattle.fw_flow.specs.Check.{JoinsDomains}
use Rattle.fw_flow.proofs.Tests.{IsFirstBreak-here, JoinsDomains-iff_kinds}
use Rattle.fw_flow.proofs.check.domain_line.Goals as goal

pub returns-then-not-can_join : goal.returns-then-not-can_join
returns-then-not-can_join c = λ flow made.
    IsFirstBreak-here (JoinsDomains flow) c.args.lines.now c.loop-place.place (omega arith) (c.loop-place.invariant flow made)
    (λ h.
    false≢true
    (sym c.if-not-can_join.true
    ∙ (c.can_join.ensures flow made.of_loops).1
    ((JoinsDomains-iff_kinds flow c.args.loops.now c.args.nodes.now c.args.links.now made c.requires.within c.loop-place.place (omega arith)
    c.index-nodes-link.result c.index-nodes-link-in-loop-place.result).1 h)))

pub loop-place-preserved : goal.loop-place-preserved
loop-place-preserved c = λ flow made.
    below_more (JoinsDomains flow) c.loop-place.place (c.loop-place.invariant flow made)
    ((JoinsDomains-iff_kinds flow c.args.loops.now c.args.nodes.now c.args.links.now made c.requires.within c.loop-place.place (omega arith)
    c.index-nodes-link.result c.index-nodes-link-in-loop-place.result).0
    ((c.can_join.ensures flow made.of_loops).0 c.if-not-can_join.false))
