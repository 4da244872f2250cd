use Rattle.std.proofs.Common.{◌≡◌, ℕ, refl, subst, arith}
use Rattle.fw_border.specs.Sources.{with_source, rolled_source}
use Rattle.fw_model.specs.Choice.{cut_of}
use Rattle.fw_rollback.proofs.SwapLaws.{sources-more}
use Rattle.fw_rollback.proofs.swap.roll_sources.Goals as goal

pub loop-place-init : goal.loop-place-init
loop-place-init c = record { done = λ s l. absurd (omega arith); rest = λ s l. refl; each = refl }

pub loop-place-preserved : goal.loop-place-preserved
loop-place-preserved c =
    let choice = c.args.choice.now in
    let P : ℕ → Type 0 = λ n. c.roll_source.new.sources ≡ with_source (rolled_source (cut_of choice n)) c.loop-place.sources n in
    sources-more choice c.loop-place.place c.args.sources.now c.loop-place.sources c.roll_source.new.sources c.loop-place.invariant
    (subst P c.at.ensures c.roll_source.ensures)

pub returns-clause-rolled : goal.returns-clause-rolled
returns-clause-rolled c = λ s l. c.loop-place.invariant.done s (omega (arith, l, c.loop-place-test.false, c.loop-place.auto.place-end, c.nodes-place-end.ensures.count))
