use Rattle.std.proofs.Common.{subst, sym, inl, inr, ◌∙◌, arith}
use Rattle.std.proofs.lemmas.Bool.{cases_eq}
use Rattle.fw_engine.specs.Searching.{CanInjectWithin}
use Rattle.fw_engine.proofs.SearchLaws.{holds_if, fails_if}
use Rattle.fw_engine.proofs.auto.first_within.Goals as goal

pub loop-place-init : goal.loop-place-init
loop-place-init c = λ q below can. absurd (omega (arith, below))

pub loop-place-preserved : goal.loop-place-preserved
loop-place-preserved c = λ q below can.
    let came = c.args.came.now in
    let running = c.args.running.now in
    elim (cases_eq q c.loop-place.place) [
      | inl e ↦ fails_if c.may_inject_within.result (CanInjectWithin came running c.at-node.result) c.if-may_inject_within.false
          c.may_inject_within.ensures (subst (CanInjectWithin came running) (e ∙ sym c.at-node.ensures) can)
      | inr n ↦ c.loop-place.invariant q (omega (arith, below, n)) can
    ]

pub returns-then-may_inject_within : goal.returns-then-may_inject_within
returns-then-may_inject_within c = (
  holds_if c.may_inject_within.result (CanInjectWithin c.args.came.now c.args.running.now c.at-node.result) c.if-may_inject_within.true
      c.may_inject_within.ensures,
  λ q below. c.loop-place.invariant q (omega (arith, below, c.at-node.ensures)),
)

pub returns : goal.returns
returns c = λ q can.
    let there = can.0.there in
    c.loop-place.invariant q (omega (arith, there, c.loop-place-test.false, c.loop-place.auto.place-end, c.nodes-place-end.ensures.count)) can
