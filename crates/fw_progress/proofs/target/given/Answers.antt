use Rattle.std.proofs.Common.{◌≡◌, ◌^◌, ◌≤◌, true, inl, inr, sym, ap, ◌∙◌, arith}
use Rattle.std.proofs.lemmas.Bool.{cases_lt}
use Rattle.std.proofs.lemmas.Result.{IfOk-weaker}
use Rattle.fw_lemmas.proofs.Lists.{read_at}
use Rattle.fw_flow.specs.Dataflow.{bounds_of, kind_of, is_input_kind}
use Rattle.fw_progress.specs.Counts.{injected_in, batches_in}
use Rattle.fw_progress.proofs.TargetLaws.{given-until, given-past, epoch-in_domain}
use Rattle.fw_progress.proofs.target.given.Goals as goal

pub returns-in-Ok : goal.returns-in-Ok
returns-in-Ok c =
    let flow = c.args.flow.now in
    let counts = c.args.counts.now in
    let p = c.args.node in
    let e = c.in-Ok.ensures in
    let at = c.place-place.ensures in
    let one = c.requires.counts.injected_each in
    let two = c.requires.counts.batches_each in
    let there = c.requires.there in
    let n : c.index-injected.result.now ≡ injected_in counts p = read_at counts.injected.items p c.place-place.result c.index-injected.result.now 0 at (omega (arith, one, there, at)) c.index-injected.ensures in
    let m : c.index.result.now ≡ batches_in counts p = read_at counts.batches.items p c.place-place.result c.index.result.now 0 at (omega (arith, two, there, at)) c.index.ensures in
    let is : is_input_kind (kind_of flow p) ≡ true = sym (ap is_input_kind c.kind.ensures) ∙ sym c.if-not-is_input.ensures in
    IfOk-weaker c.until.result _ _
    (λ f names. given-until flow counts p c.in-Ok.epoch c.new.result f is (λ k. c.if-injected-index.false (n ∙ k ∙ sym m)) (e.1 ∙ n) c.new.ensures names)
    (c.until.ensures.names (bounds_of flow p) (epoch-in_domain flow p c.in-Ok.epoch c.new.result is (omega (arith, e.0, e.1)) c.new.ensures, tt))

pub returns-in-Err : goal.returns-in-Err
returns-in-Err c =
    let flow = c.args.flow.now in
    let counts = c.args.counts.now in
    let p = c.args.node in
    let at = c.place-place.ensures in
    let one = c.requires.counts.injected_each in
    let there = c.requires.there in
    let n : c.index-injected.result.now ≡ injected_in counts p = read_at counts.injected.items p c.place-place.result c.index-injected.result.now 0 at (omega (arith, one, there, at)) c.index-injected.ensures in
    let is : is_input_kind (kind_of flow p) ≡ true = sym (ap is_input_kind c.kind.ensures) ∙ sym c.if-not-is_input.ensures in
    let many : 2 ^ 32 ≤ c.index-injected.result.now = elim (cases_lt c.index-injected.result.now (2 ^ 32)) [ inl l ↦ absurd (c.in-Err.ensures l) | inr l ↦ l ] in
    given-past flow counts p c.all-in-Err.result c.all-in-Err.ensures is (omega (arith, many, n))
