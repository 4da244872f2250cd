use Rattle.std.proofs.Common.{◌≡◌, ◌<◌, [], length, arith, refl, sym, ap, subst, ◌∙◌, Err}
use Rattle.std.proofs.lemmas.Bool.{both_ways}
use Rattle.fw_lemmas.proofs.Lists.{read_at}
use Rattle.fw_frontier.specs.Front.{Front, IsCanonical}
use Rattle.fw_flow.specs.declared.step.Step.TheVariants.{Checkpoint}
use Rattle.fw_flow.specs.Dataflow.{Dataflow, bounds_of}
use Rattle.fw_model.specs.Machine.{front_of}
use Rattle.fw_running.proofs.AnswerLaws.{left-answers}
use Rattle.fw_running.proofs.NeedsLaws.{checkpoint-asks}
use Rattle.fw_running.proofs.SameStateLaws.{unasked-stands}
use Rattle.fw_running.proofs.StepLaws.{stays-shaped, step-did, step-fails, step-idle, step-refused, step-refused_first}
use Rattle.fw_settle.proofs.AskLaws.{asking-part}
use Rattle.fw_running.specs.declared.running.Running.{Running}
use Rattle.fw_running.specs.Drawn.{supply}
use Rattle.fw_settle.specs.Checkpoints.{AsksCheckpoint}
use Rattle.fw_settle.specs.Settling.{settles_when_asked, SettlesTableIf}
use Rattle.fw_settle.proofs.WritesLaws.{checkpoint-enabled, may-follows, may_not-idle, may-there}
use Rattle.fw_running.proofs.DrawnLaws.{draws_failed, draws_next}
use Rattle.fw_settle.proofs.checkpoints.checkpoint.Goals as goal

pub returns-then-not-may_take-clause-answers : goal.returns-then-not-may_take-clause-answers
returns-then-not-may_take-clause-answers g c =
    step-idle refl c.requires.stored refl refl c.requires.shaped (λ sys state s trust.
    may_not-idle sys state c.args.running.now (g.K.Store.view c.args.store.now).records s c.args.node
    (λ m. both_ways c.may_take.result c.if-not-may_take.true (c.may_take.ensures.1 m)))

pub returns-in_err-front-clause-answers : goal.returns-in_err-front-clause-answers
returns-in_err-front-clause-answers g c = step-refused_first refl c.requires.stored refl refl c.from_residual.ensures.1

pub bounds-settled-place : goal.bounds-settled-place
bounds-settled-place g c =
    let there = may-there c.args.running.now c.args.node (c.may_take.ensures.0 c.if-not-may_take.false) in
    let each = c.requires.shaped.progress.settled_each in
    let long = ap length c.settled.ensures in
    omega (arith, there, each, long, c.place.ensures)

pub ask_checkpoint-requires-clause-there : goal.ask_checkpoint-requires-clause-there
ask_checkpoint-requires-clause-there g c = may-there c.args.running.now c.args.node (c.may_take.ensures.0 c.if-not-may_take.false)

pub ask_checkpoint-requires-clause-front : goal.ask_checkpoint-requires-clause-front
ask_checkpoint-requires-clause-front g c =
    let running = c.args.running.now in
    let there = may-there running c.args.node (c.may_take.ensures.0 c.if-not-may_take.false) in
    let each = c.requires.shaped.progress.settled_each in
    let long = ap length c.settled.ensures in
    let here : c.index-settled-place.result ≡ front_of running.progress.settled c.args.node =
    subst (λ fs. c.index-settled-place.result ≡ front_of fs c.args.node) c.settled.ensures
    (read_at c.settled.result.now c.args.node c.place.result c.index-settled-place.result [] c.place.ensures (omega (arith, there, each, long, c.place.ensures)) c.index-settled-place.is) in
    subst (IsCanonical (bounds_of running.flow c.args.node)) (sym (c.in_ok-front.ensures ∙ here)) (c.requires.shaped.progress.settled c.args.node)

pub returns-in_err-ask_checkpoint-clause-answers : goal.returns-in_err-ask_checkpoint-clause-answers
returns-in_err-ask_checkpoint-clause-answers g c =
    let old = c.args.running.now in
    let new = c.ask_checkpoint.new.running in
    let before = (g.K.Store.view c.args.store.now).records in
    let after = (g.K.Store.view c.ask_checkpoint.new.store).records in
    let may = c.may_take.ensures.0 c.if-not-may_take.false in
    let asked = c.in_err-ask_checkpoint.ensures in
    let e = c.in_err-ask_checkpoint.field-0.0 in
    step-fails {T = Unit {0}} {mid = old} refl refl (asking-part {old = old} may.asks asked.others asked.stored asked.faults asked.undamaged asked.tells) c.from_residual-in_err-ask_checkpoint.ensures.1
    (stays-shaped {T = Unit {0}} (Err e) new asked.shaped) (λ sys state s.
    left-answers (Unit {0}) sys state (Checkpoint c.args.node) e new after asked.undamaged (λ failed. (
      checkpoint-asks sys state c.args.node (checkpoint-enabled sys state old before s c.args.node may),
      unasked-stands sys old new before after state s asked.others asked.stays,
    )))

pub settle_when_asked-requires-clause-there : goal.settle_when_asked-requires-clause-there
settle_when_asked-requires-clause-there g c =
    let there = may-there c.args.running.now c.args.node (c.may_take.ensures.0 c.if-not-may_take.false) in
    subst (λ (flow : Dataflow). c.args.node < length flow.nodes) (sym (ap (λ (r : Running). r.flow) c.in_ok-ask_checkpoint.ensures.others)) there

pub settle_when_asked-requires-clause-front : goal.settle_when_asked-requires-clause-front
settle_when_asked-requires-clause-front g c =
    let running = c.args.running.now in
    let there = may-there running c.args.node (c.may_take.ensures.0 c.if-not-may_take.false) in
    let each = c.requires.shaped.progress.settled_each in
    let long = ap length c.settled.ensures in
    let here : c.index-settled-place.result ≡ front_of running.progress.settled c.args.node =
    subst (λ fs. c.index-settled-place.result ≡ front_of fs c.args.node) c.settled.ensures
    (read_at c.settled.result.now c.args.node c.place.result c.index-settled-place.result [] c.place.ensures (omega (arith, there, each, long, c.place.ensures)) c.index-settled-place.is) in
    let flow = c.ask_checkpoint.new.running.flow in
    subst (IsCanonical (bounds_of flow c.args.node)) (sym (c.in_ok-front.ensures ∙ here))
    (subst (λ (f : Dataflow). IsCanonical (bounds_of f c.args.node) (front_of running.progress.settled c.args.node))
    (sym (ap (λ (r : Running). r.flow) c.in_ok-ask_checkpoint.ensures.others)) (c.requires.shaped.progress.settled c.args.node))

pub returns-in_err-settle_when_asked-clause-answers : goal.returns-in_err-settle_when_asked-clause-answers
returns-in_err-settle_when_asked-clause-answers g c =
    let old = c.args.running.now in
    let may = c.may_take.ensures.0 c.if-not-may_take.false in
    let asked = c.in_ok-ask_checkpoint.ensures in
    let others = c.settle_when_asked.ensures.others in
    step-refused {T = Unit {0}} {mid = old} {x = c.in_ok-ask_checkpoint.field-0} refl refl
    (asking-part {old = old} may.asks asked.others asked.stored asked.faults asked.undamaged asked.tells)
    (ap (λ (r : Running). r.parts.keep) others) (ap (λ (r : Running). r.flow) others) c.from_residual-in_err-settle_when_asked.ensures.1

pub returns-clause-answers : goal.returns-clause-answers
returns-clause-answers g c =
    let old = c.args.running.now in
    let mid = c.ask_checkpoint.new.running in
    let new = c.settle_when_asked.new.running in
    let before = (g.K.Store.view c.args.store.now).records in
    let after = (g.K.Store.view c.ask_checkpoint.new.store).records in
    let may = c.may_take.ensures.0 c.if-not-may_take.false in
    let asked = c.in_ok-ask_checkpoint.ensures in
    let settled = c.in_ok-settle_when_asked.ensures in
    let others = c.settle_when_asked.ensures.others in
    let there = may-there old c.args.node may in
    let each = c.requires.shaped.progress.settled_each in
    let long = ap length c.settled.ensures in
    let here : c.index-settled-place.result ≡ front_of old.progress.settled c.args.node =
    subst (λ fs. c.index-settled-place.result ≡ front_of fs c.args.node) c.settled.ensures
    (read_at c.settled.result.now c.args.node c.place.result c.index-settled-place.result [] c.place.ensures (omega (arith, there, each, long, c.place.ensures)) c.index-settled-place.is) in
    step-did {T = Unit {0}} {mid = old} {x = c.in_ok-ask_checkpoint.field-0} refl refl
    (asking-part {old = old} may.asks asked.others asked.stored asked.faults asked.undamaged asked.tells)
    (ap (λ (r : Running). r.parts.keep) others) (ap (λ (r : Running). r.flow) others) settled.shaped (λ sys state s trust.
    may-follows sys state old mid new before after s asked.others c.args.node may
    (subst (λ (f : Front). AsksCheckpoint c.args.node f old mid before after) (c.in_ok-front.ensures ∙ here) asked.asked) others
    (subst (λ (f : Front). SettlesTableIf (settles_when_asked mid.flow c.args.node) c.args.node f mid new) (c.in_ok-front.ensures ∙ here) settled.settled))

pub returns-in_err-settle_when_asked-clause-draws : goal.returns-in_err-settle_when_asked-clause-draws
returns-in_err-settle_when_asked-clause-draws g c =
    draws_failed _ _ c.from_residual-in_err-settle_when_asked.ensures.1
    (draws_next c.ask_checkpoint.ensures.draws (ap (λ (r : Running). supply r.parts.keep) c.settle_when_asked.ensures.others))

pub returns-clause-draws : goal.returns-clause-draws
returns-clause-draws g c = draws_next c.ask_checkpoint.ensures.draws (ap (λ (r : Running). supply r.parts.keep) c.settle_when_asked.ensures.others)

pub returns-in_err-ask_checkpoint-clause-draws : goal.returns-in_err-ask_checkpoint-clause-draws
returns-in_err-ask_checkpoint-clause-draws g c = draws_failed _ _ c.from_residual-in_err-ask_checkpoint.ensures.1 c.ask_checkpoint.ensures.draws
