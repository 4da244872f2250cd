use Rattle.std.proofs.Common.{refl, sym, subst}
use Rattle.fw_flow.specs.declared.step.Step.TheVariants.{Ack}
use Rattle.fw_model.specs.Steps.{acked, LeadsTo}
use Rattle.fw_border.specs.Outputs.{next_recs}
use Rattle.fw_stands.specs.Acknowledging.{acknowledged_state}
use Rattle.fw_running.specs.Kept.{output_of}
use Rattle.fw_running.proofs.StepLaws.{inner-ok, inner-refused}
use Rattle.fw_engine.proofs.AckLaws.{idle-acknowledges, acknowledges, ack-shaped, ack-stands}
use Rattle.fw_engine.proofs.acknowledgement.acknowledge.Goals as goal

pub returns-in_default-clause-answers : goal.returns-in_default-clause-answers
returns-in_default-clause-answers c = inner-ok c.requires.shaped refl refl (λ records sys state s u.
    record { next = state; steps = (idle-acknowledges sys state c.args.running.now records c.args.output s c.in_default.ensures.none, refl); stands = s })

pub returns-in_err-put_output-clause-answers : goal.returns-in_err-put_output-clause-answers
returns-in_err-put_output-clause-answers c = inner-refused (λ records held. held) refl c.from_residual.ensures.1

pub returns-clause-answers : goal.returns-clause-answers
returns-clause-answers c =
    let running = c.args.running.now in
    let o = c.args.output in
    let out = output_of running o in
    let ready = c.put_output.new.self in
    let outputs = c.acknowledge-recs.new.self in
    let left = c.acknowledge-recs.ensures.left in
    inner-ok (ack-shaped running o ready outputs c.in_ok-put_output.ensures.others c.in_ok-put_output.ensures.put left c.requires.shaped) refl refl (λ records sys state s u.
    let next = acknowledged_state state o out.bound in
    let led = acknowledges sys state running records o s c.in-Some.ensures.by_number c.in-Some.ensures.can in
    record {
      next = next;
      steps = subst (λ recs. LeadsTo sys state (Ack o) next (acked o c.in-Some.at recs)) (sym c.acknowledge-recs.ensures.recs)
          (subst (λ at. LeadsTo sys state (Ack o) next (acked o at (next_recs out))) (sym c.in-Some.ensures.next) led);
      stands = ack-stands sys state running records o ready outputs left c.requires.shaped c.in-Some.ensures.by_number c.in-Some.ensures.can s;
    })
