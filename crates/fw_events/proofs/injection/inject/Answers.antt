use Rattle.std.proofs.Common.{◌≡◌, true, false, ap, refl, subst, sym, ◌∙◌}
use Rattle.fw_flow.specs.Dataflow.{kind_of, is_input_kind}
use Rattle.fw_keep.specs.Catalogue.{KeepState}
use Rattle.fw_keep.specs.Stored.{IsStored}
use Rattle.fw_running.specs.Drawn.{supply}
use Rattle.fw_running.specs.Kept.{is_down, source_of}
use Rattle.fw_running.proofs.StepLaws.{inner-ok, inner-refused}
use Rattle.fw_events.specs.Taking.{FindsBatch}
use Rattle.fw_events.proofs.InjectLaws.{injection-follows, none-injects}
use Rattle.fw_events.proofs.injection.inject.Goals as goal

pub returns-in_err-epoch-clause-answers : goal.returns-in_err-epoch-clause-answers
returns-in_err-epoch-clause-answers c = inner-refused (λ records held. held) refl c.from_residual.ensures.1

pub returns-in_err-inject_batch-clause-answers : goal.returns-in_err-inject_batch-clause-answers
returns-in_err-inject_batch-clause-answers c =
    inner-refused (λ records held. subst (λ (k : KeepState). IsStored k records) (sym c.inject_batch.ensures.keep) held) c.inject_batch.ensures.flow
    c.from_residual-in_err-inject_batch.ensures.1

pub returns-in_default-clause-answers : goal.returns-in_default-clause-answers
returns-in_default-clause-answers c =
    let old = c.args.running.now in
    let live : is_down old c.args.source ≡ false = sym c.is_failed.ensures ∙ c.if-is_failed.false in
    let input : is_input_kind (kind_of old.flow c.args.source) ≡ true = ap is_input_kind (sym c.kind.ensures) ∙ sym c.is_input.ensures ∙ c.if-not-is_input.false in
    inner-ok c.requires.shaped refl refl (λ records sys state s trust.
    none-injects sys old records state c.args.source s live input (subst (FindsBatch (source_of old c.args.source)) c.in_default.is c.in_ok-epoch.ensures))

pub returns-clause-answers : goal.returns-clause-answers
returns-clause-answers c =
    let old = c.args.running.now in
    let live : is_down old c.args.source ≡ false = sym c.is_failed.ensures ∙ c.if-is_failed.false in
    let input : is_input_kind (kind_of old.flow c.args.source) ≡ true = ap is_input_kind (sym c.kind.ensures) ∙ sym c.is_input.ensures ∙ c.if-not-is_input.false in
    let next = subst (FindsBatch (source_of old c.args.source)) c.in-Some.is c.in_ok-epoch.ensures in
    inner-ok c.in_ok-inject_batch.ensures.shaped c.inject_batch.ensures.keep c.inject_batch.ensures.flow
    (λ records sys state s trust.
    injection-follows sys state c.args.source c.in-Some.epoch next.batch old c.inject_batch.new.running records records s live input next.next next.injected
    c.in_ok-inject_batch.ensures.takes (record { entries = ap (λ (k : KeepState). k.entries) c.inject_batch.ensures.keep; records = refl }))

pub returns-in_err-inject_batch-clause-draws : goal.returns-in_err-inject_batch-clause-draws
returns-in_err-inject_batch-clause-draws c = ap supply c.inject_batch.ensures.keep

pub returns-clause-draws : goal.returns-clause-draws
returns-clause-draws c = ap supply c.inject_batch.ensures.keep
