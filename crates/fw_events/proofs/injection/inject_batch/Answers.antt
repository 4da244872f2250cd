use Rattle.std.proofs.Common.{◌≢◌, ◌<◌, ◌^◌, None, ap, length, refl, subst, sym, ◌∙◌, arith}
use Rattle.std.proofs.lemmas.Result.{on_ok_weaker}
use Rattle.fw_flow.specs.Dataflow.{is_input_kind}
use Rattle.fw_model.proofs.NothingInsideLaws.{kind-declared}
use Rattle.fw_border.specs.Sources.{next_batch}
use Rattle.fw_node.specs.Sends.{sends_list}
use Rattle.fw_progress.proofs.TargetLaws.{epoch-in_domain}
use Rattle.fw_running.specs.declared.running.Running.{Running}
use Rattle.fw_running.specs.Kept.{source_of}
use Rattle.fw_events.specs.Taking.{with_sources}
use Rattle.fw_events.proofs.InjectLaws.{injected-takes, next-can_be_sent}
use Rattle.fw_events.proofs.TakenShapes.{shaped-source}
use Rattle.fw_events.proofs.TakingLaws.{can-tell}
use Rattle.fw_events.proofs.injection.inject_batch.Goals as goal

pub send-requires-clause-shaped : goal.send-requires-clause-shaped
send-requires-clause-shaped c =
    let old = c.args.running.now in
    let some : next_batch (source_of old c.args.source) ≢ None = λ none. let both = sym none ∙ c.requires.next.next in absurd (cc) in
    shaped-source old (with_sources c.advance.new.self old) c.args.source c.requires.shaped refl c.advance.ensures some

pub send-requires-clause-there : goal.send-requires-clause-there
send-requires-clause-there c = kind-declared c.args.running.now.flow c.args.source is_input_kind c.requires.input refl

pub send-requires-clause-cause : goal.send-requires-clause-cause
send-requires-clause-cause c =
    let l : c.args.epoch < 2 ^ 32 = omega arith in
    epoch-in_domain c.args.running.now.flow c.args.source c.args.epoch c.new.result c.requires.input l c.new.ensures

pub send-requires-clause-can_be_sent : goal.send-requires-clause-can_be_sent
send-requires-clause-can_be_sent c =
    let old = c.args.running.now in
    let l : c.args.epoch < 2 ^ 32 = omega arith in
    next-can_be_sent old.flow c.args.source c.args.epoch (source_of old c.args.source) c.args.sends.now c.requires.shaped.well_formed c.requires.input l c.requires.next

pub tell_injected-requires-clause-there : goal.tell_injected-requires-clause-there
tell_injected-requires-clause-there c =
    let old = c.args.running.now in
    subst (λ f. c.args.source < length f.nodes) (sym (ap (λ (r : Running). r.flow) c.send.ensures.others))
    (kind-declared old.flow c.args.source is_input_kind c.requires.input refl)

pub tell_injected-requires-clause-sent : goal.tell_injected-requires-clause-sent
tell_injected-requires-clause-sent c =
    let old = c.args.running.now in
    let l : c.args.epoch < 2 ^ 32 = omega arith in
    can-tell old.flow c.send.new.running.flow c.args.source c.args.source (sends_list c.args.sends.now) c.as_slice.result.now
    (ap (λ (r : Running). r.flow) c.send.ensures.others) refl (c.as_slice.ensures ∙ c.in_ok-sent.ensures.recs)
    (next-can_be_sent old.flow c.args.source c.args.epoch (source_of old c.args.source) c.args.sends.now c.requires.shaped.well_formed c.requires.input l c.requires.next)

pub returns-clause-takes : goal.returns-clause-takes
returns-clause-takes c =
    let old = c.args.running.now in
    let a = with_sources c.advance.new.self old in
    let declared = kind-declared old.flow c.args.source is_input_kind c.requires.input refl in
    let there : c.args.source < length old.parts.sources = subst (λ n. c.args.source < n) (sym c.requires.shaped.one_each.sources) declared in
    on_ok_weaker c.tell_injected.result (λ told.
    injected-takes c.args.source c.args.epoch c.new.result c.as_slice.result.now c.args.sends.now old a c.send.new.running c.tell_injected.new.running
    c.requires.next c.requires.input there c.new.ensures (c.as_slice.ensures ∙ c.in_ok-sent.ensures.recs) refl c.advance.ensures c.send.ensures.others
    c.in_ok-sent.ensures.sent c.tell_injected.ensures.others told) c.tell_injected.ensures.told
