use Rattle.std.proofs.Common.{◌≡◌, ◌≢◌, ◌<◌, true, false, None, length, ap, subst, sym, ◌∙◌}
use Rattle.std.proofs.lemmas.Result.{on_ok_weaker}
use Rattle.fw_flow.specs.Dataflow.{kind_of, receiver, is_output_kind}
use Rattle.fw_running.specs.declared.running.Running.{Running}
use Rattle.fw_running.specs.Kept.{is_down, table_of}
use Rattle.fw_events.proofs.TakingLaws.{taken_by_output, taken_by_table}
use Rattle.fw_events.proofs.delivery.take_in.Goals as goal

pub returns-then-is_output-clause-takes : goal.returns-then-is_output-clause-takes
returns-then-is_output-clause-takes c = λ m at rec found live table.
    let old = c.args.running.now in
    let mid = c.take_pending.new.running in
    let e = c.args.edge in
    let to = c.requires.receiver in
    let flow = ap (λ (r : Running). r.flow) c.take_pending.ensures.others in
    let kind : is_output_kind (kind_of old.flow (receiver old.flow e)) ≡ true =
    ap (λ p. is_output_kind (kind_of old.flow p)) (sym to) ∙ ap (λ f. is_output_kind (kind_of f c.args.node)) (sym flow)
    ∙ ap is_output_kind (sym c.kind.ensures) ∙ sym c.is_output.ensures ∙ c.if-is_output.true in
    let declared = c.requires.shaped.well_formed.receivers_declared e c.requires.there in
    let there : receiver old.flow e < length old.parts.outputs.outputs = subst (λ n. receiver old.flow e < n) (sym c.requires.shaped.one_each.outputs) declared in
    on_ok_weaker c.take_out.result (λ kept.
    taken_by_output e m old mid c.take_out.new.running c.take_pending.ensures.others (c.take_pending.ensures.taken m found) kept
    (ap (is_down old) (sym to) ∙ live) kind there) (c.take_out.ensures.takes m at rec)

pub returns-clause-takes : goal.returns-clause-takes
returns-clause-takes c = λ m at rec found live table.
    let old = c.args.running.now in
    let mid = c.take_pending.new.running in
    let e = c.args.edge in
    let to = c.requires.receiver in
    let flow = ap (λ (r : Running). r.flow) c.take_pending.ensures.others in
    let kind : is_output_kind (kind_of old.flow c.args.node) ≡ false =
    ap (λ f. is_output_kind (kind_of f c.args.node)) (sym flow) ∙ ap is_output_kind (sym c.kind.ensures) ∙ sym c.is_output.ensures ∙ c.if-is_output.false in
    let some : table_of mid c.args.node ≢ None = λ none. table kind (sym (ap (λ (r : Running). table_of r c.args.node) c.take_pending.ensures.others) ∙ none) in
    on_ok_weaker c.take_by_table.result (λ heard.
    taken_by_table e m old mid c.take_by_table.new.running c.take_pending.ensures.others (c.take_pending.ensures.taken m found) heard
    (ap (is_down old) (sym to) ∙ live) (ap (λ p. is_output_kind (kind_of old.flow p)) (sym to) ∙ kind)) (c.take_by_table.ensures.takes m at rec some)
