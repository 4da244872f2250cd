use Rattle.std.proofs.Common.{◌≡◌, ℕ, List, [], ◌∷◌, refl, ◌∙◌}
use Rattle.std.proofs.lemmas.Result.{err_from_is_err_and}
use Rattle.std.specs.Prelude.{Vec}
use Rattle.std.specs.declared.alloc.Global.{Global}
use Rattle.fw_bag.specs.declared.rec.Rec.{Rec}
use Rattle.fw_flow.specs.Dataflow.{Dataflow}
use Rattle.fw_schedule.specs.declared.item.Item.{Item}
use Rattle.fw_command.specs.declared.held.HeldJob.{HeldJob}
use Rattle.fw_command.proofs.ReadCounts.{read_passed}
use Rattle.fw_command.proofs.TextLaws.{has-first, held_read, fetched_second, fetched_third, refused_second, refused_third}
use Rattle.fw_command.specs.Command.{as_schedule}
use Rattle.fw_command.specs.Words.{text_names_in}
use Rattle.fw_command.proofs.held.read_held.Goals as goal

pub returns-in_err-flow-clause-faults : goal.returns-in_err-flow-clause-faults
returns-in_err-flow-clause-faults g c =
    let p = err_from_is_err_and c.from_residual.result c.from_residual.ensures.1 in
    let count = g.F.Folder.fault_count in
    rw (p.1, p.2) (read_passed (Dataflow × List ℕ) HeldJob _ (count c.args.folder.now) (count c.args.folder.now) (count c.flow_with_digest.new.folder) refl c.in_err-flow.ensures.faults)

pub returns-in_err-batches-clause-faults : goal.returns-in_err-batches-clause-faults
returns-in_err-batches-clause-faults g c =
    let p = err_from_is_err_and c.from_residual-in_err-batches.result c.from_residual-in_err-batches.ensures.1 in
    let count = g.F.Folder.fault_count in
    rw (p.1, p.2) (read_passed (List (ℕ × List (List Rec)) × List ℕ) HeldJob _ (count c.args.folder.now) (count c.flow_with_digest.new.folder) (count c.inputs_with_digest.new.folder) c.in_ok-flow.ensures.faults c.in_err-batches.ensures.faults)

pub returns-in_err-items-clause-faults : goal.returns-in_err-items-clause-faults
returns-in_err-items-clause-faults g c =
    let p = err_from_is_err_and c.from_residual-in_err-items.result c.from_residual-in_err-items.ensures.1 in
    let count = g.F.Folder.fault_count in
    let same : count c.inputs_with_digest.new.folder ≡ count c.args.folder.now = c.in_ok-batches.ensures.faults ∙ c.in_ok-flow.ensures.faults in
    rw (p.1, p.2) (read_passed (List Item × Vec ℕ Global × List ℕ) HeldJob _ (count c.args.folder.now) (count c.inputs_with_digest.new.folder) (count c.schedule_with_digest.new.folder) same c.in_err-items.ensures.faults)

pub returns-clause-job : goal.returns-clause-job
returns-clause-job g c =
    let told = g.F.Folder.texts in
    held_read (told c.args.folder.now) (told c.flow_with_digest.new.folder) (told c.inputs_with_digest.new.folder) (text_names_in c.args.words.now)
    (record {
      job = record { flow = c.in_ok-flow.flow; batches = c.in_ok-batches.batches; items = c.in_ok-items.items };
      numbers = c.in_ok-items.numbers;
      digests = record { flow = c.in_ok-flow.flow_digest; inputs = c.in_ok-batches.inputs_digest; schedule = c.in_ok-items.schedule_digest };
    })
    c.flow_with_digest.ensures.texts_stay c.inputs_with_digest.ensures.texts_stay c.in_ok-flow.ensures.flow c.in_ok-batches.ensures.batches c.in_ok-items.ensures.items

pub returns-in_err-batches-clause-asked_no_more : goal.returns-in_err-batches-clause-asked_no_more
returns-in_err-batches-clause-asked_no_more g c =
    let count = g.F.Folder.fetch_count in
    let told = g.F.Folder.texts c.args.folder.now in
    let names = text_names_in c.args.words.now in
    fetched_second told names.flow names.inputs (record { name = names.schedule; read = as_schedule } ∷ []) c.in_ok-flow.flow (count c.args.folder.now) (count c.flow_with_digest.new.folder) (count c.inputs_with_digest.new.folder)
    (has-first told names.flow c.in_ok-flow.ensures.flow) c.flow_with_digest.ensures.counted c.inputs_with_digest.ensures.counted

pub returns-in_err-items-clause-asked_no_more : goal.returns-in_err-items-clause-asked_no_more
returns-in_err-items-clause-asked_no_more g c =
    let count = g.F.Folder.fetch_count in
    let told = g.F.Folder.texts in
    let names = text_names_in c.args.words.now in
    fetched_third (told c.args.folder.now) (told c.flow_with_digest.new.folder) names c.in_ok-flow.flow c.in_ok-batches.batches (count c.args.folder.now) (count c.flow_with_digest.new.folder) (count c.inputs_with_digest.new.folder) (count c.schedule_with_digest.new.folder)
    c.flow_with_digest.ensures.texts_stay (has-first (told c.args.folder.now) names.flow c.in_ok-flow.ensures.flow) (has-first (told c.flow_with_digest.new.folder) names.inputs c.in_ok-batches.ensures.batches)
    c.flow_with_digest.ensures.counted c.inputs_with_digest.ensures.counted c.schedule_with_digest.ensures.counted

pub returns-clause-asked_no_more : goal.returns-clause-asked_no_more
returns-clause-asked_no_more g c =
    let count = g.F.Folder.fetch_count in
    let told = g.F.Folder.texts in
    let names = text_names_in c.args.words.now in
    fetched_third (told c.args.folder.now) (told c.flow_with_digest.new.folder) names c.in_ok-flow.flow c.in_ok-batches.batches (count c.args.folder.now) (count c.flow_with_digest.new.folder) (count c.inputs_with_digest.new.folder) (count c.schedule_with_digest.new.folder)
    c.flow_with_digest.ensures.texts_stay (has-first (told c.args.folder.now) names.flow c.in_ok-flow.ensures.flow) (has-first (told c.flow_with_digest.new.folder) names.inputs c.in_ok-batches.ensures.batches)
    c.flow_with_digest.ensures.counted c.inputs_with_digest.ensures.counted c.schedule_with_digest.ensures.counted

pub returns-in_err-batches-clause-refused : goal.returns-in_err-batches-clause-refused
returns-in_err-batches-clause-refused g c =
    let p = err_from_is_err_and c.from_residual-in_err-batches.result c.from_residual-in_err-batches.ensures.1 in
    let told = g.F.Folder.texts in
    let names = text_names_in c.args.words.now in
    rw (p.1, p.2) (refused_second (told c.args.folder.now) (told c.flow_with_digest.new.folder) names.flow names.inputs (record { name = names.schedule; read = as_schedule } ∷ []) c.in_ok-flow.flow _
    c.flow_with_digest.ensures.texts_stay (has-first (told c.args.folder.now) names.flow c.in_ok-flow.ensures.flow) c.in_err-batches.ensures.refused)

pub returns-in_err-items-clause-refused : goal.returns-in_err-items-clause-refused
returns-in_err-items-clause-refused g c =
    let p = err_from_is_err_and c.from_residual-in_err-items.result c.from_residual-in_err-items.ensures.1 in
    let told = g.F.Folder.texts in
    let names = text_names_in c.args.words.now in
    rw (p.1, p.2) (refused_third (told c.args.folder.now) (told c.flow_with_digest.new.folder) (told c.inputs_with_digest.new.folder) names c.in_ok-flow.flow c.in_ok-batches.batches _
    c.flow_with_digest.ensures.texts_stay c.inputs_with_digest.ensures.texts_stay (has-first (told c.args.folder.now) names.flow c.in_ok-flow.ensures.flow)
    (has-first (told c.flow_with_digest.new.folder) names.inputs c.in_ok-batches.ensures.batches) c.in_err-items.ensures.refused)
