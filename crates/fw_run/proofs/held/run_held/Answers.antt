use Rattle.std.proofs.Common.{rules, refl, sym, subst}
use Rattle.fw_command.specs.declared.reading.JobFault.TheVariants as job
use Rattle.fw_command.specs.Command.{by_lines, run}
use Rattle.fw_command.specs.Words.{text_names_in}
use Rattle.fw_run.proofs.CallLaws.{folder_read}
use Rattle.fw_run.proofs.HeldLaws.{held-done, held-fault, held-not_read, may_start-job, plan_of-job}
use Rattle.fw_run.specs.declared.status.Status.{Status}
use Rattle.fw_run.specs.Answers.{known_by, outside_of}
use Rattle.fw_run.specs.Held.{HeldAnswers}
use Rattle.fw_run.proofs.held.run_held.Goals as goal

pub hold-requires-clause-plan : goal.hold-requires-clause-plan
hold-requires-clause-plan g c =
    plan_of-job (g.F.Folder.texts c.args.folder.now) (text_names_in c.args.names.now) c.in-Ok.held (record { items = c.as_slice.result; numbers = c.deref.result; digests = c.in-Ok.held.digests })
    c.in-Ok.ensures.job c.in-Ok.ensures.ready.few c.as_slice.ensures c.deref.ensures.value

pub hold-requires-clause-store : goal.hold-requires-clause-store
hold-requires-clause-store g c =
    may_start-job (g.F.Folder.texts c.args.folder.now) (text_names_in c.args.names.now) c.in-Ok.held (record { items = c.as_slice.result; numbers = c.deref.result; digests = c.in-Ok.held.digests })
    (g.K.Store.view c.args.store.now).records c.in-Ok.ensures.job c.as_slice.ensures c.deref.ensures.value refl c.requires

pub returns-in-Ok-hold : goal.returns-in-Ok-hold
returns-in-Ok-hold g c =
    let folder = c.args.folder.now in
    let read = c.read_held.new.folder in
    let texts = g.F.Folder.texts in
    let known = known_by texts g.F.Folder.fetch_count g.F.Folder.fault_count g.K.Store.view g.O.Sink.view in
    let names = text_names_in c.args.names.now in
    held-done known names c.in-Ok.held (record { items = c.as_slice.result; numbers = c.deref.result; digests = c.in-Ok.held.digests }) c.in-Ok-hold.counts c.tell_end.result folder read c.args.store.now c.hold.new.store c.args.out.now c.hold.new.out c.tell_end.new.out
    c.in-Ok.ensures.job c.as_slice.ensures c.deref.ensures.value refl c.requires
    (record {
      ends = c.in-Ok-hold.ensures.ends;
      foreign = c.in-Ok-hold.ensures.foreign;
      of_root = c.in-Ok-hold.ensures.of_root;
      damaged_root = c.in-Ok-hold.ensures.damaged_root;
      foreign_root = c.in-Ok-hold.ensures.foreign_root;
      damaged = c.in-Ok-hold.ensures.damaged;
      counts = c.in-Ok-hold.ensures.output;
      told_before = c.hold.ensures.told_before;
      faults = c.in-Ok-hold.ensures.faults;
    })
    c.tell_end.ensures c.in-Ok.ensures.faults
    (folder_read texts g.F.Folder.fetch_count _ (run by_lines names) _ folder read refl c.read_held.ensures.texts_stay (λ e. absurd (cc)) c.read_held.ensures.asked_no_more)

pub returns : goal.returns
returns g c =
    let folder = c.args.folder.now in
    let read = c.read_held.new.folder in
    let texts = g.F.Folder.texts in
    let known = known_by texts g.F.Folder.fetch_count g.F.Folder.fault_count g.K.Store.view g.O.Sink.view in
    let names = text_names_in c.args.names.now in
    subst (λ (status : Status). HeldAnswers known names (outside_of folder c.args.store.now c.args.out.now) status (outside_of read c.hold.new.store c.hold.new.out)) (sym c.held_status.ensures)
    (held-fault known names c.in-Ok.held (record { items = c.as_slice.result; numbers = c.deref.result; digests = c.in-Ok.held.digests }) c.in-Err.fault folder read c.args.store.now c.hold.new.store c.args.out.now c.hold.new.out
    c.in-Ok.ensures.job c.as_slice.ensures c.deref.ensures.value refl c.requires
    (record {
      ends = c.in-Err.ensures.ends;
      foreign = c.in-Err.ensures.foreign;
      of_root = c.in-Err.ensures.of_root;
      damaged_root = c.in-Err.ensures.damaged_root;
      foreign_root = c.in-Err.ensures.foreign_root;
      damaged = c.in-Err.ensures.damaged;
      counts = c.in-Err.ensures.output;
      told_before = c.hold.ensures.told_before;
      faults = c.in-Err.ensures.faults;
    })
    c.in-Ok.ensures.faults
    (folder_read texts g.F.Folder.fetch_count _ (run by_lines names) _ folder read refl c.read_held.ensures.texts_stay (λ e. absurd (cc)) c.read_held.ensures.asked_no_more))

pub returns-in-Err-Failed : goal.returns-in-Err-Failed
returns-in-Err-Failed g c =
    let folder = c.args.folder.now in
    let read = c.read_held.new.folder in
    let texts = g.F.Folder.texts in
    let known = known_by texts g.F.Folder.fetch_count g.F.Folder.fault_count g.K.Store.view g.O.Sink.view in
    let names = text_names_in c.args.names.now in
    held-not_read known names job.Failed folder read c.args.store.now c.args.out.now tt (rw c.in-Err-Failed.field-0-is at c.in-Err-Failed.ensures.faults)
    (folder_read texts g.F.Folder.fetch_count _ (run by_lines names) _ folder read refl c.read_held.ensures.texts_stay (λ e. absurd (cc)) c.read_held.ensures.asked_no_more)

pub returns-in-Err-Refused : goal.returns-in-Err-Refused
returns-in-Err-Refused g c =
    let folder = c.args.folder.now in
    let read = c.read_held.new.folder in
    let texts = g.F.Folder.texts in
    let known = known_by texts g.F.Folder.fetch_count g.F.Folder.fault_count g.K.Store.view g.O.Sink.view in
    let names = text_names_in c.args.names.now in
    let h = held-not_read known names (job.Refused c.in-Err-Refused.refusal) folder read c.args.store.now c.args.out.now (rw c.in-Err-Refused.field-0-is at c.in-Err-Refused.ensures.refused)
    (rw c.in-Err-Refused.field-0-is at c.in-Err-Refused.ensures.faults)
    (folder_read texts g.F.Folder.fetch_count _ (run by_lines names) _ folder read refl c.read_held.ensures.texts_stay (λ e. absurd (cc)) c.read_held.ensures.asked_no_more) in
    search rules

pub returns-in-Err-NoMemory : goal.returns-in-Err-NoMemory
returns-in-Err-NoMemory g c =
    let folder = c.args.folder.now in
    let read = c.read_held.new.folder in
    let texts = g.F.Folder.texts in
    let known = known_by texts g.F.Folder.fetch_count g.F.Folder.fault_count g.K.Store.view g.O.Sink.view in
    let names = text_names_in c.args.names.now in
    held-not_read known names job.NoMemory folder read c.args.store.now c.args.out.now tt (rw c.in-Err-NoMemory.field-0-is at c.in-Err-NoMemory.ensures.faults)
    (folder_read texts g.F.Folder.fetch_count _ (run by_lines names) _ folder read refl c.read_held.ensures.texts_stay (λ e. absurd (cc)) c.read_held.ensures.asked_no_more)
