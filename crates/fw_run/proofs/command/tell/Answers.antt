use Rattle.std.proofs.Common.{◌∙◌, subst}
use Rattle.fw_run.proofs.CallLaws.{damaged_not_done, damaged_root_not_done}
use Rattle.fw_run.specs.Status.{IsTold}
use Rattle.fw_run.proofs.command.tell.Goals as goal

pub returns-in-Ok-damaged_line-clause-notes : goal.returns-in-Ok-damaged_line-clause-notes
returns-in-Ok-damaged_line-clause-notes g c =
    let view = g.N.Sink.view in
    record {
      told = subst (λ bytes. IsTold bytes (view c.args.notes.now) (view c.note-in-Ok-damaged_line.new.notes)) (c.as_bytes-in-Ok-damaged_line.ensures.value ∙ c.in-Ok-damaged_line.ensures) c.note-in-Ok-damaged_line.ensures.told;
      no_notes = λ e. absurd (damaged_not_done c.in-Damaged.id e);
    }

pub returns-in-Ok-damaged_root_line-clause-notes : goal.returns-in-Ok-damaged_root_line-clause-notes
returns-in-Ok-damaged_root_line-clause-notes g c =
    let view = g.N.Sink.view in
    record {
      told = subst (λ bytes. IsTold bytes (view c.args.notes.now) (view c.note-in-Ok-damaged_root_line.new.notes)) (c.as_bytes-in-Ok-damaged_root_line.ensures.value ∙ c.in-Ok-damaged_root_line.ensures) c.note-in-Ok-damaged_root_line.ensures.told;
      no_notes = λ e. absurd (damaged_root_not_done c.in-DamagedRoot.id e);
    }
