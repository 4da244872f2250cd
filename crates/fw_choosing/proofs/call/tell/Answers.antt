use Rattle.std.proofs.Common.{◌≡◌, sym, subst, ◌∙◌}
use Rattle.fw_choosing.specs.Status.{IsNoted, ending_line}
use Rattle.fw_choosing.specs.declared.status.ChoosingStatus.TheVariants.{Done, ReadFault, WriteFault}
use Rattle.fw_choosing.proofs.call.tell.Goals as goal

pub returns-in-ReadFault-clause-notes : goal.returns-in-ReadFault-clause-notes
returns-in-ReadFault-clause-notes g c =
    let view = g.N.Sink.view in
    record {
      told = subst (λ status. IsNoted (ending_line status) (view c.args.notes.now) (view c.note-in-ReadFault.new.notes)) (sym c.in-ReadFault.is) c.note-in-ReadFault.ensures.told;
      no_notes = λ done. let other : ReadFault ≡ Done = sym c.in-ReadFault.is ∙ done in absurd (cc);
    }

pub returns-in-WriteFault-clause-notes : goal.returns-in-WriteFault-clause-notes
returns-in-WriteFault-clause-notes g c =
    let view = g.N.Sink.view in
    record {
      told = subst (λ status. IsNoted (ending_line status) (view c.args.notes.now) (view c.note-in-WriteFault.new.notes)) (sym c.in-WriteFault.is) c.note-in-WriteFault.ensures.told;
      no_notes = λ done. let other : WriteFault ≡ Done = sym c.in-WriteFault.is ∙ done in absurd (cc);
    }
