use Rattle.std.proofs.Common.{length, sym, ap, ◌∙◌}
use Rattle.fw_running.specs.declared.running.Running.{Running}
use Rattle.fw_settle.specs.Settling.{KeepsEntries}
use Rattle.fw_settle.proofs.AskLaws.{kept-withdrawn}
use Rattle.fw_settle.proofs.SearchLaws.{keep-both}
use Rattle.fw_settle.proofs.ShapeLaws.{shaped-same}
use Rattle.fw_running.proofs.DrawnLaws.{draws_next}
use Rattle.fw_settle.proofs.settling.ask_eager.Goals as goal

pub returns-in-Err-clause-stays : goal.returns-in-Err-clause-stays
returns-in-Err-clause-stays g c =
    kept-withdrawn c.args.running.now.parts.keep.entries c.ask_each.new.running.parts.keep.entries c.withdraw_from.new.running.parts.keep.entries
    (g.K.Store.view c.args.store.now).records (g.K.Store.view c.ask_each.new.store).records c.ask_each.ensures.adds
    (λ first more is l fly. c.withdraw_from.ensures.withdrawn first more is (l ∙ sym (ap length c.entries-count.ensures.all)) fly)

pub returns-in-Err-clause-shaped : goal.returns-in-Err-clause-shaped
returns-in-Err-clause-shaped g c =
    let old = c.args.running.now in
    let mid = c.ask_each.new.running in
    let new = c.withdraw_from.new.running in
    let kept : KeepsEntries old.parts.keep.entries new.parts.keep.entries (g.K.Store.view c.args.store.now).records (g.K.Store.view c.ask_each.new.store).records =
    kept-withdrawn old.parts.keep.entries mid.parts.keep.entries new.parts.keep.entries
    (g.K.Store.view c.args.store.now).records (g.K.Store.view c.ask_each.new.store).records c.ask_each.ensures.adds
    (λ first more is l fly. c.withdraw_from.ensures.withdrawn first more is (l ∙ sym (ap length c.entries-count.ensures.all)) fly) in
    shaped-same old new c.requires.shaped (keep-both old mid new c.ask_each.ensures.others c.withdraw_from.ensures.others) kept.entries

pub returns-in-Err-clause-part : goal.returns-in-Err-clause-part
returns-in-Err-clause-part g c =
    let part = c.in-Err.ensures.part in
    record {
      stored = c.withdraw_from.ensures.stored (g.K.Store.view c.ask_each.new.store).records part.stored;
      flow = ap (λ (r : Running). r.flow) c.withdraw_from.ensures.others ∙ part.flow;
      faults = part.faults;
      calls = part.calls;
      undamaged = part.undamaged;
      tells = part.tells;
      quiet = part.quiet;
    }

pub returns-in-Err-clause-draws : goal.returns-in-Err-clause-draws
returns-in-Err-clause-draws g c = draws_next c.ask_each.ensures.draws c.withdraw_from.ensures.draws
