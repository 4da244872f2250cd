use Rattle.std.proofs.Common.{Some, None, refl, sym, ap, ◌∙◌}
use Rattle.fw_engine.specs.Engine.{flow_of}
use Rattle.fw_live.specs.Taken.{EndsMaybe, all}
use Rattle.fw_live.proofs.TakingLaws.{prints-none}
use Rattle.fw_live.proofs.ReadingLaws.{first-item, no-item}
use Rattle.fw_live.proofs.taking.take_first.Goals as goal

pub returns-in-empty-clause-ends : goal.returns-in-empty-clause-ends
returns-in-empty-clause-ends g c = λ story at relied.
    let old = c.args.session.now in
    rw (no-item c.args.items.now c.in-empty.len_below) (prints-none (flow_of (g.S.Living.engine_of old)) (EndsMaybe (flow_of (g.S.Living.engine_of old)) story None all)
    (record { bytes = c.args.into.now.items; counts = c.args.counts.now }) (g.S.Living.at old) story
    (refl, refl, refl) at)

pub returns-in-len1-up-clause-ends : goal.returns-in-len1-up-clause-ends
returns-in-len1-up-clause-ends g c = λ story at relied.
    let first = first-item c.args.items.now c.item-item.result c.in-len1-up.len_at_least ∙ ap Some (sym c.item-item.is) in
    rw (first) (c.take_item.ensures.ends story at (relied c.item-item.result first))
