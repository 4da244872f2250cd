use Rattle.std.proofs.Common.{List, length, refl, subst, ap, ◌∙◌}
use Rattle.fw_collect.specs.Drops.{IsPlanned, watermark}
use Rattle.fw_frontier.specs.Front.{Front}
use Rattle.fw_keep.specs.declared.entry.Entry.{Entry}
use Rattle.fw_rollback.specs.declared.parts.Parts.{Parts}
use Rattle.fw_running.specs.Drawn.{supply}
use Rattle.fw_choose.specs.Collecting.{AreRaised}
use Rattle.fw_choose.proofs.collection.give_up.Goals as goal

pub returns-clause-collected : goal.returns-clause-collected
returns-clause-collected c =
    let old = c.args.running.now in
    let drops = c.in_ok-drops.drops in
    let between : Parts = c.drop_from.new.parts in
    record {
      rest = refl;
      drops = drops;
      catalogue = c.entries.ensures.catalogue;
      planned = subst (λ (es : List Entry). IsPlanned old.flow (watermark c.args.choice.now) es drops) c.entries.ensures.all c.in_ok-drops.ensures;
      between = between;
      given_up = c.drop_from.ensures;
      parts = ap (λ (fs : List Front). record between { low = fs }) (c.of.ensures ∙ c.requires.low);
      traces = subst (λ (fs : List Front). AreRaised old.flow (length old.flow.nodes) fs old.traces c.raise_bases.new.traces) (c.deref.ensures.value ∙ c.requires.low)
          c.in_ok-raise_bases.ensures;
    }

pub returns-clause-draws : goal.returns-clause-draws
returns-clause-draws c = ap supply c.drop_from.ensures.entries.left
