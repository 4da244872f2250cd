use Rattle.std.proofs.Common.{sym, ap, ◌∙◌, ◌++◌, ◌∷◌, [], take, arith}
use Rattle.std.proofs.lemmas.Grind.{flat_map-append}
use Rattle.fw_flow.proofs.ExpandLaws.{expanded-more}
use Rattle.fw_flow.proofs.expand.all_expanded.Goals as goal

pub loop-one-preserved : goal.loop-one-preserved
loop-one-preserved c =
    expanded-more c.args.raw.now c.args.raw.now c.loop-one.one-index c.one-item.result c.loop-one.all.items c.add_expanded.new.all.items (omega arith) c.one-item.is c.loop-one.invariant
    c.in_ok-add_expanded.ensures
