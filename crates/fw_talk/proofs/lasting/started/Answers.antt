use Rattle.std.proofs.Common.{Some, subst, sym}
use Rattle.fw_outside.specs.Memory.{record_map}
use Rattle.fw_lasting.specs.Starting.{MayStart}
use Rattle.fw_root.specs.declared.root.Digests.{Digests}
use Rattle.fw_talk.proofs.lasting.started.Goals as goal

pub begun-requires : goal.begun-requires
begun-requires c =
    subst (λ (digests : Digests). MayStart c.in-Ok.flow digests (Some (record_map c.args.records.records.entries))) (sym c.live_digests.ensures)
    (c.requires c.in-Ok.flow c.in-Ok.ensures)
