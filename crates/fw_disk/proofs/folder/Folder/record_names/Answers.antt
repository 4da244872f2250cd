use Rattle.std.proofs.Common.{sym, subst}
use Rattle.std.specs.Prelude.{string_bytes}
use Rattle.fw_disk.specs.KnownFiles.{AreRead}
use Rattle.fw_disk.proofs.NameLaws.{sorted_names}
use Rattle.fw_disk.proofs.folder.Folder.record_names.Goals as goal

pub returns : goal.returns
returns g c =
    let remaining = g.R.Dir.Read.remaining in
    sorted_names remaining string_bytes c.deref.result.now c.in_ok-names.names.items c.sort_unstable_by.new.self.items
    (subst (AreRead remaining) (sym c.deref.ensures.value) c.in_ok-read.ensures) c.in_ok-names.ensures c.sort_unstable_by.ensures.permutation
