use Rattle.std.proofs.Common.{sym, ap, ◌∙◌}
use Rattle.std.specs.Prelude.{string_bytes, slice_get, option_copied}
use Rattle.fw_disk.proofs.NameLaws.{none_named}
use Rattle.fw_disk.proofs.claim.locked_empty.Goals as goal

pub returns-in-None : goal.returns-in-None
returns-in-None g c =
    let names = c.in_ok-record_names.field-0.items in
    none_named g.R.Dir.Read.remaining string_bytes names (ap (λ names. slice_get names 0) (sym c.deref.ensures.value) ∙ sym c.first.ensures.value ∙ ap option_copied c.in-None.is)
    c.in_ok-record_names.ensures
