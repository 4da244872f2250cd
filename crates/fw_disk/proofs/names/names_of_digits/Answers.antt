use Rattle.std.proofs.Common.{◌++◌, map, sym, ap, ◌∙◌, append_assoc, append-nil}
use Rattle.std.specs.Prelude.{string_bytes}
use Rattle.fw_disk.specs.Names.{digit_names}
use Rattle.fw_disk.proofs.NameLaws.{digits_first, digits_none}
use Rattle.fw_disk.proofs.names.names_of_digits.Goals as goal

pub loop-name-preserved : goal.loop-name-preserved
loop-name-preserved c =
    ap (λ names. names ++ digit_names c.in-Some.later.now) c.in_ok-add_if_digits.ensures
    ∙ append_assoc (map string_bytes c.loop-name.names.items) _ (digit_names c.in-Some.later.now)
    ∙ ap (λ names. map string_bytes c.loop-name.names.items ++ names) (sym (digits_first c.loop-name.rest.now c.in-Some.name.now c.in-Some.later.now c.in-Some.ensures.first))
    ∙ c.loop-name.invariant

pub returns : goal.returns
returns c =
    let names = map string_bytes c.loop-name.names.items in
    sym (append-nil names) ∙ ap (λ rest. names ++ rest) (sym (digits_none c.loop-name.rest.now c.in_default.ensures.none)) ∙ c.loop-name.invariant
