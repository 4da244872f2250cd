use Rattle.std.proofs.Common.{sym, ap, ◌∙◌}
use Rattle.hex.specs.Hex.{decode_sized}
use Rattle.hex.proofs.HexLemmas.{decode_sized-encode_lower}
use Rattle.fw_disk.proofs.TextLaws.{decoded}
use Rattle.fw_disk.proofs.lines.digest_in.Goals as goal

pub returns-in-Ok-clause-ranges : goal.returns-in-Ok-clause-ranges
returns-in-Ok-clause-ranges c = decoded c.args.digits.now _ (sym c.in-Ok.ensures)

pub returns-in-Ok-clause-found : goal.returns-in-Ok-clause-found
returns-in-Ok-clause-found c digest is e =
    let same = c.in-Ok.ensures ∙ ap (λ text. decode_sized text 32) e ∙ decode_sized-encode_lower digest 32 is.0 is.1 in cc

pub returns-in-Err-clause-found : goal.returns-in-Err-clause-found
returns-in-Err-clause-found c digest is e =
    let same = c.in-Err.ensures ∙ ap (λ text. decode_sized text 32) e ∙ decode_sized-encode_lower digest 32 is.0 is.1 in absurd (cc)
