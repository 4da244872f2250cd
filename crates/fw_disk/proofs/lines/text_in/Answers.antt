use Rattle.std.proofs.Common.{sym, subst}
use Rattle.std.specs.Fmt.{decimal}
use Rattle.std.specs.Str.{IsUtf8}
use Rattle.std.proofs.lemmas.Fmt.{IsAscii-decimal}
use Rattle.std.proofs.lemmas.Str.{IsUtf8-from_ascii}
use Rattle.fw_disk.proofs.lines.text_in.Goals as goal

pub returns-in-Err-clause-found : goal.returns-in-Err-clause-found
returns-in-Err-clause-found c id fits e = absurd (c.in-Err.ensures.cases.0 (subst IsUtf8 (sym e) (IsUtf8-from_ascii (decimal id) (IsAscii-decimal id fits))))
