use Rattle.std.proofs.Common.{◌+◌, ◌-◌, length, IfSome}
use Rattle.std.specs.Option.{option_map_or}
use Rattle.fw_lines.specs.Lines.{lines_left, IsPlace, said_lines}
use Rattle.fw_offers_text.proofs.CertificateReadLaws.{IsEntered}
use Rattle.fw_offers_text.proofs.certificate_reader.read_certificate.Given as goal

abbrev pub invariant-loop-place : goal.invariant-loop-place
invariant-loop-place l = record {
  within : IfSome l.place (IsPlace l.text);
  read : IsEntered l.flow (said_lines l.text) (lines_left l.text l.place) l.draft;
}

abbrev pub decreases-loop-place : goal.decreases-loop-place
decreases-loop-place l = option_map_or (λ p. length l.text + 1 - p.from) l.place 0
