use Rattle.std.proofs.Common.{◌≡◌, drop}
use Rattle.fw_offers_text.specs.declared.statement.RecordCover.{RecordCover}
use Rattle.fw_offers_text.specs.OffersGrammar.{notified_front}
use Rattle.fw_offers_text.specs.Statements.{first_told}
use Rattle.fw_offers_text.proofs.recording.notified_in.Given as goal

abbrev pub invariant-loop-cover : goal.invariant-loop-cover
invariant-loop-cover l = first_told (λ (c : RecordCover). notified_front l.node c.side c.front) (drop l.cover-index l.covers) ≡ first_told (λ (c : RecordCover). notified_front l.node c.side c.front) l.covers
