use Rattle.std.proofs.Common.{◌≡◌, take}
use Rattle.std.specs.List.{filter_map}
use Rattle.fw_offers_text.specs.declared.statement.RecordCover.{RecordCover}
use Rattle.fw_offers_text.specs.OffersGrammar.{delivered_front}
use Rattle.fw_offers_text.proofs.recording.delivered_in.Given as goal

abbrev pub invariant-loop-cover : goal.invariant-loop-cover
invariant-loop-cover l = l.told.items ≡ filter_map (λ (c : RecordCover). delivered_front c.side c.front) (take l.cover-index l.covers)
