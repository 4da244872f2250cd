use Rattle.fw_offers_text.specs.declared.statement.RecordCover.{RecordCover}
use Rattle.fw_offers_text.specs.OffersGrammar.{discarded_front}
use Rattle.fw_offers_text.proofs.RecordingLaws.{filtered_more}
use Rattle.fw_offers_text.proofs.recording.discarded_in.Goals as goal

pub loop-cover-preserved : goal.loop-cover-preserved
loop-cover-preserved c = filtered_more (λ (c : RecordCover). discarded_front c.side c.front) c.args.covers.now c.loop-cover.cover-index c.cover-item.result c.loop-cover.told.items c.add_discarded.new.told.items c.loop-cover-test.true c.cover-item.is c.loop-cover.invariant c.in_ok-add_discarded.ensures
