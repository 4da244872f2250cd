use Rattle.std.proofs.Common.{unwrap_or, ◌≡◌, ◌∙◌, ap}
use Rattle.fw_frontier.specs.Front.{least_stamps, IsFrontOf}
use Rattle.fw_frontier.specs.Frontier.{nothing}
use Rattle.fw_flow.specs.Dataflow.{bounds_of}
use Rattle.fw_offers_text.specs.declared.statement.RecordCover.{RecordCover}
use Rattle.fw_offers_text.specs.OffersGrammar.{notified_front}
use Rattle.fw_offers_text.specs.Statements.{first_told}
use Rattle.fw_offers_text.proofs.RecordingLaws.{ok_weaker, no_stamps, first_nowhere}
use Rattle.fw_offers_text.proofs.recording.notified_in.Goals as goal

pub returns : goal.returns
returns c =
    let least = least_stamps (bounds_of c.args.flow.now c.args.node) in
    ok_weaker (λ f. IsFrontOf c.domain.result f nothing) (λ f. f ≡ unwrap_or (first_told (λ (c' : RecordCover). notified_front c.args.node c'.side c'.front) c.args.covers.now) least) c.empty.result
    (λ f h. no_stamps c.domain.result f h ∙ ap least_stamps c.domain.ensures ∙ first_nowhere (λ (c' : RecordCover). notified_front c.args.node c'.side c'.front) c.args.covers.now c.loop-cover.cover-index least c.loop-cover-test.false c.loop-cover.invariant)
    c.empty.ensures
