use Rattle.std.proofs.Common.{Some, ◌∙◌}
use Rattle.fw_engine.specs.Engine.{flow_of}
use Rattle.fw_outside.specs.Memory.{record_map}
use Rattle.fw_lasting.specs.UnderWay.{IsUnderWay, SaysLast}
use Rattle.fw_talk.specs.Lasting.{lines_of}
use Rattle.fw_talk.proofs.LastingLaws.{part-same, kept-on}
use Rattle.fw_talk.proofs.lasting.opened_at.Goals as goal

pub returns-in_ok-live-in-Ok : goal.returns-in_ok-live-in-Ok
returns-in_ok-live-in-Ok c =
    let made = c.in_ok-live-in-Ok.live.session in let session = c.keep_line.new.self in
    let same = c.in_ok-live-in-Ok.ensures.session in
    let answered = c.in_ok-answer.ensures.items_if_clones_equal (λ x y is. is) ∙ c.found_lines.ensures in (
      part-same made session (λ s. flow_of s.engine.engine) same ∙ c.keep_line.ensures.flow,
      c.in_ok-live-in-Ok.ensures.rests,
      part-same made session (λ s. s.digests) same ∙ c.keep_line.ensures.digests,
      c.in_ok-live-in-Ok.ensures.none,
      answered,
      λ first at. kept-on made session (λ s lines. IsUnderWay s.digests s.engine.engine s.arrivals (Some (record_map s.store.records.entries)) s.turn first first
          × SaysLast (flow_of s.engine.engine) s.digests first s.steps lines (Some (record_map s.store.records.entries)))
          _ (lines_of c.args.resumed.now) same (c.deref.ensures.value ∙ answered) (c.in-Ok.ensures.kept at.0 first at.1),
    )
