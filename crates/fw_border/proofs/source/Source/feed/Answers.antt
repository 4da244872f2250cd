use Rattle.std.proofs.Common.{◌+◌, ◌-◌, List, set, sym, ap, ◌∙◌, arith}
use Rattle.std.proofs.lemmas.Bool.{eqb-false}
use Rattle.std.specs.List.{enumerate_from}
use Rattle.fw_bag.specs.Bag.{BagState}
use Rattle.fw_lines.specs.Batches.{recs_of_bags}
use Rattle.fw_border.specs.Sources.{SourceState}
use Rattle.fw_border.proofs.NumberLaws.{fed-view}
use Rattle.fw_border.proofs.source.Source.feed.Goals as goal

pub returns-clause-fed : goal.returns-clause-fed
returns-clause-fed c =
    let s = c.self.inside in
    let i = c.len-last.result - 1 in
    let batch = c.args.batch in
    let view : List BagState → SourceState = λ items. record { given = s.given + 1; injected = s.injected; held = enumerate_from s.first (recs_of_bags (set items i batch)) } in
    let some = eqb-false s.held.len 0 (sym c.is_empty.ensures ∙ c.if-is_empty.false) in
    ap view c.in_ok-push_back.ensures.items
    ∙ fed-view s.given s.injected s.first i s.held.items batch c.new.result (ap (λ (b : BagState). b.recs) c.new.ensures)
    (omega (arith, some, c.len-last.ensures, s.held.ok.0)) c.self.invariant.0 (omega (arith, c.if-self.false, c.self.ranges.0)) c.args.self.now c.self.view_is
