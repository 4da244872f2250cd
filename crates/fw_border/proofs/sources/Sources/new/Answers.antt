use Rattle.std.proofs.Common.{◌≡◌, ℕ, ◌∷◌, [], ◌++◌, List, length, map, sym, ap, ◌∙◌, arith, zero-add}
use Rattle.std.specs.List.{range_with_len}
use Rattle.std.proofs.lemmas.List.FromFn.{map-range_with_len_more}
use Rattle.fw_bag.specs.declared.rec.Rec.{Rec}
use Rattle.fw_lines.specs.Batches.{batches_at}
use Rattle.fw_border.specs.Sources.{SourceState, unused_source}
use Rattle.fw_border.proofs.NumberLaws.{sources_of_nodes}
use Rattle.fw_border.proofs.sources.Sources.new.Goals as goal

pub loop-place-preserved : goal.loop-place-preserved
loop-place-preserved c =
    let f = λ (p : ℕ). unused_source (batches_at c.args.batches.now p) in
    let place = c.loop-place.place in
    let old = c.loop-place.sources.items in
    c.in_ok-push.ensures.items
    ∙ ap (λ (s : SourceState). old ++ s ∷ []) c.in_ok-new.ensures
    ∙ ap (λ (batches : List (List Rec)). old ++ unused_source batches ∷ []) c.of.ensures
    ∙ ap (λ (xs : List SourceState). xs ++ f place ∷ []) c.loop-place.invariant
    ∙ sym (map-range_with_len_more f 0 place place (zero-add place))

pub returns : goal.returns
returns c =
    let f = λ (p : ℕ). unused_source (batches_at c.args.batches.now p) in
    let all : c.loop-place.place ≡ length c.args.flow.now.nodes = omega (arith, c.loop-place-test.false, c.loop-place.auto.place-end, c.nodes-place-end.ensures.count) in
    c.loop-place.invariant ∙ ap (λ n. map f (range_with_len 0 n)) all ∙ sources_of_nodes c.args.flow.now c.args.batches.now
