use Rattle.std.proofs.Common.{◌≡◌, ℕ, Bool, List, [], ◌∷◌, ◌++◌, length, map, sym, ap, ◌∙◌, arith, zero-add}
use Rattle.std.specs.List.{range_with_len}
use Rattle.std.proofs.lemmas.List.FromFn.{map-range_with_len_more}
use Rattle.fw_flow.specs.Dataflow.{kind_of, is_input_kind}
use Rattle.fw_session.proofs.arrivals.inputs_of.Goals as goal

pub loop-place-preserved : goal.loop-place-preserved
loop-place-preserved c =
    let f = λ (p : ℕ). is_input_kind (kind_of c.args.flow.now p) in
    let place = c.loop-place.place in
    let old = c.loop-place.opened.items in
    c.in_ok-push.ensures.items
    ∙ ap (λ (b : Bool). old ++ b ∷ []) (c.is_input.ensures ∙ ap is_input_kind c.kind.ensures ∙ ap f c.at.ensures)
    ∙ ap (λ (xs : List Bool). xs ++ f place ∷ []) c.loop-place.invariant
    ∙ sym (map-range_with_len_more f 0 place place (zero-add place))

pub returns : goal.returns
returns c =
    let f = λ (p : ℕ). is_input_kind (kind_of c.args.flow.now p) in
    let all : c.loop-place.place ≡ length c.args.flow.now.nodes = omega (arith, c.loop-place-test.false, c.loop-place.auto.place-end, c.nodes-place-end.ensures.count) in
    c.loop-place.invariant ∙ ap (λ n. map f (range_with_len 0 n)) all
