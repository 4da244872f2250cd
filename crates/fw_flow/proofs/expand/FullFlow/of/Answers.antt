use Rattle.std.proofs.Common.{◌≡◌, sym, ap, ◌∙◌, subst, arith}
use Rattle.std.specs.List.{IsDistinct}
use Rattle.std.specs.Str.{bytes_eq}
use Rattle.fw_flow.specs.Expand.{expand}
use Rattle.fw_flow.specs.PlainNames.{ArePlain}
use Rattle.fw_flow.specs.Raw.{edge_names, loop_names, names_of, node_names}
use Rattle.fw_flow.proofs.ExpandNameLaws.{distinct-edges, distinct-loops, distinct-nodes}
use Rattle.fw_flow.proofs.PlainNameLaws.{plain-expanded}
use Rattle.fw_flow.proofs.expand.FullFlow.of.Goals as goal

pub names_of-requires-clause-loops : goal.names_of-requires-clause-loops
names_of-requires-clause-loops c =
    let raw = c.args.raw.now in
    let same : expand raw ≡ c.deref-2.result.now = sym (c.deref-2.ensures.value ∙ c.in_ok-declared.ensures ∙ ap expand (c.deref.ensures.value ∙ c.raw.view_is)) in
    subst (λ ds. IsDistinct bytes_eq (loop_names ds)) same (distinct-loops raw c.declared_names_are_distinct.ensures.loops)

pub names_of-requires-clause-nodes : goal.names_of-requires-clause-nodes
names_of-requires-clause-nodes c =
    let raw = c.args.raw.now in
    let same : expand raw ≡ c.deref-2.result.now = sym (c.deref-2.ensures.value ∙ c.in_ok-declared.ensures ∙ ap expand (c.deref.ensures.value ∙ c.raw.view_is)) in
    subst (λ ds. IsDistinct bytes_eq (node_names ds)) same (distinct-nodes raw c.declared_names_are_names.ensures c.declared_names_are_distinct.ensures.nodes)

pub names_of-requires-clause-edges : goal.names_of-requires-clause-edges
names_of-requires-clause-edges c =
    let raw = c.args.raw.now in
    let once = c.declared_names_are_distinct.ensures in
    let same : expand raw ≡ c.deref-2.result.now = sym (c.deref-2.ensures.value ∙ c.in_ok-declared.ensures ∙ ap expand (c.deref.ensures.value ∙ c.raw.view_is)) in
    subst (λ ds. IsDistinct bytes_eq (edge_names ds)) same (distinct-edges raw c.declared_names_are_names.ensures once.nodes once.edges)

pub invariant_of-result : goal.invariant_of-result
invariant_of-result c =
    let raw = c.args.raw.now in
    let whole : c.in_ok-declared.declared.items ≡ expand raw = c.in_ok-declared.ensures ∙ ap expand (c.deref.ensures.value ∙ c.raw.view_is) in (
      record { taken = c.in_ok-names.ensures ∙ ap names_of c.deref-2.ensures.value; few = omega (arith, c.if-len-ge-LIMIT.false, c.len.ensures) },
      subst ArePlain (sym whole) (plain-expanded raw c.declared_names_are_names.ensures),
    )
