-- Where the inclusions of each node begin, and that a lowering puts none before back.
use Rattle.std.proofs.Common.{◌≡◌, ℕ, zero, suc, ◌+◌, ◌-◌, ◌<◌, ◌≤◌, Bool, false, List, [], ◌∷◌, ◌++◌, length, map, take, get_or, refl, sym, ap, subst, ◌∙◌, inl, inr, arith}
use Rattle.std.specs.List.{AllByRecursion}
use Rattle.std.proofs.Math.Seq.{take-append_seam, take-append-add, get_or-append_seam}
use Rattle.std.proofs.lemmas.Bool.{cases_eq, cases_lt}
use Rattle.std.proofs.lemmas.List.{append-nil, append_assoc, length-append, get_or_append_left, get_or_read}
use Rattle.fw_lemmas.proofs.Each.{each-weaker, each-both, each-at, each-append, each-prefix, each-map}
use Rattle.fw_flow.specs.Dataflow.{Dataflow, sender, receiver, in_edges, out_edges}
use Rattle.fw_flow.proofs.EdgeLaws.{in_edges-from}
use Rattle.fw_flow.proofs.OutEdgeLaws.{out_edges-from}
use Rattle.fw_flow.specs.declared.side.Side.TheVariants.{Delivered, Discarded, Notified}
use Rattle.fw_flow.specs.declared.side.Limit.TheVariants.{Own, Note}
use Rattle.fw_flow.specs.declared.side.Inclusion.{Inclusion}
use Rattle.fw_flow.specs.declared.side.Inclusion.TheVariants.{OfCut, OfNote}
use Rattle.fw_model.specs.Inclusions.{IsInclusionOf, node_of, inclusions, inclusions_at, inclusions_to}
use Rattle.fw_model.proofs.InclusionLaws.{inclusions-there}
use Rattle.fw_monitor.specs.Worklist.{waits, AreBegins}

-- ---- the inclusions of the first nodes

-- they are the first ones of all
to-more : (flow : Dataflow) (p n : ℕ) → p ≤ n → (rest : List Inclusion) × (inclusions_to flow n ≡ inclusions_to flow p ++ rest)
unfolding inclusions_to
to-more flow p zero l =
    let none : p ≡ 0 = omega arith in
    ([], subst (λ q. [] ≡ inclusions_to flow q ++ []) (sym none) refl)
to-more flow p (suc n) l = elim (cases_eq p (suc n)) [
  | inl e ↦ ([], subst (λ q. inclusions_to flow (suc n) ≡ inclusions_to flow q ++ []) (sym e) (sym (append-nil (inclusions_to flow (suc n)))))
  | inr k ↦
      let less = to-more flow p n (omega arith) in
      (less.0 ++ inclusions_at flow n, ap (λ xs. xs ++ inclusions_at flow n) less.1 ∙ append_assoc (inclusions_to flow p) less.0 (inclusions_at flow n))
]

-- each is of one of these nodes
to-nodes : (flow : Dataflow) (n : ℕ) → AllByRecursion (λ j. node_of flow j < n) (inclusions_to flow n)
unfolding inclusions_to
to-nodes flow zero = tt
to-nodes flow (suc n) =
    let P : Inclusion → Type 0 = λ j. node_of flow j < suc n in
    let own : n < suc n = omega arith in
    let ins = map (λ d. OfCut (Delivered d)) (in_edges flow n) in
    let outs = map (λ e. OfCut (Discarded e)) (out_edges flow n) in
    let notes = map (λ d. OfNote (Note d)) (in_edges flow n) in
    let in_here : AllByRecursion (λ d. receiver flow d < suc n) (in_edges flow n) = in_edges-from (λ d. receiver flow d < suc n) flow n (λ d l r. omega arith) in
    let out_here : AllByRecursion (λ e. sender flow e < suc n) (out_edges flow n) = out_edges-from (λ e. sender flow e < suc n) flow n (λ e l r. omega arith) in
    each-append P (inclusions_to flow n) (inclusions_at flow n)
    (each-weaker (λ j. node_of flow j < n) P (inclusions_to flow n) (λ j l. omega arith) (to-nodes flow n))
    (each-append P (ins ++ outs) (OfCut (Notified n) ∷ OfNote (Own n) ∷ notes)
    (each-append P ins outs (each-map P (λ d. OfCut (Delivered d)) (in_edges flow n) in_here) (each-map P (λ e. OfCut (Discarded e)) (out_edges flow n) out_here))
    (own, (own, each-map P (λ d. OfNote (Note d)) (in_edges flow n) in_here)))

-- ---- where those of each node begin

pub begins_none : (flow : Dataflow) (begins : List ℕ) → begins ≡ [] → AreBegins flow 0 begins
begins_none flow begins is = record { one_each = ap length is; each = λ p l. absurd (omega arith) }

pub begins_next : (flow : Dataflow) (n : ℕ) (begins more : List ℕ) (ys : List Inclusion) → AreBegins flow n begins → ys ≡ inclusions_to flow n → more ≡ begins ++ length ys ∷ []
    → AreBegins flow (n + 1) more
begins_next flow n begins more ys b e is =
    let one = b.one_each in
    let longer = ap length is ∙ length-append begins (length ys ∷ []) in
    record {
      one_each = omega arith;
      each = λ p l. elim (cases_eq p n) [
        | inl k ↦
            let last : p ≡ length begins = omega arith in
            ap (λ q. get_or more q 0) last ∙ ap (λ xs. get_or xs (length begins) 0) is ∙ get_or-append_seam begins (length ys) [] 0
            ∙ ap length e ∙ ap (λ q. length (inclusions_to flow q)) (sym k)
        | inr k ↦
            let less : p < n = omega arith in
            let here : p < length begins = omega arith in
            ap (λ xs. get_or xs p 0) is ∙ get_or_append_left begins (length ys ∷ []) 0 p here ∙ b.each p less
      ];
    }

-- ---- going back to a node

-- An inclusion is at a place and not of a node before p. One thing is true of each before that place: then another is of each before the
-- place where those of p begin, if it is true of each of a node before p of which the one is.
pub back_by : (flow : Dataflow) (P Q : Inclusion → Type 0) (i : Inclusion) (place p : ℕ) → p ≤ length flow.nodes → place < length (inclusions flow) → i ≡ get_or (inclusions flow) place i → p ≤ node_of flow i
    → ((j : Inclusion) → IsInclusionOf flow j → node_of flow j < p → P j → Q j)
    → AllByRecursion P (take place (inclusions flow))
    → (length (inclusions_to flow p) ≤ length (inclusions flow)) × AllByRecursion Q (take (length (inclusions_to flow p)) (inclusions flow))
back_by flow P Q i place p within there is back before_p done =
    let first = inclusions_to flow p in
    let more = to-more flow p (length flow.nodes) within in
    let rest = more.0 in
    let whole = more.1 in
    let long = ap length whole ∙ length-append first rest in
    let nodes = to-nodes flow p in
    let reached : length first ≤ place = elim (cases_lt place (length first)) [
      | inl k ↦
          let at : i ≡ get_or first place i = is ∙ ap (λ xs. get_or xs place i) whole ∙ get_or_append_left first rest i place k in
          let before : node_of flow i < p = subst (λ j. node_of flow j < p) (sym at) (each-at (λ j. node_of flow j < p) first place i k nodes) in
          absurd (omega arith)
      | inr k ↦ omega arith
    ] in
    let place_is : place ≡ length first + (place - length first) = omega arith in
    let begin : take place (inclusions flow) ≡ first ++ take (place - length first) rest =
    ap (take place) whole ∙ ap (λ k. take k (first ++ rest)) place_is ∙ take-append-add first rest (place - length first) in
    let of_flow = each-prefix (IsInclusionOf flow) first rest (subst (AllByRecursion (IsInclusionOf flow)) whole (inclusions-there flow)) in
    let none = each-prefix P first (take (place - length first) rest) (subst (AllByRecursion P) begin done) in
    let R : Inclusion → Type 0 = λ j. (IsInclusionOf flow j × (node_of flow j < p)) × P j in
    let all = each-both (λ j. IsInclusionOf flow j × (node_of flow j < p)) P first
    (each-both (IsInclusionOf flow) (λ j. node_of flow j < p) first of_flow nodes) none in
    let now = each-weaker R Q first (λ j k. before_p j k.0.0 k.0.1 k.1) all in
    (omega arith, subst (AllByRecursion Q) (sym (ap (take (length first)) whole ∙ take-append_seam first rest)) now)

-- so with what waits
pub back_to : (flow : Dataflow) (waiting left : List Bool) (i : Inclusion) (place p : ℕ) → p ≤ length flow.nodes → place < length (inclusions flow) → i ≡ get_or (inclusions flow) place i → p ≤ node_of flow i
    → ((j : Inclusion) → IsInclusionOf flow j → node_of flow j < p → waits flow waiting j ≡ false → waits flow left j ≡ false)
    → AllByRecursion (λ j. waits flow waiting j ≡ false) (take place (inclusions flow))
    → (length (inclusions_to flow p) ≤ length (inclusions flow)) × AllByRecursion (λ j. waits flow left j ≡ false) (take (length (inclusions_to flow p)) (inclusions flow))
back_to flow waiting left i place p within there is back none_before done =
    back_by flow (λ j. waits flow waiting j ≡ false) (λ j. waits flow left j ≡ false) i place p within there is back none_before done

-- the list says where those of a node begin
pub begin_read : (flow : Dataflow) (begins : List ℕ) (p k r : ℕ) → AreBegins flow (length flow.nodes) begins → p < length flow.nodes → k ≡ p → r ≡ get_or begins k r → r ≡ length (inclusions_to flow p)
begin_read flow begins p k r b l e is =
    let one = b.one_each in
    let here : k < length begins = omega arith in
    get_or_read begins k r here is 0 ∙ ap (λ q. get_or begins q 0) e ∙ b.each p l
