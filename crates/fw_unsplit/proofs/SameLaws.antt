-- The flow without the word denotes at its outputs what its expansion acknowledges.
use Rattle.std.proofs.Common.{◌≡◌, inl, inr, ℕ, ◌^◌, ◌<◌, ◌≤◌, true, false, List, [], ◌∷◌, length, map, refl, sym, ap, ◌∙◌, subst, arith}
use Rattle.std.proofs.lemmas.Bool.{cases_lt, true≢false}
use Rattle.std.proofs.lemmas.List.{get_or_past}
use Rattle.std.proofs.lemmas.List.FromFn.{get_or-map-range_with_len}
use Rattle.std.specs.List.{AllByRecursion, IsDistinct}
use Rattle.std.specs.Str.{bytes_eq}
use Rattle.fw_lemmas.proofs.Each.{each-both, each-weaker}
use Rattle.fw_time.specs.Stamp.{same}
use Rattle.fw_bag.specs.declared.rec.Rec.{Rec}
use Rattle.fw_lines.specs.Batches.{IsBatch}
use Rattle.fw_lines.specs.Inputs.{batches_said_of}
use Rattle.fw_lines.specs.Lines.{Said, said_lines}
use Rattle.fw_lines.proofs.GivenLaws.{sound-batches}
use Rattle.fw_flow.specs.Dataflow.{Dataflow, System, node_at, node_ids, kind_of, receiver, in_edges, batches_of, is_input_kind, is_output_kind}
use Rattle.fw_flow.specs.Declaring.{Declared}
use Rattle.fw_flow.specs.Expand.{expand}
use Rattle.fw_flow.specs.KeyParts.{may_split}
use Rattle.fw_flow.specs.declared.step.Step.{Step}
use Rattle.fw_flow.specs.declared.step.Step.TheVariants.{Inject, Deliver, Notify, Progress as ProgressStep, Checkpoint, Persist, Fail, Recover, Collect, Ack}
use Rattle.fw_flow.specs.Sources.{sources_of, AreInputsOf}
use Rattle.fw_flow.specs.WellFormed.{IsWellFormed, IsWellFormedSystem}
use Rattle.fw_flow.specs.WholeBags.{timed_where}
use Rattle.fw_flow.proofs.Drafts.{names_of_flow}
use Rattle.fw_flow.proofs.EdgeLaws.{kind-past}
use Rattle.fw_flow.proofs.ExpandNameLaws.{distinct-nodes}
use Rattle.fw_flow.proofs.SystemLaws.{well_formed-given}
use Rattle.fw_model.specs.Acknowledgements.{IsDenoted}
use Rattle.fw_model.specs.Denotation.{Family, IsDenotation}
use Rattle.fw_model.specs.Machine.{Machine, first_state}
use Rattle.fw_model.specs.Steps.{Effect, silent, lows, cuts, acked, idle, Outcome, did, LeadsTo, StepsTo, Run}
use Rattle.fw_headline.proofs.RightLaws.{runs-right}
use Rattle.fw_split.specs.Exact.{node_of_origin, IsExactExpansion}
use Rattle.fw_split.specs.Expansion.{EdgeOrigin, Whole, NodeOrigin, Same, Replica, Gathered, IsNodeOf, SendsFor, bag_of_origin}
use Rattle.fw_split.proofs.ExactLaws.{no_output, without-the-word}
use Rattle.fw_split.proofs.ExactWalks.{again-into}
use Rattle.fw_split.proofs.ExpandsLaws.{declarations-expand}
use Rattle.fw_split.proofs.ExpansionLaws.{denotation-expanded, expansion-denotes}
use Rattle.fw_command.specs.Texts.{spelled_system}
use Rattle.fw_unsplit.specs.WithoutTheWord.{AcceptedWithoutTheWord, DeclaredWithoutTheWord, DenotesTheSame, HearTheSame, IsDenotedByName, plain_flow}
use Rattle.fw_split.specs.Unsplit.{unsplit}
use Rattle.fw_unsplit.proofs.InputLaws.{batches-agree, inputs-agree}
use Rattle.fw_unsplit.proofs.SourceLaws.{HasNamesOnce, named-once}
use Rattle.fw_unsplit.proofs.WrittenLaws.{are-written, checked-plain}

-- ---- only outputs acknowledge

-- what is acknowledged is acknowledged at an output
abbrev IsAckEffect : System → Effect → Type 0
IsAckEffect sys silent = Unit {0}
IsAckEffect sys (acked o t recs) = (o < length sys.flow.nodes) × (is_output_kind (kind_of sys.flow o) ≡ true)
IsAckEffect sys (cuts choice) = Unit {0}
IsAckEffect sys (lows choice) = Unit {0}

abbrev IsAck : System → Outcome → Type 0
IsAck sys (did effect) = IsAckEffect sys effect
IsAck sys idle = Unit {0}

effect-acks : (sys : System) (state : Machine) (step : Step) (next : Machine) (effect : Effect) → LeadsTo sys state step next effect → IsAckEffect sys effect
effect-acks sys state (Inject s) next effect h = subst (IsAckEffect sys) (sym h.4) tt
effect-acks sys state (Deliver e at) next effect h = subst (IsAckEffect sys) (sym h.4) tt
effect-acks sys state (Notify p at) next effect h = subst (IsAckEffect sys) (sym h.4) tt
effect-acks sys state ProgressStep next effect h = subst (IsAckEffect sys) (sym h.4) tt
effect-acks sys state (Checkpoint p) next effect h = subst (IsAckEffect sys) (sym h.4) tt
effect-acks sys state Persist next effect h = subst (IsAckEffect sys) (sym h.3) tt
effect-acks sys state (Fail ps) next effect h = subst (IsAckEffect sys) (sym h.5) tt
effect-acks sys state Recover next effect h = subst (IsAckEffect sys) (sym h.8) tt
effect-acks sys state Collect next effect h = subst (IsAckEffect sys) (sym h.4) tt
effect-acks sys state (Ack o) next effect h = subst (IsAckEffect sys) (sym h.3) (h.1.declared, h.1.output)

step-acks : (sys : System) (state : Machine) (step : Step) (next : Machine) (outcome : Outcome) → StepsTo sys state step next outcome → IsAck sys outcome
step-acks sys state step next (did effect) h = effect-acks sys state step next effect h
step-acks sys state step next idle h = tt

run-acks : (sys : System) (state : Machine) (steps : List Step) (outcomes : List Outcome) (last : Machine) → Run sys state steps outcomes last
    → AllByRecursion (IsAck sys) outcomes
run-acks sys state [] [] last r = tt
run-acks sys state [] (outcome ∷ outcomes) last r = absurd r
run-acks sys state (step ∷ steps) [] last r = absurd r
run-acks sys state (step ∷ steps) (outcome ∷ outcomes) last r = (step-acks sys state step r.0 outcome r.1, run-acks sys r.0 steps outcomes last r.2)

-- ---- outputs

same-map : {A : Type 0} (f g : ℕ → A) → ((e : ℕ) → f e ≡ g e) → (es : List ℕ) → map f es ≡ map g es
same-map f g each [] = refl
same-map f g each (e ∷ es) = ap (λ x. x ∷ map f es) (each e) ∙ ap (λ xs. g e ∷ xs) (same-map f g each es)

through : {A B C : Type 0} (g : B → C) (f : A → B) (xs : List A) → map (λ x. g (f x)) xs ≡ map g (map f xs)
through g f [] = refl
through g f (x ∷ xs) = ap (λ ys. g (f x) ∷ ys) (through g f xs)

module _ (small large : System) (of_node : ℕ → NodeOrigin) (of_edge : ℕ → EdgeOrigin) (exact : IsExactExpansion small large of_node of_edge)
    (once : HasNamesOnce large.flow) (v : IsWellFormedSystem small) (w : IsWellFormedSystem large) where
  hears : (family expanded : Family) → IsDenotation small family → IsDenotation large expanded
      → (p q : ℕ) → q < length large.flow.nodes → SendsFor p (of_node q) → p < length small.flow.nodes → IsNodeOf small large of_edge q (Same p)
      → HearTheSame small large family expanded p q
  hears family expanded d g p q lt s within n = record {
    within = within;
    name = sym (exact.named p q lt s);
    kind = sym n.0;
    bags = sym (
        same-map expanded (λ e. bag_of_origin small family (of_edge e))
        (denotation-expanded small large of_node of_edge exact.expansion w.flow family expanded d g) (in_edges large.flow q)
        ∙ through (bag_of_origin small family) of_edge (in_edges large.flow q)
        ∙ ap (map (bag_of_origin small family)) n.4
        ∙ sym (through (bag_of_origin small family) Whole (in_edges small.flow p))
        );
  }

  -- an output comes from the output of its name
  output-before : (family expanded : Family) → IsDenotation small family → IsDenotation large expanded
      → (q : ℕ) → q < length large.flow.nodes → is_output_kind (kind_of large.flow q) ≡ true → (p : ℕ) × HearTheSame small large family expanded p q
  output-before family expanded d g q lt out = by (of_node q) refl (exact.expansion.nodes q) (exact.within q lt)
    where
      by : (origin : NodeOrigin) → of_node q ≡ origin → IsNodeOf small large of_edge q origin → node_of_origin origin < length small.flow.nodes
          → (p : ℕ) × HearTheSame small large family expanded p q
      by (Same p) e n within = (p, hears family expanded d g p q lt (subst (SendsFor p) (sym e) refl) within n)
      by (Replica p part) e n within = absurd (true≢false (sym out ∙ ap is_output_kind n.0 ∙ no_output (kind_of small.flow p) n.3))
      by (Gathered p) e n within = absurd (true≢false (sym out ∙ ap is_output_kind n.0))

  -- and comes again
  output-again : (family expanded : Family) → IsDenotation small family → IsDenotation large expanded
      → (p : ℕ) → p < length small.flow.nodes → is_output_kind (kind_of small.flow p) ≡ true
      → (q : ℕ) × (q < length large.flow.nodes) × HearTheSame small large family expanded p q
  output-again family expanded d g p there out =
      let a = exact.expansion.nodes_again p there in
      by a.0 a.1 (of_node a.0) refl (exact.expansion.nodes a.0) a.2
    where
      by : (q : ℕ) → q < length large.flow.nodes → (origin : NodeOrigin) → of_node q ≡ origin → IsNodeOf small large of_edge q origin → SendsFor p origin
          → (q : ℕ) × (q < length large.flow.nodes) × HearTheSame small large family expanded p q
      by q lt (Same r) e n s =
          (q, lt, hears family expanded d g p q lt (subst (SendsFor p) (sym e) s) there (subst (λ k. IsNodeOf small large of_edge q (Same k)) s n))
      by q lt (Replica r part) e n s = absurd s
      by q lt (Gathered r) e n s =
          absurd (true≢false (sym out ∙ no_output (kind_of small.flow p) (ap (λ k. may_split (kind_of small.flow k)) (sym s) ∙ n.3)))

  -- ---- acknowledgements

  one-denoted : (family : Family) (outcome : Outcome) → IsDenoted large (λ e. bag_of_origin small family (of_edge e)) outcome × IsAck large outcome
      → IsDenotedByName small family large outcome
  one-denoted family idle h = tt
  one-denoted family (did silent) h = tt
  one-denoted family (did (cuts choice)) h = tt
  one-denoted family (did (lows choice)) h = tt
  one-denoted family (did (acked o t recs)) h = λ d lt named. at d lt named
    where
      at : (d : ℕ) → d < length small.flow.edges → (node_at small.flow (receiver small.flow d)).name ≡ (node_at large.flow o).name
          → recs ≡ timed_where (same t) (family d)
      at d lt named = by (of_node o) sends (exact.expansion.nodes o)
        where
          p : ℕ
          p = receiver small.flow d

          again : (q : ℕ) × (q < length large.flow.nodes) × SendsFor p (of_node q)
          again = exact.expansion.nodes_again p (v.flow.receivers_declared d lt)

          same_node : again.0 ≡ o
          same_node = named-once large.flow again.0 o once again.1 h.1.0 (exact.named p again.0 again.1 again.2 ∙ named)

          sends : SendsFor p (of_node o)
          sends = subst (λ q. SendsFor p (of_node q)) same_node again.2

          by : (origin : NodeOrigin) → SendsFor p origin → IsNodeOf small large of_edge o origin → recs ≡ timed_where (same t) (family d)
          by (Same r) s n =
              let one = again-into small.flow large.flow of_edge Whole r o n.4 d (lt, sym s) in
              h.0 one.0 one.1.0 one.1.1 ∙ ap (λ origin. timed_where (same t) (bag_of_origin small family origin)) one.2
          by (Replica r part) s n = absurd s
          by (Gathered r) s n = absurd (true≢false (sym h.1.1 ∙ ap is_output_kind n.0))

  pub denotes-same : DenotesTheSame small large
  denotes-same = record {
    well_formed = v;
    runs = runs-right small v;
    outputs = output-before;
    no_fewer = output-again;
    acknowledged = λ steps outcomes state run family d.
        let expanded : Family = λ e. bag_of_origin small family (of_edge e) in
        let denoted = ((runs-right large w).right steps outcomes state run).denoted expanded (expansion-denotes small large of_node of_edge exact.expansion family d) in
        each-weaker (λ outcome. IsDenoted large expanded outcome × IsAck large outcome) (IsDenotedByName small family large) outcomes (one-denoted family)
        (each-both (IsDenoted large expanded) (IsAck large) outcomes denoted (run-acks large (first_state large) steps outcomes state run));
  }

-- ---- with batches

-- a dataflow with these batches
abbrev given_to : Dataflow → List (List (List Rec)) → System
given_to flow batches = record { flow = flow; batches = batches }

-- an exact expansion is one with batches too, where the nodes that come as they are have the same
with-batches : (f g : Dataflow) (b c : List (List (List Rec))) (of_node : ℕ → NodeOrigin) (of_edge : ℕ → EdgeOrigin)
    → IsExactExpansion (given_to f []) (given_to g []) of_node of_edge
    → ((p q : ℕ) → of_node q ≡ Same p → batches_of (given_to g c) q ≡ batches_of (given_to f b) p) → IsExactExpansion (given_to f b) (given_to g c) of_node of_edge
with-batches f g b c of_node of_edge exact alike = record {
  expansion = record {
    whole = exact.expansion.whole;
    loops = exact.expansion.loops;
    nodes = λ q. by q (of_node q) refl (exact.expansion.nodes q);
    edges = exact.expansion.edges;
    nodes_again = exact.expansion.nodes_again;
    edges_again = exact.expansion.edges_again;
  };
  within = exact.within;
  once = exact.once;
  named = exact.named;
}
  where
    by : (q : ℕ) (origin : NodeOrigin) → of_node q ≡ origin → IsNodeOf (given_to f []) (given_to g []) of_edge q origin → IsNodeOf (given_to f b) (given_to g c) of_edge q origin
    by q (Same p) e n = (n.0, n.1, n.2, alike p q e, n.4)
    by q (Replica p part) e n = n
    by q (Gathered p) e n = n

-- the batches of a node, where they are given by its place
given-at : (flow : Dataflow) (given : ℕ → List (List Rec)) (p : ℕ) → p < length flow.nodes → batches_of (given_to flow (map given (node_ids flow))) p ≡ given p
unfolding batches_of
given-at flow given p lt = get_or-map-range_with_len given 0 (length flow.nodes) p p [] lt (omega arith)

none-given : (f g : Dataflow) (p q : ℕ) → batches_of (given_to g []) q ≡ batches_of (given_to f []) p
unfolding batches_of
none-given f g p q = get_or_past (given_to g []).batches q [] (omega arith) ∙ sym (get_or_past (given_to f []).batches p [] (omega arith))

-- ---- texts

pub accepted-plain : AcceptedWithoutTheWord
accepted-plain texts flow accepted inputs = record {
  checked = checked-plain raw whole;
  text = λ text sound said. record { sound = sound; declared = unsplit raw; written = said; checked = checked-plain raw whole };
  no_replicas = bare.2.expansion.whole;
  inputs = read;
  same = denotes-same small large of_node of_edge exact once small-well large-well;
}
  where
    raw : List Declared
    raw = accepted.declared

    plain : Dataflow
    plain = plain_flow raw

    small : System
    small = spelled_system plain texts

    large : System
    large = spelled_system flow texts

    bare : (of_node : ℕ → NodeOrigin) × (of_edge : ℕ → EdgeOrigin) × IsExactExpansion (given_to plain []) (given_to flow []) of_node of_edge
    bare = declarations-expand raw (given_to plain []) (given_to flow []) (are-written texts.flow flow accepted) refl accepted.checked (λ p q e. none-given plain flow p q)

    of_node : ℕ → NodeOrigin
    of_node = bare.0

    of_edge : ℕ → EdgeOrigin
    of_edge = bare.1

    flow-well : IsWellFormed flow
    flow-well = subst IsWellFormed (sym accepted.checked.value) accepted.checked.well_formed

    whole : IsWellFormed plain
    whole = without-the-word (given_to plain []) (given_to flow []) of_node of_edge bare.2 flow-well

    once : HasNamesOnce flow
    once =
        let written = are-written texts.flow flow accepted in
        subst HasNamesOnce (sym accepted.checked.value) (subst (IsDistinct bytes_eq) (names_of_flow (expand raw)).0 (distinct-nodes raw written.names written.nodes))

    read : AreInputsOf plain texts.inputs
    read = inputs-agree (given_to plain []) (given_to flow []) of_node of_edge bare.2 once texts.inputs inputs

    lines : List Said
    lines = said_lines texts.inputs

    small-well : IsWellFormedSystem small
    small-well =
        let given = batches_said_of (sources_of plain) lines in
        well_formed-given plain given whole (sound-batches (sources_of plain) lines given read.lines (λ node. refl))

    large-well : IsWellFormedSystem large
    large-well =
        let given = batches_said_of (sources_of flow) lines in
        well_formed-given flow given flow-well (sound-batches (sources_of flow) lines given inputs.lines (λ node. refl))

    alike : (p q : ℕ) → of_node q ≡ Same p → batches_of large q ≡ batches_of small p
    alike p q e = elim (cases_lt q (length flow.nodes)) [
      | inl lt ↦
          let within = subst (λ origin. node_of_origin origin < length plain.nodes) e (bare.2.within q lt) in
          given-at flow (batches_said_of (sources_of flow) lines) q lt
          ∙ sym (batches-agree (given_to plain []) (given_to flow []) of_node of_edge bare.2 once lines p q lt (subst (SendsFor p) (sym e) refl))
          ∙ sym (given-at plain (batches_said_of (sources_of plain) lines) p within)
      | inr past ↦
          let n = subst (IsNodeOf (given_to plain []) (given_to flow []) of_edge q) e (bare.2.expansion.nodes q) in
          let none = ap is_input_kind (kind-past flow q past) in
          large-well.of_inputs q none ∙ sym (small-well.of_inputs p (ap is_input_kind (sym n.0) ∙ none))
    ]

    exact : IsExactExpansion small large of_node of_edge
    exact = with-batches plain flow small.batches large.batches of_node of_edge bare.2 alike

-- ---- declarations in code

past-none : (sys : System) (p : ℕ) → length sys.batches ≤ p → batches_of sys p ≡ []
unfolding batches_of
past-none sys p past = get_or_past sys.batches p [] past

pub declared-plain : DeclaredWithoutTheWord
declared-plain raw small large written made checked alike each w = denotes-same small large of_node of_edge exact once small-well w
  where
    found : (of_node : ℕ → NodeOrigin) × (of_edge : ℕ → EdgeOrigin) × IsExactExpansion small large of_node of_edge
    found = declarations-expand raw small large written made checked alike

    of_node : ℕ → NodeOrigin
    of_node = found.0

    of_edge : ℕ → EdgeOrigin
    of_edge = found.1

    exact : IsExactExpansion small large of_node of_edge
    exact = found.2

    once : HasNamesOnce large.flow
    once = subst HasNamesOnce (sym checked.value) (subst (IsDistinct bytes_eq) (names_of_flow (expand raw)).0 (distinct-nodes raw written.names written.nodes))

    no_input : (p q : ℕ) (origin : NodeOrigin) → SendsFor p origin → IsNodeOf small large of_edge q origin
        → is_input_kind (kind_of small.flow p) ≡ false → is_input_kind (kind_of large.flow q) ≡ false
    no_input p q (Same r) s n h = ap is_input_kind (n.0 ∙ ap (kind_of small.flow) s) ∙ h
    no_input p q (Replica r part) s n h = absurd s
    no_input p q (Gathered r) s n h = ap is_input_kind n.0

    -- a node has the batches of one of the expansion, which is an input only if it is
    given : (p : ℕ) → (q : ℕ) × (batches_of large q ≡ batches_of small p)
        × (is_input_kind (kind_of small.flow p) ≡ false → is_input_kind (kind_of large.flow q) ≡ false)
    given p = elim (cases_lt p (length small.flow.nodes)) [
      | inl lt ↦
          let again = exact.expansion.nodes_again p lt in
          (again.0, alike p again.0 (exact.named p again.0 again.1 again.2), no_input p again.0 (of_node again.0) again.2 (exact.expansion.nodes again.0))
      | inr past ↦
          let q = length large.flow.nodes in (
            q,
            past-none large q (omega (arith, w.one_each)) ∙ sym (past-none small p (omega (arith, each, past))),
            λ h. ap is_input_kind (kind-past large.flow q (omega arith)),
          )
    ]

    small-well : IsWellFormedSystem small
    small-well = record {
      flow = without-the-word small large of_node of_edge exact w.flow;
      one_each = each;
      of_inputs = λ p h. let g = given p in sym g.1 ∙ w.of_inputs g.0 (g.2 h);
      few = λ p. let g = given p in subst (λ b. length b ≤ 2 ^ 20) g.1 (w.few g.0);
      batches = λ p. let g = given p in subst (AllByRecursion IsBatch) g.1 (w.batches g.0);
    }
