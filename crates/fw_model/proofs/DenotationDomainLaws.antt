-- At which stamps the recs of the denotation are.
use Rattle.std.proofs.Common.{◌≡◌, ℕ, zero, suc, ◌+◌, ◌≤◌, true, List, length, map, sym, ap, subst, ◌∙◌}
use Rattle.std.specs.List.{AllByRecursion}
use Rattle.fw_lemmas.proofs.Each.{each-weaker, each-mapped}
use Rattle.fw_bag.specs.declared.rec.Rec.{Rec}
use Rattle.fw_time.specs.Stamp.{Stamp, in_domain}
use Rattle.fw_flow.specs.Kind.{Kind}
use Rattle.fw_flow.specs.Dataflow.{System, Dataflow, kind_of, sender, receiver, in_edges, batches_of, greatest_number, domain_of_kind, out_domain_of_kind, bounds_of, bounds_of_domain, HasEpochs}
use Rattle.fw_flow.specs.WellFormed.{IsWellFormed}
use Rattle.fw_flow.specs.WholeBags.{Timed, in_order, outputs_of, outputs_of_kind}
use Rattle.fw_model.specs.Denotation.{Family, rounds}
use Rattle.fw_model.specs.LawsOfDenotation.{DenotationIsInDomain}
use Rattle.fw_model.proofs.CarriedLaws.{carried_timed-each}
use Rattle.fw_model.proofs.LegalLaws.{edge_domains}
use Rattle.fw_model.proofs.TimedLaws.{each-in_order}
use Rattle.fw_model.proofs.DependenceLaws.{in_edges-each}
use Rattle.fw_model.proofs.DenotationLaws.{denotation-only, denotation-exists}
use Rattle.fw_model.specs.Measure.{enough_rounds}
use Rattle.fw_model.proofs.OutputLaws.{At}
use Rattle.fw_model.proofs.WholeLaws.{makes_lawfully}

-- the stamp is one of the kind's domain, and of its out domain
abbrev pub IsIn : Dataflow → Kind → Stamp → Type 0
IsIn flow kind t = in_domain (bounds_of_domain flow (domain_of_kind flow kind)) t ≡ true

abbrev pub IsOut : Dataflow → Kind → Stamp → Type 0
IsOut flow kind t = in_domain (bounds_of_domain flow (out_domain_of_kind flow kind)) t ≡ true

-- what a node of the kind sends is at stamps of its out domain
pub outputs-in_domain : (flow : Dataflow) (kind : Kind) (batches : List (List Rec)) (bags : List (List Timed)) → length batches ≤ greatest_number + 1
    → AllByRecursion (AllByRecursion (At (IsIn flow kind))) bags → AllByRecursion (At (IsOut flow kind)) (outputs_of_kind flow kind batches bags)
outputs-in_domain flow kind batches bags l a = (makes_lawfully flow kind).lands batches bags l a

-- ---- rounds

-- the timed recs of the edge are at stamps of its receiver's domain
abbrev IsEdgeInDomain : System → Family → ℕ → Type 0
IsEdgeInDomain sys family e = AllByRecursion (λ (r : Timed). in_domain (bounds_of sys.flow (receiver sys.flow e)) r.at ≡ true) (family e)

outputs_of-in_domain : (sys : System) → IsWellFormed sys.flow → HasEpochs sys → (family : Family) → ((d : ℕ) → IsEdgeInDomain sys family d)
    → (e : ℕ) → IsEdgeInDomain sys (λ d. in_order (outputs_of_kind sys.flow (kind_of sys.flow (sender sys.flow d)) (batches_of sys (sender sys.flow d)) (map family (in_edges sys.flow (sender sys.flow d))))) e
unfolding bounds_of
outputs_of-in_domain sys w h family a e =
    let flow = sys.flow in
    let q = sender flow e in
    let kind = kind_of flow q in
    let batches = batches_of sys q in
    let ds = in_edges flow q in
    let out = outputs_of_kind flow kind batches (map family ds) in
    each-weaker (At (IsOut flow kind)) (λ r. in_domain (bounds_of flow (receiver flow e)) r.at ≡ true) (in_order out)
    (λ r i. sym (ap (λ d. in_domain (bounds_of_domain flow d) r.at) (edge_domains flow w e)) ∙ i)
    (each-in_order (At (IsOut flow kind)) out
    (outputs-in_domain flow kind batches (map family ds) (h q)
    (each-mapped (λ d. receiver flow d ≡ q) (AllByRecursion (At (IsIn flow kind))) family
    (λ d r. subst (λ (p : ℕ). AllByRecursion (λ (x : Timed). in_domain (bounds_of flow p) x.at ≡ true) (family d)) r (a d)) ds
    (each-weaker _ (λ d. receiver flow d ≡ q) ds (λ d i. i.1) (in_edges-each flow q)))))

pub rounds-in_domain : (sys : System) → IsWellFormed sys.flow → HasEpochs sys → (n e : ℕ) → IsEdgeInDomain sys (rounds sys n) e
rounds-in_domain sys w h zero e = tt
rounds-in_domain sys w h (suc n) e =
    carried_timed-each sys.flow e (λ (r : Timed). in_domain (bounds_of sys.flow (receiver sys.flow e)) r.at ≡ true) (outputs_of sys (rounds sys n) (sender sys.flow e))
    (outputs_of-in_domain sys w h (rounds sys n) (λ d. rounds-in_domain sys w h n d) e)

pub denotation-in_domain : DenotationIsInDomain
denotation-in_domain sys family w h d e =
    let n = enough_rounds sys.flow in
    subst (λ (rs : List Timed). AllByRecursion (λ (r : Timed). in_domain (bounds_of sys.flow (receiver sys.flow e)) r.at ≡ true) rs)
    (denotation-only sys (rounds sys n) family w (denotation-exists sys w) d e) (rounds-in_domain sys w h n e)
