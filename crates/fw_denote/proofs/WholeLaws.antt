-- What a node sends in all, by the number of its in-edges.
use Rattle.std.proofs.Common.{◌≡◌, ℕ, zero, suc, ◌<◌, ◌≤◌, true, List, [], ◌∷◌, ◌++◌, length, get_or, map, Option, refl, sym, ap, subst, ◌∙◌, arith}
use Rattle.std.specs.List.{AllByRecursion}
use Rattle.std.proofs.lemmas.List.{append-nil, length-map}
use Rattle.std.proofs.lemmas.List.FromFn.{get_or-map-range_with_len}
use Rattle.fw_lemmas.proofs.Each.{each-at}
use Rattle.fw_time.specs.Stamp.{in_domain}
use Rattle.fw_time.specs.declared.stamp.Bounds.{Bounds}
use Rattle.fw_bag.specs.Bag.{BagState}
use Rattle.fw_bag.specs.declared.rec.Rec.{Rec}
use Rattle.fw_lines.specs.Batches.{batches_at}
use Rattle.fw_flow.specs.Kind.{Kind}
use Rattle.fw_flow.specs.declared.kind.Kind.TheVariants.{Input, OutputEpoch, OutputNumber, Select, Concat, Distinct, Join, Sum, Enter, Feedback, Leave, Total, Sequence, Ledger, Regroup}
use Rattle.fw_flow.specs.Dataflow.{Dataflow, kind_of, sender, receiver, in_edges, out_domain_of, bounds_of, bounds_of_domain, batches_of, batches_of_nodes, system_of}
use Rattle.fw_flow.specs.WellFormed.{IsWellFormed, IsWellFormedSystem, IsInDegree}
use Rattle.fw_flow.specs.WholeBags.{Timed, in_order, one_by_one, joint_bag, outputs_of, outputs_of_kind}
use Rattle.fw_model.proofs.CarriedLaws.{carried_timed-each}
use Rattle.fw_model.proofs.LegalLaws.{edge_domains}
use Rattle.fw_model.proofs.DependenceLaws.{in_edges-each}
use Rattle.fw_denote.specs.Domains.{AreIn, AreOut}
use Rattle.fw_denote.specs.Holding.{AreBagsHeld, bag_sent_by, family_held}

-- ---- by the number of bags

concat_all : (flow : Dataflow) (within : Option ℕ) (rs : List Timed) → one_by_one flow (Concat within) rs ≡ rs
concat_all flow within [] = refl
concat_all flow within (r ∷ rs) = ap (λ xs. r ∷ xs) (concat_all flow within rs)

-- where nothing comes it does not matter on how many edges
pub none_come : (flow : Dataflow) (kind : Kind) (bs : List (List Rec)) → outputs_of_kind flow kind bs ([] ∷ []) ≡ outputs_of_kind flow kind bs []
none_come flow Input bs = refl
none_come flow OutputEpoch bs = refl
none_come flow OutputNumber bs = refl
none_come flow (Select selection within) bs = refl
none_come flow (Concat within) bs = refl
none_come flow (Distinct within) bs = refl
none_come flow (Join within) bs = refl
none_come flow (Sum within) bs = refl
none_come flow (Enter l) bs = refl
none_come flow (Feedback l) bs = refl
none_come flow (Leave l) bs = refl
none_come flow Total bs = refl
none_come flow Sequence bs = refl
none_come flow Ledger bs = refl
none_come flow (Regroup n) bs = refl

-- a node with in-edges does not look at batches
pub batches_apart : (flow : Dataflow) (kind : Kind) (n : ℕ) → IsInDegree kind (suc n) → (bs cs : List (List Rec)) (bags : List (List Timed))
    → outputs_of_kind flow kind bs bags ≡ outputs_of_kind flow kind cs bags
batches_apart flow Input n d bs cs bags = absurd (omega arith)
batches_apart flow OutputEpoch n d bs cs bags = refl
batches_apart flow OutputNumber n d bs cs bags = refl
batches_apart flow (Select selection within) n d bs cs bags = refl
batches_apart flow (Concat within) n d bs cs bags = refl
batches_apart flow (Distinct within) n d bs cs bags = refl
batches_apart flow (Join within) n d bs cs bags = refl
batches_apart flow (Sum within) n d bs cs bags = refl
batches_apart flow (Enter l) n d bs cs bags = refl
batches_apart flow (Feedback l) n d bs cs bags = refl
batches_apart flow (Leave l) n d bs cs bags = refl
batches_apart flow Total n d bs cs bags = refl
batches_apart flow Sequence n d bs cs bags = refl
batches_apart flow Ledger n d bs cs bags = refl
batches_apart flow (Regroup n) m d bs cs bags = refl

-- the kind is no join
abbrev pub IsNoJoin : Kind → Type 0
IsNoJoin (Join within) = ⊥
IsNoJoin kind = Unit {0}

-- a node with more in-edges than one that is no join sends on what comes
pub many_sent : (flow : Dataflow) (kind : Kind) (n : ℕ) → IsInDegree kind (suc (suc n)) → IsNoJoin kind → (bs : List (List Rec)) (bags : List (List Timed))
    → outputs_of_kind flow kind bs bags ≡ joint_bag bags
many_sent flow Input n d j bs bags = absurd (omega arith)
many_sent flow OutputEpoch n d j bs bags = absurd (omega arith)
many_sent flow OutputNumber n d j bs bags = absurd (omega arith)
many_sent flow (Select selection within) n d j bs bags = absurd (omega arith)
many_sent flow (Concat within) n d j bs bags = concat_all flow within (joint_bag bags)
many_sent flow (Distinct within) n d j bs bags = absurd (omega arith)
many_sent flow (Join within) n d j bs bags = absurd j
many_sent flow (Sum within) n d j bs bags = absurd (omega arith)
many_sent flow (Enter l) n d j bs bags = absurd (omega arith)
many_sent flow (Feedback l) n d j bs bags = absurd (omega arith)
many_sent flow (Leave l) n d j bs bags = absurd (omega arith)
many_sent flow Total n d j bs bags = absurd (omega arith)
many_sent flow Sequence n d j bs bags = absurd (omega arith)
many_sent flow Ledger n d j bs bags = absurd (omega arith)
many_sent flow (Regroup m) n d j bs bags = absurd (omega arith)

-- a node with three in-edges or more is no join
pub no_join : (kind : Kind) (n : ℕ) → IsInDegree kind n → 3 ≤ n → IsNoJoin kind
no_join (Join within) n d l = absurd (omega arith)
no_join kind n d l = tt

pub two_sent : (flow : Dataflow) (kind : Kind) (xs ys sent : List Timed) → IsInDegree kind 2 → IsNoJoin kind → sent ≡ xs ++ ys
    → sent ≡ outputs_of_kind flow kind [] (xs ∷ ys ∷ [])
two_sent flow kind xs ys sent d j e =
    e ∙ ap (λ zs. xs ++ zs) (sym (append-nil ys)) ∙ sym (many_sent flow kind 0 d j [] (xs ∷ ys ∷ []))

-- ---- of a node

-- the batches of a node that is there
pub batches_there : (flow : Dataflow) (batches : List (ℕ × List (List Rec))) (p : ℕ) → p < length flow.nodes
    → batches_of (system_of flow batches) p ≡ batches_at batches p
unfolding batches_of batches_of_nodes
batches_there flow batches p l = get_or-map-range_with_len (batches_at batches) 0 (length flow.nodes) p p [] l (omega arith)

-- what a node sends, by its kind and its in-edges
pub by_edges : (flow : Dataflow) (batches : List (ℕ × List (List Rec))) (bags : List (List Timed)) (p : ℕ) (kind : Kind) (edges : List ℕ)
    → kind ≡ kind_of flow p → edges ≡ in_edges flow p
    → outputs_of (system_of flow batches) (family_held flow bags) p
    ≡ in_order (outputs_of_kind flow kind (batches_of (system_of flow batches) p) (map (family_held flow bags) edges))
by_edges flow batches bags p kind edges k e =
    let bs = batches_of (system_of flow batches) p in
    sym (ap (λ x. in_order (outputs_of_kind flow x bs (map (family_held flow bags) edges))) k
    ∙ ap (λ es. in_order (outputs_of_kind flow (kind_of flow p) bs (map (family_held flow bags) es))) e)

-- what comes on an in-edge is at stamps of the node's domain
pub comes_in : (flow : Dataflow) → IsWellFormed flow → (bags : List (List Timed)) → AreBagsHeld flow bags → (p : ℕ) (kind : Kind) (edges : List ℕ) (i d : ℕ)
    → kind ≡ kind_of flow p → edges ≡ in_edges flow p → i < length edges → AreIn flow kind (family_held flow bags (get_or edges i d))
comes_in flow w bags h p kind edges i d k e l =
    let x = get_or edges i d in
    let there = each-at (λ (y : ℕ). (y < length flow.edges) × (receiver flow y ≡ p)) edges i d l
    (subst (AllByRecursion (λ (y : ℕ). (y < length flow.edges) × (receiver flow y ≡ p))) (sym e) (in_edges-each flow p)) in
    let at : AreIn flow (kind_of flow (receiver flow x)) (family_held flow bags x) =
    subst (λ dom. AllByRecursion (λ (r : Timed). in_domain (bounds_of_domain flow dom) r.at ≡ true) (family_held flow bags x)) (edge_domains flow w x)
    (carried_timed-each flow x (λ (r : Timed). in_domain (bounds_of_domain flow (out_domain_of flow (sender flow x))) r.at ≡ true) (bag_sent_by bags (sender flow x)) (h.in_domain (sender flow x))) in
    subst (λ y. AreIn flow y (family_held flow bags x)) (ap (kind_of flow) there.1 ∙ sym k) at

degree-many : (flow : Dataflow) (kind : Kind) (n : ℕ) → IsInDegree kind n → 3 ≤ n → (bs : List (List Rec)) (bags : List (List Timed))
    → outputs_of_kind flow kind bs bags ≡ joint_bag bags
degree-many flow kind zero d l bs bags = absurd (omega arith)
degree-many flow kind (suc zero) d l bs bags = absurd (omega arith)
degree-many flow kind (suc (suc n)) d l bs bags = many_sent flow kind n d (no_join kind (suc (suc n)) d l) bs bags

-- how many in-edges a node has
pub degree : (flow : Dataflow) → IsWellFormed flow → (p : ℕ) → p < length flow.nodes → (kind : Kind) (edges : List ℕ)
    → kind ≡ kind_of flow p → edges ≡ in_edges flow p → IsInDegree kind (length edges)
degree flow w p there kind edges k e =
    subst (λ x. IsInDegree x (length edges)) (sym k) (subst (λ es. IsInDegree (kind_of flow p) (length es)) (sym e) (w.in_degrees p there))

-- a node with three in-edges or more sends on what comes
pub many_come : (flow : Dataflow) → IsWellFormed flow → (p : ℕ) → p < length flow.nodes → (kind : Kind) (edges : List ℕ)
    → kind ≡ kind_of flow p → edges ≡ in_edges flow p → 3 ≤ length edges → (bs : List (List Rec)) (bags : List (List Timed))
    → outputs_of_kind flow kind bs bags ≡ joint_bag bags
many_come flow w p there kind edges k e l bs bags = degree-many flow kind (length edges) (degree flow w p there kind edges k e) l bs bags

pub nil_below : {X : Type 0} (xs : List X) → length xs < 1 → xs ≡ []
nil_below [] l = refl
nil_below (x ∷ xs) l = absurd (omega arith)

-- what is within the bounds of a node's domain
pub within_node : (flow : Dataflow) (p : ℕ) (kind : Kind) (bounds : Bounds) (rs : List Timed) → kind ≡ kind_of flow p → bounds ≡ bounds_of flow p
    → AllByRecursion (λ (r : Timed). in_domain bounds r.at ≡ true) rs → AreIn flow kind rs
unfolding bounds_of
within_node flow p kind bounds rs k b a =
    subst (λ x. AreIn flow x rs) (sym k) (subst (λ (x : Bounds). AllByRecursion (λ (r : Timed). in_domain x r.at ≡ true) rs) b a)

-- what is within the bounds of the receiver's domain is at stamps of the sender's out domain
pub within_receiver : (flow : Dataflow) → IsWellFormed flow → (e p : ℕ) → sender flow e ≡ p → (bounds : Bounds) (rs : List Timed) → bounds ≡ bounds_of flow (receiver flow e)
    → AllByRecursion (λ (r : Timed). in_domain bounds r.at ≡ true) rs → AreOut flow (kind_of flow p) rs
unfolding bounds_of
within_receiver flow w e p s bounds rs b a =
    subst (λ q. AreOut flow (kind_of flow q) rs) s
    (subst (λ dom. AllByRecursion (λ (r : Timed). in_domain (bounds_of_domain flow dom) r.at ≡ true) rs) (sym (edge_domains flow w e))
    (subst (λ (x : Bounds). AllByRecursion (λ (r : Timed). in_domain x r.at ≡ true) rs) b a))

-- the batches of a node that is there are few
pub few_batches : (flow : Dataflow) (batches : List (ℕ × List (List Rec))) → IsWellFormedSystem (system_of flow batches) → (p : ℕ) → p < length flow.nodes
    → (bags : List BagState) → map (λ (b : BagState). b.recs) bags ≡ batches_at batches p → length bags ≤ 4294967296
few_batches flow batches w p l bags e =
    let f = w.few p in
    let n = ap length (e ∙ sym (batches_there flow batches p l)) in
    omega (arith, length-map bags (λ (b : BagState). b.recs), n, f)
