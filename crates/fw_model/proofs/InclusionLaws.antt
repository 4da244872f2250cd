-- Which inclusions a dataflow has; and that what they ask for grows with the choice.
use Rattle.std.proofs.Common.{◌≡◌, ℕ, zero, suc, ◌<◌, ◌≤◌, List, ◌∷◌, ◌++◌, length, map, set, get_or, refl, sym, ap, subst, ◌∙◌, inl, inr, arith}
use Rattle.std.specs.List.{AllByRecursion}
use Rattle.std.proofs.lemmas.Bool.{and_parts, cases_eq}
use Rattle.std.proofs.lemmas.List.{get_or-set_same, get_or-set_other, get_or_default, same_lists}
use Rattle.fw_lemmas.proofs.Each.{each-append, each-prefix, each-suffix, each-map, each_of-map}
use Rattle.fw_time.specs.Stamp.{in_domain}
use Rattle.fw_frontier.specs.Frontier.{Frontier, Within}
use Rattle.fw_frontier.specs.Front.{inside}
use Rattle.fw_flow.specs.declared.choice.Choice.{Choice}
use Rattle.fw_flow.specs.declared.choice.Cut.{Cut}
use Rattle.fw_flow.specs.declared.choice.Cut.TheVariants.{Present, At}
use Rattle.fw_flow.specs.declared.side.Side.{Side}
use Rattle.fw_flow.specs.declared.side.Side.TheVariants.{Delivered, Discarded, Notified}
use Rattle.fw_flow.specs.declared.side.Limit.TheVariants.{Own, Note}
use Rattle.fw_flow.specs.declared.side.Inclusion.{Inclusion}
use Rattle.fw_flow.specs.declared.side.Inclusion.TheVariants.{OfCut, OfNote}
use Rattle.fw_flow.specs.Dataflow.{Dataflow, sender, receiver, in_edges, out_edges, bounds_of}
use Rattle.fw_flow.specs.WellFormed.{IsWellFormed}
use Rattle.fw_flow.proofs.EdgeLaws.{in_edges-at, in_edges-from}
use Rattle.fw_flow.proofs.OutEdgeLaws.{out_edges-at, out_edges-from}
use Rattle.fw_model.specs.Machine.{front_of}
use Rattle.fw_model.specs.Covers.{Covers, set_of}
use Rattle.fw_model.specs.Choice.{cut_of, notice_of, kept_of, IsConsistentBy, IsCutWithin, IsChoiceWithin, IsCanonicalCut}
use Rattle.fw_model.proofs.ChoiceLaws.{same_fronts}
use Rattle.fw_model.specs.Inclusions.{owner, note_node, node_of, right_side, Holds, IsInclusionOf, inclusions_at, inclusions_to, inclusions}

-- ---- the inclusions in the list are those of the dataflow

pub ins-there : (flow : Dataflow) (f : ℕ → Inclusion) (p : ℕ) → ((d : ℕ) → d < length flow.edges → IsInclusionOf flow (f d)) → AllByRecursion (IsInclusionOf flow) (map f (in_edges flow p))
ins-there flow f p h = each-map (IsInclusionOf flow) f (in_edges flow p) (in_edges-from (λ d. IsInclusionOf flow (f d)) flow p (λ d l r. h d l))

pub outs-there : (flow : Dataflow) (f : ℕ → Inclusion) (p : ℕ) → ((d : ℕ) → d < length flow.edges → IsInclusionOf flow (f d)) → AllByRecursion (IsInclusionOf flow) (map f (out_edges flow p))
outs-there flow f p h = each-map (IsInclusionOf flow) f (out_edges flow p) (out_edges-from (λ d. IsInclusionOf flow (f d)) flow p (λ d l r. h d l))

to-there : (flow : Dataflow) (n : ℕ) → n ≤ length flow.nodes → AllByRecursion (IsInclusionOf flow) (inclusions_to flow n)
unfolding inclusions_to
to-there flow zero l = tt
to-there flow (suc n) l =
    let P = IsInclusionOf flow in
    let here : n < length flow.nodes = omega arith in
    let ins = map (λ d. OfCut (Delivered d)) (in_edges flow n) in
    let outs = map (λ e. OfCut (Discarded e)) (out_edges flow n) in
    each-append P (inclusions_to flow n) (inclusions_at flow n) (to-there flow n (omega arith))
    (each-append P (ins ++ outs) (OfCut (Notified n) ∷ OfNote (Own n) ∷ map (λ d. OfNote (Note d)) (in_edges flow n))
    (each-append P ins outs (ins-there flow (λ d. OfCut (Delivered d)) n (λ d m. m)) (outs-there flow (λ e. OfCut (Discarded e)) n (λ d m. m)))
    (here, (here, ins-there flow (λ d. OfNote (Note d)) n (λ d m. m))))

pub inclusions-there : (flow : Dataflow) → AllByRecursion (IsInclusionOf flow) (inclusions flow)
inclusions-there flow = to-there flow (length flow.nodes) (omega arith)

-- what holds of each in the list holds of each of a node
to-node : (flow : Dataflow) (P : Inclusion → Type 0) (n p : ℕ) → p < n → AllByRecursion P (inclusions_to flow n) → AllByRecursion P (inclusions_at flow p)
unfolding inclusions_to
to-node flow P zero p l a = absurd (omega arith)
to-node flow P (suc n) p l a = elim (cases_eq p n) [
  | inl e ↦ subst (λ q. AllByRecursion P (inclusions_at flow q)) (sym e) (each-suffix P (inclusions_to flow n) (inclusions_at flow n) a)
  | inr k ↦ to-node flow P n p (omega arith) (each-prefix P (inclusions_to flow n) (inclusions_at flow n) a)
]

-- what holds of each in the list holds of each of the dataflow
pub each-inclusion : (flow : Dataflow) (P : Inclusion → Type 0) → IsWellFormed flow → AllByRecursion P (inclusions flow) → (i : Inclusion) → IsInclusionOf flow i → P i
each-inclusion flow P well all = at
  where
    node : (p : ℕ) → p < length flow.nodes
        → AllByRecursion (λ d. P (OfCut (Delivered d))) (in_edges flow p) × AllByRecursion (λ e. P (OfCut (Discarded e))) (out_edges flow p)
        × P (OfCut (Notified p)) × P (OfNote (Own p)) × AllByRecursion (λ d. P (OfNote (Note d))) (in_edges flow p)
    node p l =
        let here = to-node flow P (length flow.nodes) p l all in
        let ins = map (λ d. OfCut (Delivered d)) (in_edges flow p) in
        let outs = map (λ e. OfCut (Discarded e)) (out_edges flow p) in
        let rest = OfCut (Notified p) ∷ OfNote (Own p) ∷ map (λ d. OfNote (Note d)) (in_edges flow p) in
        let first = each-prefix P (ins ++ outs) rest here in
        let last = each-suffix P (ins ++ outs) rest here in (
          each_of-map P (λ d. OfCut (Delivered d)) (in_edges flow p) (each-prefix P ins outs first),
          each_of-map P (λ e. OfCut (Discarded e)) (out_edges flow p) (each-suffix P ins outs first),
          last.0,
          last.1.0,
          each_of-map P (λ d. OfNote (Note d)) (in_edges flow p) last.1.1,
        )

    at : (i : Inclusion) → IsInclusionOf flow i → P i
    at (OfCut (Delivered d)) l = in_edges-at (λ x. P (OfCut (Delivered x))) flow (receiver flow d) (node (receiver flow d) (well.receivers_declared d l)).0 d l refl
    at (OfCut (Discarded e)) l = out_edges-at (λ x. P (OfCut (Discarded x))) flow (sender flow e) (node (sender flow e) (well.senders_declared e l)).1 e l refl
    at (OfCut (Notified p)) l = (node p l).2
    at (OfNote (Own p)) l = (node p l).3
    at (OfNote (Note d)) l = in_edges-at (λ x. P (OfNote (Note x))) flow (receiver flow d) (node (receiver flow d) (well.receivers_declared d l)).4 d l refl

-- ---- what lies within

pub set-monotone : (flow : Dataflow) (p : ℕ) (c d : Cut) → IsCutWithin flow p c d → Within (set_of flow p c) (set_of flow p d)
set-monotone flow p Present Present w t k = k
set-monotone flow p (At f) Present w t k = (and_parts (in_domain (bounds_of flow p) t) (inside f t) k).0
set-monotone flow p Present (At g) w t k = absurd w
set-monotone flow p (At f) (At g) w t k = w t k

-- what comes from a frontier grows with it
abbrev pub ArrivalsAreMonotone : Covers → Type 0
ArrivalsAreMonotone covers = (e : ℕ) (f g : Frontier) → Within f g → Within (covers.arrived e f) (covers.arrived e g)

-- the right sides grow with the choice
pub right-monotone : (flow : Dataflow) (covers : Covers) (i : Inclusion) (small large : Choice) → IsWellFormed flow → ArrivalsAreMonotone covers → IsInclusionOf flow i → IsChoiceWithin flow small large
    → Within (right_side flow covers i small) (right_side flow covers i large)
right-monotone flow covers (OfCut (Delivered d)) small large well m there w =
    m d (kept_of flow small (sender flow d)) (kept_of flow large (sender flow d))
    (set-monotone flow (sender flow d) (cut_of small (sender flow d)) (cut_of large (sender flow d)) (w.cuts (sender flow d) (well.senders_declared d there)))
right-monotone flow covers (OfCut (Discarded e)) small large well m there w =
    set-monotone flow (receiver flow e) (cut_of small (receiver flow e)) (cut_of large (receiver flow e)) (w.cuts (receiver flow e) (well.receivers_declared e there))
right-monotone flow covers (OfCut (Notified p)) small large well m there w = w.notices p there
right-monotone flow covers (OfNote (Own p)) small large well m there w = set-monotone flow p (cut_of small p) (cut_of large p) (w.cuts p there)
right-monotone flow covers (OfNote (Note d)) small large well m there w =
    m d (notice_of flow small (sender flow d)) (notice_of flow large (sender flow d)) (w.notices (sender flow d) (well.senders_declared d there))

-- in a consistent choice each inclusion holds
pub consistent-holds : (flow : Dataflow) (covers : Covers) (offers : ℕ → Cut → Type 0) (choice : Choice) → IsConsistentBy flow covers offers choice → (i : Inclusion) → IsInclusionOf flow i → Holds flow covers choice i
consistent-holds flow covers offers choice c (OfCut (Delivered d)) there = c.delivered d there
consistent-holds flow covers offers choice c (OfCut (Discarded e)) there = c.discarded e there
consistent-holds flow covers offers choice c (OfCut (Notified p)) there = c.notified p there
consistent-holds flow covers offers choice c (OfNote (Own p)) there = c.own p there
consistent-holds flow covers offers choice c (OfNote (Note d)) there = c.notices d there

pub owner-there : (flow : Dataflow) (side : Side) → IsWellFormed flow → IsInclusionOf flow (OfCut side) → owner flow side < length flow.nodes
owner-there flow (Delivered d) well there = well.receivers_declared d there
owner-there flow (Discarded e) well there = well.senders_declared e there
owner-there flow (Notified p) well there = there

pub node-there : (flow : Dataflow) (i : Inclusion) → IsWellFormed flow → IsInclusionOf flow i → node_of flow i < length flow.nodes
node-there flow (OfCut side) well there = owner-there flow side well there
node-there flow (OfNote (Own p)) well there = there
node-there flow (OfNote (Note d)) well there = well.receivers_declared d there

-- a list with another value at one place
pub set_there : {A : Type 0} (P : ℕ → A → Type 0) (xs : List A) (n p : ℕ) (x d : A) → p < length xs → ((q : ℕ) → q < n → P q (get_or xs q d)) → P p x
    → (q : ℕ) → q < n → P q (get_or (set xs p x) q d)
set_there P xs n p x d l h k q m = elim (cases_eq q p) [
  | inl e ↦ subst (λ r. P r (get_or (set xs p x) r d)) (sym e) (subst (P p) (sym (get_or-set_same xs p x d l)) k)
  | inr e ↦ subst (P q) (sym (get_or-set_other xs p q x d e)) (h q m)
]

-- the value of a choice on the left of an inclusion
abbrev pub value_of : Dataflow → Choice → Inclusion → Cut
value_of flow choice (OfCut side) = cut_of choice (owner flow side)
value_of flow choice (OfNote limit) = At (front_of choice.notices (note_node flow limit))

-- ---- one value

-- two cuts, each within the other, are one
pub cuts-same : (flow : Dataflow) (p : ℕ) (c d : Cut) → IsCanonicalCut (bounds_of flow p) c → IsCanonicalCut (bounds_of flow p) d → IsCutWithin flow p c d → IsCutWithin flow p d c → c ≡ d
cuts-same flow p Present Present k l v w = refl
cuts-same flow p Present (At g) k l v w = absurd v
cuts-same flow p (At f) Present k l v w = absurd w
cuts-same flow p (At f) (At g) k l v w = ap At (same_fronts (bounds_of flow p) f g k l v w)

-- two lists of one element a place are one, if they have the same at each
pub same_each : {A : Type 0} (xs ys : List A) (n : ℕ) (d : A) → length xs ≡ n → length ys ≡ n → ((p : ℕ) → p < n → get_or xs p d ≡ get_or ys p d) → xs ≡ ys
same_each xs ys n d e f h = same_lists xs ys (e ∙ sym f) (λ k z l.
    let there : k < n = subst (λ m. k < m) e l in
    get_or_default xs k z d l ∙ h k there ∙ get_or_default ys k d z (subst (λ m. k < m) (sym f) there))
