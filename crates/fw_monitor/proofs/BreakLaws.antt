-- What a lowering can break.
use Rattle.std.proofs.Common.{◌≡◌, ℕ, ◌<◌, false, ◌==◌, List, [], length, set, sym, ap, ◌∙◌, inl, inr}
use Rattle.std.proofs.lemmas.Bool.{cases_eq, eqb-false, or_parts}
use Rattle.std.proofs.lemmas.List.{get_or-set_same, get_or-set_other}
use Rattle.fw_frontier.specs.Frontier.{Within}
use Rattle.fw_frontier.specs.Front.{Front, frontier_of}
use Rattle.fw_flow.specs.declared.choice.Choice.{Choice}
use Rattle.fw_flow.specs.declared.choice.Cut.{Cut}
use Rattle.fw_flow.specs.declared.choice.Cut.TheVariants.{Present}
use Rattle.fw_flow.specs.declared.choice.Offer.{Offer}
use Rattle.fw_flow.specs.Dataflow.{Dataflow, sender, receiver, bounds_of, node_frontier}
use Rattle.fw_model.specs.Machine.{front_of}
use Rattle.fw_model.specs.Choice.{cut_of, notice_of}
use Rattle.fw_model.specs.Covers.{set_of}
use Rattle.fw_model.specs.Offers.{arrived_from, covers_of}
use Rattle.fw_flow.specs.declared.side.Side.TheVariants.{Delivered, Discarded, Notified}
use Rattle.fw_flow.specs.declared.side.Limit.TheVariants.{Own, Note}
use Rattle.fw_flow.specs.declared.side.Inclusion.{Inclusion}
use Rattle.fw_flow.specs.declared.side.Inclusion.TheVariants.{OfCut, OfNote}
use Rattle.fw_model.specs.Inclusions.{left_of, Holds}
use Rattle.fw_model.specs.Lowerings.{choice_of}
use Rattle.fw_monitor.specs.Worklist.{reads_cut, reads_note}

cut_old : (choice : Choice) (p q : ℕ) (c : Cut) → (q == p) ≡ false → cut_of (choice_of (set choice.cuts p c) choice.notices) q ≡ cut_of choice q
cut_old choice p q c k = get_or-set_other choice.cuts p q c Present (eqb-false q p k)

-- another cut of a node leaves what does not read it
pub cut_spares : (flow : Dataflow) (offers : List Offer) (choice : Choice) (p : ℕ) (c : Cut) (i : Inclusion) → reads_cut flow p i ≡ false
    → Holds flow (covers_of flow offers) choice i → Holds flow (covers_of flow offers) (choice_of (set choice.cuts p c) choice.notices) i
cut_spares flow offers choice p c (OfCut (Delivered d)) k h = λ t i.
    let n = or_parts (receiver flow d == p) (sender flow d == p) k in
    ap (λ x. arrived_from flow offers d (set_of flow (sender flow d) x) t) (cut_old choice p (sender flow d) c n.1)
    ∙ h t (sym (ap (λ x. left_of (covers_of flow offers) (Delivered d) x t) (cut_old choice p (receiver flow d) c n.0)) ∙ i)
cut_spares flow offers choice p c (OfCut (Discarded e)) k h = λ t i.
    let n = or_parts (sender flow e == p) (receiver flow e == p) k in
    ap (λ x. set_of flow (receiver flow e) x t) (cut_old choice p (receiver flow e) c n.1)
    ∙ h t (sym (ap (λ x. left_of (covers_of flow offers) (Discarded e) x t) (cut_old choice p (sender flow e) c n.0)) ∙ i)
cut_spares flow offers choice p c (OfCut (Notified q)) k h = λ t i.
    h t (sym (ap (λ x. left_of (covers_of flow offers) (Notified q) x t) (cut_old choice p q c k)) ∙ i)
cut_spares flow offers choice p c (OfNote (Own q)) k h = λ t i. ap (λ x. set_of flow q x t) (cut_old choice p q c k) ∙ h t i
cut_spares flow offers choice p c (OfNote (Note d)) k h = h

-- with a lower notification frontier of one node each lies within what it was
notice_lower : (flow : Dataflow) (choice : Choice) (p q : ℕ) (f : Front) → p < length choice.notices → Within (node_frontier flow p f) (notice_of flow choice p)
    → Within (notice_of flow (choice_of choice.cuts (set choice.notices p f)) q) (notice_of flow choice q)
notice_lower flow choice p q f l w t i = elim (cases_eq q p) [
  | inl e ↦
      let new : front_of (set choice.notices p f) p ≡ f = get_or-set_same choice.notices p f [] l in
      let here = sym (ap (λ r. notice_of flow (choice_of choice.cuts (set choice.notices p f)) r t) e) ∙ i in
      ap (λ r. notice_of flow choice r t) e ∙ w t (sym (ap (λ g. node_frontier flow p g t) new) ∙ here)
  | inr n ↦ sym (ap (λ g. node_frontier flow q g t) (get_or-set_other choice.notices p q f [] n)) ∙ i
]

-- a lower notification frontier of a node leaves what does not have it on its right
pub note_spares : (flow : Dataflow) (offers : List Offer) (choice : Choice) (p : ℕ) (f : Front) (i : Inclusion) → p < length choice.notices
    → Within (node_frontier flow p f) (notice_of flow choice p) → reads_note flow p i ≡ false
    → Holds flow (covers_of flow offers) choice i → Holds flow (covers_of flow offers) (choice_of choice.cuts (set choice.notices p f)) i
note_spares flow offers choice p f (OfCut (Delivered d)) l w k h = h
note_spares flow offers choice p f (OfCut (Discarded e)) l w k h = h
note_spares flow offers choice p f (OfCut (Notified q)) l w k h = λ t i.
    ap (λ g. frontier_of (bounds_of flow q) g t) (get_or-set_other choice.notices p q f [] (eqb-false q p k)) ∙ h t i
note_spares flow offers choice p f (OfNote (Own q)) l w k h = λ t i. h t (notice_lower flow choice p q f l w t i)
note_spares flow offers choice p f (OfNote (Note d)) l w k h = λ t i.
    ap (λ g. arrived_from flow offers d (node_frontier flow (sender flow d) g) t) (get_or-set_other choice.notices p (sender flow d) f [] (eqb-false (sender flow d) p k))
    ∙ h t (notice_lower flow choice p (receiver flow d) f l w t i)
