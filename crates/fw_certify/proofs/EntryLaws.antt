-- Of which inclusion an entry is.
use Rattle.std.proofs.Common.{◌≡◌, ℕ, refl, sym, ap, ◌∙◌}
use Rattle.fw_flow.specs.declared.choice.Cut.{Cut}
use Rattle.fw_flow.specs.declared.side.Side.TheVariants.{Delivered, Discarded, Notified}
use Rattle.fw_flow.specs.declared.side.Limit.TheVariants.{Own, Note}
use Rattle.fw_flow.specs.declared.side.Inclusion.{Inclusion}
use Rattle.fw_flow.specs.declared.side.Inclusion.TheVariants.{OfCut, OfNote}
use Rattle.fw_flow.specs.declared.trail.Cause.{Cause}
use Rattle.fw_flow.specs.declared.trail.Cause.TheVariants as cause
use Rattle.fw_flow.specs.declared.trail.Lowering.{Lowering}
use Rattle.fw_flow.specs.declared.trail.Part.{Part}
use Rattle.fw_flow.specs.Dataflow.{Dataflow}
use Rattle.fw_model.specs.Inclusions.{node_of}
use Rattle.fw_model.specs.Lowerings.{cause_of, lowering_of, part_of}
use Rattle.fw_certify.specs.Checked.{said_inclusion}

-- the inclusion that an entry tells is the one that its cause says
pub said-one : (flow : Dataflow) (l : Lowering) (i : Inclusion) → l ≡ lowering_of flow i l.to → i ≡ said_inclusion l.node l.by
said-one flow l (OfCut (Delivered d)) e = sym (ap (said_inclusion l.node) (ap (λ (x : Lowering). x.by) e))
said-one flow l (OfCut (Discarded d)) e = sym (ap (said_inclusion l.node) (ap (λ (x : Lowering). x.by) e))
said-one flow l (OfCut (Notified p)) e = sym (ap (said_inclusion l.node) (ap (λ (x : Lowering). x.by) e) ∙ ap (λ q. OfCut (Notified q)) (ap (λ (x : Lowering). x.node) e))
said-one flow l (OfNote (Own p)) e = sym (ap (said_inclusion l.node) (ap (λ (x : Lowering). x.by) e) ∙ ap (λ q. OfNote (Own q)) (ap (λ (x : Lowering). x.node) e))
said-one flow l (OfNote (Note d)) e = sym (ap (said_inclusion l.node) (ap (λ (x : Lowering). x.by) e))

cause-said : (p : ℕ) (c : Cause) → cause_of (said_inclusion p c) ≡ c
cause-said p (cause.Delivered d) = refl
cause-said p (cause.Discarded e) = refl
cause-said p cause.Notified = refl
cause-said p cause.Own = refl
cause-said p (cause.Note d) = refl

-- these parts of a lowering
abbrev of_parts : ℕ → Part → Cut → Cause → Lowering
of_parts p part to by = record { node = p; part = part; to = to; by = by }

-- where node and part are those of that inclusion, the entry tells it
pub said-told : (flow : Dataflow) (l : Lowering) (i : Inclusion) → i ≡ said_inclusion l.node l.by → node_of flow i ≡ l.node → l.part ≡ part_of i → l ≡ lowering_of flow i l.to
said-told flow l i e n p =
    let whole : l ≡ of_parts l.node l.part l.to l.by = refl in
    whole ∙ ap (λ q. of_parts q l.part l.to l.by) (sym n) ∙ ap (λ x. of_parts (node_of flow i) x l.to l.by) p
    ∙ ap (of_parts (node_of flow i) (part_of i) l.to) (sym (ap cause_of e ∙ cause-said l.node l.by))
