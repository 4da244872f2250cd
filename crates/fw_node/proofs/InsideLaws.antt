-- What the events inside a frontier delivered and sent, where it is all that came, or all that a node was notified of.
use Rattle.std.proofs.Common.{◌≡◌, ◌∙◌, ℕ, Bool, true, false, cond, List, [], ◌∷◌, ◌++◌, length, refl, sym, ap}
use Rattle.std.specs.List.{AllByRecursion}
use Rattle.fw_time.specs.Stamp.{Stamp, same}
use Rattle.fw_time.proofs.StampLaws.{same-is}
use Rattle.fw_bag.specs.declared.rec.Rec.{Rec}
use Rattle.fw_bag.specs.Keyed.{sorted_recs}
use Rattle.fw_flow.specs.declared.event.Event.{Event}
use Rattle.fw_flow.specs.declared.event.Event.TheVariants.{Inject, Deliver, Notify}
use Rattle.fw_flow.specs.declared.event.Message.{Message}
use Rattle.fw_flow.specs.declared.kind.Kind.TheVariants as kind
use Rattle.fw_flow.specs.NodeFunction.{delivered_recs, numbered_messages, recs_on_notification, sequence_sent}
use Rattle.fw_model.specs.Filtering.{events_inside}
use Rattle.fw_model.specs.Order.{notified_stamps}
use Rattle.fw_model.specs.Told.{EachDelivery}
use Rattle.fw_node.proofs.NodeLaws.{each_of}

not_both : (b : Bool) → b ≡ true → b ≡ false → ⊥
not_both true i o = cc
not_both false i o = cc

each-delivery : (P : Stamp → Type 0) → ((s : Stamp) → P s) → (vs : List Event) → EachDelivery P vs
each-delivery P h [] = tt
each-delivery P h (Inject s x ∷ vs) = each-delivery P h vs
each-delivery P h (Deliver e m ∷ vs) = (h m.at, each-delivery P h vs)
each-delivery P h (Notify p t ∷ vs) = each-delivery P h vs

-- ---- recs

-- what a test finds of deliveries that lie inside where it passes, it finds of the events inside
recs-inside : (test b : Stamp → Bool) (vs : List Event) → EachDelivery (λ s. test s ≡ true → b s ≡ true) vs
    → delivered_recs (λ d s. test s) (events_inside b vs) ≡ delivered_recs (λ d s. test s) vs
recs-inside test b [] each = refl
recs-inside test b (Inject s x ∷ vs) each = cases (b (x ∷ [])) (recs-inside test b vs each)
  where
    cases : (c : Bool) → delivered_recs (λ d s. test s) (events_inside b vs) ≡ delivered_recs (λ d s. test s) vs
        → delivered_recs (λ d s. test s) (cond c (Inject s x ∷ events_inside b vs) (events_inside b vs)) ≡ delivered_recs (λ d s. test s) vs
    cases true h = h
    cases false h = h
recs-inside test b (Deliver e m ∷ vs) each = cases (b m.at) (test m.at) refl refl each.0 (recs-inside test b vs each.1)
  where
    cases : (c u : Bool) → b m.at ≡ c → test m.at ≡ u → (test m.at ≡ true → b m.at ≡ true)
        → delivered_recs (λ d s. test s) (events_inside b vs) ≡ delivered_recs (λ d s. test s) vs
        → delivered_recs (λ d s. test s) (cond c (Deliver e m ∷ events_inside b vs) (events_inside b vs))
        ≡ cond (test m.at) (m.rec ∷ []) [] ++ delivered_recs (λ d s. test s) vs
    cases true u o k i h = ap (λ (rs : List Rec). cond (test m.at) (m.rec ∷ []) [] ++ rs) h
    cases false true o k i h = absurd (not_both (b m.at) (i k) o)
    cases false false o k i h = h ∙ sym (ap (λ (u : Bool). cond u (m.rec ∷ []) [] ++ delivered_recs (λ d s. test s) vs) k)
recs-inside test b (Notify q t ∷ vs) each = cases (b t) (recs-inside test b vs each)
  where
    cases : (c : Bool) → delivered_recs (λ d s. test s) (events_inside b vs) ≡ delivered_recs (λ d s. test s) vs
        → delivered_recs (λ d s. test s) (cond c (Notify q t ∷ events_inside b vs) (events_inside b vs)) ≡ delivered_recs (λ d s. test s) vs
    cases true h = h
    cases false h = h

-- so it is with each test where all deliveries lie inside
pub recs-whole : (test b : Stamp → Bool) (vs : List Event) → EachDelivery (λ s. b s ≡ true) vs
    → delivered_recs (λ d s. test s) (events_inside b vs) ≡ delivered_recs (λ d s. test s) vs
recs-whole test b vs each = recs-inside test b vs (each_of (λ s. b s ≡ true) (λ s. test s ≡ true → b s ≡ true) (λ s i k. i) vs each)

-- and nothing came at a stamp outside
nothing-at : (b : Stamp → Bool) (t : Stamp) → b t ≡ false → (vs : List Event) → EachDelivery (λ s. b s ≡ true) vs
    → delivered_recs (λ d s. same s t) vs ≡ []
nothing-at b t o [] each = refl
nothing-at b t o (Inject s x ∷ vs) each = nothing-at b t o vs each
nothing-at b t o (Deliver e m ∷ vs) each = cases (same m.at t) refl each.0 (nothing-at b t o vs each.1)
  where
    cases : (c : Bool) → same m.at t ≡ c → b m.at ≡ true → delivered_recs (λ d s. same s t) vs ≡ []
        → cond c (m.rec ∷ []) [] ++ delivered_recs (λ d s. same s t) vs ≡ []
    cases true k i h = absurd (not_both (b t) (sym (ap b (same-is m.at t k)) ∙ i) o)
    cases false k i h = h
nothing-at b t o (Notify q u ∷ vs) each = nothing-at b t o vs each

-- ---- what a sequence sent

-- a notification sends what it sends among all, where as much came at its stamp and as much was sent before
notice-same : (b : Stamp → Bool) (q : ℕ) (t : Stamp) (vs : List Event)
    → delivered_recs (λ d s. same s t) (events_inside b vs) ≡ delivered_recs (λ d s. same s t) vs
    → sequence_sent (events_inside b vs) ≡ sequence_sent vs → sequence_sent (Notify q t ∷ events_inside b vs) ≡ sequence_sent (Notify q t ∷ vs)
notice-same b q t vs recs sent =
    let us : List Event = events_inside b vs in
    ap (λ (rs : List Rec). numbered_messages (length (sequence_sent us)) t (sorted_recs rs) ++ sequence_sent us) recs
    ∙ ap (λ (ms : List Message). numbered_messages (length ms) t (recs_on_notification kind.Sequence vs t) ++ ms) sent

-- where all deliveries lie inside, the events inside sent all
pub sent-whole : (b : Stamp → Bool) (vs : List Event) → EachDelivery (λ s. b s ≡ true) vs → sequence_sent (events_inside b vs) ≡ sequence_sent vs
sent-whole b [] each = refl
sent-whole b (Inject s x ∷ vs) each = cases (b (x ∷ [])) (sent-whole b vs each)
  where
    cases : (c : Bool) → sequence_sent (events_inside b vs) ≡ sequence_sent vs → sequence_sent (cond c (Inject s x ∷ events_inside b vs) (events_inside b vs)) ≡ sequence_sent vs
    cases true h = h
    cases false h = h
sent-whole b (Deliver e m ∷ vs) each = cases (b m.at) (sent-whole b vs each.1)
  where
    cases : (c : Bool) → sequence_sent (events_inside b vs) ≡ sequence_sent vs → sequence_sent (cond c (Deliver e m ∷ events_inside b vs) (events_inside b vs)) ≡ sequence_sent vs
    cases true h = h
    cases false h = h
sent-whole b (Notify q t ∷ vs) each = cases (b t) refl (sent-whole b vs each)
  where
    cases : (c : Bool) → b t ≡ c → sequence_sent (events_inside b vs) ≡ sequence_sent vs
        → sequence_sent (cond c (Notify q t ∷ events_inside b vs) (events_inside b vs)) ≡ sequence_sent (Notify q t ∷ vs)
    cases true o h = notice-same b q t vs (recs-whole (λ s. same s t) b vs each) h
    cases false o h =
        h ∙ sym (ap (λ (rs : List Rec). numbered_messages (length (sequence_sent vs)) t (sorted_recs rs) ++ sequence_sent vs) (nothing-at b t o vs each))

-- and so they did where all notifications lie inside
pub sent-told : (b : Stamp → Bool) (vs : List Event) → AllByRecursion (λ t. b t ≡ true) (notified_stamps vs) → sequence_sent (events_inside b vs) ≡ sequence_sent vs
sent-told b [] told = refl
sent-told b (Inject s x ∷ vs) told = cases (b (x ∷ [])) (sent-told b vs told)
  where
    cases : (c : Bool) → sequence_sent (events_inside b vs) ≡ sequence_sent vs → sequence_sent (cond c (Inject s x ∷ events_inside b vs) (events_inside b vs)) ≡ sequence_sent vs
    cases true h = h
    cases false h = h
sent-told b (Deliver e m ∷ vs) told = cases (b m.at) (sent-told b vs told)
  where
    cases : (c : Bool) → sequence_sent (events_inside b vs) ≡ sequence_sent vs → sequence_sent (cond c (Deliver e m ∷ events_inside b vs) (events_inside b vs)) ≡ sequence_sent vs
    cases true h = h
    cases false h = h
sent-told b (Notify q t ∷ vs) told =
    ap (λ (c : Bool). sequence_sent (cond c (Notify q t ∷ events_inside b vs) (events_inside b vs))) told.0
    ∙ notice-same b q t vs
    (recs-inside (λ s. same s t) b vs (each-delivery (λ s. same s t ≡ true → b s ≡ true) (λ s k. ap b (same-is s t k) ∙ told.0) vs))
    (sent-told b vs told.1)
