-- What an event sends depends on what it reads alone: the one law of this with a case for each kind, and what follows of all.
use Rattle.std.proofs.Common.{◌≡◌, ℕ, Bool, true, false, cond, not, ◌&&◌, ◌==◌, List, [], ◌∷◌, ◌++◌, length, refl, sym, ap, ◌∙◌}
use Rattle.std.specs.List.{AllByRecursion}
use Rattle.std.proofs.lemmas.Bool.{and_parts, cond_both}
use Rattle.fw_lemmas.proofs.Bools.{two_ways}
use Rattle.fw_lemmas.proofs.Each.{each-one, each-kept}
use Rattle.fw_lemmas.proofs.Filters.{filter-in, filter-all, filter-inner, flat_map-filter}
use Rattle.fw_time.specs.Stamp.{Stamp, leq, same}
use Rattle.fw_time.proofs.StampLaws.{leq-refl}
use Rattle.fw_bag.specs.Keyed.{joined_rec, distinct_keys, sums_of, is_among, sorted_recs}
use Rattle.fw_frontier.specs.Frontier.{Frontier}
use Rattle.fw_flow.specs.declared.event.Event.{Event}
use Rattle.fw_flow.specs.declared.event.Event.TheVariants.{Inject, Deliver, Notify}
use Rattle.fw_flow.specs.declared.event.Message.{Message}
use Rattle.fw_flow.specs.Kind.{Kind}
use Rattle.fw_flow.specs.declared.kind.Kind.TheVariants.{Distinct, Join, Sum, Total, Sequence, Ledger}
use Rattle.fw_flow.specs.Dataflow.{System, send_stamp_of_kind}
use Rattle.fw_flow.specs.NodeFunction.{event_stamp, rec_of_delivery, delivered_recs, recs_on_delivery, recs_on_notification, recs_on, numbered_messages, sequence_sent, messages_at_some, sends_of_kind}
use Rattle.fw_flow.specs.WellFormed.{may_keep_nothing}
use Rattle.fw_model.proofs.StampLaws.{same-is}
use Rattle.fw_model.specs.Order.{notified_stamps}
use Rattle.fw_model.specs.Reads.{reads_of, reads_at, reads_its_time_alone, Follows, SendsByWhatItReads}
use Rattle.fw_model.specs.Filtering.{events_inside}

-- ---- which recs are read

-- what is read at stamps inside is read among the events inside
pub reads-inside : (f : Frontier) (test : ℕ → Stamp → Bool) (vs : List Event) → ((d : ℕ) (s : Stamp) → test d s ≡ true → f s ≡ true)
    → delivered_recs test (events_inside f vs) ≡ delivered_recs test vs
reads-inside f test vs w =
    flat_map-filter (rec_of_delivery test) (λ v. f (event_stamp v)) vs (each-one (λ v. f (event_stamp v) ≡ false → rec_of_delivery test v ≡ []) vs nothing_outside)
  where
    nothing_outside : (v : Event) → f (event_stamp v) ≡ false → rec_of_delivery test v ≡ []
    nothing_outside (Inject s x) o = refl
    nothing_outside (Notify p t) o = refl
    nothing_outside (Deliver e m) o =
        cond_both (test e m.at) (m.rec ∷ []) [] (λ rs. rs ≡ []) (λ i. absurd (two_ways (f m.at) (w e m.at i) o)) (λ i. refl)

-- at one stamp
pub reads-at : (f : Frontier) (t : Stamp) (vs : List Event) → f t ≡ true → delivered_recs (λ d s. same s t) (events_inside f vs) ≡ delivered_recs (λ d s. same s t) vs
reads-at f t vs i = reads-inside f (λ d s. same s t) vs (λ d s k. ap f (same-is s t k) ∙ i)

-- ---- what a node of each kind reads

delivery-reads : (kind : Kind) (vs : List Event) (e : ℕ) (m : Message) → Follows kind vs (Deliver e m)
    → recs_on_delivery kind (events_inside (reads_at (reads_of kind) m.at) vs) e m.at m.rec ≡ recs_on_delivery kind vs e m.at m.rec
delivery-reads (Distinct within) vs e m o =
    ap (λ rs. cond (is_among m.rec rs) [] (m.rec ∷ [])) (reads-inside (λ s. same s m.at) (λ d s. same s m.at) vs (λ d s k. k))
delivery-reads (Join within) vs e m o =
    ap (joined_rec m.rec) (reads-inside (λ s. same s m.at) (λ d s. not (d == e) && same s m.at) vs (λ d s k. (and_parts (not (d == e)) (same s m.at) k).1))
delivery-reads Ledger vs e m o = ap (λ ws. recs_on_delivery Ledger ws e m.at m.rec) (filter-all (λ v. leq (event_stamp v) m.at) vs o)
delivery-reads kind vs e m o = refl

same-leq : (s t : Stamp) → same s t ≡ true → leq s t ≡ true
same-leq s t k = ap (λ x. leq x t) (same-is s t k) ∙ leq-refl t

notification-reads : (kind : Kind) (vs : List Event) (t : Stamp)
    → recs_on_notification kind (events_inside (reads_at (reads_of kind) t) vs) t ≡ recs_on_notification kind vs t
notification-reads (Sum within) vs t = ap (λ rs. sums_of (distinct_keys rs) rs) (reads-inside (λ s. same s t) (λ d s. same s t) vs (λ d s k. k))
notification-reads Total vs t =
    let f : Frontier = λ s. leq s t in
    ap (λ rs. sums_of (distinct_keys rs) (delivered_recs (λ d s. leq s t) (events_inside f vs))) (reads-inside f (λ d s. same s t) vs (λ d s k. same-leq s t k))
    ∙ ap (sums_of (distinct_keys (delivered_recs (λ d s. same s t) vs))) (reads-inside f (λ d s. leq s t) vs (λ d s k. k))
notification-reads Sequence vs t = ap sorted_recs (reads-inside (λ s. leq s t) (λ d s. same s t) vs (λ d s k. same-leq s t k))
notification-reads kind vs t = refl

recs-read : (sys : System) (kind : Kind) (vs : List Event) (v : Event) → Follows kind vs v
    → recs_on sys kind (events_inside (reads_at (reads_of kind) (event_stamp v)) vs) v ≡ recs_on sys kind vs v
recs-read sys kind vs (Inject s x) o = refl
recs-read sys kind vs (Deliver e m) o = delivery-reads kind vs e m o
recs-read sys kind vs (Notify p t) o = notification-reads kind vs t

-- what a sequence sent after notifications inside
sequence-local : (f : Frontier) (vs : List Event) → AllByRecursion (λ s. f s ≡ true) (notified_stamps vs) → sequence_sent (events_inside f vs) ≡ sequence_sent vs
sequence-local f [] a = refl
sequence-local f (Inject s x ∷ vs) a =
    cond_both (f (x ∷ [])) (Inject s x ∷ events_inside f vs) (events_inside f vs) (λ ws. sequence_sent ws ≡ sequence_sent vs) (λ e. sequence-local f vs a) (λ e. sequence-local f vs a)
sequence-local f (Deliver e m ∷ vs) a =
    cond_both (f m.at) (Deliver e m ∷ events_inside f vs) (events_inside f vs) (λ ws. sequence_sent ws ≡ sequence_sent vs) (λ e. sequence-local f vs a) (λ e. sequence-local f vs a)
sequence-local f (Notify p t ∷ vs) a =
    let rest = sequence-local f vs a.1 in
    ap sequence_sent (filter-in (λ v. f (event_stamp v)) (Notify p t) vs a.0)
    ∙ ap (λ rs. numbered_messages (length (sequence_sent (events_inside f vs))) t (sorted_recs rs) ++ sequence_sent (events_inside f vs)) (reads-at f t vs a.0)
    ∙ ap (λ ms. numbered_messages (length ms) t (recs_on_notification Sequence vs t) ++ ms) rest

pub kinds-read : (kind : Kind) → SendsByWhatItReads kind
kinds-read Sequence sys vs (Inject s x) o = refl
kinds-read Sequence sys vs (Deliver e m) o = refl
kinds-read Sequence sys vs (Notify p t) o =
    ap (λ rs. numbered_messages (length (sequence_sent (events_inside (λ s. leq s t) vs))) t rs) (notification-reads Sequence vs t)
    ∙ ap (λ ms. numbered_messages (length ms) t (recs_on_notification Sequence vs t)) (sequence-local (λ s. leq s t) vs o)
kinds-read kind sys vs v o =
    ap (messages_at_some (send_stamp_of_kind sys.flow kind (event_stamp v)) (event_stamp v)) (recs-read sys kind vs v o)

-- those that read their own time alone follow what they read whatever came
pub alone-follows : (kind : Kind) → reads_its_time_alone (reads_of kind) ≡ true → (vs : List Event) (v : Event) → Follows kind vs v
alone-follows Ledger n vs v = absurd (two_ways false n refl)
alone-follows Sequence n vs v = absurd (two_ways false n refl)
alone-follows kind n vs v = tt

-- and they are those that may keep nothing
pub free-alone : (kind : Kind) → may_keep_nothing kind ≡ true → reads_its_time_alone (reads_of kind) ≡ true
free-alone Total n = absurd (two_ways false n refl)
free-alone Sequence n = absurd (two_ways false n refl)
free-alone Ledger n = absurd (two_ways false n refl)
free-alone kind n = refl

-- ---- of every kind

notified-kept : (P : Stamp → Type 0) (f : Frontier) (vs : List Event) → AllByRecursion P (notified_stamps vs) → AllByRecursion P (notified_stamps (events_inside f vs))
notified-kept P f [] a = tt
notified-kept P f (Inject s x ∷ vs) a =
    cond_both (f (x ∷ [])) (Inject s x ∷ events_inside f vs) (events_inside f vs) (λ ws. AllByRecursion P (notified_stamps ws)) (λ e. notified-kept P f vs a) (λ e. notified-kept P f vs a)
notified-kept P f (Deliver e m ∷ vs) a =
    cond_both (f m.at) (Deliver e m ∷ events_inside f vs) (events_inside f vs) (λ ws. AllByRecursion P (notified_stamps ws)) (λ k. notified-kept P f vs a) (λ k. notified-kept P f vs a)
notified-kept P f (Notify p t ∷ vs) a =
    cond_both (f t) (Notify p t ∷ events_inside f vs) (events_inside f vs) (λ ws. AllByRecursion P (notified_stamps ws)) (λ k. (a.0, notified-kept P f vs a.1)) (λ k. notified-kept P f vs a.1)

follows-kept : (kind : Kind) (f : Frontier) (vs : List Event) (v : Event) → Follows kind vs v → Follows kind (events_inside f vs) v
follows-kept Ledger f vs v o = each-kept (λ w. leq (event_stamp w) (event_stamp v) ≡ true) (λ w. f (event_stamp w)) vs o
follows-kept Sequence f vs (Inject s x) o = tt
follows-kept Sequence f vs (Deliver e m) o = tt
follows-kept Sequence f vs (Notify p t) o = notified-kept (λ s. leq s t ≡ true) f vs o
follows-kept kind f vs v o = tt

-- where all that it reads is kept, an event sends the same
pub kept-reads : (sys : System) (kind : Kind) (f : Frontier) (vs : List Event) (v : Event) → Follows kind vs v
    → AllByRecursion (λ w. reads_at (reads_of kind) (event_stamp v) (event_stamp w) ≡ true → f (event_stamp w) ≡ true) vs
    → sends_of_kind sys kind (events_inside f vs) v ≡ sends_of_kind sys kind vs v
kept-reads sys kind f vs v o i =
    let r : Frontier = reads_at (reads_of kind) (event_stamp v) in
    sym (kinds-read kind sys (events_inside f vs) v (follows-kept kind f vs v o))
    ∙ ap (λ ws. sends_of_kind sys kind ws v) (filter-inner (λ w. r (event_stamp w)) (λ w. f (event_stamp w)) vs i)
    ∙ kinds-read kind sys vs v o
