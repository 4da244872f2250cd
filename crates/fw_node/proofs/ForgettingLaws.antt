-- Which arrivals a table may be without.
use Rattle.std.proofs.Common.{◌≡◌, ℕ, ◌==◌, Bool, true, false, cond, not, List, [], ◌∷◌, refl, sym, ap, ◌∙◌}
use Rattle.std.specs.Prelude.{◌&&◌}
use Rattle.std.specs.List.{filter}
use Rattle.fw_time.specs.Stamp.{Stamp, same}
use Rattle.fw_bag.specs.Keyed.{is_among, joined_rec, sorted_recs, sums_of, distinct_keys}
use Rattle.fw_flow.specs.declared.event.Event.{Event}
use Rattle.fw_flow.specs.declared.event.Event.TheVariants.{Inject, Deliver, Notify}
use Rattle.fw_flow.specs.declared.kind.Kind.TheVariants as kind
use Rattle.fw_flow.specs.NodeFunction.{event_stamp}
use Rattle.fw_bag.specs.Arrivals.{Arrival, recs_where, arrivals_at, arrivals_inside, recs_of}
use Rattle.fw_bag.proofs.ArrivalLaws.{at-inside}
use Rattle.fw_time.proofs.StampLaws.{same-is}
use Rattle.fw_node.specs.Arrived.{arrived}
use Rattle.fw_node.specs.LawsOfAnswers.{DeliveriesNeedTheirTime, NotificationsNeedTheirTime, EventsInsideArrive}

-- what came at a stamp that is kept is kept
kept_at : (keep : Stamp → Bool) (t : Stamp) (came : List Arrival) → keep t ≡ true → arrivals_at t (arrivals_inside keep came) ≡ arrivals_at t came
kept_at keep t came h = at-inside t keep came ∙ ap (λ b. cond b (arrivals_at t came) []) h

where_cases : (p : Arrival → Bool) (keep : Stamp → Bool) (t : Stamp) (a : Arrival) (came : List Arrival) → keep t ≡ true
    → recs_where (λ b. p b && same b.at t) (arrivals_inside keep came) ≡ recs_where (λ b. p b && same b.at t) came
    → (x y z : Bool) → keep a.at ≡ x → p a ≡ y → same a.at t ≡ z
    → recs_where (λ b. p b && same b.at t) (cond x (a ∷ arrivals_inside keep came) (arrivals_inside keep came))
    ≡ cond (y && z) (a.rec ∷ recs_where (λ b. p b && same b.at t) came) (recs_where (λ b. p b && same b.at t) came)
where_cases p keep t a came h ih true y z k l m =
    ap (λ b. cond b (a.rec ∷ recs_where (λ b. p b && same b.at t) (arrivals_inside keep came)) (recs_where (λ b. p b && same b.at t) (arrivals_inside keep came)))
    (ap (λ b. b && same a.at t) l ∙ ap (λ b. y && b) m)
    ∙ ap (λ rs. cond (y && z) (a.rec ∷ rs) rs) ih
where_cases p keep t a came h ih false y true k l m =
    let e : false ≡ true = sym k ∙ ap keep (same-is a.at t m) ∙ h in cc
where_cases p keep t a came h ih false true false k l m = ih
where_cases p keep t a came h ih false false false k l m = ih

-- by a test beside the stamp
kept_where : (p : Arrival → Bool) (keep : Stamp → Bool) (t : Stamp) (came : List Arrival) → keep t ≡ true
    → recs_where (λ b. p b && same b.at t) (arrivals_inside keep came) ≡ recs_where (λ b. p b && same b.at t) came
kept_where p keep t [] h = refl
kept_where p keep t (a ∷ came) h = where_cases p keep t a came h (kept_where p keep t came h) (keep a.at) (p a) (same a.at t) refl refl refl

pub deliveries_need_their_time : DeliveriesNeedTheirTime
deliveries_need_their_time (kind.Distinct w) i keep came a h = ap (λ xs. cond (is_among a.rec (recs_of xs)) [] (a.rec ∷ [])) (kept_at keep a.at came h)
deliveries_need_their_time (kind.Join w) i keep came a h = ap (joined_rec a.rec) (kept_where (λ b. not (b.side == a.side)) keep a.at came h)
deliveries_need_their_time kind.Ledger i keep came a h = absurd i
deliveries_need_their_time _ i keep came a h = refl

pub notifications_need_their_time : NotificationsNeedTheirTime
notifications_need_their_time (kind.Sum w) i keep came t h = ap (λ xs. sums_of (distinct_keys (recs_of xs)) (recs_of xs)) (kept_at keep t came h)
notifications_need_their_time kind.Sequence i keep came t h = ap (λ xs. sorted_recs (recs_of xs)) (kept_at keep t came h)
notifications_need_their_time kind.Total i keep came t h = absurd i
notifications_need_their_time _ i keep came t h = refl

arrive_cases : (ins : List ℕ) (v : Event) (vs : List Event) → arrived ins (v ∷ vs) ≡ arrived ins vs → (b : Bool)
    → arrived ins (cond b (v ∷ vs) vs) ≡ arrived ins vs
arrive_cases ins v vs h true = h
arrive_cases ins v vs h false = refl

deliver_cases : (ins : List ℕ) (a : Arrival) (v : Event) (vs : List Event) (came : List Arrival) → arrived ins (v ∷ vs) ≡ a ∷ arrived ins vs
    → arrived ins vs ≡ came → (b : Bool) → arrived ins (cond b (v ∷ vs) vs) ≡ cond b (a ∷ came) came
deliver_cases ins a v vs came h e true = h ∙ ap (λ xs. a ∷ xs) e
deliver_cases ins a v vs came h e false = e

pub events_inside_arrive : EventsInsideArrive
events_inside_arrive ins f [] = refl
events_inside_arrive ins f (Inject s x ∷ vs) =
    arrive_cases ins (Inject s x) (filter (λ v. f (event_stamp v)) vs) refl (f (x ∷ [])) ∙ events_inside_arrive ins f vs
events_inside_arrive ins f (Deliver e m ∷ vs) =
    deliver_cases ins _ (Deliver e m) (filter (λ v. f (event_stamp v)) vs) (arrivals_inside f (arrived ins vs)) refl (events_inside_arrive ins f vs) (f m.at)
events_inside_arrive ins f (Notify p t ∷ vs) =
    arrive_cases ins (Notify p t) (filter (λ v. f (event_stamp v)) vs) refl (f t) ∙ events_inside_arrive ins f vs
