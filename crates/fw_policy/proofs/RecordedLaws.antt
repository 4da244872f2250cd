-- What counts at a node with checkpoints: the record of a frontier holds what the machine counts there.
use Rattle.std.proofs.Common.{◌≡◌, inl, inr, ℕ, Bool, true, false, cond, ◌&&◌, List, [], ◌∷◌, map, Some, refl, sym, ◌∙◌, ap, subst}
use Rattle.std.specs.Prelude.{filter}
use Rattle.std.specs.List.{AllByRecursion, flat_map}
use Rattle.std.proofs.lemmas.Bool.{cases_Bool}
use Rattle.fw_lemmas.proofs.Bools.{two_ways}
use Rattle.fw_lemmas.proofs.Each.{each-one}
use Rattle.fw_lemmas.proofs.Filters.{filter-none}
use Rattle.fw_time.specs.Stamp.{Stamp, in_domain}
use Rattle.fw_time.specs.declared.stamp.Bounds.{Bounds}
use Rattle.fw_frontier.specs.Frontier.{Frontier, nothing, cover, some_above}
use Rattle.fw_frontier.specs.Front.{Front, frontier_of, same_front}
use Rattle.fw_flow.specs.declared.choice.Recorded.{Recorded}
use Rattle.fw_flow.specs.declared.event.Message.{Message}
use Rattle.fw_flow.specs.Dataflow.{System, kind_of, policy_of, sender, receiver, bounds_of, node_frontier}
use Rattle.fw_flow.specs.NodeFunction.{event_stamp, sent_by}
use Rattle.fw_flow.specs.Projection.{all_inside, events_at}
use Rattle.fw_flow.specs.declared.restoring.Restoring.TheVariants.{Checkpoints}
use Rattle.fw_flow.specs.Restoring.{way_of, can_resend}
use Rattle.fw_model.specs.Covers.{takes_its_cut, takes_its_notices, discarded_at, stamps_from, stamp_of_notice}
use Rattle.fw_model.specs.History.{delivered_messages, sent_messages}
use Rattle.fw_model.specs.Machine.{Machine, events, no_stamps}
use Rattle.fw_model.proofs.CarriedLaws.{carried-each}
use Rattle.fw_model.proofs.CauseLaws.{outside-sent}
use Rattle.fw_model.proofs.LowLaws.{none-within, none-canonical}
use Rattle.fw_model.specs.Offers.{IsListed, record_at}
use Rattle.fw_policy.specs.Entries.{IsRecorded}
use Rattle.fw_policy.specs.View.{}
use Rattle.fw_policy.specs.Offering.{empty_record}
use Rattle.fw_frontier.proofs.SameLaws.{same_front-itself, same_front-is}

-- ---- the record of a frontier

-- the first record of a frontier that is listed, with what holds of all of them
pub record IsFound (P : Recorded → Type 0) (f : Front) (rs : List Recorded) : Type 0 where
  pub found : Recorded
  pub at : record_at f rs ≡ Some found
  pub front : found.front ≡ f
  pub holds : P found

pub found-record : (P : Recorded → Type 0) (f : Front) (rs : List Recorded) → AllByRecursion P rs → IsListed f rs → IsFound P f rs
found-record P f [] a i = absurd i
found-record P f (r ∷ rs) a i = elim (cases_Bool (same_front r.front f)) [
  | inl e ↦ record { found = r; at = ap (λ b. cond b (Some r) (record_at f rs)) e; front = same_front-is r.front f e; holds = a.0 }
  | inr n ↦ elim i [
    | inl e ↦ absurd (two_ways (same_front r.front f) (ap (λ x. same_front r.front x) (sym e) ∙ same_front-itself r.front) n)
    | inr l ↦
        let k = found-record P f rs a.1 l in
        record { found = k.found; at = ap (λ b. cond b (Some r) (record_at f rs)) n ∙ k.at; front = k.front; holds = k.holds }
  ]
]

-- ---- no stamps

pub outside-none : (b : Bounds) (t : Stamp) → frontier_of b (no_stamps b) t ≡ false
outside-none b t = by (frontier_of b (no_stamps b) t) (λ k. none-within b nothing t k)
  where
    by : (c : Bool) → (c ≡ true → false ≡ true) → c ≡ false
    by true n = sym (n refl)
    by false n = refl

covers-none : (b : Bounds) (ss : List Stamp) → ss ≡ [] → nothing ≡ cover b ss
covers-none b ss e = λ i t. at t i
  where
    at : (t : Stamp) → false ≡ (in_domain b t && some_above ss t)
    at t = sym (ap (λ (xs : List Stamp). in_domain b t && some_above xs t) e ∙ last (in_domain b t))
      where
        last : (c : Bool) → (c && false) ≡ false
        last true = refl
        last false = refl

either-nothing : (c : Bool) (g : Frontier) → nothing ≡ g → nothing ≡ cond c nothing g
either-nothing true g e = refl
either-nothing false g e = e

-- a record of no stamps holds what the machine counts of no event
pub empty-recorded : (sys : System) (state : Machine) (p : ℕ) → way_of sys.flow p ≡ Checkpoints → takes_its_notices (kind_of sys.flow p) (policy_of sys.flow p) ≡ false
    → IsRecorded sys state p (no_stamps (bounds_of sys.flow p)) (empty_record (bounds_of sys.flow p))
empty-recorded sys state p way notices =
    let b = bounds_of sys.flow p in
    let f = no_stamps b in
    let none = frontier_of b f in
    let h = events state.history in
    let each : (ss : List Stamp) → AllByRecursion (λ t. none t ≡ false) ss = λ ss. each-one (λ t. none t ≡ false) ss (λ t. outside-none b t) in
    record {
      front = refl;
      of_flow = record { front = none-canonical b; notified = none-canonical b; delivered = tt; discarded = tt };
      delivered = λ d l e.
          let came = map (λ (m : Message). m.at) (delivered_messages h d) in
          let Covers : ℕ → Type 0 = λ q. nothing ≡ cond (takes_its_cut (way_of sys.flow q)) (node_frontier sys.flow q f) (cover (bounds_of sys.flow q) (filter (node_frontier sys.flow q f) came)) in
          subst Covers (sym e) (
          covers-none b (filter none came) (filter-none none came (each came))
          ∙ sym (ap (λ w. cond (takes_its_cut w) none (cover b (filter none came))) way)
          );
      notified =
          let noted = flat_map (stamp_of_notice p) h in
          (λ i t. outside-none b t i)
          ∙ covers-none b (filter none noted) (filter-none none noted (each noted))
          ∙ sym (ap (λ c. cond c none (cover b (filter none noted))) notices);
      discarded = λ e l s.
          let c = bounds_of sys.flow (receiver sys.flow e) in
          let went = sent_messages sys h e in
          let Covers : ℕ → Type 0 = λ q. nothing ≡ cond (can_resend (policy_of sys.flow q)) nothing (discarded_at sys.flow e (way_of sys.flow q) (cover c (stamps_from (node_frontier sys.flow q f) went)) f) in
          subst Covers (sym s) (
          either-nothing (can_resend (policy_of sys.flow p)) (discarded_at sys.flow e (way_of sys.flow p) (cover c (stamps_from none went)) f)
          (covers-none c (stamps_from none went)
          (ap (λ (ms : List Message). map (λ (m : Message). m.at) ms)
          (filter-none (λ (m : Message). all_inside none m.causes) went
          (carried-each sys.flow e (λ (m : Message). all_inside none m.causes ≡ false) (sent_by sys (sender sys.flow e) (events_at sys.flow (sender sys.flow e) h))
          (outside-sent sys (sender sys.flow e) none (events_at sys.flow (sender sys.flow e) h)
          (each-one (λ v. none (event_stamp v) ≡ false) (events_at sys.flow (sender sys.flow e) h) (λ v. outside-none b (event_stamp v)))))))
          ∙ sym (ap (λ w. discarded_at sys.flow e w (cover c (stamps_from none went)) f) way))
          );
    }
