-- Where nothing waits, each checkpoint is asked and a collection is taken, little is left.
use Rattle.std.proofs.Common.{◌≡◌, ◌↔◌, ℕ, ◌<◌, ◌≤◌, Bool, true, false, not, ◌&&◌, ◌==◌, nat_le, nat_lt, cond, List, [], ◌∷◌, ◌++◌, length, map, filter, Option, Some, None, refl, sym, ap, subst, ◌∙◌, inl, inr, ◌⊎◌, arith}
use Rattle.std.specs.List.{AllByRecursion, flat_map}
use Rattle.std.proofs.lemmas.Bool.{cases_Bool, cases_lt, and_parts, and_from, or_cases, or_left, or_right, cond_both, eqb-true, eq-eqb, ltb-true, lt-ltb, leb-true, false_from_ne_true}
use Rattle.std.proofs.lemmas.List.FromFn.{get_or-map-range_with_len, length-map-range_with_len}
use Rattle.std.proofs.lemmas.List.{get_or_past}
use Rattle.fw_lemmas.proofs.Bools.{two_ways}
use Rattle.fw_lemmas.proofs.Each.{each-suffix, each-weaker, each-both, each-map, all-of_each}
use Rattle.fw_lemmas.proofs.Orderings.{equal_from_is_eq}
use Rattle.fw_time.specs.Stamp.{Stamp, leq, in_domain}
use Rattle.fw_time.specs.declared.stamp.Bounds.{Bounds}
use Rattle.fw_frontier.specs.Frontier.{Frontier, IsFrontier, Within, nothing, everything, cover, some_above}
use Rattle.fw_frontier.specs.Front.{Front, inside, frontier_of, is_within, same_front, IsCanonical, IsFrontOf}
use Rattle.fw_frontier.proofs.NamesLaws.{names-same, frontier-closed}
use Rattle.fw_frontier.proofs.SameLaws.{same_front-is, same_front-itself}
use Rattle.fw_flow.specs.declared.choice.Choice.{Choice}
use Rattle.fw_flow.specs.declared.choice.Cut.TheVariants.{Present, At}
use Rattle.fw_flow.specs.declared.event.Event.{Event}
use Rattle.fw_flow.specs.declared.event.Event.TheVariants.{Inject as Injected, Deliver as Delivered, Notify as Notified}
use Rattle.fw_flow.specs.declared.event.Message.{Message}
use Rattle.fw_flow.specs.Kind.{Kind}
use Rattle.fw_flow.specs.declared.kind.Kind.TheVariants.{Input, OutputEpoch, OutputNumber, Select, Concat, Distinct, Join, Sum, Leave, Total, Sequence, Ledger, Regroup}
use Rattle.fw_flow.specs.declared.kind.Policy.{Policy}
use Rattle.fw_flow.specs.declared.kind.Policy.TheVariants as policy
use Rattle.fw_flow.specs.declared.restoring.Restoring.{Restoring}
use Rattle.fw_flow.specs.declared.restoring.Restoring.TheVariants.{Batches, Bound, Anything, Checkpoints, Events}
use Rattle.fw_flow.specs.declared.step.Step.TheVariants.{Collect}
use Rattle.fw_flow.specs.declared.node.Node.{Node}
use Rattle.fw_flow.specs.Dataflow.{System, Dataflow, idle_node, kind_of, policy_of, sender, receiver, in_edges, out_edges, domain_of, domain_of_kind, out_domain_of, out_domain_of_kind, bounds_of, bounds_of_domain, bounds_of_edge, greatest_number, is_of_numbers, is_input_kind, is_output_kind, is_notified_kind, is_sequence_kind, batches_of, node_ids, node_frontier, send_stamp}
use Rattle.fw_flow.specs.Message.{message_cmp, messages_without, messages_less}
use Rattle.fw_flow.proofs.MessageLaws.{message_cmp-same}
use Rattle.std.specs.Ordering.{is_eq}
use Rattle.fw_flow.specs.NodeFunction.{event_node, event_stamp}
use Rattle.fw_flow.specs.Projection.{first_coordinate, all_inside, phi}
use Rattle.fw_flow.specs.Restoring.{restoring, restoring_of_policy, way_of, can_resend}
use Rattle.fw_flow.proofs.OutEdgeLaws.{out_edges-from}
use Rattle.fw_flow.specs.WholeBags.{joint_bag}
use Rattle.fw_flow.specs.WellFormed.{may_keep_nothing, IsPolicyAllowed, IsWellFormedSystem}
use Rattle.fw_model.specs.Choice.{ever, kept, is_counted, until, cut_of, AllLogged, IsRestorable, IsCandidate, IsConsistent, IsCutWithin, IsWatermark}
use Rattle.fw_model.specs.Covers.{covers_in, set_of, stamps_inside, stamps_from, notified_inside, stamp_of_notice, takes_its_cut, takes_its_notices, discarded_at, tallies_in}
use Rattle.fw_model.specs.Denotation.{Family, IsDenotation}
use Rattle.fw_model.specs.History.{sent_messages, delivered_messages, was_delivered_to, was_notified, IsLegal}
use Rattle.fw_model.specs.Machine.{Machine, SerialEvent, Write, Written, checkpoint, logged_event, Stage, in_flight, acknowledged, collected, events, front_of, ack_count_of, no_stamps}
use Rattle.fw_model.specs.Reached.{IsReached}
use Rattle.fw_model.specs.Steps.{Outcome, did, idle, silent, lows, StepsTo, is_in_flight, is_asked_for_checkpoints, is_eager, checkpoint_of, checkpoint_front, checkpoints_of, last_or, newest_checkpoint, front_of_cut, is_given_up, is_serial_given_up, sends_inside, inside_if_some, lies_below, is_forgotten, after_collection, collected_writes}
use Rattle.fw_model.specs.Writes.{takes_checkpoints, is_collected, not_collected, HasOne}
use Rattle.fw_model.specs.LawsOfWrites.{HasEventOf, HasItsEvent, IsLoggedFor}
use Rattle.fw_model.specs.Sending.{SendsByStamp}
use Rattle.fw_model.proofs.FrontierLaws.{psi-frontier}
use Rattle.fw_model.proofs.AskedLaws.{takes-restoring, IsApart, IsAskedWell, IsWriteAskedWell, reached-all}
use Rattle.fw_model.proofs.ChoiceLaws.{by_batches-input}
use Rattle.fw_model.proofs.ChoosingLaws.{kept-is_ever, recovery-has_choice}
use Rattle.fw_model.proofs.DomainLaws.{has_epochs, edge-bounds}
use Rattle.fw_model.proofs.ChainLaws.{last_link}
use Rattle.fw_model.proofs.CollectedLaws.{IsLoggedExact, collected-forgotten, collected-lies, collected-logged, reached-forget}
use Rattle.fw_model.proofs.KeptChainLaws.{kept-are_chain}
use Rattle.fw_model.proofs.NewestLinkLaws.{last-link_kept}
use Rattle.fw_model.proofs.ShallowLaws.{reached-shallow}
use Rattle.fw_model.specs.LawsOfChains.{Link, links_of, IsShallow}
use Rattle.fw_model.proofs.ForgottenLaws.{still-flies}
use Rattle.fw_model.proofs.FrontLaws.{has_front}
use Rattle.fw_model.proofs.LargestLaws.{largest-exists}
use Rattle.fw_model.proofs.LegalLaws.{AreAllInDomain, edge_domains, legal-in_domain, legal_messages-in_domain}
use Rattle.fw_model.proofs.LoggedLaws.{logged-in_order, live-logged}
use Rattle.fw_model.proofs.LowLaws.{input-is, watermark-front}
use Rattle.fw_model.proofs.MeetLaws.{phi-everything}
use Rattle.fw_model.proofs.PhiLaws.{phi-monotone}
use Rattle.fw_model.proofs.SameInsideLaws.{low-offered}
use Rattle.fw_model.proofs.SendingLaws.{phi-by_stamp, psi-by_stamp, send_stamp-in_domain}
use Rattle.fw_model.proofs.StampLaws.{in_line, line-leq}
use Rattle.fw_model.proofs.WellFormedLaws.{senders_well_formed}
use Rattle.fw_model.proofs.WriteLaws.{HoldsOfOne, IsCheckpointAt, IsItsCheckpoint, LogsEvent, NamesEvent, ArePairs, checkpoint-some, logged-some}
use Rattle.fw_rest.specs.Left.{HasNoRegroup, HaveAllAsked, IsLeftOf, IsEveryLeftOf, LeavesNewest, NothingIsLeft}
use Rattle.fw_rest.proofs.LinksLeftLaws.{EndsEvery, ends-of, last-every, none-later, deep-kept, chain-long, AreCheckpoints, count-links}
use Rattle.fw_rest.proofs.StandsLeftLaws.{IsSettledOf, left-acknowledged, left-stands}
use Rattle.fw_rest.specs.LawsOfRest.{RestLeavesNothing}
use Rattle.fw_rest.specs.Rest.{AreAllLive, HasNothingToDo, IsAcknowledged}
use Rattle.fw_rest.specs.StepsToRest.{epochs_of, number_after, stamps_of_kind}
use Rattle.fw_rest.proofs.AckLaws.{output-bounds, rest-acknowledged}
use Rattle.fw_rest.proofs.DueLaws.{output_kinds, reached-legal}
use Rattle.fw_rest.proofs.EagerLaws.{staged-same, eager-newest, reached-more}
use Rattle.fw_rest.proofs.MostEventsLaws.{input-declared}
use Rattle.fw_rest.proofs.EpochLaws.{within-no_numbers, parent-no_numbers, IsBefore, send-first, no_numbers-before, notified-no_numbers, epochs-few, legal-before, messages-before}
use Rattle.fw_rest.proofs.WaitingLaws.{nothing-waits}

-- ---- what comes before a bound

-- the stamps of a domain whose first coordinate is below the bound
abbrev before : Bounds → ℕ → Frontier
before bounds k t = in_domain bounds t && nat_lt (first_coordinate t) k

first-leq : (s t : Stamp) → leq s t ≡ true → first_coordinate s ≤ first_coordinate t
first-leq [] [] k = omega arith
first-leq [] (y ∷ t) k = omega arith
first-leq (x ∷ s) [] k = absurd (cc)
first-leq (x ∷ s) (y ∷ t) k = leb-true x y (and_parts (nat_le x y) (leq s t) k).0

before-from : (b : Bounds) (k : ℕ) (t : Stamp) → in_domain b t ≡ true → first_coordinate t < k → before b k t ≡ true
before-from b k t d l = and_from (in_domain b t) (nat_lt (first_coordinate t) k) d (lt-ltb (first_coordinate t) k l)

before-parts : (b : Bounds) (k : ℕ) (t : Stamp) → before b k t ≡ true → (in_domain b t ≡ true) × (first_coordinate t < k)
before-parts b k t i =
    let a = and_parts (in_domain b t) (nat_lt (first_coordinate t) k) i in
    (a.0, ltb-true (first_coordinate t) k a.1)

before-frontier : (b : Bounds) (k : ℕ) → IsFrontier b (before b k)
before-frontier b k = record {
  inside_domain = λ t i. (before-parts b k t i).0;
  closed = λ s t d l i. let a = before-parts b k t i in let m = first-leq s t l in let n = a.1 in before-from b k s d (omega arith);
}

-- a cover lies within a frontier that has its stamps
cover-within : (b : Bounds) (g : Frontier) → IsFrontier b g → (ss : List Stamp) → AllByRecursion (λ s. g s ≡ true) ss → Within (cover b ss) g
cover-within b g f ss a t i = let d = and_parts (in_domain b t) (some_above ss t) i in under ss a d.1 d.0
  where
    under : (ss : List Stamp) → AllByRecursion (λ s. g s ≡ true) ss → some_above ss t ≡ true → in_domain b t ≡ true → g t ≡ true
    under [] a i d = absurd (cc)
    under (s ∷ ss) a i d = elim (or_cases (leq t s) (some_above ss t) i) [ inl l ↦ f.closed t s d l a.0 | inr k ↦ under ss a.1 k d ]

-- what holds of a message's stamp holds of those of a list of these stamps
stamps-each : (P : Stamp → Type 0) (test : Message → Bool) (ms : List Message) → AllByRecursion (λ (m : Message). P m.at) ms
    → AllByRecursion P (map (λ (m : Message). m.at) (filter test ms))
stamps-each P test [] a = tt
stamps-each P test (m ∷ ms) a =
    let rest = stamps-each P test ms a.1 in
    cond_both (test m) (m ∷ filter test ms) (filter test ms) (λ xs. AllByRecursion P (map (λ (x : Message). x.at) xs)) (λ e. (a.0, rest)) (λ e. rest)

inside-each : (P : Stamp → Type 0) (f : Frontier) (ss : List Stamp) → AllByRecursion P ss → AllByRecursion P (filter f ss)
inside-each P f [] a = tt
inside-each P f (s ∷ ss) a =
    let rest = inside-each P f ss a.1 in
    cond_both (f s) (s ∷ filter f ss) (filter f ss) (AllByRecursion P) (λ e. (a.0, rest)) (λ e. rest)

at-each : (P : Stamp → Type 0) (ms : List Message) → AllByRecursion (λ (m : Message). P m.at) ms → AllByRecursion P (map (λ (m : Message). m.at) ms)
at-each P [] a = tt
at-each P (m ∷ ms) a = (a.0, at-each P ms a.1)

-- ---- ways in which nodes are restored

way-output : (kind : Kind) (p : Policy) → restoring kind p ≡ Bound → is_output_kind kind ≡ true
way-output Input p e = absurd (cc)
way-output OutputEpoch p e = refl
way-output OutputNumber p e = refl
way-output kind policy.None e = absurd (cc)
way-output kind policy.Lazy e = absurd (cc)
way-output kind policy.Logged e = absurd (cc)
way-output kind policy.Eager e = absurd (cc)
way-output kind policy.Full e = absurd (cc)

way-takes : (kind : Kind) (p : Policy) → restoring kind p ≡ Checkpoints → takes_checkpoints p ≡ true
way-takes Input p e = absurd (cc)
way-takes OutputEpoch p e = absurd (cc)
way-takes OutputNumber p e = absurd (cc)
way-takes kind policy.None e = absurd (cc)
way-takes kind policy.Lazy e = refl
way-takes kind policy.Logged e = refl
way-takes kind policy.Eager e = refl
way-takes kind policy.Full e = absurd (cc)

way-logs : (kind : Kind) (p : Policy) → restoring kind p ≡ Events → p ≡ policy.Full
way-logs Input p e = absurd (cc)
way-logs OutputEpoch p e = absurd (cc)
way-logs OutputNumber p e = absurd (cc)
way-logs kind policy.None e = absurd (cc)
way-logs kind policy.Lazy e = absurd (cc)
way-logs kind policy.Logged e = absurd (cc)
way-logs kind policy.Eager e = absurd (cc)
way-logs kind policy.Full e = refl

-- a kind that may keep nothing, is no output and no regroup, sends outside the numbers
out-no_numbers : (flow : Dataflow) (kind : Kind) → ((n : ℕ) → kind ≡ Regroup n → ⊥) → may_keep_nothing kind ≡ true → is_output_kind kind ≡ false
    → is_of_numbers (out_domain_of_kind flow kind) ≡ false
out-no_numbers flow OutputEpoch ungrouped k o = absurd (cc)
out-no_numbers flow OutputNumber ungrouped k o = absurd (cc)
out-no_numbers flow Total ungrouped k o = absurd (cc)
out-no_numbers flow Sequence ungrouped k o = absurd (cc)
out-no_numbers flow Ledger ungrouped k o = absurd (cc)
out-no_numbers flow (Regroup n) ungrouped k o = absurd (ungrouped n refl)
out-no_numbers flow (Select s within) ungrouped k o = within-no_numbers within
out-no_numbers flow (Concat within) ungrouped k o = within-no_numbers within
out-no_numbers flow (Distinct within) ungrouped k o = within-no_numbers within
out-no_numbers flow (Join within) ungrouped k o = within-no_numbers within
out-no_numbers flow (Sum within) ungrouped k o = within-no_numbers within
out-no_numbers flow (Leave l) ungrouped k o = parent-no_numbers flow l
out-no_numbers flow kind ungrouped k o = refl

way-nothing : (kind : Kind) (p : Policy) → IsPolicyAllowed kind p → restoring kind p ≡ Anything → (may_keep_nothing kind ≡ true) × (is_output_kind kind ≡ false)
way-nothing Input p a e = absurd (cc)
way-nothing OutputEpoch p a e = absurd (cc)
way-nothing OutputNumber p a e = absurd (cc)
way-nothing kind policy.None a e = (a, refl)
way-nothing kind policy.Lazy a e = absurd (cc)
way-nothing kind policy.Logged a e = absurd (cc)
way-nothing kind policy.Eager a e = absurd (cc)
way-nothing kind policy.Full a e = absurd (cc)

-- a front is one way's, or each stamp
abbrev cut_front : Restoring → Front → Front
cut_front Batches f = []
cut_front Bound f = f
cut_front Anything f = f
cut_front Checkpoints f = []
cut_front Events f = []

cut-canonical : (b : Bounds) (way : Restoring) (f : Front) → IsCanonical b f → IsCanonical b (cut_front way f)
cut-canonical b Batches f c = tt
cut-canonical b Bound f c = c
cut-canonical b Anything f c = c
cut-canonical b Checkpoints f c = tt
cut-canonical b Events f c = tt

pub every-inside : (b : Bounds) (t : Stamp) → in_domain b t ≡ true → frontier_of b [] t ≡ true
every-inside b t d = and_from (in_domain b t) true d refl

cut-inside : (b : Bounds) (way : Restoring) (f : Front) (t : Stamp) → in_domain b t ≡ true → frontier_of b f t ≡ true → frontier_of b (cut_front way f) t ≡ true
cut-inside b Batches f t d i = every-inside b t d
cut-inside b Bound f t d i = i
cut-inside b Anything f t d i = i
cut-inside b Checkpoints f t d i = every-inside b t d
cut-inside b Events f t d i = every-inside b t d

-- a canonical front that has each stamp inside is the empty one
pub every-front : (b : Bounds) (f : Front) → IsCanonical b f → ((t : Stamp) → in_domain b t ≡ true → frontier_of b f t ≡ true) → f ≡ []
every-front b f c all =
    names-same b f [] (everything b) (record { canonical = c; same = λ t. by (in_domain b t) (inside f t) (λ d. all t d) })
    (record { canonical = tt; same = λ t. with_true (in_domain b t) })
  where
    by : (d i : Bool) → (d ≡ true → (d && i) ≡ true) → (d && i) ≡ d
    by true i k = k refl
    by false i k = refl

    with_true : (d : Bool) → (d && true) ≡ d
    with_true true = refl
    with_true false = refl

no_stamps-some : (flow : Dataflow) (p : ℕ) → no_stamps (bounds_of flow p) ≡ [] → ⊥
unfolding bounds_of
no_stamps-some flow p e = cc

-- ---- the newest checkpoint is one of the writes

counts-ever : (far : Stage) → is_in_flight far ≡ false → is_counted ever far ≡ true
counts-ever in_flight e = absurd (cc)
counts-ever acknowledged e = refl
counts-ever collected e = refl

newest-there : (p : ℕ) (d f : Front) (xs : List Write) → AllByRecursion (λ (x : Write). is_in_flight x.stage ≡ false) xs → newest_checkpoint p d xs ≡ f → (d ≡ f → ⊥)
    → HoldsOfOne (IsItsCheckpoint ever p f) xs
newest-there p d f [] a e n = absurd (n e)
newest-there p d f (x ∷ xs) a e n =
    let rest : (g : Front) → newest_checkpoint p g xs ≡ f → (g ≡ f → ⊥) → HoldsOfOne (IsItsCheckpoint ever p f) xs = λ g i j. newest-there p g f xs a.1 i j in
    elim (cases_Bool (x.node == p)) [
      | inr o ↦ inr (rest d (ap (λ fs. last_or d (fs ++ checkpoints_of p xs)) (sym (ap (λ b. cond b (checkpoint_front x.written) []) o)) ∙ e) n)
      | inl o ↦ by rest (eqb-true x.node p o) x.written refl (ap (λ fs. last_or d (fs ++ checkpoints_of p xs)) (sym (ap (λ b. cond b (checkpoint_front x.written) []) o)) ∙ e)
    ]
  where
    by : ((g : Front) → newest_checkpoint p g xs ≡ f → (g ≡ f → ⊥) → HoldsOfOne (IsItsCheckpoint ever p f) xs) → x.node ≡ p → (w : Written) → x.written ≡ w
        → last_or d (checkpoint_front x.written ++ checkpoints_of p xs) ≡ f → HoldsOfOne (IsItsCheckpoint ever p f) (x ∷ xs)
    by rest here (logged_event s) is e = inr (rest d (ap (λ v. last_or d (checkpoint_front v ++ checkpoints_of p xs)) (sym is) ∙ e) n)
    by rest here (checkpoint g l) is e = elim (cases_Bool (same_front g f)) [
      | inl same ↦
          let its : IsCheckpointAt ever p f x.node (checkpoint g l) x.stage = (here, same_front-is g f same, counts-ever x.stage a.0) in
          inl (subst (λ v. IsCheckpointAt ever p f x.node v x.stage) (sym is) its)
      | inr other ↦ inr (rest g (ap (λ v. last_or d (checkpoint_front v ++ checkpoints_of p xs)) (sym is) ∙ e)
          (λ one. two_ways (same_front g f) (subst (λ z. same_front g z ≡ true) one (same_front-itself g)) other))
    ]

-- ---- one record is left

-- what is written is a checkpoint of node p with each stamp
abbrev IsEveryOf : ℕ → ℕ → Written → Type 0
IsEveryOf p n (checkpoint g l) = (n ≡ p) × (g ≡ [])
IsEveryOf p n (logged_event s) = ⊥

-- what holds each stamp is left
abbrev IsOneOf : ℕ → Write → Type 0
IsOneOf p x = IsCheckpointAt ever p [] x.node x.written x.stage → IsLeftOf p x × IsEveryOf p x.node x.written

every-left : (p : ℕ) (x : Write) → IsEveryLeftOf p x → IsEveryOf p x.node x.written
every-left p x k = subst (IsEveryOf p x.node) (sym k.every) (k.is_left.node, refl)

-- two writes that are apart do not both hold each stamp
every-apart : (p n m : ℕ) (v u : Written) → IsApart n v m u → IsEveryOf p n v → IsEveryOf p m u → ⊥
every-apart p n m (checkpoint f l) (checkpoint g k) a i j = a (i.0 ∙ sym j.0) (i.1 ∙ sym j.1)
every-apart p n m (checkpoint f l) (logged_event s) a i j = j
every-apart p n m (logged_event r) u a i j = i

every-written : (p n : ℕ) (v : Written) → IsEveryOf p n v → (low : List Front) × (v ≡ checkpoint [] low)
every-written p n (checkpoint g l) i = (l, ap (λ f. checkpoint f l) i.1)
every-written p n (logged_event s) i = absurd i

some-every : (p : ℕ) (xs : List Write) → HoldsOfOne (IsItsCheckpoint ever p []) xs → AllByRecursion (IsOneOf p) xs
    → (P : Write → Type 0) → AllByRecursion P xs → (Q : Type 0) → ((x : Write) → P x → IsEveryOf p x.node x.written → Q) → Q
some-every p [] k a P b Q f = absurd k
some-every p (x ∷ xs) (inl k) a P b Q f = f x b.0 (a.0 k).1
some-every p (x ∷ xs) (inr k) a P b Q f = some-every p xs k a.1 P b.1 Q f

one-left : (p : ℕ) (xs : List Write) → ArePairs IsApart xs → HoldsOfOne (IsItsCheckpoint ever p []) xs → AllByRecursion (IsOneOf p) xs
    → HasOne (IsEveryLeftOf p) xs
one-left p [] pairs k a = absurd k
one-left p (x ∷ xs) pairs (inl k) a =
    let s = a.0 k in
    let its = every-written p x.node x.written s.1 in
    record {
      earlier = [];
      one = x;
      later = xs;
      there = refl;
      is_such = record { is_left = s.0; low = its.0; every = its.1 };
      none_earlier = tt;
      none_later = each-weaker (λ (y : Write). IsApart x.node x.written y.node y.written) (λ y. IsEveryLeftOf p y → ⊥) xs
          (λ y apart left. every-apart p x.node y.node x.written y.written apart s.1 (every-left p y left)) pairs.0;
    }
one-left p (x ∷ xs) pairs (inr k) a =
    let rest = one-left p xs pairs.1 k a.1 in
    record {
      earlier = x ∷ rest.earlier;
      one = rest.one;
      later = rest.later;
      there = ap (λ ys. x ∷ ys) rest.there;
      is_such = rest.is_such;
      none_earlier = (
        λ left. some-every p xs k a.1 (λ (y : Write). IsApart x.node x.written y.node y.written) pairs.0 ⊥
            (λ y apart every. every-apart p x.node y.node x.written y.written apart (every-left p x left) every),
        rest.none_earlier,
      );
      none_later = rest.none_later;
    }

input-domain : (flow : Dataflow) (s x : ℕ) → kind_of flow s ≡ Input → x ≤ greatest_number → in_domain (bounds_of flow s) (x ∷ []) ≡ true
unfolding bounds_of
input-domain flow s x k l = ap (λ kind. in_domain (bounds_of_domain flow (domain_of_kind flow kind)) (x ∷ [])) k ∙ line-leq x greatest_number l

full_none : policy.Full ≡ policy.None → ⊥
full_none e = cc

full-declared : (flow : Dataflow) (p : ℕ) → policy_of flow p ≡ policy.Full → p < length flow.nodes
unfolding policy_of
full-declared flow p e = elim (cases_lt p (length flow.nodes)) [
  | inl l ↦ l
  | inr l ↦ absurd (full_none (sym e ∙ ap (λ (n : Node). n.policy) (get_or_past flow.nodes p idle_node l)))
]

outputs-none : (kind : Kind) → is_output_kind kind ≡ true → (asks : Policy) → IsPolicyAllowed kind asks → asks ≡ policy.Full → ⊥
outputs-none OutputEpoch o asks a e = full_none (sym e ∙ a)
outputs-none OutputNumber o asks a e = full_none (sym e ∙ a)
outputs-none kind o asks a e = cc

full-way : (kind : Kind) (asks : Policy) → IsPolicyAllowed kind asks → asks ≡ policy.Full → restoring kind asks ≡ Events
full-way Input asks a e = absurd (full_none (sym e ∙ a))
full-way OutputEpoch asks a e = absurd (full_none (sym e ∙ a))
full-way OutputNumber asks a e = absurd (full_none (sym e ∙ a))
full-way kind asks a e = ap restoring_of_policy e

-- ---- what was sent came

without-each : (P : Message → Type 0) (d : Message) (ms : List Message) → P d → AllByRecursion P (messages_without d ms) → AllByRecursion P ms
without-each P d [] k a = tt
without-each P d (x ∷ ms) k a = elim (cases_Bool (is_eq (message_cmp d x))) [
  | inl e ↦ (subst P (message_cmp-same d x (equal_from_is_eq (message_cmp d x) e)) k, subst (AllByRecursion P) (ap (λ c. cond c ms (x ∷ messages_without d ms)) e) a)
  | inr e ↦
      let both : AllByRecursion P (x ∷ messages_without d ms) = subst (AllByRecursion P) (ap (λ c. cond c ms (x ∷ messages_without d ms)) e) a in
      (both.0, without-each P d ms k both.1)
]

-- where what is left of some messages and what is taken from them has a property, all have
all-came : (P : Message → Type 0) (ms ds : List Message) → messages_less ms ds ≡ [] → AllByRecursion P ds → AllByRecursion P ms
all-came P ms ds e a = back ds a (subst (AllByRecursion P) (sym e) tt)
  where
    back : (ds : List Message) → AllByRecursion P ds → AllByRecursion P (messages_less ms ds) → AllByRecursion P ms
    back [] a k = k
    back (d ∷ ds) a k = back ds a.1 (without-each P d (messages_less ms ds) a.0 k)

number-output : (flow : Dataflow) (kind : Kind) → is_output_kind kind ≡ true → is_of_numbers (domain_of_kind flow kind) ≡ true → kind ≡ OutputNumber
number-output flow OutputEpoch o n = absurd (cc)
number-output flow OutputNumber o n = refl
number-output flow kind o n = absurd (cc)

-- ---- the consistent choice

module _ (sys : System) (family : Family) (w : IsWellFormedSystem sys) (den : IsDenotation sys family) (ungrouped : HasNoRegroup sys.flow) (state : Machine)
    (reached : IsReached sys state) (live : AreAllLive sys state) (quiet : HasNothingToDo sys state) (asked : HaveAllAsked sys state) where
  abbrev flow : Dataflow
  flow = sys.flow

  abbrev h : List Event
  h = events state.history

  abbrev b : ℕ → Bounds
  b p = bounds_of flow p

  abbrev most : ℕ
  most = epochs_of sys.batches

  legal : IsLegal sys h
  legal = reached-legal sys w state reached

  domains : AreAllInDomain flow h
  domains = legal-in_domain sys h w.flow (has_epochs sys w) legal

  epochs : AllByRecursion (IsBefore flow most) h
  epochs = legal-before sys h w.flow (has_epochs sys w) ungrouped legal

  -- each stamp is settled
  all-settled : (p : ℕ) → p < length flow.nodes → (t : Stamp) → in_domain (b p) t ≡ true → node_frontier flow p (front_of state.settled p) t ≡ true
  all-settled = (nothing-waits sys family w den state reached live quiet).settled

  settled-every : (p : ℕ) → p < length flow.nodes → front_of state.settled p ≡ []
  settled-every p l =
      every-front (b p) (front_of state.settled p) ((reached-all sys w reached.0 reached.1 state reached.2).restore.settled p l) (all-settled p l)

  none-flies : AllByRecursion (λ (x : Write). is_in_flight x.stage ≡ false) state.writes
  none-flies = (nothing-waits sys family w den state reached live quiet).writes

  -- the newest checkpoint of a node that takes them holds each stamp
  newest-every : (p : ℕ) → p < length flow.nodes → takes_checkpoints (policy_of flow p) ≡ true → newest_checkpoint p (no_stamps (b p)) state.writes ≡ []
  newest-every p l k = sym (elim (cases_Bool (is_eager (policy_of flow p))) [
    | inl e ↦ eager-newest sys w state reached p e (live p l)
    | inr e ↦
        let old = newest_checkpoint p (no_stamps (b p)) state.writes in
        let now = front_of state.settled p in
        let takes = asked_for (policy_of flow p) k e in
        elim (cases_Bool (same_front now old)) [
          | inl same ↦ same_front-is now old same
          | inr other ↦ absurd (asked p l (record state { writes = state.writes ++ checkpoint_of state p now ∷ [] }) silent
              (takes, live p l, (λ one. two_ways (same_front now old) (subst (λ z. same_front now z ≡ true) one (same_front-itself now)) other), refl, refl))
        ]
  ]) ∙ settled-every p l
    where
      asked_for : (asks : Policy) → takes_checkpoints asks ≡ true → is_eager asks ≡ false → is_asked_for_checkpoints asks ≡ true
      asked_for policy.Lazy i j = refl
      asked_for policy.Logged i j = refl
      asked_for policy.Eager i j = absurd (cc)
      asked_for policy.None i j = absurd (cc)
      asked_for policy.Full i j = absurd (cc)

  -- below which numbers an output of them is restored, and below which epochs each other node that keeps nothing
  abbrev bound : ℕ → ℕ
  bound p = cond (is_of_numbers (domain_of flow p)) (ack_count_of state p) most

  abbrev notice_bound : ℕ → ℕ
  notice_bound p = cond (is_of_numbers (domain_of flow p)) 0 most

  abbrev front : ℕ → ℕ → Front
  front p k = (has_front (b p) (before (b p) k) (before-frontier (b p) k)).0

  names : (p k : ℕ) → IsFrontOf (b p) (front p k) (before (b p) k)
  names p k = (has_front (b p) (before (b p) k) (before-frontier (b p) k)).1

  abbrev cut : ℕ → Front
  cut p = cut_front (way_of flow p) (front p (bound p))

  abbrev chosen : Choice
  chosen = record { cuts = map (λ p. At (cut p)) (node_ids flow); notices = map (λ p. front p (notice_bound p)) (node_ids flow) }

  cut-at : (p : ℕ) → p < length flow.nodes → cut_of chosen p ≡ At (cut p)
  cut-at p l = get_or-map-range_with_len (λ q. At (cut q)) 0 (length flow.nodes) p p Present l (omega arith)

  notice-at : (p : ℕ) → p < length flow.nodes → front_of chosen.notices p ≡ front p (notice_bound p)
  notice-at p l = get_or-map-range_with_len (λ q. front q (notice_bound q)) 0 (length flow.nodes) p p [] l (omega arith)

  -- what a node keeps, and is notified of
  keeps : (p : ℕ) (t : Stamp) → in_domain (b p) t ≡ true → first_coordinate t < bound p → node_frontier flow p (cut p) t ≡ true
  keeps p t d l = cut-inside (b p) (way_of flow p) (front p (bound p)) t d ((names p (bound p)).same t ∙ before-from (b p) (bound p) t d l)

  keeps-epoch : (p : ℕ) → is_of_numbers (domain_of flow p) ≡ false → (t : Stamp) → in_domain (b p) t ≡ true → first_coordinate t < most → node_frontier flow p (cut p) t ≡ true
  keeps-epoch p n t d l = keeps p t d (subst (λ k. first_coordinate t < k) (sym (ap (λ c. cond c (ack_count_of state p) most) n)) l)

  told : (p : ℕ) (t : Stamp) → node_frontier flow p (front p (notice_bound p)) t ≡ true → (in_domain (b p) t ≡ true) × (first_coordinate t < notice_bound p)
  told p t i = before-parts (b p) (notice_bound p) t (sym ((names p (notice_bound p)).same t) ∙ i)

  told-epoch : (p : ℕ) → is_of_numbers (domain_of flow p) ≡ false → (t : Stamp) → in_domain (b p) t ≡ true → first_coordinate t < most
      → node_frontier flow p (front p (notice_bound p)) t ≡ true
  told-epoch p n t d l =
      (names p (notice_bound p)).same t
      ∙ before-from (b p) (notice_bound p) t d (subst (λ k. first_coordinate t < k) (sym (ap (λ c. cond c 0 most) n)) l)

  -- what one is notified of is an epoch outside the numbers
  told-where : (p : ℕ) (t : Stamp) → node_frontier flow p (front p (notice_bound p)) t ≡ true
      → (in_domain (b p) t ≡ true) × (is_of_numbers (domain_of flow p) ≡ false) × (first_coordinate t < most)
  told-where p t i =
      let a = told p t i in
      elim (cases_Bool (is_of_numbers (domain_of flow p))) [
        | inl n ↦ absurd (none (first_coordinate t) (subst (λ k. first_coordinate t < k) (ap (λ c. cond c 0 most) n) a.1))
        | inr n ↦ (a.0, n, subst (λ k. first_coordinate t < k) (ap (λ c. cond c 0 most) n) a.1)
      ]
    where
      none : (n : ℕ) → n < 0 → ⊥
      none n l = omega arith

  -- ---- what was sent is kept

  acked-epochs : (o : ℕ) → o < length flow.nodes → kind_of flow o ≡ OutputEpoch → most ≤ ack_count_of state o
  acked-epochs o l kind =
      let all = rest-acknowledged sys family w den state reached live quiet o l (ap is_output_kind kind) in
      let due = ap (λ k. stamps_of_kind k most (number_after (joint_bag (map family (in_edges flow o))))) kind in
      let count = all.count in
      omega arith

  -- the numbers that were sent to an output of numbers are acknowledged
  acked-numbers : (e : ℕ) → e < length flow.edges → kind_of flow (receiver flow e) ≡ OutputNumber
      → AllByRecursion (λ (m : Message). first_coordinate m.at < ack_count_of state (receiver flow e)) (sent_messages sys h e)
  acked-numbers e l kind =
      let o = receiver flow e in
      let waits = nothing-waits sys family w den state reached live quiet in
      let came = waits.outputs o e (w.flow.receivers_declared e l) (ap is_output_kind kind) refl in
      all-came (λ (m : Message). first_coordinate m.at < ack_count_of state o) (sent_messages sys h e) (delivered_messages h e) (waits.queues e)
      (each-weaker (λ (m : Message). IsAcknowledged (ack_count_of state o) m.at) (λ (m : Message). first_coordinate m.at < ack_count_of state o) (delivered_messages h e)
      (λ m k. subst (λ t. first_coordinate t < ack_count_of state o) (sym k.2) k.1) came)

  sent-kept : (e : ℕ) → e < length flow.edges
      → AllByRecursion (λ (m : Message). node_frontier flow (receiver flow e) (cut (receiver flow e)) m.at ≡ true) (sent_messages sys h e)
  sent-kept e l =
      let r = receiver flow e in
      let there = w.flow.receivers_declared e l in
      let K : Message → Type 0 = λ m. node_frontier flow r (cut r) m.at ≡ true in
      let D : Message → Type 0 = λ m. in_domain (b r) m.at ≡ true in
      let d : AllByRecursion D (sent_messages sys h e) =
      each-weaker (λ (m : Message). in_domain (bounds_of_edge flow e) m.at ≡ true) D (sent_messages sys h e) (λ m i. sym (edge-bounds flow w.flow e m.at) ∙ i)
      (legal_messages-in_domain sys h w.flow (has_epochs sys w) legal e) in
      elim (cases_Bool (is_of_numbers (domain_of flow r))) [
        | inr n ↦
            let E : Message → Type 0 = λ m. first_coordinate m.at < most in
            each-weaker (λ m. D m × E m) K (sent_messages sys h e) (λ m k. keeps-epoch r n m.at k.0 k.1)
            (each-both D E (sent_messages sys h e) d (messages-before sys h w.flow (has_epochs sys w) ungrouped legal e n))
        | inl n ↦ numbers (way_of flow r) refl n d
      ]
    where
      every : (way : Restoring) → way_of flow (receiver flow e) ≡ way → cut_front way (front (receiver flow e) (bound (receiver flow e))) ≡ []
          → AllByRecursion (λ (m : Message). in_domain (b (receiver flow e)) m.at ≡ true) (sent_messages sys h e)
          → AllByRecursion (λ (m : Message). node_frontier flow (receiver flow e) (cut (receiver flow e)) m.at ≡ true) (sent_messages sys h e)
      every way is none d =
          let r = receiver flow e in
          let all : cut r ≡ [] = ap (λ x. cut_front x (front r (bound r))) is ∙ none in
          each-weaker (λ (m : Message). in_domain (b r) m.at ≡ true) (λ (m : Message). node_frontier flow r (cut r) m.at ≡ true) (sent_messages sys h e)
          (λ m i. ap (λ f. frontier_of (b r) f m.at) all ∙ every-inside (b r) m.at i) d

      numbers : (way : Restoring) → way_of flow (receiver flow e) ≡ way → is_of_numbers (domain_of flow (receiver flow e)) ≡ true
          → AllByRecursion (λ (m : Message). in_domain (b (receiver flow e)) m.at ≡ true) (sent_messages sys h e)
          → AllByRecursion (λ (m : Message). node_frontier flow (receiver flow e) (cut (receiver flow e)) m.at ≡ true) (sent_messages sys h e)
      numbers Anything way n d =
          let r = receiver flow e in
          let k = way-nothing (kind_of flow r) (policy_of flow r) (w.flow.policies r (w.flow.receivers_declared e l)) way in
          let out = out-no_numbers flow (kind_of flow r) (ungrouped r) k.0 k.1 in
          let at = (no_numbers-before flow (kind_of flow r) (ungrouped r) out).0 in
          absurd (two_ways _ n at)
      numbers Bound way n d =
          let r = receiver flow e in
          let kind = number-output flow (kind_of flow r) (way-output (kind_of flow r) (policy_of flow r) way) n in
          let D : Message → Type 0 = λ m. in_domain (b r) m.at ≡ true in
          let E : Message → Type 0 = λ m. first_coordinate m.at < ack_count_of state r in
          each-weaker (λ m. D m × E m) (λ (m : Message). node_frontier flow r (cut r) m.at ≡ true) (sent_messages sys h e)
          (λ m k. keeps r m.at k.0 (subst (λ c. first_coordinate m.at < c) (sym (ap (λ c. cond c (ack_count_of state r) most) n)) k.1))
          (each-both D E (sent_messages sys h e) d (acked-numbers e l kind))
      numbers Batches way n d = every Batches way refl d
      numbers Checkpoints way n d = every Checkpoints way refl d
      numbers Events way n d = every Events way refl d

  -- ---- what comes from what is kept

  send-at : (p : ℕ) (t v : Stamp) → in_domain (b p) t ≡ true → send_stamp flow p t ≡ Some v → first_coordinate v ≡ first_coordinate t
  unfolding bounds_of
  send-at p t v i e = send-first flow (kind_of flow p) (ungrouped p) t v i e

  -- a sender outside the numbers that is no regroup: what it sends at epochs comes from epochs
  phi-epochs : (e : ℕ) → e < length flow.edges → is_of_numbers (domain_of flow (receiver flow e)) ≡ false → (f : Frontier) → IsFrontier (b (sender flow e)) f
      → ((t : Stamp) → in_domain (b (sender flow e)) t ≡ true → first_coordinate t < most → f t ≡ true)
      → (u : Stamp) → in_domain (b (receiver flow e)) u ≡ true → first_coordinate u < most → phi sys h e f u ≡ true
  phi-epochs e l n f fr k u d less =
      let s = sender flow e in
      let out : is_of_numbers (out_domain_of flow s) ≡ false = ap is_of_numbers (edge_domains flow w.flow e) ∙ n in
      let plain = no_numbers-before flow (kind_of flow s) (ungrouped s) out in
      elim (senders_well_formed flow w.flow e l) [
        | inl sequence ↦ absurd (two_ways (is_sequence_kind (kind_of flow s)) (ap is_sequence_kind sequence) plain.1)
        | inr by_stamp ↦
            let iff = phi-by_stamp sys h e f by_stamp fr u (edge-bounds flow w.flow e u ∙ d) in
            iff.1 (λ t v i sends below.
            let same = send-at s t v i sends in
            let least = first-leq v u below in
            k t i (omega arith))
      ]

  -- what comes on an edge at a stamp that is an epoch of a batch, unless it is a number, comes from what its sender keeps
  phi-kept : (e : ℕ) → e < length flow.edges → (u : Stamp) → in_domain (b (receiver flow e)) u ≡ true
      → (is_of_numbers (domain_of flow (receiver flow e)) ≡ false → first_coordinate u < most) → phi sys h e (node_frontier flow (sender flow e) (cut (sender flow e))) u ≡ true
  phi-kept e l u d less = by (way_of flow (sender flow e)) refl
    where
      s : ℕ
      s = sender flow e

      all : (way : Restoring) → way_of flow s ≡ way → cut_front way (front s (bound s)) ≡ [] → phi sys h e (node_frontier flow s (cut s)) u ≡ true
      all way is none =
          let every : cut s ≡ [] = ap (λ x. cut_front x (front s (bound s))) is ∙ none in
          phi-monotone sys h e (everything (b s)) (node_frontier flow s (cut s))
          (λ t i. ap (λ f. frontier_of (b s) f t) every ∙ every-inside (b s) t i) u
          (phi-everything sys h e u ∙ edge-bounds flow w.flow e u ∙ d)

      by : (way : Restoring) → way_of flow s ≡ way → phi sys h e (node_frontier flow s (cut s)) u ≡ true
      by Batches is = all Batches is refl
      by Checkpoints is = all Checkpoints is refl
      by Events is = all Events is refl
      by Bound is = absurd (no_sender (kind_of flow s) (way-output (kind_of flow s) (policy_of flow s) is) (senders_well_formed flow w.flow e l))
        where
          no_sender : (kind : Kind) → is_output_kind kind ≡ true → (kind ≡ Sequence) ⊎ SendsByStamp flow kind → ⊥
          no_sender OutputEpoch o (inl i) = cc
          no_sender OutputEpoch o (inr i) = i
          no_sender OutputNumber o (inl i) = cc
          no_sender OutputNumber o (inr i) = i
          no_sender kind o i = cc
      by Anything is =
          let k = way-nothing (kind_of flow s) (policy_of flow s) (w.flow.policies s (w.flow.senders_declared e l)) is in
          let out = out-no_numbers flow (kind_of flow s) (ungrouped s) k.0 k.1 in
          let plain = no_numbers-before flow (kind_of flow s) (ungrouped s) out in
          let n : is_of_numbers (domain_of flow (receiver flow e)) ≡ false = sym (ap is_of_numbers (edge_domains flow w.flow e)) ∙ out in
          phi-epochs e l n (node_frontier flow s (cut s)) (frontier-closed (b s) (cut s)) (λ t i j. keeps-epoch s plain.0 t i j) u d (less n)

  -- ---- the five inclusions

  delivered-epochs : (e : ℕ) → is_of_numbers (domain_of flow (receiver flow e)) ≡ false
      → AllByRecursion (λ (m : Message). first_coordinate m.at < most) (delivered_messages h e)
  delivered-epochs e n = each h epochs
    where
      each : (vs : List Event) → AllByRecursion (IsBefore flow most) vs → AllByRecursion (λ (m : Message). first_coordinate m.at < most) (delivered_messages vs e)
      each [] a = tt
      each (Injected s x ∷ vs) a = each vs a.1
      each (Notified p t ∷ vs) a = each vs a.1
      each (Delivered d m ∷ vs) a =
          let rest = each vs a.1 in
          cond_both (d == e) (m ∷ []) [] (λ ms. AllByRecursion (λ (x : Message). first_coordinate x.at < most) (ms ++ delivered_messages vs e))
          (λ i. (a.0 (ap (λ q. is_of_numbers (domain_of flow (receiver flow q))) (eqb-true d e i) ∙ n), rest)) (λ i. rest)

  includes-delivered : (d : ℕ) → d < length flow.edges
      → Within ((covers_in sys state).delivered d (At (cut (receiver flow d)))) (phi sys h d (node_frontier flow (sender flow d) (cut (sender flow d))))
  includes-delivered d l t i = by (takes_its_cut (way_of flow (receiver flow d))) refl i
    where
      r : ℕ
      r = receiver flow d

      by : (takes : Bool) → takes_its_cut (way_of flow r) ≡ takes → (covers_in sys state).delivered d (At (cut r)) t ≡ true
          → phi sys h d (node_frontier flow (sender flow d) (cut (sender flow d))) t ≡ true
      by true takes i =
          let c : frontier_of (b r) (cut r) t ≡ true = sym (ap (λ x. cond x (node_frontier flow r (cut r)) ((tallies_in sys state).delivered d (At (cut r))) t) takes) ∙ i in
          let is : cut r ≡ front r (bound r) = taken (way_of flow r) (front r (bound r)) takes in
          let a = before-parts (b r) (bound r) t (sym ((names r (bound r)).same t) ∙ sym (ap (λ f. frontier_of (b r) f t) is) ∙ c) in
          phi-kept d l t a.0 (λ n. subst (λ k. first_coordinate t < k) (ap (λ x. cond x (ack_count_of state r) most) n) a.1)
        where
          taken : (way : Restoring) (f : Front) → takes_its_cut way ≡ true → cut_front way f ≡ f
          taken Bound f k = refl
          taken Anything f k = refl
          taken Batches f k = absurd (cc)
          taken Checkpoints f k = absurd (cc)
          taken Events f k = absurd (cc)
      by false takes i =
          let ss = stamps_inside (node_frontier flow r (cut r)) (delivered_messages h d) in
          let c : cover (b r) ss t ≡ true = sym (ap (λ x. cond x (node_frontier flow r (cut r)) ((tallies_in sys state).delivered d (At (cut r))) t) takes) ∙ i in
          let a = and_parts (in_domain (b r) t) (some_above ss t) c in
          phi-kept d l t a.0 (λ n.
          (before-parts (b r) most t
          (cover-within (b r) (before (b r) most) (before-frontier (b r) most) ss
          (inside-each (λ s. before (b r) most s ≡ true) (node_frontier flow r (cut r)) (map (λ (m : Message). m.at) (delivered_messages h d))
          (at-each (λ s. before (b r) most s ≡ true) (delivered_messages h d) (came n))) t c)).1)
        where
          came : is_of_numbers (domain_of flow r) ≡ false → AllByRecursion (λ (m : Message). before (b r) most m.at ≡ true) (delivered_messages h d)
          came n =
              each-weaker (λ (m : Message). (in_domain (b r) m.at ≡ true) × (first_coordinate m.at < most)) (λ (m : Message). before (b r) most m.at ≡ true) (delivered_messages h d)
              (λ m k. before-from (b r) most m.at k.0 k.1)
              (each-both (λ (m : Message). in_domain (b r) m.at ≡ true) (λ (m : Message). first_coordinate m.at < most) (delivered_messages h d)
              (delivered-domain h domains) (delivered-epochs d n))
            where
              delivered-domain : (vs : List Event) → AreAllInDomain flow vs → AllByRecursion (λ (m : Message). in_domain (b r) m.at ≡ true) (delivered_messages vs d)
              delivered-domain [] a = tt
              delivered-domain (Injected s x ∷ vs) a = delivered-domain vs a.1
              delivered-domain (Notified p u ∷ vs) a = delivered-domain vs a.1
              delivered-domain (Delivered e m ∷ vs) a =
                  let rest = delivered-domain vs a.1 in
                  cond_both (e == d) (m ∷ []) [] (λ ms. AllByRecursion (λ (x : Message). in_domain (b r) x.at ≡ true) (ms ++ delivered_messages vs d))
                  (λ k. (sym (ap (λ q. in_domain (bounds_of flow (receiver flow q)) m.at) (eqb-true e d k)) ∙ a.0, rest)) (λ k. rest)

  includes-discarded : (e : ℕ) → e < length flow.edges
      → Within ((covers_in sys state).discarded e (At (cut (sender flow e)))) (node_frontier flow (receiver flow e) (cut (receiver flow e)))
  includes-discarded e l t i = by (can_resend (policy_of flow (sender flow e))) refl i
    where
      s : ℕ
      s = sender flow e

      r : ℕ
      r = receiver flow e

      sent : Frontier
      sent = (tallies_in sys state).sent e (At (cut s))

      -- what was sent lies in what is kept
      sent-inside : sent t ≡ true → node_frontier flow r (cut r) t ≡ true
      sent-inside k =
          cover-within (b r) (node_frontier flow r (cut r)) (frontier-closed (b r) (cut r)) (stamps_from (set_of flow s (At (cut s))) (sent_messages sys h e))
          (stamps-each (λ u. node_frontier flow r (cut r) u ≡ true) (λ (m : Message). all_inside (set_of flow s (At (cut s))) m.causes) (sent_messages sys h e) (sent-kept e l)) t k

      at : (way : Restoring) → way_of flow s ≡ way → discarded_at flow e way sent (cut s) t ≡ true → node_frontier flow r (cut r) t ≡ true
      at Batches is k = sent-inside k
      at Bound is k = sent-inside k
      at Checkpoints is k = sent-inside k
      at Events is k = sent-inside k
      at Anything is k =
          let a = way-nothing (kind_of flow s) (policy_of flow s) (w.flow.policies s (w.flow.senders_declared e l)) is in
          let out = out-no_numbers flow (kind_of flow s) (ungrouped s) a.0 a.1 in
          let plain = no_numbers-before flow (kind_of flow s) (ungrouped s) out in
          let n : is_of_numbers (domain_of flow r) ≡ false = sym (ap is_of_numbers (edge_domains flow w.flow e)) ∙ out in
          let d = (psi-frontier flow e (node_frontier flow s (cut s)) (frontier-closed (b s) (cut s))).inside_domain t k in
          elim (senders_well_formed flow w.flow e l) [
            | inl sequence ↦ absurd (two_ways (is_sequence_kind (kind_of flow s)) (ap is_sequence_kind sequence) plain.1)
            | inr by_stamp ↦
                let above = (psi-by_stamp flow e (node_frontier flow s (cut s)) by_stamp (frontier-closed (b s) (cut s)) t d).0 k in
                let f : frontier_of (b s) (front s (bound s)) above.0 ≡ true = sym (ap (λ x. frontier_of (b s) (cut_front x (front s (bound s))) above.0) is) ∙ above.2 in
                let less = before-parts (b s) (bound s) above.0 (sym ((names s (bound s)).same above.0) ∙ f) in
                let few = subst (λ x. first_coordinate above.0 < x) (ap (λ x. cond x (ack_count_of state s) most) plain.0) less.1 in
                let same = send-at s above.0 above.1 less.0 above.3 in
                let least = first-leq t above.1 above.4 in
                keeps-epoch r n t (sym (edge-bounds flow w.flow e t) ∙ d) (omega arith)
          ]

      by : (again : Bool) → can_resend (policy_of flow s) ≡ again → (covers_in sys state).discarded e (At (cut s)) t ≡ true → node_frontier flow r (cut r) t ≡ true
      by true again i = absurd (two_ways true refl (sym (sym (ap (λ x. cond x nothing (discarded_at flow e (way_of flow s) sent (cut s)) t) again) ∙ i) ∙ refl))
      by false again i = at (way_of flow s) refl (sym (ap (λ x. cond x nothing (discarded_at flow e (way_of flow s) sent (cut s)) t) again) ∙ i)

  -- what a node was notified of is an epoch
  notified-told : (p : ℕ) (f : Frontier) → AllByRecursion (λ t. node_frontier flow p (front p (notice_bound p)) t ≡ true) (notified_inside p f h)
  notified-told p f = inside-each (λ t. node_frontier flow p (front p (notice_bound p)) t ≡ true) f (flat_map (stamp_of_notice p) h) (each h legal epochs domains)
    where
      each : (vs : List Event) → IsLegal sys vs → AllByRecursion (IsBefore flow most) vs → AreAllInDomain flow vs
          → AllByRecursion (λ t. node_frontier flow p (front p (notice_bound p)) t ≡ true) (flat_map (stamp_of_notice p) vs)
      each [] k a d = tt
      each (Injected s x ∷ vs) k a d = each vs k.1 a.1 d.1
      each (Delivered e m ∷ vs) k a d = each vs k.1 a.1 d.1
      each (Notified q t ∷ vs) k a d =
          let rest = each vs k.1 a.1 d.1 in
          let o = and_parts (is_notified_kind (kind_of flow q) && was_delivered_to flow q t vs) (not (was_notified q t vs)) k.0.is_owed in
          let n = notified-no_numbers flow (kind_of flow q) (and_parts (is_notified_kind (kind_of flow q)) (was_delivered_to flow q t vs) o.0).0 in
          cond_both (q == p) (t ∷ []) [] (λ ts. AllByRecursion (λ u. node_frontier flow p (front p (notice_bound p)) u ≡ true) (ts ++ flat_map (stamp_of_notice p) vs))
          (λ i. (subst (λ x. node_frontier flow x (front x (notice_bound x)) t ≡ true) (eqb-true q p i) (told-epoch q n t d.0 (a.0 n)), rest)) (λ i. rest)

  includes-notified : (p : ℕ) → p < length flow.nodes
      → Within ((covers_in sys state).notified p (At (cut p))) (node_frontier flow p (front p (notice_bound p)))
  includes-notified p l t i = by (takes_its_notices (kind_of flow p) (policy_of flow p)) refl i
    where
      taken : (kind : Kind) (asks : Policy) → takes_its_notices kind asks ≡ true → (asks ≡ policy.None) × (is_notified_kind kind ≡ true)
      taken kind policy.None k = (refl, k)
      taken kind policy.Lazy k = absurd (cc)
      taken kind policy.Logged k = absurd (cc)
      taken kind policy.Eager k = absurd (cc)
      taken kind policy.Full k = absurd (cc)

      anything : (kind : Kind) → is_notified_kind kind ≡ true → restoring kind policy.None ≡ Anything
      anything Input k = absurd (cc)
      anything OutputEpoch k = absurd (cc)
      anything OutputNumber k = absurd (cc)
      anything kind k = refl

      by : (takes : Bool) → takes_its_notices (kind_of flow p) (policy_of flow p) ≡ takes → (covers_in sys state).notified p (At (cut p)) t ≡ true
          → node_frontier flow p (front p (notice_bound p)) t ≡ true
      by true takes i =
          let k = taken (kind_of flow p) (policy_of flow p) takes in
          let way : way_of flow p ≡ Anything = ap (restoring (kind_of flow p)) k.0 ∙ anything (kind_of flow p) k.1 in
          let c : frontier_of (b p) (cut p) t ≡ true = sym (ap (λ x. cond x (node_frontier flow p (cut p)) ((tallies_in sys state).notified p (At (cut p))) t) takes) ∙ i in
          let f : frontier_of (b p) (front p (bound p)) t ≡ true = sym (ap (λ x. frontier_of (b p) (cut_front x (front p (bound p))) t) way) ∙ c in
          let n = notified-no_numbers flow (kind_of flow p) k.1 in
          let a = before-parts (b p) (bound p) t (sym ((names p (bound p)).same t) ∙ f) in
          told-epoch p n t a.0 (subst (λ x. first_coordinate t < x) (ap (λ x. cond x (ack_count_of state p) most) n) a.1)
      by false takes i =
          let ss = notified_inside p (node_frontier flow p (cut p)) h in
          let c : cover (b p) ss t ≡ true = sym (ap (λ x. cond x (node_frontier flow p (cut p)) ((tallies_in sys state).notified p (At (cut p))) t) takes) ∙ i in
          cover-within (b p) (node_frontier flow p (front p (notice_bound p))) (frontier-closed (b p) (front p (notice_bound p))) ss
          (notified-told p (node_frontier flow p (cut p))) t c

  -- ---- what is offered

  until-inside : (k x : ℕ) → x < k → inside (until k) (x ∷ []) ≡ true
  until-inside k x l = elim (cases_Bool (nat_le k x)) [
    | inl e ↦ let m = leb-true k x e in absurd (omega arith)
    | inr e ↦ ap (λ c. not (c && true) && true) e
  ]

  offers-cut : (p : ℕ) → p < length flow.nodes → IsCandidate sys state (λ q. true) ever p (At (cut p))
  offers-cut p l = (cut-canonical (b p) (way_of flow p) (front p (bound p)) (names p (bound p)).canonical, by (way_of flow p) refl, tt)
    where
      f : Front
      f = front p (bound p)

      lies : Within (frontier_of (b p) f) (frontier_of (b p) (front_of state.settled p))
      lies t i = all-settled p l t (before-parts (b p) (bound p) t (sym ((names p (bound p)).same t) ∙ i)).0

      every : Within (frontier_of (b p) []) (frontier_of (b p) (front_of state.settled p))
      every t i = all-settled p l t (and_parts (in_domain (b p) t) true i).0

      acked : is_output_kind (kind_of flow p) ≡ true → (t : Stamp) → frontier_of (b p) f t ≡ true → frontier_of (b p) (until (ack_count_of state p)) t ≡ true
      acked o t i =
          let a = before-parts (b p) (bound p) t (sym ((names p (bound p)).same t) ∙ i) in
          let at = in_line t greatest_number (sym (output-bounds flow p o t) ∙ a.0) in
          let less : first_coordinate t < ack_count_of state p = elim (output_kinds (kind_of flow p) o) [
            | inl kind ↦
                let few = acked-epochs p l kind in
                let n : is_of_numbers (domain_of flow p) ≡ false = ap (λ k. is_of_numbers (domain_of_kind flow k)) kind in
                let m = subst (λ k. first_coordinate t < k) (ap (λ c. cond c (ack_count_of state p) most) n) a.1 in
                omega arith
            | inr kind ↦
                let n : is_of_numbers (domain_of flow p) ≡ true = ap (λ k. is_of_numbers (domain_of_kind flow k)) kind in
                subst (λ k. first_coordinate t < k) (ap (λ c. cond c (ack_count_of state p) most) n) a.1
          ] in
          let first = subst (λ s. first_coordinate s < ack_count_of state p) at.1 less in
          and_from (in_domain (b p) t) (inside (until (ack_count_of state p)) t) a.0
          (ap (inside (until (ack_count_of state p))) at.1 ∙ until-inside (ack_count_of state p) at.0 first)

      by : (way : Restoring) → way_of flow p ≡ way → IsRestorable sys state ever p way (cut_front way f)
      by Batches is =
          let input = ap is_input_kind (by_batches-input (kind_of flow p) (policy_of flow p) is) in
          inr ((nothing-waits sys family w den state reached live quiet).inputs p input, refl)
      by Bound is = (lies, acked (way-output (kind_of flow p) (policy_of flow p) is))
      by Anything is = lies
      by Checkpoints is =
          let takes = way-takes (kind_of flow p) (policy_of flow p) is in
          inr (checkpoint-some ever p [] state.writes
          (newest-there p (no_stamps (b p)) [] state.writes none-flies (newest-every p l takes) (no_stamps-some flow p)))
      by Events is = (
        every,
        all-logged (way-logs (kind_of flow p) (policy_of flow p) is) state.history
            (live-logged sys w reached.0 reached.1 state reached.2 p (way-logs (kind_of flow p) (policy_of flow p) is) (live p l)),
      )
        where
          logged-at : (serial : ℕ) (xs : List Write) → AllByRecursion (λ (x : Write). is_in_flight x.stage ≡ false) xs → (ys : List Write) (x : Write) (zs : List Write)
              → xs ≡ ys ++ x ∷ zs → x.written ≡ logged_event serial → HoldsOfOne (LogsEvent serial) xs
          logged-at serial xs a ys x zs e is =
              subst (HoldsOfOne (LogsEvent serial)) (sym e) (some-within ys (subst (AllByRecursion (λ (y : Write). is_in_flight y.stage ≡ false)) e a))
            where
              some-within : (ys : List Write) → AllByRecursion (λ (y : Write). is_in_flight y.stage ≡ false) (ys ++ x ∷ zs) → HoldsOfOne (LogsEvent serial) (ys ++ x ∷ zs)
              some-within [] a = inl (subst (λ v. NamesEvent serial v x.stage) (sym is) (refl, counts-ever x.stage a.0))
              some-within (y ∷ ys) a = inr (some-within ys a.1)

          all-logged : policy_of flow p ≡ policy.Full → (vs : List SerialEvent)
              → AllByRecursion (λ (v : SerialEvent). event_node flow v.event ≡ p → IsLoggedFor p v.serial state.writes) vs
              → AllLogged sys p (node_frontier flow p []) state.writes vs
          all-logged full [] a = tt
          all-logged full (v ∷ vs) a = (
            λ at i. let only = a.0 at in
                logged-some v.serial state.writes (logged-at v.serial state.writes none-flies only.0.earlier only.0.one only.0.later only.0.there only.0.is_such),
            all-logged full vs a.1,
          )

  consistent : IsConsistent sys state (IsCandidate sys state (λ q. true) ever) chosen
  consistent = record {
    one_cut_each = length-map-range_with_len (λ q. At (cut q)) 0 (length flow.nodes);
    one_notice_each = length-map-range_with_len (λ q. front q (notice_bound q)) 0 (length flow.nodes);
    offered = λ p l. subst (IsCandidate sys state (λ q. true) ever p) (sym (cut-at p l)) (offers-cut p l);
    canonical = λ p l. subst (IsCanonical (b p)) (sym (notice-at p l)) (names p (notice_bound p)).canonical;
    delivered = λ d l t i.
        let r = w.flow.receivers_declared d l in
        let s = w.flow.senders_declared d l in
        subst (λ c. phi sys h d (set_of flow (sender flow d) c) t ≡ true) (sym (cut-at (sender flow d) s))
        (includes-delivered d l t (subst (λ c. (covers_in sys state).delivered d c t ≡ true) (cut-at (receiver flow d) r) i));
    discarded = λ e l t i.
        let r = w.flow.receivers_declared e l in
        let s = w.flow.senders_declared e l in
        subst (λ c. set_of flow (receiver flow e) c t ≡ true) (sym (cut-at (receiver flow e) r))
        (includes-discarded e l t (subst (λ c. (covers_in sys state).discarded e c t ≡ true) (cut-at (sender flow e) s) i));
    notified = λ p l t i.
        subst (λ f. node_frontier flow p f t ≡ true) (sym (notice-at p l))
        (includes-notified p l t (subst (λ c. (covers_in sys state).notified p c t ≡ true) (cut-at p l) i));
    own = λ p l t i.
        let a = told-where p t (subst (λ f. node_frontier flow p f t ≡ true) (notice-at p l) i) in
        subst (λ c. set_of flow p c t ≡ true) (sym (cut-at p l)) (keeps-epoch p a.1 t a.0 a.2);
    notices = λ d l t i.
        let r = receiver flow d in
        let s = sender flow d in
        let a = told-where r t (subst (λ f. node_frontier flow r f t ≡ true) (notice-at r (w.flow.receivers_declared d l)) i) in
        let out : is_of_numbers (out_domain_of flow s) ≡ false = ap is_of_numbers (edge_domains flow w.flow d) ∙ a.1 in
        let plain = (no_numbers-before flow (kind_of flow s) (ungrouped s) out).0 in
        subst (λ f. phi sys h d (node_frontier flow s f) t ≡ true) (sym (notice-at s (w.flow.senders_declared d l)))
        (phi-epochs d l a.1 (node_frontier flow s (front s (notice_bound s))) (frontier-closed (b s) (front s (notice_bound s)))
        (λ u j k. told-epoch s plain u j k) t a.0 a.2);
  }

  -- ---- after a collection

  -- whatever a largest choice of all that was acknowledged keeps
  largest-keeps : (low : Choice) → IsWatermark sys state low → (p : ℕ) → p < length flow.nodes
      → Within (node_frontier flow p (cut p)) (node_frontier flow p (front_of (map front_of_cut low.cuts) p))
  largest-keeps low m p l t i =
      let all = ((kept-is_ever sys w reached.0 reached.1 state reached.2 (λ q. true) low).0 m).largest chosen consistent in
      let lies = subst (λ c. IsCutWithin flow p c (cut_of low p)) (cut-at p l) (all.cuts p l) in
      subst (λ c. IsCutWithin flow p (At (cut p)) c) (sym (watermark-front sys state low m.consistent p l)) lies t i

  low-holds : (next : Machine) (outcome : Outcome) → StepsTo sys state Collect next outcome → (p : ℕ) → p < length flow.nodes
      → Within (node_frontier flow p (cut p)) (node_frontier flow p (front_of next.low p))
  low-holds next (did effect) s p l t i =
      subst (λ (m : Machine). node_frontier flow p (front_of m.low p) t ≡ true) (sym s.3) (largest-keeps s.0 s.1 p l t i)
  low-holds next idle s p l t i = subst (λ (m : Machine). node_frontier flow p (front_of m.low p) t ≡ true) (sym s.1)
      (elim (cases_Bool (node_frontier flow p (front_of state.low p) t)) [
        | inl k ↦ k
        | inr k ↦
            let c = recovery-has_choice sys w reached.0 reached.1 state reached.2 (λ q. true) in
            let low = largest-exists sys state (λ q. true) kept c.chains c.choice c.consistent in
            let new = map front_of_cut low.0.cuts in
            absurd (s.0 (record state { low = new; writes = collected_writes sys new state.history state.writes }) (lows low.0) (
              low.0,
              low.1,
              (λ same. two_ways (node_frontier flow p (front_of state.low p) t)
                  (subst (λ fs. node_frontier flow p (front_of fs p) t ≡ true) same (largest-keeps low.0 low.1 p l t i)) k),
              refl,
              refl,
            ))
      ])

  same-history : (next : Machine) (outcome : Outcome) → StepsTo sys state Collect next outcome → next.history ≡ state.history
  same-history next (did effect) s = ap (λ (m : Machine). m.history) s.3
  same-history next idle s = ap (λ (m : Machine). m.history) s.1

  newest-after : (next : Machine) (outcome : Outcome) → StepsTo sys state Collect next outcome → (p : ℕ) → p < length flow.nodes
      → takes_checkpoints (policy_of flow p) ≡ true → newest_checkpoint p (no_stamps (b p)) next.writes ≡ []
  newest-after next (did effect) s p l k =
      ap (λ (m : Machine). newest_checkpoint p (no_stamps (b p)) m.writes) s.3
      ∙ ap (last_or (no_stamps (b p)))
      (staged-same p (λ (x : Write). after_collection (is_forgotten sys (map front_of_cut s.0.cuts) state.history state.writes x) x.stage) state.writes) ∙ newest-every p l k
  newest-after next idle s p l k = ap (λ (m : Machine). newest_checkpoint p (no_stamps (b p)) m.writes) s.1 ∙ newest-every p l k

  none-flies-after : (next : Machine) (outcome : Outcome) → StepsTo sys state Collect next outcome
      → AllByRecursion (λ (x : Write). is_in_flight x.stage ≡ false) next.writes
  none-flies-after next (did effect) s =
      let below : Write → Bool = λ x. is_forgotten sys (map front_of_cut s.0.cuts) state.history state.writes x in
      subst (λ (m : Machine). AllByRecursion (λ (x : Write). is_in_flight x.stage ≡ false) m.writes) (sym s.3)
      (each-map (λ (y : Write). is_in_flight y.stage ≡ false) (λ (x : Write). record x { stage = after_collection (below x) x.stage }) state.writes
      (each-weaker (λ (x : Write). is_in_flight x.stage ≡ false) (λ (x : Write). is_in_flight (after_collection (below x) x.stage) ≡ false) state.writes
      (λ x k. still-flies (below x) x.stage ∙ k) none-flies))
  none-flies-after next idle s = subst (λ (m : Machine). AllByRecursion (λ (x : Write). is_in_flight x.stage ≡ false) m.writes) (sym s.1) none-flies

  module _ (next : Machine) (outcome : Outcome) (taken : StepsTo sys state Collect next outcome) where
    reached-next : IsReached sys next
    reached-next = reached-more sys state Collect outcome next reached taken

    abbrev low : ℕ → Frontier
    low p = node_frontier flow p (front_of next.low p)

    -- of a node that holds all of its stamps the low watermark is each of them
    low-every : (p : ℕ) → p < length flow.nodes → cut_front (way_of flow p) (front p (bound p)) ≡ [] → front_of next.low p ≡ []
    low-every p l e =
        let all = reached-all sys w reached-next.0 reached-next.1 next reached-next.2 in
        every-front (b p) (front_of next.low p) (low-offered sys next all.recover.notices all.recover.watermark p l).0
        (λ t d. low-holds next outcome taken p l t (ap (λ f. frontier_of (b p) f t) e ∙ every-inside (b p) t d))

    low-takes : (p : ℕ) → p < length flow.nodes → takes_checkpoints (policy_of flow p) ≡ true → front_of next.low p ≡ []
    low-takes p l k = low-every p l (ap (λ way. cut_front way (front p (bound p))) (takes-restoring (kind_of flow p) (policy_of flow p) (w.flow.policies p l) k))

    -- ---- batches and logs

    batches-low : (s x : ℕ) → is_input_kind (kind_of flow s) ≡ true → x < length (batches_of sys s) → low s (x ∷ []) ≡ true
    batches-low s x i l =
        let there = input-declared flow s i in
        let few = has_epochs sys w s in
        let d : in_domain (b s) (x ∷ []) ≡ true = input-domain flow s x (input-is (kind_of flow s) i) (omega arith) in
        let e = epochs-few sys s in
        let n : is_of_numbers (domain_of flow s) ≡ false = ap (λ k. is_of_numbers (domain_of_kind flow k)) (input-is (kind_of flow s) i) in
        low-holds next outcome taken s there (x ∷ []) (keeps-epoch s n (x ∷ []) d (omega arith))

    logs-low : (e : ℕ) → e < length flow.edges → AllByRecursion (λ (m : Message). low (receiver flow e) m.at ≡ true) (sent_messages sys (events next.history) e)
    logs-low e l =
        subst (λ vs. AllByRecursion (λ (m : Message). low (receiver flow e) m.at ≡ true) (sent_messages sys (events vs) e)) (sym (same-history next outcome taken))
        (each-weaker (λ (m : Message). node_frontier flow (receiver flow e) (cut (receiver flow e)) m.at ≡ true) (λ (m : Message). low (receiver flow e) m.at ≡ true) (sent_messages sys h e)
        (λ m k. low-holds next outcome taken (receiver flow e) (w.flow.receivers_declared e l) m.at k) (sent-kept e l))

    -- ---- records

    gone-lies : AllByRecursion (λ (x : Write). x.stage ≡ collected → lies_below sys next.low next.history x.node x.written ≡ true) next.writes
    gone-lies = collected-lies sys w reached-next.0 reached-next.1 next reached-next.2

    records-left : (p : ℕ) → p < length flow.nodes → takes_checkpoints (policy_of flow p) ≡ true → LeavesNewest p next.writes
    records-left p l k =
        let all = reached-all sys w reached-next.0 reached-next.1 next reached-next.2 in
        let forget = reached-forget sys w reached-next.0 reached-next.1 next reached-next.2 in
        let e = low-takes p l k in
        let A : Write → Type 0 = IsWriteAskedWell sys next.low next.next next.history in
        let C : Write → Type 0 = λ x. x.stage ≡ collected → lies_below sys next.low next.history x.node x.written ≡ true in
        let F : Write → Type 0 = λ x. is_in_flight x.stage ≡ false in
        let some = newest-there p (no_stamps (b p)) [] next.writes (none-flies-after next outcome taken) (newest-after next outcome taken p l k) (no_stamps-some flow p) in
        let only =
        one-left p next.writes all.restore.apart some
        (each-weaker (λ x. C x × F x) (IsOneOf p) next.writes (λ x both its. stays-left p e x both.0 both.1 its)
        (each-both C F next.writes gone-lies (none-flies-after next outcome taken))) in
        let one = only.one in
        let such = only.is_such in
        let kept = kept-are_chain sys w reached-next.0 reached-next.1 next reached-next.2 p l in
        let deep =
        deep-kept sys next.low next.next next.history p (record { declared = l; canonical = (low-offered sys next all.recover.notices all.recover.watermark p l).0 }) e next.writes
        all.recover.ascend all.restore.apart (ends p l k) all.restore.asked forget.exact in
        let link : Link = record { front = []; base = one.base; depth = one.depth } in
        let long = chain-long (links_of p (filter not_collected next.writes)) link kept deep (last-is p l k only) in
        let settled : AllByRecursion (IsSettledOf sys next.low next.history p next.writes) next.writes =
        each-weaker (λ (x : Write). ((x.stage ≡ collected) ↔ (is_forgotten sys next.low next.history next.writes x ≡ true)) × (F x × A x))
        (IsSettledOf sys next.low next.history p next.writes) next.writes
        (λ x a. record { exact = a.0; landed = a.1.0; asked = is-checkpoint p k x a.1.1 })
        (each-both (λ (x : Write). (x.stage ≡ collected) ↔ (is_forgotten sys next.low next.history next.writes x ≡ true)) (λ x. F x × A x) next.writes
        (collected-forgotten sys w reached-next.0 reached-next.1 next reached-next.2)
        (each-both F A next.writes (none-flies-after next outcome taken) all.restore.asked)) in
        let are : AreCheckpoints p next.writes =
        each-weaker A (λ (x : Write). x.node ≡ p → (f : Front) × ((low : List Front) × (x.written ≡ checkpoint f low))) next.writes (λ x a its. is-checkpoint p k x a its)
        all.restore.asked in
        record {
          newest = only;
          last =
              none-later p next.writes only.earlier one only.later only.there (such.is_left.node, (such.low, such.every)) all.restore.apart (ends p l k) are;
          left = left-stands sys next.low next.history p next.writes e settled only;
          acknowledged = each-weaker (IsSettledOf sys next.low next.history p next.writes) (λ (x : Write). IsLeftOf p x → x.stage ≡ acknowledged) next.writes
              (λ x a is. left-acknowledged sys next.low next.history p next.writes x a is) settled;
          count = count-links p next.writes are ∙ long;
          few = (each-suffix IsShallow only.earlier (one ∷ only.later)
              (subst (AllByRecursion IsShallow) only.there (reached-shallow sys reached-next.0 reached-next.1 next reached-next.2))).0;
        }
      where
        is-checkpoint : (p : ℕ) → takes_checkpoints (policy_of flow p) ≡ true → (x : Write) → IsWriteAskedWell sys next.low next.next next.history x → x.node ≡ p
            → (f : Front) × ((low : List Front) × (x.written ≡ checkpoint f low))
        is-checkpoint p k x a its = by x.written refl
          where
            by : (v : Written) → x.written ≡ v → (f : Front) × ((low : List Front) × (x.written ≡ checkpoint f low))
            by (checkpoint g l) is = (g, (l, is))
            by (logged_event s) is =
                let full = (subst (λ v. IsAskedWell sys next.low next.next next.history x.node v x.stage) is a).3 in
                absurd (not_full (policy_of flow p) k (ap (policy_of flow) (sym its) ∙ full))
              where
                not_full : (asks : Policy) → takes_checkpoints asks ≡ true → asks ≡ policy.Full → ⊥
                not_full policy.Full i j = cc
                not_full policy.None i j = cc
                not_full asks i j = cc

        -- the last of node p's checkpoints holds each stamp
        ends : (p : ℕ) → p < length flow.nodes → takes_checkpoints (policy_of flow p) ≡ true → EndsEvery p next.writes
        ends p l k = ends-of p next.writes (no_stamps (b p)) (no_stamps-some flow p) (newest-after next outcome taken p l k)

        -- and it is that one
        last-is : (p : ℕ) → p < length flow.nodes → takes_checkpoints (policy_of flow p) ≡ true → (only : HasOne (IsEveryLeftOf p) next.writes)
            → last_link None (links_of p (filter not_collected next.writes)) ≡ Some (record { front = []; base = only.one.base; depth = only.one.depth })
        last-is p l k only =
            let all = reached-all sys w reached-next.0 reached-next.1 next reached-next.2 in
            last-link_kept sys w reached-next.0 reached-next.1 next reached-next.2 p l
            ∙ last-every p next.writes only.earlier only.one only.later only.there
            (only.is_such.is_left.node, (only.is_such.low, only.is_such.every)) all.restore.apart (ends p l k)

        stays-left : (p : ℕ) → front_of next.low p ≡ [] → (x : Write) → (x.stage ≡ collected → lies_below sys next.low next.history x.node x.written ≡ true)
            → is_in_flight x.stage ≡ false → IsCheckpointAt ever p [] x.node x.written x.stage → IsLeftOf p x × IsEveryOf p x.node x.written
        stays-left p e x lies flies its = by x.written refl its
          where
            at : (far : Stage) → x.stage ≡ far → lies_below sys next.low next.history x.node x.written ≡ false → x.stage ≡ acknowledged
            at in_flight s n = absurd (two_ways (is_in_flight x.stage) (ap is_in_flight s) flies)
            at acknowledged s n = s
            at collected s n = absurd (two_ways _ (lies s) n)

            by : (v : Written) → x.written ≡ v → IsCheckpointAt ever p [] x.node v x.stage → IsLeftOf p x × IsEveryOf p x.node x.written
            by (logged_event s) is its = absurd its
            by (checkpoint g l) is its =
                let below : lies_below sys next.low next.history x.node x.written ≡ false =
                ap (lies_below sys next.low next.history x.node) is ∙ ap (λ f. is_within f (front_of next.low x.node) && not (is_within (front_of next.low x.node) f)) its.1
                ∙ ap (λ f. is_within [] f && not (is_within f [])) (ap (front_of next.low) its.0 ∙ e) in
                let far = at x.stage refl below in (
                  record { node = its.0; left = ap (λ s. not (is_collected s)) far },
                  subst (IsEveryOf p x.node) (sym is) (its.0, its.1),
                )

    -- ---- logged events

    events-gone : (p : ℕ) → policy_of flow p ≡ policy.Full → may_keep_nothing (kind_of flow p) ≡ true
        → AllByRecursion (λ (x : Write). x.node ≡ p → x.stage ≡ collected) next.writes
    events-gone p full may =
        let all = reached-all sys w reached-next.0 reached-next.1 next reached-next.2 in
        let A : Write → Type 0 = IsWriteAskedWell sys next.low next.next next.history in
        let C : Write → Type 0 = λ x. IsLoggedExact sys next.low next.history x.written x.stage in
        let E : Write → Type 0 = λ x. HasItsEvent flow next.history x.node x.written in
        each-weaker (λ x. A x × (C x × E x)) (λ (x : Write). x.node ≡ p → x.stage ≡ collected) next.writes
        (λ x k at. given x at k.0 k.1.1 k.1.0)
        (each-both A (λ x. C x × E x) next.writes all.restore.asked
        (each-both C E next.writes (collected-logged sys w reached-next.0 reached-next.1 next reached-next.2) (logged-in_order sys w reached-next.0 reached-next.1 next reached-next.2).there))
      where
        there : p < length flow.nodes
        there = full-declared flow p full

        no_output : is_output_kind (kind_of flow p) ≡ false
        no_output = false_from_ne_true (is_output_kind (kind_of flow p)) (λ o. outputs-none (kind_of flow p) o (policy_of flow p) (w.flow.policies p there) full)

        given-up : (t : Stamp) → in_domain (b p) t ≡ true → first_coordinate t < most → is_given_up sys next.low p t ≡ true
        given-up t d l =
            let out = out-no_numbers flow (kind_of flow p) (ungrouped p) may no_output in
            let none : cut p ≡ [] = ap (λ way. cut_front way (front p (bound p))) (full-way (kind_of flow p) (policy_of flow p) (w.flow.policies p there) full) in
            let inside_low = low-holds next outcome taken p there t (ap (λ f. frontier_of (b p) f t) none ∙ every-inside (b p) t d) in
            and_from (may_keep_nothing (kind_of flow p) && low p t) (sends_inside sys next.low p t (out_edges flow p))
            (and_from (may_keep_nothing (kind_of flow p)) (low p t) may inside_low)
            (all-of_each (λ e. inside_if_some (low (receiver flow e)) (send_stamp flow p t)) (out_edges flow p)
            (out_edges-from (λ e. inside_if_some (low (receiver flow e)) (send_stamp flow p t) ≡ true) flow p (λ e k from. sends e k from out (send_stamp flow p t) refl)))
          where
            sends : (e : ℕ) → e < length flow.edges → sender flow e ≡ p → is_of_numbers (out_domain_of flow p) ≡ false → (at : Option Stamp) → send_stamp flow p t ≡ at
                → inside_if_some (low (receiver flow e)) at ≡ true
            sends e k from out None is = refl
            sends e k from out (Some u) is =
                let n : is_of_numbers (domain_of flow (receiver flow e)) ≡ false =
                sym (ap is_of_numbers (edge_domains flow w.flow e)) ∙ ap (λ q. is_of_numbers (out_domain_of flow q)) from ∙ out in
                let du : in_domain (bounds_of_edge flow e) u ≡ true =
                ap (λ q. in_domain (bounds_of_domain flow (out_domain_of flow q)) u) from ∙ send_stamp-in_domain flow p t u d is in
                let same = send-at p t u d is in
                low-holds next outcome taken (receiver flow e) (w.flow.receivers_declared e k) u
                (keeps-epoch (receiver flow e) n u (sym (edge-bounds flow w.flow e u) ∙ du) (omega arith))

        given : (x : Write) → x.node ≡ p → IsWriteAskedWell sys next.low next.next next.history x → HasItsEvent flow next.history x.node x.written
            → IsLoggedExact sys next.low next.history x.written x.stage → x.stage ≡ collected
        given x at a has exact = by x.written refl
          where
            by : (v : Written) → x.written ≡ v → x.stage ≡ collected
            by (checkpoint g l) is =
                let takes = (subst (λ v. IsAskedWell sys next.low next.next next.history x.node v x.stage) is a).0 in
                absurd (two_ways false (sym (ap (λ q. takes_checkpoints (policy_of flow q)) at ∙ ap takes_checkpoints full) ∙ takes) refl)
            by (logged_event serial) is =
                (subst (λ v. IsLoggedExact sys next.low next.history v x.stage) is exact).1
                (found (next.history)
                (subst (λ vs. AllByRecursion (IsBefore flow most) (events vs) × AreAllInDomain flow (events vs)) (sym (same-history next outcome taken)) (epochs, domains))
                (subst (λ v. HasItsEvent flow next.history x.node v) is has))
              where
                found : (vs : List SerialEvent) → AllByRecursion (IsBefore flow most) (events vs) × AreAllInDomain flow (events vs) → HasEventOf flow x.node serial vs
                    → is_serial_given_up sys next.low serial vs ≡ true
                found [] a k = absurd k
                found (v ∷ vs) a (inl k) =
                    let node : event_node flow v.event ≡ p = k.1 ∙ at in
                    let out = out-no_numbers flow (kind_of flow p) (ungrouped p) may no_output in
                    let plain = (no_numbers-before flow (kind_of flow p) (ungrouped p) out).0 in
                    let d : in_domain (b p) (event_stamp v.event) ≡ true = sym (ap (λ q. in_domain (bounds_of flow q) (event_stamp v.event)) node) ∙ a.1.0 in
                    let l = a.0.0 (ap (λ q. is_of_numbers (domain_of flow q)) node ∙ plain) in
                    or_left (v.serial == serial && is_given_up sys next.low (event_node flow v.event) (event_stamp v.event)) (is_serial_given_up sys next.low serial vs)
                    (and_from (v.serial == serial) (is_given_up sys next.low (event_node flow v.event) (event_stamp v.event)) (eq-eqb v.serial serial k.0)
                    (ap (λ q. is_given_up sys next.low q (event_stamp v.event)) node ∙ given-up (event_stamp v.event) d l))
                found (v ∷ vs) a (inr k) =
                    or_right (v.serial == serial && is_given_up sys next.low (event_node flow v.event) (event_stamp v.event)) (is_serial_given_up sys next.low serial vs)
                    (found vs (a.0.1, a.1.1) k)

    nothing-left : NothingIsLeft sys next
    nothing-left = record { batches = batches-low; logs = logs-low; records = records-left; events = events-gone }

-- ---- the law

pub rest-leaves_nothing : RestLeavesNothing
rest-leaves_nothing sys family w den ungrouped state reached live quiet asked next outcome taken =
    nothing-left sys family w den ungrouped state reached live quiet asked next outcome taken
