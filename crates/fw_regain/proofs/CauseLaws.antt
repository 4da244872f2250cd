-- Which events sent what, by the stamps at which they sent; and which epochs an input sent.
use Rattle.std.proofs.Common.{◌≡◌, ◌⊎◌, ℕ, ◌+◌, ◌-◌, ◌*◌, ◌/◌, ◌<◌, ◌≤◌, min, Bool, true, false, ◌&&◌, nat_le, List, [], ◌∷◌, ◌++◌, length, map, Some, refl, sym, subst, ap, ◌∙◌, inl, inr, arith, ◌↔◌, cond, ◌==◌, slice_index_or}
use Rattle.std.specs.List.{AllByRecursion, Contains}
use Rattle.std.proofs.Math.Nat.{div-mul-le_self, le-min, min-eq_left, min-le_left, min-le_right}
use Rattle.std.proofs.lemmas.Bool.{and_parts, and_from, leb-true, le-leb, cases_lt, cond_both, eqb-true}
use Rattle.std.proofs.lemmas.Nat.{div-mul-add, mul-le}
use Rattle.std.proofs.lemmas.Grind.{flat_map-append}
use Rattle.fw_lemmas.proofs.Bools.{two_ways}
use Rattle.fw_lemmas.proofs.Each.{each-weaker, each-append, each-map}
use Rattle.fw_time.specs.Stamp.{Stamp, leq, nest, outer, counter, in_domain}
use Rattle.fw_time.specs.Sending.{regrouped_stamp}
use Rattle.fw_time.proofs.StampLaws.{leq-refl, outer-nest, counter-nest}
use Rattle.fw_bag.specs.declared.rec.Rec.{Rec}
use Rattle.fw_frontier.specs.Frontier.{Frontier}
use Rattle.fw_flow.specs.declared.event.Event.{Event}
use Rattle.fw_flow.specs.declared.event.Message.{Message}
use Rattle.fw_flow.specs.Kind.{Kind}
use Rattle.fw_flow.specs.declared.kind.Kind.TheVariants.{OutputEpoch, OutputNumber, Enter, Feedback, Leave, Sequence, Regroup, Input}
use Rattle.fw_flow.specs.Dataflow.{System, Dataflow, kind_of, sender, receiver, max_of, greatest_number, domain_of_kind, bounds_of, bounds_of_domain, send_stamp, send_stamp_of_kind, is_sequence_kind, batches_of, is_input_kind}
use Rattle.fw_flow.specs.NodeFunction.{event_stamp, sends, sent_by, sends_of_kind, messages_at}
use Rattle.fw_flow.specs.Projection.{events_at}
use Rattle.fw_flow.specs.WellFormed.{IsGroupSize}
use Rattle.fw_flow.specs.declared.event.Event.TheVariants.{Inject, Deliver, Notify}
use Rattle.fw_flow.proofs.Chains.{outer_greatest}
use Rattle.fw_model.proofs.KindSorts.{single-no_sequence}
use Rattle.fw_model.specs.Sending.{is_single_kind}
use Rattle.fw_model.specs.EventStamps.{causes_in, causes_of, IsOfCause}
use Rattle.fw_model.specs.History.{sent_messages, IsLegal, injected_count}
use Rattle.fw_model.specs.Thinned.{IsBelowKept, IsThinnedIf}
use Rattle.fw_model.specs.Carried.{carried, carried_recs}
use Rattle.fw_model.specs.Alike.{SendsAsOneIn, SendAlike}
use Rattle.fw_model.proofs.CarriedLaws.{carried-each, carried-append, carried-batch, carried-none}
use Rattle.fw_model.proofs.DomainLaws.{edge-bounds}
use Rattle.fw_model.proofs.FeedbackLaws.{fed_back-some}
use Rattle.fw_model.proofs.SendingLaws.{send_stamp-in_domain}
use Rattle.fw_model.proofs.SendsLaws.{IsAt, sends-each}
use Rattle.fw_model.proofs.SentStandLaws.{IsOne, one-contained, contained-one}
use Rattle.fw_model.proofs.StampLaws.{in_loop, nest-leq, leq-nest, in_line, leq_from, leq_to, some_is}
use Rattle.fw_model.proofs.ThinnedLaws.{each-contained}
use Rattle.fw_model.proofs.LesserLaws.{lesser-in_domain}
use Rattle.fw_regain.specs.Causes.{cause_told, message_of_told, SendStampsTellCauses, GreatestSentStampsStandForSent, InjectedBatchesSend}
use Rattle.fw_regain.proofs.GreatestLaws.{greatest-above, greatest-there, each-from}

-- ---- the least stamp that sends at one

-- it sends at u, and is at most t
abbrev IsLeast : Dataflow → Kind → Stamp → Stamp → Type 0
IsLeast flow kind t u = (send_stamp_of_kind flow kind (cause_told kind u) ≡ Some u) × (leq (cause_told kind u) t ≡ true)

least-itself : (flow : Dataflow) (kind : Kind) (t u : Stamp) → cause_told kind u ≡ t → send_stamp_of_kind flow kind t ≡ Some u → IsLeast flow kind t u
least-itself flow kind t u s e = (ap (send_stamp_of_kind flow kind) s ∙ e, leq_from t (cause_told kind u) t (sym s) (leq-refl t))

entered-least : (t u : Stamp) → Some (nest t 0) ≡ Some u → outer u ≡ t
entered-least t u e = sym (ap outer (some_is (nest t 0) u e)) ∙ outer-nest t 0

fed_back-least : (flow : Dataflow) (l : ℕ) (t u : Stamp) → in_domain (bounds_of_domain flow (domain_of_kind flow (Feedback l))) t ≡ true
    → send_stamp_of_kind flow (Feedback l) t ≡ Some u → nest (outer u) (counter u - 1) ≡ t
fed_back-least flow l t u i e =
    let v = in_loop t (outer_greatest flow l) (max_of flow l) i in
    let a = fed_back-some (max_of flow l) t u e in
    let back : Stamp → Stamp = λ s. nest (outer s) (counter s - 1) in
    let c = counter t + 1 in
    let less : c - 1 ≡ counter t = omega arith in
    sym (ap back a.1)
    ∙ ap (λ s. nest s (counter (nest (outer t) c) - 1)) (outer-nest (outer t) c)
    ∙ ap (λ n. nest (outer t) (n - 1)) (counter-nest (outer t) c)
    ∙ ap (nest (outer t)) less
    ∙ sym v.nested

plus-none : (x : ℕ) → x + 0 ≡ x
plus-none x = omega arith

times-over : (a n : ℕ) → 0 < n → (a * n) / n ≡ a
times-over a n l = sym (ap (λ x. x / n) (plus-none (a * n))) ∙ div-mul-add a n 0 l

le-trans : (a b c : ℕ) → a ≤ b → b ≤ c → a ≤ c
le-trans a b c k l = omega (arith, k, l)

regroup-least : (n k : ℕ) (u : Stamp) → 0 < n → k ≤ greatest_number → Some ((k / n) ∷ []) ≡ Some u
    → (regrouped_stamp n (map (λ x. min (x * n) greatest_number) u) ≡ Some u) × (leq (map (λ x. min (x * n) greatest_number) u) (k ∷ []) ≡ true)
regroup-least n k u l g e =
    let below = div-mul-le_self k n in
    let first : min (k / n * n) greatest_number ≡ k / n * n = min-eq_left (le-trans (k / n * n) k greatest_number below g) in
    subst (λ w. (regrouped_stamp n (map (λ x. min (x * n) greatest_number) w) ≡ Some w) × (leq (map (λ x. min (x * n) greatest_number) w) (k ∷ []) ≡ true)) (some_is ((k / n) ∷ []) u e) (
      ap (λ x. Some ((x / n) ∷ [])) first ∙ ap (λ x. Some (x ∷ [])) (times-over (k / n) n l),
      ap (λ x. nat_le x k && true) first ∙ and_from (nat_le (k / n * n) k) true (le-leb (k / n * n) k below) refl,
    )

least-of_kind : (flow : Dataflow) (kind : Kind) (t u : Stamp) → IsGroupSize kind → is_sequence_kind kind ≡ false
    → in_domain (bounds_of_domain flow (domain_of_kind flow kind)) t ≡ true → send_stamp_of_kind flow kind t ≡ Some u → IsLeast flow kind t u
least-of_kind flow OutputEpoch t u g n i e = absurd (cc)
least-of_kind flow OutputNumber t u g n i e = absurd (cc)
least-of_kind flow (Enter l) t u g n i e = least-itself flow (Enter l) t u (entered-least t u e) e
least-of_kind flow (Feedback l) t u g n i e = least-itself flow (Feedback l) t u (fed_back-least flow l t u i e) e
least-of_kind flow (Leave l) t u g n i e =
    let v = in_loop t (outer_greatest flow l) (max_of flow l) i in
    let o = some_is (outer t) u e in (
      ap (λ s. Some s) (outer-nest u 0),
      leq_to (nest u 0) (nest (outer t) (counter t)) t (sym v.nested)
          (nest-leq u (outer t) 0 (counter t) (leq_from (outer t) u (outer t) o (leq-refl (outer t))) (omega arith)),
    )
least-of_kind flow (Regroup n) t u g k i e =
    let v = in_line t greatest_number i in
    let one = g.0 in
    let told = map (λ x. min (x * n) greatest_number) u in
    let P : Stamp → Type 0 = λ s. regrouped_stamp n s ≡ Some u → (regrouped_stamp n told ≡ Some u) × (leq told s ≡ true) in
    subst P (sym v.1) (regroup-least n v.0 u (omega (arith, one)) v.2) e
least-of_kind flow Sequence t u g n i e = absurd (cc)
least-of_kind flow kind t u g n i e = least-itself flow kind t u (sym (some_is t u e)) e

pub send_stamps-tell : SendStampsTellCauses
unfolding bounds_of
send_stamps-tell flow p t u w l n i e = least-of_kind flow (kind_of flow p) t u (w.limits.groups p l) n i e

min-less : (a b c : ℕ) → a ≤ b → min a c ≤ min b c
min-less a b c l = le-min (le-trans (min a c) a b (min-le_left a c) l) (min-le_right a c)

times-leq : (n : ℕ) (u w : Stamp) → leq u w ≡ true → leq (map (λ x. min (x * n) greatest_number) u) (map (λ x. min (x * n) greatest_number) w) ≡ true
times-leq n [] [] l = refl
times-leq n [] (y ∷ t) l = absurd (cc)
times-leq n (x ∷ s) [] l = absurd (cc)
times-leq n (x ∷ s) (y ∷ t) l =
    let p = and_parts (nat_le x y) (leq s t) l in
    let told : ℕ → ℕ = λ z. min (z * n) greatest_number in
    and_from (nat_le (told x) (told y)) (leq (map told s) (map told t))
    (le-leb (told x) (told y) (min-less (x * n) (y * n) greatest_number (mul-le x n y n (leb-true x y p.0) (omega arith)))) (times-leq n s t p.1)

-- what sends at a lesser stamp has a lesser least one
lesser-of_kind : (flow : Dataflow) (kind : Kind) (s t u w : Stamp) → is_sequence_kind kind ≡ false
    → in_domain (bounds_of_domain flow (domain_of_kind flow kind)) s ≡ true → in_domain (bounds_of_domain flow (domain_of_kind flow kind)) t ≡ true
    → send_stamp_of_kind flow kind s ≡ Some u → send_stamp_of_kind flow kind t ≡ Some w → leq u w ≡ true → leq (cause_told kind u) (cause_told kind w) ≡ true
lesser-of_kind flow OutputEpoch s t u w k i j e d l = absurd (cc)
lesser-of_kind flow OutputNumber s t u w k i j e d l = absurd (cc)
lesser-of_kind flow (Enter r) s t u w k i j e d l =
    let a = entered-least s u e in
    let b = entered-least t w d in
    let m = leq-nest s t 0 0 (leq_from u (nest s 0) (nest t 0) (sym (some_is (nest s 0) u e)) (leq_to u w (nest t 0) (sym (some_is (nest t 0) w d)) l)) in
    leq_from s (outer u) (outer w) (sym a) (leq_to s t (outer w) (sym b) m.0)
lesser-of_kind flow (Feedback r) s t u w k i j e d l =
    let b = outer_greatest flow r in
    let m = max_of flow r in
    let v = in_loop s b m i in
    let x = in_loop t b m j in
    let a = fed_back-some m s u e in
    let c = fed_back-some m t w d in
    let q = leq-nest (outer s) (outer t) (counter s + 1) (counter t + 1) (leq_from u _ _ (sym a.1) (leq_to u w _ (sym c.1) l)) in
    let n = q.1 in
    let st = leq_from _ s t (sym v.nested) (leq_to _ _ t (sym x.nested) (nest-leq (outer s) (outer t) (counter s) (counter t) q.0 (omega arith))) in
    leq_from s (cause_told (Feedback r) u) (cause_told (Feedback r) w) (sym (fed_back-least flow r s u i e))
    (leq_to s t (cause_told (Feedback r) w) (sym (fed_back-least flow r t w j d)) st)
lesser-of_kind flow (Leave r) s t u w k i j e d l = nest-leq u w 0 0 l (omega arith)
lesser-of_kind flow (Regroup n) s t u w k i j e d l = times-leq n u w l
lesser-of_kind flow Sequence s t u w k i j e d l = absurd (cc)
lesser-of_kind flow kind s t u w k i j e d l = l

sends-lesser : (flow : Dataflow) (p : ℕ) (s t u w : Stamp) → is_sequence_kind (kind_of flow p) ≡ false → in_domain (bounds_of flow p) s ≡ true → in_domain (bounds_of flow p) t ≡ true
    → send_stamp flow p s ≡ Some u → send_stamp flow p t ≡ Some w → leq u w ≡ true → leq (cause_told (kind_of flow p) u) (cause_told (kind_of flow p) w) ≡ true
unfolding bounds_of
sends-lesser flow p s t u w k i j e d l = lesser-of_kind flow (kind_of flow p) s t u w k i j e d l

-- ---- what was sent, with its causes

-- a stamp of an event that sends at u
record SendsAt (flow : Dataflow) (p : ℕ) (base : Frontier) (t u : Stamp) : Type 0 where
  inside : base t ≡ true
  of_domain : in_domain (bounds_of flow p) t ≡ true
  sends : send_stamp flow p t ≡ Some u

-- the message has one cause, which sends at its stamp
abbrev IsSentBy : Dataflow → ℕ → Frontier → Message → Type 0
IsSentBy flow p base m = (t : Stamp) × SendsAt flow p base t m.at × (m.causes ≡ t ∷ [])

each-sent : (sys : System) (p : ℕ) (base : Frontier) → is_single_kind (kind_of sys.flow p) ≡ true → (vs : List Event)
    → AllByRecursion (λ v. base (event_stamp v) ≡ true) vs → AllByRecursion (λ v. in_domain (bounds_of sys.flow p) (event_stamp v) ≡ true) vs
    → AllByRecursion (IsSentBy sys.flow p base) (sent_by sys p vs)
each-sent sys p base n [] b d = tt
each-sent sys p base n (v ∷ vs) b d =
    each-append (IsSentBy sys.flow p base) (sends sys p vs v) (sent_by sys p vs)
    (each-weaker (IsAt (send_stamp sys.flow p (event_stamp v)) (event_stamp v)) (IsSentBy sys.flow p base) (sends sys p vs v)
    (λ m a. (event_stamp v, record { inside = b.0; of_domain = d.0; sends = a.0 }, a.1)) (sends-each sys p n vs v))
    (each-sent sys p base n vs b.1 d.1)

one-after : (t : Stamp) (cs ds : List Stamp) → IsOne t ds → IsOne t (cs ++ ds)
one-after t [] ds i = i
one-after t (c ∷ cs) ds i = inr (one-after t cs ds i)

one-mapped : (g : Stamp → Stamp) (t : Stamp) (ss : List Stamp) → IsOne t ss → IsOne (g t) (map g ss)
one-mapped g t [] i = absurd i
one-mapped g t (s ∷ ss) (inl e) = inl (ap g e)
one-mapped g t (s ∷ ss) (inr i) = inr (one-mapped g t ss i)

-- at each stamp where something was sent some cause sends
abbrev HasCause : Dataflow → ℕ → Frontier → List Stamp → Stamp → Type 0
HasCause flow p base causes u = (t : Stamp) × SendsAt flow p base t u × IsOne t causes

stamps-have_causes : (flow : Dataflow) (p : ℕ) (base : Frontier) (ms : List Message) → AllByRecursion (IsSentBy flow p base) ms
    → AllByRecursion (HasCause flow p base (causes_in ms)) (map (λ (m : Message). m.at) ms)
stamps-have_causes flow p base [] a = tt
stamps-have_causes flow p base (m ∷ ms) a =
    let here = a.0 in (
      (here.0, here.1, subst (λ (cs : List Stamp). IsOne here.0 (cs ++ causes_in ms)) (sym here.2) (inl refl)),
      each-weaker (HasCause flow p base (causes_in ms)) (HasCause flow p base (m.causes ++ causes_in ms)) (map (λ (x : Message). x.at) ms)
          (λ u k. (k.0, k.1, one-after k.0 m.causes (causes_in ms) k.2)) (stamps-have_causes flow p base ms a.1),
    )

-- and each cause sends at one of these stamps
abbrev HasStamp : Dataflow → ℕ → Frontier → List Stamp → Stamp → Type 0
HasStamp flow p base ats t = (u : Stamp) × SendsAt flow p base t u × IsOne u ats

causes-have_stamps : (flow : Dataflow) (p : ℕ) (base : Frontier) (ms : List Message) → AllByRecursion (IsSentBy flow p base) ms
    → AllByRecursion (HasStamp flow p base (map (λ (m : Message). m.at) ms)) (causes_in ms)
causes-have_stamps flow p base [] a = tt
causes-have_stamps flow p base (m ∷ ms) a =
    let ats = map (λ (x : Message). x.at) ms in
    let P = HasStamp flow p base (m.at ∷ ats) in
    let here = a.0 in
    each-append P m.causes (causes_in ms)
    (subst (AllByRecursion P) (sym here.2) ((m.at, here.1, inl refl), tt))
    (each-weaker (HasStamp flow p base ats) P (causes_in ms) (λ t k. (k.0, k.1, inr k.2)) (causes-have_stamps flow p base ms a.1))

told-causes : (flow : Dataflow) (e : ℕ) (tops : List Stamp) → causes_of (map (message_of_told flow e) tops) ≡ map (cause_told (kind_of flow (sender flow e))) tops
told-causes flow e [] = refl
told-causes flow e (u ∷ us) = ap (λ rest. cause_told (kind_of flow (sender flow e)) u ∷ rest) (told-causes flow e us)

pub greatest_sent-stand : GreatestSentStampsStandForSent
greatest_sent-stand sys h e base f tops w there n fr d b same g =
    let flow = sys.flow in
    let p = sender flow e in
    let send = send_stamp flow p in
    let bounds = bounds_of flow (receiver flow e) in
    let ms = sent_messages sys h e in
    let causes = causes_in ms in
    let ats = map (λ (m : Message). m.at) ms in
    let least = cause_told (kind_of flow p) in
    let no = single-no_sequence (kind_of flow p) n in
    let down : (s t : Stamp) → leq s t ≡ true → base t ≡ true → base s ≡ true =
    λ s t l i. fr.closed s t (lesser-in_domain flow p s t l (fr.inside_domain t i)) l i in
    let sent = carried-each flow e (IsSentBy flow p base) (sent_by sys p (events_at flow p h)) (each-sent sys p base n (events_at flow p h) b d) in
    let of : AllByRecursion (λ s. in_domain bounds s ≡ true) ats =
    each-map (λ s. in_domain bounds s ≡ true) (λ (m : Message). m.at) ms
    (each-weaker (IsSentBy flow p base) (λ m. in_domain bounds m.at ≡ true) ms
    (λ m s. sym (edge-bounds flow w e m.at) ∙ send_stamp-in_domain flow p s.0 m.at (s.1).of_domain (s.1).sends) sent) in
    let caused = stamps-have_causes flow p base ms sent in
    let stamped = causes-have_stamps flow p base ms sent in
    let cause : (u : Stamp) → Contains tops u → HasCause flow p base causes u =
    λ u c. each-contained (HasCause flow p base causes) u ats (greatest-there bounds f ats tops of same g u c) caused in
    let is : (t u : Stamp) → SendsAt flow p base t u → (send (least u) ≡ Some u) × (leq (least u) t ≡ true) =
    λ t u s. send_stamps-tell flow p t u w (w.senders_declared e there) no s.of_domain s.sends in
    let inside_least : (t u : Stamp) → SendsAt flow p base t u → base (least u) ≡ true = λ t u s. down (least u) t (is t u s).1 s.inside in
    let backed : AllByRecursion (λ t. (base t ≡ true) × SendsAsOneIn send base causes t) (map least ats) =
    each-map (λ t. (base t ≡ true) × SendsAsOneIn send base causes t) least ats
    (each-weaker (HasCause flow p base causes) (λ u. (base (least u) ≡ true) × SendsAsOneIn send base causes (least u)) ats
    (λ u c. (
      inside_least c.0 u c.1,
      record { one = c.0; there = one-contained c.0 causes c.2; inside = (c.1).inside; same = (c.1).sends ∙ sym (is c.0 u c.1).0 },
    )) caused) in
    let has : AllByRecursion (λ t. SendsAsOneIn send base (map least ats) t) causes =
    each-weaker (HasStamp flow p base ats) (λ t. SendsAsOneIn send base (map least ats) t) causes
    (λ t s. record {
      one = least s.0;
      there = one-contained (least s.0) (map least ats) (one-mapped least s.0 ats s.2);
      inside = inside_least t s.0 s.1;
      same = (is t s.0 s.1).0 ∙ sym (s.1).sends;
    }) stamped in
    let alike : SendAlike send base causes (map least ats) =
    record {
      outside = λ t o. (
        λ c. absurd (two_ways (base t) ((each-contained (HasStamp flow p base ats) t causes c stamped).1).inside o),
        λ c. absurd (two_ways (base t) (each-contained (λ s. (base s ≡ true) × SendsAsOneIn send base causes s) t (map least ats) c backed).0 o),
      );
      there = λ t c i. each-contained (λ s. SendsAsOneIn send base (map least ats) s) t causes c has;
      back = λ t c i. (each-contained (λ s. (base s ≡ true) × SendsAsOneIn send base causes s) t (map least ats) c backed).1;
    } in
    let thinned : IsThinnedIf true base (map least ats) (map least tops) =
    record {
      among = each-map (Contains (map least ats)) least tops (each-from (λ u. Contains (map least ats) (least u)) tops
          (λ u c. one-contained (least u) (map least ats) (one-mapped least u ats (contained-one u ats (greatest-there bounds f ats tops of same g u c)))));
      outside = each-weaker (λ t. (base t ≡ true) × SendsAsOneIn send base causes t) (λ t. base t ≡ false → Contains (map least tops) t) (map least ats)
          (λ t s o. absurd (two_ways (base t) s.0 o)) backed;
      inside = λ whole. each-map (λ t. base t ≡ true → IsBelowKept base (map least tops) t) least ats (each-from (λ u. base (least u) ≡ true → IsBelowKept base (map least tops) (least u)) ats
          (λ u c i.
          let a = greatest-above bounds f ats tops of same g u c in
          let mine = each-contained (HasCause flow p base causes) u ats c caused in
          let top = cause a.above a.there in
          record {
            above = least a.above;
            is_kept = one-contained (least a.above) (map least tops) (one-mapped least a.above tops (contained-one a.above tops a.there));
            inside = inside_least top.0 a.above top.1;
            below = sends-lesser flow p mine.0 top.0 u a.above no (mine.1).of_domain (top.1).of_domain (mine.1).sends (top.1).sends a.below;
          }));
    } in
    record {
      of_cause = each-map (IsOfCause flow p) (message_of_told flow e) tops (each-from (λ u. IsOfCause flow p (message_of_told flow e u)) tops
          (λ u c. let t = cause u c in (least u, (is t.0 u t.1).0, refl)));
      thinned = record {
        all = map least ats;
        alike = λ k. alike;
        same = λ o. absurd (cc);
        of_domain = λ o. each-weaker (λ t. (base t ≡ true) × SendsAsOneIn send base causes t) (λ t. in_domain (bounds_of flow p) t ≡ true) (map least ats)
            (λ t s. fr.inside_domain t s.0) backed;
        thinned = subst (IsThinnedIf true base (map least ats)) (sym (told-causes flow e tops)) thinned;
      };
    }

-- ---- inputs

one-either : (t : Stamp) (ss ts : List Stamp) → IsOne t (ss ++ ts) → IsOne t ss ⊎ IsOne t ts
one-either t [] ts i = inr i
one-either t (s ∷ ss) ts (inl e) = inl (inl e)
one-either t (s ∷ ss) ts (inr i) = elim (one-either t ss ts i) [ inl k ↦ inl (inr k) | inr k ↦ inr k ]

one-before : (t : Stamp) (ss ts : List Stamp) → IsOne t ss → IsOne t (ss ++ ts)
one-before t [] ts i = absurd i
one-before t (s ∷ ss) ts (inl e) = inl e
one-before t (s ∷ ss) ts (inr i) = inr (one-before t ss ts i)

-- all causes of a batch are its epoch
batch-one : (at cause t : Stamp) (rs : List Rec) → IsOne t (causes_in (messages_at at cause rs)) → (t ≡ cause) × (0 < length rs)
batch-one at cause t [] i = absurd i
batch-one at cause t (r ∷ rs) (inl e) = (sym e, omega arith)
batch-one at cause t (r ∷ rs) (inr i) = ((batch-one at cause t rs i).0, omega arith)

batch-some : (at cause : Stamp) (rs : List Rec) → 0 < length rs → IsOne cause (causes_in (messages_at at cause rs))
batch-some at cause [] l = absurd (omega (arith, l))
batch-some at cause (r ∷ rs) l = inl refl

-- the causes of what these events of an input sent on an edge are the epochs below a number that have a rec which this carries
abbrev AreCauses : System → ℕ → ℕ → List Event → ℕ → Type 0
AreCauses sys s e vs n = (t : Stamp) → IsOne t (causes_in (carried sys.flow e (sent_by sys s vs)))
    ↔ ((x : ℕ) × (t ≡ x ∷ []) × (x < n) × (0 < length (carried_recs sys.flow e (slice_index_or (batches_of sys s) x []))))

input-sends : (sys : System) (kind : Kind) (before : List Event) (q x : ℕ) → is_input_kind kind ≡ true
    → sends_of_kind sys kind before (Inject q x) ≡ messages_at (x ∷ []) (x ∷ []) (slice_index_or (batches_of sys q) x [])
input-sends sys Input before q x i = refl
input-sends sys kind before q x i = absurd (cc)

input-delivered : (sys : System) (kind : Kind) (before : List Event) (d : ℕ) (m : Message) → is_input_kind kind ≡ true → sends_of_kind sys kind before (Deliver d m) ≡ []
input-delivered sys Input before d m i = refl
input-delivered sys kind before d m i = absurd (cc)

input-notified : (sys : System) (kind : Kind) (before : List Event) (p : ℕ) (t : Stamp) → is_input_kind kind ≡ true → sends_of_kind sys kind before (Notify p t) ≡ []
input-notified sys Input before p t i = refl
input-notified sys kind before p t i = absurd (cc)

-- with one event more
causes-more : (sys : System) (s e : ℕ) (v : Event) (vs : List Event)
    → causes_in (carried sys.flow e (sends sys s vs v ++ sent_by sys s vs)) ≡ causes_in (carried sys.flow e (sends sys s vs v)) ++ causes_in (carried sys.flow e (sent_by sys s vs))
causes-more sys s e v vs =
    ap causes_in (carried-append sys.flow e (sends sys s vs v) (sent_by sys s vs))
    ∙ flat_map-append (λ (m : Message). m.causes) (carried sys.flow e (sends sys s vs v)) (carried sys.flow e (sent_by sys s vs))

-- one batch more
more-causes : (sys : System) (s e : ℕ) (vs : List Event) (n : ℕ) → is_input_kind (kind_of sys.flow s) ≡ true → AreCauses sys s e vs n → AreCauses sys s e (Inject s n ∷ vs) (n + 1)
unfolding sends
more-causes sys s e vs n i a t =
    let at : Stamp = n ∷ [] in
    let recs = slice_index_or (batches_of sys s) n [] in
    let mine = carried_recs sys.flow e recs in
    let batch = causes_in (messages_at at at mine) in
    let old = causes_in (carried sys.flow e (sent_by sys s vs)) in
    let all : causes_in (carried sys.flow e (sends sys s vs (Inject s n) ++ sent_by sys s vs)) ≡ batch ++ old =
    causes-more sys s e (Inject s n) vs
    ∙ ap (λ ms. causes_in ms ++ old) (ap (carried sys.flow e) (input-sends sys (kind_of sys.flow s) vs s n i) ∙ carried-batch sys.flow e at at recs) in (
      λ k. elim (one-either t batch old (subst (IsOne t) all k)) [
        | inl b ↦ let o = batch-one at at t mine b in (n, o.0, omega arith, o.1)
        | inr b ↦ let o = (a t).0 b in let l = o.2 in (o.0, o.1, omega (arith, l), o.3)
      ],
      λ k. subst (IsOne t) (sym all) (elim (cases_lt k.0 n) [
        | inl l ↦ one-after t batch old ((a t).1 (k.0, k.1, l, k.3))
        | inr l ↦
            let less = k.2 in
            let last : k.0 ≡ n = omega (arith, l, less) in
            let here : at ≡ t = sym (k.1 ∙ ap (λ x. x ∷ []) last) in
            one-before t batch old (subst (λ u. IsOne u batch) here
            (batch-some at at mine (subst (λ x. 0 < length (carried_recs sys.flow e (slice_index_or (batches_of sys s) x []))) last k.3)))
      ]),
    )

-- an event that sends nothing
same-causes : (sys : System) (s e : ℕ) (v : Event) (vs : List Event) (n : ℕ) → sends sys s vs v ≡ [] → AreCauses sys s e vs n → AreCauses sys s e (v ∷ vs) n
same-causes sys s e v vs n none a t =
    let old = causes_in (carried sys.flow e (sent_by sys s vs)) in
    let all : causes_in (carried sys.flow e (sends sys s vs v ++ sent_by sys s vs)) ≡ old =
    causes-more sys s e v vs ∙ ap (λ ms. causes_in ms ++ old) (ap (carried sys.flow e) none ∙ carried-none sys.flow e) in
    (λ k. (a t).0 (subst (IsOne t) all k), λ k. subst (IsOne t) (sym all) ((a t).1 k))

injected-causes : (sys : System) (s e : ℕ) → is_input_kind (kind_of sys.flow s) ≡ true → (h : List Event) → IsLegal sys h
    → AreCauses sys s e (events_at sys.flow s h) (injected_count s h)
unfolding sends
injected-causes sys s e i [] l = λ t. (λ k. absurd (subst (IsOne t) (ap causes_in (carried-none sys.flow e)) k), λ k. let none = k.2 in absurd (omega (arith, none)))
injected-causes sys s e i (Inject q x ∷ h) l =
    let rest = injected-causes sys s e i h l.1 in
    by (q == s) refl rest l.0.next
  where
    by : (b : Bool) → (q == s) ≡ b → AreCauses sys s e (events_at sys.flow s h) (injected_count s h) → x ≡ injected_count q h
        → AreCauses sys s e (cond b (Inject q x ∷ events_at sys.flow s h) (events_at sys.flow s h)) (cond b (injected_count s h + 1) (injected_count s h))
    by true k rest next =
        let is = eqb-true q s k in
        let mine : x ≡ injected_count s h = next ∙ ap (λ p. injected_count p h) is in
        subst (λ p. AreCauses sys s e (Inject p x ∷ events_at sys.flow s h) (injected_count s h + 1)) (sym is)
        (subst (λ y. AreCauses sys s e (Inject s y ∷ events_at sys.flow s h) (injected_count s h + 1)) (sym mine)
        (more-causes sys s e (events_at sys.flow s h) (injected_count s h) i rest))
    by false k rest next = rest
injected-causes sys s e i (Deliver d m ∷ h) l =
    let rest = injected-causes sys s e i h l.1 in
    let old = events_at sys.flow s h in
    cond_both (receiver sys.flow d == s) (Deliver d m ∷ old) old (λ vs. AreCauses sys s e vs (injected_count s h))
    (λ k. same-causes sys s e (Deliver d m) old (injected_count s h) (input-delivered sys (kind_of sys.flow s) old d m i) rest) (λ k. rest)
injected-causes sys s e i (Notify p t ∷ h) l =
    let rest = injected-causes sys s e i h l.1 in
    let old = events_at sys.flow s h in
    cond_both (p == s) (Notify p t ∷ old) old (λ vs. AreCauses sys s e vs (injected_count s h))
    (λ k. same-causes sys s e (Notify p t) old (injected_count s h) (input-notified sys (kind_of sys.flow s) old p t i) rest) (λ k. rest)

pub injected-send : InjectedBatchesSend
injected-send sys h e l i t =
    let causes = causes_in (sent_messages sys h e) in
    let k = injected-causes sys (sender sys.flow e) e i h l t in
    (λ c. k.0 (contained-one t causes c), λ c. one-contained t causes (k.1 c))
