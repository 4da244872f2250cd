-- A root that tells what an engine keeps is one of the state for which the engine stands.
use Rattle.std.proofs.Common.{◌≡◌, ◌↔◌, ℕ, zero, suc, ◌+◌, ◌<◌, ◌≤◌, Bool, true, false, not, ◌&&◌, ◌==◌, nat_lt, cond, List, [], ◌∷◌, ◌++◌, length, map, filter, get_or, Option, Some, None, refl, sym, ap, subst, ◌∙◌, inl, inr, arith}
use Rattle.std.specs.List.{AllByRecursion, AllZip, Contains}
use Rattle.std.proofs.lemmas.Bool.{and_parts, cases_lt, cond_both, eqb-true, eq-eqb, ltb-true}
use Rattle.std.proofs.lemmas.List.{get_or_past}
use Rattle.fw_lemmas.proofs.Each.{each-append, each-filter, each_of-filter, each-weaker}
use Rattle.std.specs.Ordering.{is_lt}
use Rattle.fw_time.specs.Stamp.{Stamp, in_domain, same, stamp_cmp}
use Rattle.fw_bytes.specs.Sound.{after_last, each_may_follow, may_follow_counts}
use Rattle.fw_frontier.specs.Frontier.{Frontier}
use Rattle.fw_frontier.specs.Front.{Front, IsFrontOf, frontier_of}
use Rattle.fw_frontier.specs.declared.state.SentCount.{SentCount}
use Rattle.fw_flow.specs.Counting.{how_many}
use Rattle.fw_flow.specs.declared.event.Event.{Event as Happened}
use Rattle.fw_flow.specs.declared.event.Message.{Message}
use Rattle.fw_flow.specs.declared.kind.Policy.TheVariants as policy
use Rattle.fw_flow.specs.Dataflow.{Dataflow, System, bounds_of, idle_node, is_notified_kind, kind_of, node_ids, policy_of}
use Rattle.fw_flow.specs.NodeFunction.{event_node, event_stamp}
use Rattle.fw_flow.specs.SentTable.{EpochsAscend}
use Rattle.fw_flow.specs.WellFormed.{IsWellFormedSystem}
use Rattle.fw_flow.specs.Projection.{IsSentTable, first_coordinate, table_count}
use Rattle.fw_model.specs.Choice.{is_counted, kept}
use Rattle.fw_model.specs.History.{injected_count, is_owed_notice, pending_messages, was_delivered_to, was_notified}
use Rattle.fw_model.specs.Machine.{Machine, SerialEvent, ack_count_of, Stage, Write, Written as WrittenBy, acknowledged, checkpoint, collected, events, front_of, in_flight, logged_event}
use Rattle.fw_model.specs.Reached.{IsReached}
use Rattle.fw_model.specs.Writes.{is_collected, not_collected}
use Rattle.fw_model.proofs.AskedLaws.{reached-all}
use Rattle.fw_model.proofs.DomainLaws.{has_epochs}
use Rattle.fw_model.proofs.KindSorts.{is_sequence}
use Rattle.fw_model.proofs.LegalLaws.{legal_events-in_domain}
use Rattle.fw_model.proofs.ThinnedLaws.{each-contained}
use Rattle.fw_keep.specs.declared.entry.Entry.{Entry}
use Rattle.fw_keep.specs.declared.entry.Written.{Written}
use Rattle.fw_keep.specs.declared.entry.Written.TheVariants as written
use Rattle.fw_keep.specs.Entry.{is_in_flight_of}
use Rattle.fw_keep.specs.Stored.{Records}
use Rattle.fw_policy.specs.Offering.{below_all, stamp_of_written, stamps_in_flight, unlogged_by, unlogged_stamps}
use Rattle.fw_policy.specs.Shaped.{IsWrittenOf}
use Rattle.fw_policy.specs.View.{IsLostAt}
use Rattle.fw_progress.specs.Counts.{sent_of}
use Rattle.fw_record.specs.OfNode.{AreOfDomain}
use Rattle.fw_regain.specs.Third.{third_of}
use Rattle.fw_regain.specs.RootOf.{IsRootOf, IsWriteNamed, is_said_owed, pending_said, table_said, tag_written, third_said}
use Rattle.fw_regain.proofs.FlightLaws.{range-each}
use Rattle.fw_root.specs.OfFlow.{nodes_as, plays}
use Rattle.fw_root.specs.declared.of_flow.Role.{Role}
use Rattle.fw_root.specs.declared.of_flow.Role.TheVariants as role
use Rattle.fw_root.specs.declared.root.NodeFronts.{NodeFronts}
use Rattle.fw_root.specs.declared.root.Root.{Root}
use Rattle.fw_stands.specs.Written.{HasBaseOf, HoldsWhatIsWritten, IsEntryOf, told_inside, uncollected}
use Rattle.fw_running.specs.declared.running.Running.{Running}
use Rattle.fw_running.specs.Kept.{lost_at, output_of, source_of}
use Rattle.fw_running.specs.Shaped.{IsShaped}
use Rattle.fw_running.specs.Stands.{Stands}
use Rattle.fw_settle.specs.Checkpoints.{AreSendsOf}
use Rattle.fw_model.proofs.DependenceLaws.{map-agree}
use Rattle.fw_stands.proofs.EventQueueLaws.{none-pending_past}
use Rattle.fw_regain.proofs.GreatestLaws.{each-from}
use Rattle.fw_resume.proofs.StartLaws.{length-map'}
use Rattle.fw_resume.specs.Fronts.{IsThirdBy, no_fronts}
use Rattle.fw_resume.specs.Names.{name_of, tag_of_written}
use Rattle.fw_resume.specs.RootTold.{IsToldBy}
use Rattle.fw_resume.specs.Sends.{AreSendsTold}
use Rattle.fw_resume.proofs.CountedLaws.{count-flip, owed_beyond, owed_told, pending_beyond, pending_told}
use Rattle.fw_resume.proofs.ThirdLaws.{losses_known, third_told}

-- ---- lists

pub at-map : {A B : Type 0} (g : A → B) (xs : List A) (p : ℕ) (d : A) → get_or (map g xs) p (g d) ≡ g (get_or xs p d)
at-map g [] p d = refl
at-map g (x ∷ xs) zero d = refl
at-map g (x ∷ xs) (suc p) d = at-map g xs p d

same-at : {A : Type 0} (xs ys : List A) (d : A) → length xs ≡ length ys → ((p : ℕ) → p < length xs → get_or xs p d ≡ get_or ys p d) → xs ≡ ys
same-at [] [] d l h = refl
same-at [] (y ∷ ys) d l h = absurd (omega (arith, l))
same-at (x ∷ xs) [] d l h = absurd (omega (arith, l))
same-at (x ∷ xs) (y ∷ ys) d l h = ap (λ z. z ∷ xs) (h 0 (omega arith)) ∙ ap (λ zs. y ∷ zs) (same-at xs ys d (omega (arith, l)) (λ p k. h (suc p) (omega (arith, k))))

pub each-as : (flow : Dataflow) (part : Role) → AllByRecursion (λ p. (p < length flow.nodes) × (plays part (kind_of flow p) ≡ true)) (nodes_as flow part)
unfolding nodes_as
each-as flow part =
    each-filter (λ p. (p < length flow.nodes) × (plays part (kind_of flow p) ≡ true)) (λ p. plays part (kind_of flow p)) (node_ids flow)
    (range-each (λ p. plays part (kind_of flow p) ≡ true → (p < length flow.nodes) × (plays part (kind_of flow p) ≡ true)) 0 (length flow.nodes) (λ p a l k. (omega (arith, l), k)))

-- ---- past the last edge and node

none-owed : (sys : System) (h : List Happened) (p : ℕ) (t : Stamp) → length sys.flow.nodes ≤ p → is_owed_notice sys h p t ≡ false
unfolding kind_of
none-owed sys h p t l = ap (λ x. (is_notified_kind x.kind && was_delivered_to sys.flow p t h) && not (was_notified p t h)) (get_or_past sys.flow.nodes p idle_node l)

-- ---- writes

tag-same : (sys : System) (state : Machine) (p : ℕ) (what : Written) (base : Option ℕ) (of : WrittenBy) (on : Option Front) → HoldsWhatIsWritten sys state p what of → HasBaseOf base on
    → tag_of_written what base ≡ tag_written of on
tag-same sys state p (written.Checkpoint recorded stamps sent) None (checkpoint f low) None h b = refl
tag-same sys state p (written.Checkpoint recorded stamps sent) None (checkpoint f low) (Some g) h b = absurd b
tag-same sys state p (written.Checkpoint recorded stamps sent) (Some id) (checkpoint f low) None h b = absurd b
tag-same sys state p (written.Checkpoint recorded stamps sent) (Some id) (checkpoint f low) (Some g) h b = refl
tag-same sys state p (written.Checkpoint recorded stamps sent) base (logged_event serial) on h b = absurd h
tag-same sys state p (written.Event event) base (checkpoint f low) on h b = absurd h
tag-same sys state p (written.Event event) base (logged_event serial) on h b = refl

entry-named : (sys : System) (state : Machine) (e : Entry) (w : Write) → IsEntryOf sys state e w → IsWriteNamed (name_of e) w
entry-named sys state e w i = record { node = i.node; tag = tag-same sys state w.node e.written e.base w.written w.base i.holds i.base }

named-kept : (sys : System) (state : Machine) (es : List Entry) (ws : List Write) → AllZip (IsEntryOf sys state) es ws
    → AllZip IsWriteNamed (map name_of (filter (λ (e : Entry). e.acknowledged) es)) (filter (λ (w : Write). is_counted kept w.stage) ws)
named-kept sys state [] [] a = tt
named-kept sys state [] (w ∷ ws) a = absurd a
named-kept sys state (e ∷ es) [] a = absurd a
named-kept sys state (e ∷ es) (w ∷ ws) a =
    let rest = named-kept sys state es ws a.1 in
    let R : List Entry → List Write → Type 0 = λ xs ys. AllZip IsWriteNamed (map name_of xs) ys in
    let these = filter (λ (x : Entry). x.acknowledged) es in
    let those = filter (λ (x : Write). is_counted kept x.stage) ws in
    subst (λ b. R (cond b (e ∷ these) these) (cond (is_counted kept w.stage) (w ∷ those) those)) (sym a.0.acknowledged)
    (by (is_counted kept w.stage) (entry-named sys state e w a.0) rest)
  where
    by : (b : Bool) → IsWriteNamed (name_of e) w → AllZip IsWriteNamed (map name_of (filter (λ (x : Entry). x.acknowledged) es)) (filter (λ (x : Write). is_counted kept x.stage) ws)
        → AllZip IsWriteNamed (map name_of (cond b (e ∷ filter (λ (x : Entry). x.acknowledged) es) (filter (λ (x : Entry). x.acknowledged) es)))
        (cond b (w ∷ filter (λ (x : Write). is_counted kept x.stage) ws) (filter (λ (x : Write). is_counted kept x.stage) ws))
    by true n r = (n, r)
    by false n r = r

-- what is kept was not collected
kept-left : (ws : List Write) → filter (λ (w : Write). is_counted kept w.stage) (filter not_collected ws) ≡ filter (λ (w : Write). is_counted kept w.stage) ws
kept-left [] = refl
kept-left (w ∷ ws) = by w.stage refl (kept-left ws)
  where
    by : (s : Stage) → w.stage ≡ s → filter (λ (x : Write). is_counted kept x.stage) (filter not_collected ws) ≡ filter (λ (x : Write). is_counted kept x.stage) ws
        → filter (λ (x : Write). is_counted kept x.stage) (filter not_collected (w ∷ ws)) ≡ filter (λ (x : Write). is_counted kept x.stage) (w ∷ ws)
    by s e r = ap (λ t. filter (λ (x : Write). is_counted kept x.stage) (cond (not (is_collected t)) (w ∷ filter not_collected ws) (filter not_collected ws))) e
        ∙ of s e r ∙ sym (ap (λ t. cond (is_counted kept t) (w ∷ filter (λ (x : Write). is_counted kept x.stage) ws) (filter (λ (x : Write). is_counted kept x.stage) ws)) e)
      where
        of : (s : Stage) → w.stage ≡ s → filter (λ (x : Write). is_counted kept x.stage) (filter not_collected ws) ≡ filter (λ (x : Write). is_counted kept x.stage) ws
            → filter (λ (x : Write). is_counted kept x.stage) (cond (not (is_collected s)) (w ∷ filter not_collected ws) (filter not_collected ws))
            ≡ cond (is_counted kept s) (w ∷ filter (λ (x : Write). is_counted kept x.stage) ws) (filter (λ (x : Write). is_counted kept x.stage) ws)
        of in_flight e r = ap (λ t. cond (is_counted kept t) (w ∷ filter (λ (x : Write). is_counted kept x.stage) (filter not_collected ws)) (filter (λ (x : Write). is_counted kept x.stage) (filter not_collected ws))) e ∙ r
        of acknowledged e r = ap (λ t. cond (is_counted kept t) (w ∷ filter (λ (x : Write). is_counted kept x.stage) (filter not_collected ws)) (filter (λ (x : Write). is_counted kept x.stage) (filter not_collected ws))) e ∙ ap (λ xs. w ∷ xs) r
        of collected e r = r

-- ---- what was lost, and what is in flight

flying-inside : (flow : Dataflow) (p : ℕ) (es : List Entry) → AllByRecursion (λ (e : Entry). IsWrittenOf flow e.node e.written) es → AreOfDomain flow p (stamps_in_flight p es)
flying-inside flow p [] a = tt
flying-inside flow p (e ∷ es) a =
    each-append (λ t. in_domain (bounds_of flow p) t ≡ true) (unlogged_by p e) (stamps_in_flight p es)
    (cond_both (is_in_flight_of p e) (stamp_of_written e.written) [] (AreOfDomain flow p)
    (λ k. subst (λ q. AreOfDomain flow q (stamp_of_written e.written)) (eqb-true e.node p (and_parts (e.node == p) (not e.acknowledged) k).0) (one e.node e.written a.0)) (λ k. tt))
    (flying-inside flow p es a.1)
  where
    one : (q : ℕ) (what : Written) → IsWrittenOf flow q what → AreOfDomain flow q (stamp_of_written what)
    one q (written.Checkpoint recorded stamps sent) i = tt
    one q (written.Event event) i = (i, tt)

each-serial : (flow : Dataflow) (p : ℕ) (h : List SerialEvent) → AllByRecursion (λ v. event_node flow v ≡ p → in_domain (bounds_of flow p) (event_stamp v) ≡ true) (events h)
    → AllByRecursion (λ (v : SerialEvent). event_node flow v.event ≡ p → in_domain (bounds_of flow p) (event_stamp v.event) ≡ true) h
each-serial flow p [] a = tt
each-serial flow p (v ∷ h) a = (a.0, each-serial flow p h a.1)

lost-inside : (sys : System) (state : Machine) (p : ℕ) (lost : List Stamp) → IsWellFormedSystem sys → IsReached sys state → ((t : Stamp) → Contains lost t ↔ IsLostAt sys state p t)
    → AreOfDomain sys.flow p lost
lost-inside sys state p lost w r k =
    let legal = (reached-all sys w r.0 r.1 state r.2).recover.holds.legal in
    let all = each_of-filter (λ v. in_domain (bounds_of sys.flow p) (event_stamp v) ≡ true) (λ v. event_node sys.flow v == p) (events state.history)
    (legal_events-in_domain sys (events state.history) w.flow (has_epochs sys w) legal p) in
    let at = each-serial sys.flow p state.history (each-weaker (λ v. (event_node sys.flow v == p) ≡ true → in_domain (bounds_of sys.flow p) (event_stamp v) ≡ true)
    (λ v. event_node sys.flow v ≡ p → in_domain (bounds_of sys.flow p) (event_stamp v) ≡ true) (events state.history) (λ v i e. i (eq-eqb (event_node sys.flow v) p e)) all) in
    each-from (λ t. in_domain (bounds_of sys.flow p) t ≡ true) lost (λ t c.
    let u = ((k t).0 c).1 in
    subst (λ s. in_domain (bounds_of sys.flow p) s ≡ true) u.is.stamp
    (each-contained (λ (v : SerialEvent). event_node sys.flow v.event ≡ p → in_domain (bounds_of sys.flow p) (event_stamp v.event) ≡ true) u.event state.history u.there at u.is.node))

-- ---- what sequences sent

abbrev pub is-single : Stamp → Bool
is-single [] = false
is-single (x ∷ []) = true
is-single (x ∷ y ∷ t) = false

single-is : (t : Stamp) → is-single t ≡ true → first_coordinate t ∷ [] ≡ t
single-is [] e = absurd (cc)
single-is (x ∷ []) e = refl
single-is (x ∷ y ∷ t) e = absurd (cc)

none-counted : (table : List (ℕ × ℕ)) → table_count (λ t. true && not (is-single t)) table ≡ 0
none-counted [] = refl
none-counted (x ∷ xs) = none-counted xs

each-counts : (before ss : List SentCount) → each_may_follow may_follow_counts before ss ≡ true → AllByRecursion (λ (s : SentCount). 0 < s.count) ss
each-counts before [] f = tt
each-counts before (s ∷ ss) f =
    let a = and_parts (may_follow_counts before s) (each_may_follow may_follow_counts (before ++ s ∷ []) ss) f in
    let b = and_parts (nat_lt 0 s.count) (after_last (λ last next. is_lt (stamp_cmp last.cause next.cause)) before s) a.0 in
    (ltb-true 0 s.count b.0, each-counts (before ++ s ∷ []) ss a.1)

each-single : (ss : List SentCount) → AllByRecursion (λ (s : SentCount). 0 < s.count) ss → told_inside (λ t. not (is-single t)) ss ≡ 0 → AllByRecursion (λ (s : SentCount). is-single s.cause ≡ true) ss
each-single [] a e = tt
each-single (s ∷ ss) a e = by (is-single s.cause) refl e (each-single ss a.1)
  where
    by : (b : Bool) → is-single s.cause ≡ b → cond (not (is-single s.cause)) s.count 0 + told_inside (λ t. not (is-single t)) ss ≡ 0
        → (told_inside (λ t. not (is-single t)) ss ≡ 0 → AllByRecursion (λ (x : SentCount). is-single x.cause ≡ true) ss)
        → (is-single s.cause ≡ true) × AllByRecursion (λ (x : SentCount). is-single x.cause ≡ true) ss
    by true i k rest = let z : 0 + told_inside (λ t. not (is-single t)) ss ≡ 0 = sym (ap (λ b. cond (not b) s.count 0 + told_inside (λ t. not (is-single t)) ss) i) ∙ k in (i, rest (omega (arith, z)))
    by false i k rest = let l = a.0 in let z : s.count + told_inside (λ t. not (is-single t)) ss ≡ 0 = sym (ap (λ b. cond (not b) s.count 0 + told_inside (λ t. not (is-single t)) ss) i) ∙ k in absurd (omega (arith, l, z))

said-inside : (f : Frontier) (ss : List SentCount) → AllByRecursion (λ (s : SentCount). is-single s.cause ≡ true) ss → table_count f (table_said ss) ≡ told_inside f ss
said-inside f [] a = refl
said-inside f (s ∷ ss) a =
    ap (λ t. cond (f t) (s.count + table_count f (table_said ss)) (table_count f (table_said ss))) (single-is s.cause a.0) ∙ by (f s.cause) (said-inside f ss a.1)
  where
    by : (b : Bool) → table_count f (table_said ss) ≡ told_inside f ss → cond b (s.count + table_count f (table_said ss)) (table_count f (table_said ss)) ≡ cond b s.count 0 + told_inside f ss
    by true r = ap (λ n. s.count + n) r
    by false r = r ∙ omega arith

-- each cause is one epoch
pub singles-told : (table : List (ℕ × ℕ)) (ss : List SentCount) → AreSendsOf (λ t. true) table ss → EpochsAscend table → AllByRecursion (λ (s : SentCount). is-single s.cause ≡ true) ss
singles-told table ss a o = each-single ss (each-counts [] ss (a.follow o)) (a.told (λ t. not (is-single t)) ∙ none-counted table)

sends-told : (sys : System) (h : List Happened) (p : ℕ) (table : List (ℕ × ℕ)) (ss : List SentCount) → AreSendsOf (λ t. true) table ss → EpochsAscend table → IsSentTable sys h p table
    → IsSentTable sys h p (table_said ss)
sends-told sys h p table ss a o is f = said-inside f ss (singles-told table ss a o) ∙ a.told f ∙ is f

zip-sends : (R : ℕ → List SentCount → Type 0) (S : List SentCount → ℕ → Type 0) (ps : List ℕ) (all : List (List SentCount)) → AllByRecursion (λ p. (ss : List SentCount) → R p ss → S ss p) ps
    → AllZip R ps all → AllZip S all ps
zip-sends R S [] [] k a = tt
zip-sends R S [] (x ∷ xs) k a = absurd a
zip-sends R S (p ∷ ps) [] k a = absurd a
zip-sends R S (p ∷ ps) (x ∷ xs) k a = (k.0 x a.0, zip-sends R S ps xs k.1 a.1)

-- ---- the root

module _ (sys : System) (records : Option Records) (state : Machine) (running : Running) (root : Root) (shaped : IsShaped running) (s : Stands sys running records state) (t : IsToldBy running root) where
  count : length running.flow.nodes ≡ length sys.flow.nodes
  count = ap (λ (f : Dataflow). length f.nodes) s.apart.flow

  injected-told : root.injected ≡ map (λ p. injected_count p (events state.history)) (nodes_as sys.flow role.Input)
  injected-told =
      t.injected ∙ ap (λ f. map (λ (p : ℕ). (source_of running p).injected) (nodes_as f role.Input)) s.apart.flow
      ∙ map-agree (λ (p : ℕ). (source_of running p).injected) (λ p. injected_count p (events state.history)) (nodes_as sys.flow role.Input)
      (each-weaker (λ p. (p < length sys.flow.nodes) × (plays role.Input (kind_of sys.flow p) ≡ true)) (λ p. (source_of running p).injected ≡ injected_count p (events state.history))
      (nodes_as sys.flow role.Input) (λ p k. (s.apart.sources p k.0).injected) (each-as sys.flow role.Input))

  bounds-told : root.bounds ≡ map (ack_count_of state) (nodes_as sys.flow role.Output)
  bounds-told =
      t.bounds ∙ ap (λ f. map (λ (p : ℕ). (output_of running p).bound) (nodes_as f role.Output)) s.apart.flow
      ∙ map-agree (λ (p : ℕ). (output_of running p).bound) (ack_count_of state) (nodes_as sys.flow role.Output)
      (each-weaker (λ p. (p < length sys.flow.nodes) × (plays role.Output (kind_of sys.flow p) ≡ true)) (λ p. (output_of running p).bound ≡ ack_count_of state p)
      (nodes_as sys.flow role.Output) (λ p k. (s.apart.outputs p k.0 k.1).bound) (each-as sys.flow role.Output))

  settled-told : map (λ (f : NodeFronts). f.settled) root.fronts ≡ state.settled
  settled-told =
      same-at (map (λ (f : NodeFronts). f.settled) root.fronts) state.settled []
      (length-map' (λ (f : NodeFronts). f.settled) root.fronts ∙ t.fronts.one_each ∙ sym shaped.progress.settled_each ∙ ap length s.apart.settled)
      (λ p l. at-map (λ (f : NodeFronts). f.settled) root.fronts p no_fronts
      ∙ (t.fronts.each p (omega (arith, l, length-map' (λ (f : NodeFronts). f.settled) root.fronts, t.fronts.one_each))).settled ∙ ap (λ (fs : List Front). front_of fs p) s.apart.settled)

  low-told : map (λ (f : NodeFronts). f.low) root.fronts ≡ state.low
  low-told =
      same-at (map (λ (f : NodeFronts). f.low) root.fronts) state.low []
      (length-map' (λ (f : NodeFronts). f.low) root.fronts ∙ t.fronts.one_each ∙ sym shaped.one_each.low ∙ ap length s.apart.low)
      (λ p l. at-map (λ (f : NodeFronts). f.low) root.fronts p no_fronts
      ∙ (t.fronts.each p (omega (arith, l, length-map' (λ (f : NodeFronts). f.low) root.fronts, t.fronts.one_each))).low ∙ ap (λ (fs : List Front). front_of fs p) s.apart.low)

  third-is : (p : ℕ) → p < length sys.flow.nodes → policy_of sys.flow p ≡ policy.Full → IsFrontOf (bounds_of sys.flow p) (third_said root p) (third_of sys state p)
  third-is p l full =
      let flow = running.flow in
      let entries = running.parts.keep.entries in
      let lost = lost_at running p in
      let a = t.fronts.each p (omega (arith, l, count)) in
      let inside : AreOfDomain flow p (unlogged_stamps p entries lost) =
      each-append (λ x. in_domain (bounds_of flow p) x ≡ true) (stamps_in_flight p entries) lost (flying-inside flow p entries shaped.entries)
      (subst (λ f. AreOfDomain f p lost) (sym s.apart.flow) (lost-inside sys state p lost s.apart.well_formed s.apart.reached (s.lost p full))) in
      let third : IsThirdBy running p policy.Full (get_or root.fronts p no_fronts).third =
      subst (λ q. IsThirdBy running p q (get_or root.fronts p no_fronts).third) (ap (λ f. policy_of f p) s.apart.flow ∙ full) a.third in
      subst (λ f. IsFrontOf (bounds_of sys.flow p) f (third_of sys state p)) (sym (at-map (λ (f : NodeFronts). f.third) root.fronts p no_fronts))
      (third_told sys state p entries lost (front_of running.progress.settled p) (get_or root.fronts p no_fronts).third s.apart.well_formed s.apart.reached full s.apart.entries
      (losses_known sys state p lost (s.lost p full)) (ap (λ (fs : List Front). front_of fs p) s.apart.settled)
      (subst (λ f. IsFrontOf (bounds_of f p) (get_or root.fronts p no_fronts).third
      (below_all (unlogged_stamps p entries lost) (frontier_of (bounds_of f p) (front_of running.progress.settled p)))) s.apart.flow (third inside)))

  writes-named : AllZip IsWriteNamed root.writes (filter (λ (w : Write). is_counted kept w.stage) state.writes)
  writes-named =
      subst (λ ns. AllZip IsWriteNamed ns (filter (λ (w : Write). is_counted kept w.stage) state.writes)) (sym t.ids.writes)
      (subst (AllZip IsWriteNamed (map name_of (filter (λ (e : Entry). e.acknowledged) running.parts.keep.entries))) (kept-left state.writes)
      (named-kept sys state running.parts.keep.entries (uncollected state) s.apart.entries))

  pending-said : (e : ℕ) (at : Stamp) → pending_said root.pending e at ≡ how_many (λ (m : Message). same m.at at) (pending_messages sys (events state.history) e)
  pending-said e at =
      let edges : length running.flow.edges ≡ length sys.flow.edges = ap (λ (f : Dataflow). length f.edges) s.apart.flow in
      elim (cases_lt e (length sys.flow.edges)) [
        | inl l ↦ pending_told running.progress.counts (length running.flow.edges) root.pending t.pending e (omega (arith, l, edges)) at
            ∙ s.apart.progress.counts.pending e l at ∙ count-flip at (pending_messages sys (events state.history) e)
        | inr l ↦ pending_beyond running.progress.counts (length running.flow.edges) root.pending t.pending e (omega (arith, l, edges)) at
            ∙ sym (ap (how_many (λ (m : Message). same m.at at)) (none-pending_past sys (events state.history) e l))
      ]

  owed-said : (p : ℕ) (at : Stamp) → is_said_owed root.owed p at ≡ is_owed_notice sys (events state.history) p at
  owed-said p at = elim (cases_lt p (length sys.flow.nodes)) [
    | inl l ↦ owed_told running.progress.counts (length running.flow.nodes) root.owed t.owed p (omega (arith, l, count)) (shaped.progress.counts.owed p (omega (arith, l, count))).positive at
        ∙ s.apart.progress.counts.owed p l at
    | inr l ↦ owed_beyond running.progress.counts (length running.flow.nodes) root.owed t.owed p (omega (arith, l, count)) at ∙ sym (none-owed sys (events state.history) p at l)
  ]

  sends-said : AllZip (λ ss p. IsSentTable sys (events state.history) p (table_said ss)) root.sends (nodes_as sys.flow role.ByCount)
  sends-said =
      zip-sends (AreSendsTold running.progress.counts) (λ ss p. IsSentTable sys (events state.history) p (table_said ss)) (nodes_as sys.flow role.ByCount) root.sends
      (each-weaker (λ p. (p < length sys.flow.nodes) × (plays role.ByCount (kind_of sys.flow p) ≡ true))
      (λ p. (ss : List SentCount) → AreSendsTold running.progress.counts p ss → IsSentTable sys (events state.history) p (table_said ss)) (nodes_as sys.flow role.ByCount)
      (λ p k ss a.
      let kind = is_sequence (kind_of sys.flow p) k.1 in
      sends-told sys (events state.history) p (sent_of running.progress.counts p) ss a.each (s.apart.progress.counts.in_order p k.0 kind) (s.apart.progress.counts.sent p k.0 kind))
      (each-as sys.flow role.ByCount))
      (subst (λ f. AllZip (AreSendsTold running.progress.counts) (nodes_as f role.ByCount) root.sends) s.apart.flow t.sends)

  pub is_root : IsRootOf sys state root
  is_root = record {
    injected = injected-told;
    bounds = bounds-told;
    settled = settled-told;
    low = low-told;
    third = third-is;
    writes = writes-named;
    pending = pending-said;
    owed = owed-said;
    sends = sends-said;
  }
