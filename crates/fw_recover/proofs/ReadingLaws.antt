-- What a recovery reads for a node: its checkpoints, or its events.
use Rattle.std.proofs.Common.{◌≡◌, ◌≢◌, ℕ, ◌<◌, Bool, true, false, cond, ◌&&◌, ◌==◌, List, [], ◌∷◌, ◌++◌, length, filter, Option, Some, None, refl, sym, ap, subst, ◌∙◌, inl, inr}
use Rattle.std.specs.Prelude.{◌⊎◌}
use Rattle.std.specs.List.{AllZip, flat_map}
use Rattle.std.proofs.lemmas.Bool.{cases_Bool, or_left, or_right}
use Rattle.fw_lemmas.proofs.Bools.{two_ways}
use Rattle.fw_lemmas.proofs.Each.{each-one}
use Rattle.fw_lemmas.proofs.Filters.{filter-none, filter-out, filter-same_on}
use Rattle.fw_lemmas.proofs.SideBySide.{zip-weaker}
use Rattle.fw_frontier.specs.Frontier.{Within}
use Rattle.fw_frontier.specs.Front.{Front, IsCanonical, frontier_of}
use Rattle.fw_flow.specs.declared.choice.Choice.{Choice}
use Rattle.fw_flow.specs.declared.choice.Cut.TheVariants.{At}
use Rattle.fw_flow.specs.declared.event.Event.{Event}
use Rattle.fw_flow.specs.declared.event.Event.TheVariants.{Inject, Deliver, Notify}
use Rattle.fw_flow.specs.declared.kind.Policy.TheVariants as policy
use Rattle.fw_flow.specs.declared.restoring.Restoring.TheVariants.{Checkpoints, Events}
use Rattle.fw_flow.specs.declared.step.Step.TheVariants.{Recover}
use Rattle.fw_flow.specs.Dataflow.{System, Dataflow, policy_of, bounds_of, node_frontier}
use Rattle.fw_flow.specs.Restoring.{way_of}
use Rattle.fw_model.specs.Choice.{cut_of}
use Rattle.fw_model.specs.LawsOfReplay.{replayed_events}
use Rattle.fw_model.specs.Machine.{Machine, no_stamps}
use Rattle.fw_model.specs.Writes.{takes_checkpoints}
use Rattle.fw_model.proofs.ChoiceLaws.{same_fronts}
use Rattle.fw_model.proofs.CmpLaws.{decided-front}
use Rattle.fw_model.proofs.LowLaws.{none-canonical, none-within}
use Rattle.fw_record.specs.declared.record.Checkpoint.{Checkpoint}
use Rattle.fw_record.specs.declared.record.Event.TheVariants as logged
use Rattle.fw_record.specs.declared.record.Record.{Record}
use Rattle.fw_record.specs.declared.record.Record.TheVariants as tagged
use Rattle.fw_keep.specs.declared.entry.Entry.{Entry}
use Rattle.fw_keep.specs.declared.entry.Written.{Written}
use Rattle.fw_keep.specs.declared.entry.Written.TheVariants as written
use Rattle.fw_keep.specs.Entry.{IsRecordOfEntry}
use Rattle.fw_keep.specs.Newest.{whole_within}
use Rattle.fw_keep.specs.Stored.{Records, HoldsAs, IsFetched}
use Rattle.fw_rollback.specs.Asked.{is_at_cut, has_one_at_cut, read_from, is_needed, is_asked_for, asked_of, first_checkpoint, events_of}
use Rattle.fw_rollback.proofs.AskedLaws.{asked-by, asked-checkpoints}
use Rattle.fw_record.specs.Event.{logged_events, event_of}
use Rattle.fw_rollback.specs.Replay.{AreDoneAgain, CanBeDone}
use Rattle.fw_stands.specs.Recovered.{Recovers}
use Rattle.fw_stands.specs.Read.{is_checkpoint_at}
use Rattle.fw_stands.specs.Redone.{CanBeRedone, is_event_inside, is_logged_inside}
use Rattle.fw_stands.specs.Written.{AreEntriesOf, AreStored, uncollected}
use Rattle.fw_stands.proofs.CutChains.{AreRecordsOfChain, chain-of_records, no-chain}
use Rattle.fw_stands.proofs.LoggedOrder.{replayed-of_records}
use Rattle.fw_stands.proofs.ReadLaws.{one-checkpoint}
use Rattle.fw_stands.proofs.RecoveredTables.{cuts-canonical}
use Rattle.fw_stands.proofs.RedoneLaws.{replayed-redone}
use Rattle.fw_running.specs.Steps.{HasNoStamp, Trusts}

-- ---- events that are done again

-- events are told as they are logged
told-logged : (vs : List Event) → logged_events vs ≡ logged_events vs
told-logged [] = refl
told-logged (Inject s x ∷ vs) = told-logged vs
told-logged (Deliver e m ∷ vs) = ap (λ ls. ls ++ logged.Deliver e m.at m.rec ∷ []) (told-logged vs)
told-logged (Notify p t ∷ vs) = ap (λ ls. ls ++ logged.Notify t ∷ []) (told-logged vs)

-- what can be redone can be done again
can-be_done : (flow : Dataflow) (p : ℕ) (vs : List Event) → CanBeRedone flow p vs → CanBeDone flow p vs
can-be_done flow p [] c = tt
can-be_done flow p (Inject s x ∷ vs) c = absurd c
can-be_done flow p (Deliver e m ∷ vs) c = (c.0, c.1, can-be_done flow p vs c.2)
can-be_done flow p (Notify q t ∷ vs) c = (c.0, c.1, c.2, can-be_done flow p vs c.3)

-- ---- which entries are asked for

needs-nothing : (flow : Dataflow) (p : ℕ) (f : Front) (w : Written) → is_needed flow None p f Checkpoints w ≡ false
needs-nothing flow p f (written.Checkpoint recorded stamps sent) = refl
needs-nothing flow p f (written.Event event) = refl

-- one that is restored by its events needs those inside
needs-events : (flow : Dataflow) (o : Option Front) (p : ℕ) (f : Front) (w : Written) → is_needed flow o p f Events w ≡ is_event_inside (node_frontier flow p f) w
needs-events flow None p f (written.Checkpoint recorded stamps sent) = refl
needs-events flow None p f (written.Event event) = refl
needs-events flow (Some whole) p f (written.Checkpoint recorded stamps sent) = refl
needs-events flow (Some whole) p f (written.Event event) = refl

-- one of the entries is one at the cut where a filter leaves one
one-there : (p : ℕ) (f : Front) (es : List Entry) (e : Entry) → filter (is_checkpoint_at p f) es ≡ e ∷ [] → has_one_at_cut p (At f) es ≡ true
one-there p f [] e is = absurd cc
one-there p f (x ∷ es) e is = elim (cases_Bool (is_checkpoint_at p f x)) [
  | inl i ↦ or_left (is_at_cut p (At f) x) (has_one_at_cut p (At f) es) i
  | inr o ↦ or_right (is_at_cut p (At f) x) (has_one_at_cut p (At f) es) (one-there p f es e (sym (filter-out (is_checkpoint_at p f) x es o) ∙ is))
]

-- where one stands there they are read from the newest whole one on
read-whole : (p : ℕ) (f whole : Front) (es : List Entry) → has_one_at_cut p (At f) es ≡ true → whole_within p f es ≡ Some whole → read_from p f es ≡ Some whole
read-whole p f whole es there newest = ap (λ b. cond b (whole_within p f es) None) there ∙ newest

-- where there is no whole one within the cut none is read
read-none : (p : ℕ) (f : Front) (es : List Entry) → whole_within p f es ≡ None → read_from p f es ≡ None
read-none p f es newest = ap (λ o. cond (has_one_at_cut p (At f) es) o None) newest ∙ either (has_one_at_cut p (At f) es)
  where
    none : Option Front
    none = None

    either : (b : Bool) → cond b none none ≡ none
    either true = refl
    either false = refl

asked-nothing : (flow : Dataflow) (choice : Choice) (es : List Entry) (p : ℕ) (f : Front) → way_of flow p ≡ Checkpoints → cut_of choice p ≡ At f
    → read_from p f es ≡ None → asked_of flow choice es p ≡ []
asked-nothing flow choice es p f way is newest =
    filter-none (λ e. (e.node == p) && is_asked_for flow choice es e) es
    (each-one (λ e. ((e.node == p) && is_asked_for flow choice es e) ≡ false) es
    (λ e.
    asked-by flow choice es p f is (λ w. false)
    (λ w. ap (λ o. is_needed flow o p f (way_of flow p) w) newest ∙ ap (λ x. is_needed flow None p f x w) way ∙ needs-nothing flow p f w) e
    ∙ none (e.node == p) e.acknowledged))
  where
    none : (a b : Bool) → a && (b && false) ≡ false
    none false b = refl
    none true false = refl
    none true true = refl

asked-events : (flow : Dataflow) (choice : Choice) (es : List Entry) (p : ℕ) (f : Front) → way_of flow p ≡ Events → cut_of choice p ≡ At f
    → asked_of flow choice es p ≡ filter (is_logged_inside p (node_frontier flow p f)) es
asked-events flow choice es p f way is =
    filter-same_on (λ e. (e.node == p) && is_asked_for flow choice es e) (is_logged_inside p (node_frontier flow p f)) es
    (each-one (λ e. ((e.node == p) && is_asked_for flow choice es e) ≡ is_logged_inside p (node_frontier flow p f) e) es
    (asked-by flow choice es p f is (is_event_inside (node_frontier flow p f))
    (λ w. ap (λ x. is_needed flow (read_from p f es) p f x w) way ∙ needs-events flow (read_from p f es) p f w)))

-- ---- the events of a node

fetched-fit : (flow : Dataflow) (records : Option Records) (es : List Entry) (rs : List Record) → AllZip (IsFetched flow records) es rs → AllZip (IsRecordOfEntry flow) es rs
fetched-fit flow records [] [] a = tt
fetched-fit flow records [] (r ∷ rs) a = a
fetched-fit flow records (e ∷ es) [] a = a
fetched-fit flow records (e ∷ es) (r ∷ rs) a = (a.0.fits, fetched-fit flow records es rs a.1)

-- the events of records are those that they tell
same-events : (rs : List Record) → events_of rs ≡ flat_map event_of rs
same-events [] = refl
same-events (tagged.State c ∷ rs) = same-events rs
same-events (tagged.Event q event ∷ rs) = ap (λ ls. event ∷ ls) (same-events rs)
same-events (tagged.Changes base c ∷ rs) = same-events rs

-- the events that are left of a node that logs each event are those of the records that were fetched, and can be done again
pub events-read : (sys : System) (state : Machine) (choice : Choice) (settled : List Front) → Recovers sys state choice settled
    → (es : List Entry) → AreEntriesOf sys state es (uncollected state) → (records : Option Records) (rs : List Record) (p : ℕ) (f : Front)
    → policy_of sys.flow p ≡ policy.Full → way_of sys.flow p ≡ Events → cut_of choice p ≡ At f
    → AllZip (IsFetched sys.flow records) (asked_of sys.flow choice es p) rs
    → AreDoneAgain sys.flow p (events_of rs) (replayed_events sys state p (node_frontier sys.flow p f))
events-read sys state choice settled r es a records rs p f full way is z =
    let g = node_frontier sys.flow p f in
    let vs = replayed_events sys state p g in
    record {
      logged =
          told-logged vs
          ∙ replayed-of_records sys state r.well_formed r.reached es a p g rs
          (subst (λ xs. AllZip (IsRecordOfEntry sys.flow) xs rs) (asked-events sys.flow choice es p f way is) (fetched-fit sys.flow records (asked_of sys.flow choice es p) rs z))
          ∙ sym (same-events rs);
      each = can-be_done sys.flow p vs (replayed-redone sys state choice settled r p f full is);
    }

-- ---- the checkpoints of a node

-- No checkpoint was read, for a cut to no stamps.
pub record ReadNone (sys : System) (p : ℕ) (f : Front) (rs : List Record) : Type 0 where
  pub front : f ≡ no_stamps (bounds_of sys.flow p)
  pub none : first_checkpoint rs ≡ None

-- a frontier without stamps has one list
no-stamps : (flow : Dataflow) (p : ℕ) (f : Front) → IsCanonical (bounds_of flow p) f → HasNoStamp (node_frontier flow p f) → f ≡ no_stamps (bounds_of flow p)
no-stamps flow p f c none =
    let b = bounds_of flow p in
    let within : Within (frontier_of b f) (frontier_of b (no_stamps b)) = λ t i. absurd (two_ways (frontier_of b f t) i (none t)) in
    same_fronts b f (no_stamps b) c (none-canonical b) within (none-within b (frontier_of b f))

none-fetched : (flow : Dataflow) (records : Option Records) (es : List Entry) (rs : List Record) → es ≡ [] → AllZip (IsFetched flow records) es rs → first_checkpoint rs ≡ None
none-fetched flow records es [] e z = refl
none-fetched flow records es (r ∷ rs) e z = absurd (subst (λ xs. AllZip (IsFetched flow records) xs (r ∷ rs)) e z)

read-nothing : (sys : System) (state : Machine) (choice : Choice) (settled : List Front) → Recovers sys state choice settled
    → (es : List Entry) → AreEntriesOf sys state es (uncollected state) → (records : Option Records) (rs : List Record) (p : ℕ) (f : Front)
    → way_of sys.flow p ≡ Checkpoints → cut_of choice p ≡ At f → AllZip (IsFetched sys.flow records) (asked_of sys.flow choice es p) rs
    → f ≡ no_stamps (bounds_of sys.flow p) → ReadNone sys p f rs
read-nothing sys state choice settled r es a records rs p f way is z e =
    let none : read_from p f es ≡ None = read-none p f es (ap (λ g. whole_within p g es) e ∙ no-chain sys r.well_formed state r.reached es a p) in
    record { front = e; none = none-fetched sys.flow records (asked_of sys.flow choice es p) rs (asked-nothing sys.flow choice es p f way is none) z }

-- what was fetched from a store that tells its records it holds
fetched-held : (flow : Dataflow) (held : Records) (es : List Entry) (rs : List Record) → AllZip (IsFetched flow (Some held)) es rs → AllZip (HoldsAs flow (Some held)) es rs
fetched-held flow held es rs z =
    zip-weaker (IsFetched flow (Some held)) (HoldsAs flow (Some held)) es rs
    (λ e r one. record { sound = one.sound; of_entry = one.fits; bytes = one.told held refl }) z

read-told : (sys : System) (state : Machine) (choice : Choice) (settled : List Front) → Recovers sys state choice settled
    → (es : List Entry) → AreEntriesOf sys state es (uncollected state) → (held : Records) → AreStored sys state (Some held) es (uncollected state)
    → (rs : List Record) (p : ℕ) (f : Front) → way_of sys.flow p ≡ Checkpoints → takes_checkpoints (policy_of sys.flow p) ≡ true → cut_of choice p ≡ At f
    → AllZip (IsFetched sys.flow (Some held)) (asked_of sys.flow choice es p) rs → f ≢ no_stamps (bounds_of sys.flow p)
    → AreRecordsOfChain sys state p f rs
read-told sys state choice settled r es a held s rs p f way takes is z some =
    let c = chain-of_records sys state choice settled r es a held s p takes f is some in
    let one = one-checkpoint sys state choice settled r es a (Some held) s p takes f is some in
    let newest = read-whole p f c.0 es (one-there p f es one.entry one.only) c.1 in
    c.2 rs
    (subst (λ xs. AllZip (HoldsAs sys.flow (Some held)) xs rs) (asked-checkpoints sys.flow choice es p f c.0 way is newest)
    (fetched-held sys.flow held (asked_of sys.flow choice es p) rs z))

-- what is read of a node that is restored by its checkpoints, where the store tells its records or nothing is read
pub checkpoints-read : (sys : System) (state : Machine) (choice : Choice) (settled : List Front) → Recovers sys state choice settled
    → (es : List Entry) → AreEntriesOf sys state es (uncollected state) → (records : Option Records) → AreStored sys state records es (uncollected state)
    → Trusts sys state Recover records → (rs : List Record) (p : ℕ) (f : Front) → p < length sys.flow.nodes
    → way_of sys.flow p ≡ Checkpoints → takes_checkpoints (policy_of sys.flow p) ≡ true → cut_of choice p ≡ At f
    → AllZip (IsFetched sys.flow records) (asked_of sys.flow choice es p) rs → ReadNone sys p f rs ⊎ AreRecordsOfChain sys state p f rs
checkpoints-read sys state choice settled r es a None s trust rs p f l way takes is z =
    inl (read-nothing sys state choice settled r es a None rs p f way is z
    (no-stamps sys.flow p f (cuts-canonical sys state choice settled r p l f is) (trust choice r.largest p way f is)))
checkpoints-read sys state choice settled r es a (Some held) s trust rs p f l way takes is z =
    elim (decided-front f (no_stamps (bounds_of sys.flow p))) [
      | inl e ↦ inl (read-nothing sys state choice settled r es a (Some held) rs p f way is z e)
      | inr n ↦ inr (read-told sys state choice settled r es a held s rs p f way takes is z n)
    ]
