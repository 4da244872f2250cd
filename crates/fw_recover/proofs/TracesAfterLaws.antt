-- The traces of nodes after a recovery.
use Rattle.std.proofs.Common.{◌≡◌, ℕ, ◌<◌, Bool, true, false, cond, ◌&&◌, ◌==◌, not, List, [], ◌∷◌, length, map, filter, Option, Some, None, refl, sym, ap, subst, ◌∙◌, inl, inr}
use Rattle.std.specs.Prelude.{find}
use Rattle.std.specs.List.{AllByRecursion, AllZip, flat_map}
use Rattle.std.proofs.lemmas.Bool.{and_parts, and_from, cases_Bool, eqb-true}
use Rattle.fw_lemmas.proofs.Bools.{two_ways}
use Rattle.fw_lemmas.proofs.Each.{each-kept, each-one}
use Rattle.fw_lemmas.proofs.Filters.{filter-in, filter-out}
use Rattle.fw_time.specs.Stamp.{Stamp}
use Rattle.fw_frontier.specs.Frontier.{Frontier}
use Rattle.fw_frontier.specs.Front.{Front, is_within}
use Rattle.fw_frontier.proofs.NamesLaws.{within-is}
use Rattle.fw_frontier.proofs.SameLaws.{same_front-is}
use Rattle.fw_flow.specs.declared.choice.Choice.{Choice}
use Rattle.fw_flow.specs.declared.choice.Cut.{Cut}
use Rattle.fw_flow.specs.declared.choice.Cut.TheVariants.{Present, At}
use Rattle.fw_flow.specs.declared.event.Event.{Event}
use Rattle.fw_flow.specs.declared.event.Message.{Message}
use Rattle.fw_flow.specs.Dataflow.{System, policy_of, bounds_of}
use Rattle.fw_model.specs.Floors.{IsFloor}
use Rattle.fw_model.specs.Choice.{cut_of}
use Rattle.fw_model.specs.Covers.{stamp_of_notice}
use Rattle.fw_model.specs.EventStamps.{causes_in, base_of_sent}
use Rattle.fw_model.proofs.AlikeLaws.{for-less}
use Rattle.fw_model.specs.History.{delivered_messages, sent_messages}
use Rattle.fw_model.specs.Machine.{Machine, Write, checkpoint, logged_event, events, front_of, no_stamps}
use Rattle.fw_model.specs.Machine.{Written as WrittenBy}
use Rattle.fw_model.specs.Steps.{recovered_state}
use Rattle.fw_model.specs.Writes.{takes_checkpoints}
use Rattle.fw_model.proofs.CmpLaws.{decided-front}
use Rattle.fw_keep.specs.declared.entry.Entry.{Entry}
use Rattle.fw_keep.specs.declared.entry.Written.{Written}
use Rattle.fw_keep.specs.declared.entry.Written.TheVariants as written
use Rattle.fw_keep.specs.Entry.{lies_within, is_beyond, is_written_at}
use Rattle.fw_keep.specs.Stored.{Records}
use Rattle.fw_policy.specs.View.{base_of}
use Rattle.fw_progress.specs.declared.traces.Traces.{Traces}
use Rattle.fw_progress.specs.Trace.{IsTraceAmong, IsTraceIf, stamps_where_sent}
use Rattle.fw_rollback.specs.Restored.{is_undone}
use Rattle.fw_stands.specs.Recovered.{Recovers}
use Rattle.fw_stands.specs.Parts.{IsTraceIn}
use Rattle.fw_stands.specs.Read.{is_checkpoint_at}
use Rattle.fw_stands.specs.Written.{AreEntriesOf, AreStored, HoldsWhatIsWritten, HoldsWithin, IsEntryOf, uncollected}
use Rattle.fw_stands.proofs.ReadLaws.{one-checkpoint}
use Rattle.fw_stands.proofs.RecoveredTables.{cuts-canonical}
use Rattle.fw_stands.proofs.RecoveredTraces.{some-trace, traces-cut, traces-cut_among, traces-from_checkpoints, traces-nothing, traces-present}
use Rattle.fw_recover.specs.CutTraces.{AreSavedAs, AreSavedBy, AreTracesCutAt, AreTracesCutTo, IsTraceCut, is_saved_at}

-- ---- what is found in a list

-- what is found is one that passes
found-passes : {X : Type 0} (P : X → Type 0) (test : X → Bool) (xs : List X) → AllByRecursion (λ x. test x ≡ true → P x) xs → (x : X) → find test xs ≡ Some x → P x
found-passes P test [] a x e = absurd (cc e)
found-passes {X} P test (y ∷ ys) a x e = by (test y) refl e (λ same. found-passes P test ys a.1 x same)
  where
    by : (b : Bool) → test y ≡ b → cond b (Some y) (find test ys) ≡ Some x → (find test ys ≡ Some x → P x) → P x
    by true i same rest = let one : y ≡ x = cc in subst P one (a.0 i)
    by false i same rest = rest same

-- where none is found none passes
none-found : {X : Type 0} (test : X → Bool) (xs : List X) → find test xs ≡ None → AllByRecursion (λ x. test x ≡ false) xs
none-found test [] e = tt
none-found {X} test (y ∷ ys) e = by (test y) refl e (λ same. none-found test ys same)
  where
    by : (b : Bool) → test y ≡ b → cond b (Some y) (find test ys) ≡ None → (find test ys ≡ None → AllByRecursion (λ x. test x ≡ false) ys)
        → AllByRecursion (λ x. test x ≡ false) (y ∷ ys)
    by true i same rest = absurd (cc same)
    by false i same rest = (i, rest same)

each-later : {X : Type 0} (P : X → Type 0) (test : X → Bool) (x : X) (xs : List X) → AllByRecursion P (filter test (x ∷ xs)) → AllByRecursion P (filter test xs)
each-later {X} P test x xs a = by (test x) a
  where
    by : (b : Bool) → AllByRecursion P (cond b (x ∷ filter test xs) (filter test xs)) → AllByRecursion P (filter test xs)
    by true a = a.1
    by false a = a

-- ---- the entry of a checkpoint

-- what is written is a checkpoint that holds what is inside
abbrev HoldsAt : System → Machine → ℕ → Front → Written → Type 0
HoldsAt sys state p f (written.Checkpoint recorded stamps sent) = HoldsWithin sys state p f recorded stamps sent
HoldsAt sys state p f (written.Event event) = ⊥

holds-at : (sys : System) (state : Machine) (p : ℕ) (f : Front) (w : Written) (by : WrittenBy) → HoldsWhatIsWritten sys state p w by → is_written_at f w ≡ true → HoldsAt sys state p f w
holds-at sys state p f (written.Checkpoint recorded stamps sent) (checkpoint g low) h i =
    subst (λ x. HoldsWithin sys state p x recorded stamps sent) (sym h.recorded.front ∙ same_front-is recorded.front f i) h
holds-at sys state p f (written.Checkpoint recorded stamps sent) (logged_event s) h i = absurd h
holds-at sys state p f (written.Event event) by h i = absurd (two_ways false i refl)

entry-holds : (sys : System) (state : Machine) (p : ℕ) (f : Front) (e : Entry) (w : Write) → IsEntryOf sys state e w → is_saved_at p f e ≡ true → HoldsAt sys state p f e.written
entry-holds sys state p f e w a i =
    let both = and_parts (e.node == p) (is_written_at f e.written) i in
    let at : w.node ≡ p = sym a.node ∙ eqb-true e.node p both.0 in
    subst (λ q. HoldsAt sys state q f e.written) at (holds-at sys state w.node f e.written w.written a.holds both.1)

entries-hold : (sys : System) (state : Machine) (p : ℕ) (f : Front) (es : List Entry) (ws : List Write) → AllZip (IsEntryOf sys state) es ws
    → AllByRecursion (λ e. is_saved_at p f e ≡ true → HoldsAt sys state p f e.written) es
entries-hold sys state p f [] ws a = tt
entries-hold sys state p f (e ∷ es) [] a = absurd a
entries-hold sys state p f (e ∷ es) (w ∷ ws) a = (entry-holds sys state p f e w a.0, entries-hold sys state p f es ws a.1)

-- a checkpoint at the cut of its node stays
front-within : (f : Front) (w : Written) → is_within f f ≡ true → is_written_at f w ≡ true → lies_within f w ≡ true
front-within f (written.Checkpoint recorded stamps sent) self i = ap (λ g. is_within g f) (same_front-is recorded.front f i) ∙ self
front-within f (written.Event event) self i = absurd (two_ways false i refl)

none-saved : (choice : Choice) (p : ℕ) (f : Front) → cut_of choice p ≡ At f → is_within f f ≡ true → (es : List Entry)
    → AllByRecursion (λ e. is_saved_at p f e ≡ false) (filter (λ e. not (is_undone choice e)) es) → filter (is_checkpoint_at p f) es ≡ []
none-saved choice p f is self [] a = refl
none-saved choice p f is self (e ∷ es) a =
    let left : Entry → Bool = λ x. not (is_undone choice x) in
    let rest = none-saved choice p f is self es (each-later (λ x. is_saved_at p f x ≡ false) left e es a) in
    elim (cases_Bool (is_checkpoint_at p f e)) [
      | inl i ↦
          let node = and_parts (e.node == p) (e.acknowledged && is_written_at f e.written) i in
          let more = and_parts e.acknowledged (is_written_at f e.written) node.1 in
          let stays : left e ≡ true =
          ap (λ q. not (is_beyond (cut_of choice q) e)) (eqb-true e.node p node.0) ∙ ap (λ cut. not (is_beyond cut e)) is
          ∙ ap (λ b. not (not b)) (front-within f e.written self more.1) in
          let kept = subst (AllByRecursion (λ x. is_saved_at p f x ≡ false)) (filter-in left e es stays) a in
          absurd (two_ways (is_saved_at p f e) (and_from (e.node == p) (is_written_at f e.written) node.0 more.1) kept.0)
      | inr i ↦ filter-out (is_checkpoint_at p f) e es i ∙ rest
    ]

-- ---- the traces of a node that is cut

saved-stands : (sys : System) (floor : List Front) (state : Machine) (choice : Choice) (settled : List Front) → Recovers sys state choice settled
    → (p : ℕ) → p < length sys.flow.nodes → takes_checkpoints (policy_of sys.flow p) ≡ true → (f : Front) → cut_of choice p ≡ At f
    → (w : Written) → HoldsAt sys state p f w → (old new : Traces) → AreSavedBy sys.flow p w old new → IsTraceIn sys floor (recovered_state sys state choice settled) p new
saved-stands sys floor state choice settled r p l takes f is (written.Checkpoint recorded stamps sent) h old new s =
    traces-from_checkpoints sys floor state choice settled r p l takes f is stamps sent h.stamps h.sent old new s
saved-stands sys floor state choice settled r p l takes f is (written.Event event) h old new s = absurd h

as-stands : (sys : System) (floor : List Front) (state : Machine) (choice : Choice) (settled : List Front) → Recovers sys state choice settled
    → (es : List Entry) → AreEntriesOf sys state es (uncollected state) → (records : Option Records) → AreStored sys state records es (uncollected state)
    → (p : ℕ) → p < length sys.flow.nodes → takes_checkpoints (policy_of sys.flow p) ≡ true → (f : Front) → cut_of choice p ≡ At f
    → (o : Option Entry) → find (is_saved_at p f) (filter (λ e. not (is_undone choice e)) es) ≡ o
    → (old new : Traces) → AreSavedAs sys.flow p o old new → IsTraceIn sys floor (recovered_state sys state choice settled) p new
as-stands sys floor state choice settled r es a records st p l takes f is (Some e) found old new s =
    let left : Entry → Bool = λ x. not (is_undone choice x) in
    let Held : Entry → Type 0 = λ x. is_saved_at p f x ≡ true → HoldsAt sys state p f x.written in
    let h = found-passes (λ x. HoldsAt sys state p f x.written) (is_saved_at p f) (filter left es)
    (each-kept Held left es (entries-hold sys state p f es (uncollected state) a)) e found in
    saved-stands sys floor state choice settled r p l takes f is e.written h old new s
as-stands sys floor state choice settled r es a records st p l takes f is None found old new s =
    let left : Entry → Bool = λ x. not (is_undone choice x) in
    let b = bounds_of sys.flow p in
    let self = within-is b f f (cuts-canonical sys state choice settled r p l f is) (λ t i. i) in
    let none = none-saved choice p f is self es (none-found (is_saved_at p f) (filter left es) found) in
    elim (decided-front f (no_stamps b)) [
      | inl e ↦ traces-nothing sys floor state choice settled r p l (is ∙ ap At e) s.0 s.1 old new s.2
      | inr n ↦
          let one = one-checkpoint sys state choice settled r es a records st p takes f is n in
          let no : one.entry ∷ [] ≡ [] = sym one.only ∙ none in
          absurd (cc no)
    ]

at-stands : (sys : System) (floor : List Front) (state : Machine) (choice : Choice) (settled : List Front) → Recovers sys state choice settled → IsFloor sys state floor
    → (es : List Entry) → AreEntriesOf sys state es (uncollected state) → (records : Option Records) → AreStored sys state records es (uncollected state)
    → (p : ℕ) → p < length sys.flow.nodes → (cut : Cut) → cut_of choice p ≡ cut
    → (old new : Traces) → AreTracesCutAt sys.flow (filter (λ e. not (is_undone choice e)) es) p cut old new → IsTraceIn sys floor state p old
    → IsTraceIn sys floor (recovered_state sys state choice settled) p new
at-stands sys floor state choice settled r above es a records st p l Present is old new c t =
    traces-present sys floor state choice settled r p l is new (subst (IsTraceIn sys floor state p) (sym c) t)
at-stands sys floor state choice settled r above es a records st p l (At f) is old new c t = elim (cases_Bool (takes_checkpoints (policy_of sys.flow p))) [
  | inl takes ↦
      as-stands sys floor state choice settled r es a records st p l takes f is
      (find (is_saved_at p f) (filter (λ e. not (is_undone choice e)) es)) refl old new (c.saved takes)
  | inr takes ↦ traces-cut sys floor state choice settled r above p l takes f is old new (c.inside takes) t
]

-- the traces of a node after a recovery, where those of the nodes were cut one after the other
pub trace-after : (sys : System) (floor : List Front) (state : Machine) (choice : Choice) (settled : List Front) → Recovers sys state choice settled → IsFloor sys state floor
    → (es : List Entry) → AreEntriesOf sys state es (uncollected state) → (records : Option Records) → AreStored sys state records es (uncollected state)
    → (p : ℕ) → p < length sys.flow.nodes → (old new : Traces) → IsTraceCut sys.flow (filter (λ e. not (is_undone choice e)) es) choice p old new
    → IsTraceIn sys floor state p old → IsTraceIn sys floor (recovered_state sys state choice settled) p new
trace-after sys floor state choice settled r above es a records st p l old new c t =
    let next = recovered_state sys state choice settled in
    c.stays (takes_checkpoints (policy_of sys.flow p)) sys (events next.history) refl (base_of sys floor next p)
    (at-stands sys floor state choice settled r above es a records st p l (cut_of choice p) refl c.before c.after c.cut
    (c.was (takes_checkpoints (policy_of sys.flow p)) sys (events state.history) refl (base_of sys floor state p) t))

-- ---- the traces of a node of which it is told only that they were some of what happened

-- they are so above everything, of a node of which it is not counted how much it sent
among-above : (sys : System) (h : List Event) (p : ℕ) (traces : Traces) → takes_checkpoints (policy_of sys.flow p) ≡ false → IsTraceAmong sys h p traces
    → IsTraceIf false sys h p (λ t. true) traces
among-above sys h p traces takes a =
    let each : (ts : List Stamp) → AllByRecursion (λ t. true ≡ true) ts = λ ts. each-one (λ t. true ≡ true) ts (λ t. refl) in
    some-trace sys h p (λ t. true) traces takes (λ d r. each (map (λ (m : Message). m.at) (delivered_messages h d))) (each (flat_map (stamp_of_notice p) h))
    (λ d r. each (causes_in (sent_messages sys h d))) a

above-among : (sys : System) (h : List Event) (p : ℕ) (base : Frontier) (traces : Traces) → IsTraceIf false sys h p base traces → IsTraceAmong sys h p traces
above-among sys h p base traces t = record {
  delivered = λ d l r. (t.delivered d l r).among;
  notified = t.notified.among;
  sent = λ d l r k. (for-less sys.flow p (base_of_sent sys.flow p base) (causes_in (sent_messages sys h d)) (stamps_where_sent traces d) (t.sent d l r k)).among;
}

-- the traces of a node that was cut, where the front of its cut is that of the floor: those of its checkpoint, or what is left of some
pub trace-after_held : (sys : System) (floor : List Front) (state : Machine) (choice : Choice) (settled : List Front) → Recovers sys state choice settled
    → (es : List Entry) → AreEntriesOf sys state es (uncollected state) → (records : Option Records) → AreStored sys state records es (uncollected state)
    → (p : ℕ) → p < length sys.flow.nodes → (f : Front) → cut_of choice p ≡ At f → front_of floor p ≡ f
    → (old new : Traces) → IsTraceCut sys.flow (filter (λ e. not (is_undone choice e)) es) choice p old new
    → IsTraceAmong sys (events state.history) p old → IsTraceIn sys floor (recovered_state sys state choice settled) p new
trace-after_held sys floor state choice settled r es a records st p l f is at old new c t =
    let h = events state.history in
    let next = recovered_state sys state choice settled in
    let left = filter (λ e. not (is_undone choice e)) es in
    let cut : AreTracesCutTo sys.flow left p f c.before c.after = subst (λ x. AreTracesCutAt sys.flow left p x c.before c.after) is c.cut in
    c.stays (takes_checkpoints (policy_of sys.flow p)) sys (events next.history) refl (base_of sys floor next p)
    (elim (cases_Bool (takes_checkpoints (policy_of sys.flow p))) [
      | inl takes ↦ as-stands sys floor state choice settled r es a records st p l takes f is (find (is_saved_at p f) left) refl c.before c.after (cut.saved takes)
      | inr takes ↦
          traces-cut_among sys floor state choice settled r p takes f is at c.before c.after (cut.inside takes)
          (above-among sys h p (λ t. true) c.before (c.was false sys h refl (λ t. true) (among-above sys h p old takes t)))
    ])
