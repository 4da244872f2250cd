-- What is kept fits the flow where a node takes an event in.
use Rattle.std.proofs.Common.{◌≡◌, ◌≢◌, ℕ, ◌<◌, ◌^◌, Bool, true, false, cond, List, [], ◌∷◌, length, Option, Some, None, Result, Ok, Err, refl, sym, ap, subst, ◌∙◌, inl, inr, arith}
use Rattle.std.specs.Prelude.{IfSome, OnErr, OnOk, slice_index_or, unwrap_or}
use Rattle.std.specs.Map.{lookup}
use Rattle.std.specs.BTreeMap.{is_at}
use Rattle.std.specs.List.{AllByRecursion, Contains}
use Rattle.std.proofs.lemmas.Bool.{cases_Bool, cases_eq}
use Rattle.std.proofs.lemmas.List.{get_or-set_other, length-set}
use Rattle.fw_lemmas.proofs.Each.{each-append}
use Rattle.fw_time.specs.Stamp.{Stamp, in_domain, same, stamp_cmp}
use Rattle.fw_time.specs.declared.stamp.Bounds.{Bounds}
use Rattle.fw_time.proofs.StampLaws.{same-refl}
use Rattle.fw_bag.specs.declared.rec.Rec.{Rec}
use Rattle.fw_frontier.specs.Front.{inside}
use Rattle.fw_flow.specs.declared.choice.Stamps.{Stamps}
use Rattle.fw_flow.specs.declared.event.Message.{Message}
use Rattle.fw_flow.specs.Dataflow.{bounds_of, kind_of, receiver, is_notified_kind}
use Rattle.fw_flow.proofs.MessageLaws.{without-each}
use Rattle.fw_model.specs.Machine.{front_of}
use Rattle.fw_border.specs.Outputs.{OutputState, new_output, output_at, with_output}
use Rattle.fw_border.specs.Sources.{advanced, next_batch, source_at, unused_source, with_source}
use Rattle.fw_record.specs.declared.record.Event.{Event as Logged}
use Rattle.fw_record.specs.declared.record.Record.TheVariants as tagged
use Rattle.fw_keep.specs.declared.entry.Entry.{Entry}
use Rattle.fw_record.specs.Event.{stamp_of_event}
use Rattle.fw_keep.specs.Entry.{asked}
use Rattle.fw_keep.specs.Stored.{Records}
use Rattle.fw_edge.specs.Messages.{MessagesState}
use Rattle.fw_node.specs.declared.node.Node.{Node}
use Rattle.fw_node.specs.NodeOf.{IsNodeOf}
use Rattle.fw_progress.specs.declared.traces.Traces.{Traces}
use Rattle.fw_progress.specs.Counts.{owed_of}
use Rattle.fw_progress.specs.Progress.{DeliversOne, IsInjected, IsNotified, Standing}
use Rattle.fw_progress.specs.Tally.{times_in, HasNoMore}
use Rattle.fw_progress.proofs.TallyLaws.{is_eq-same}
use Rattle.fw_rollback.specs.Edges.{on_edge}
use Rattle.fw_running.specs.Logging.{ChangesKeep, IsAsked, IsAskRefused}
use Rattle.fw_running.specs.declared.running.Running.{Running}
use Rattle.fw_running.specs.Kept.{queue_at, table_of, source_of, output_of, with_tables}
use Rattle.fw_running.specs.Places.{IsPut}
use Rattle.fw_running.specs.Ready.{HasSomething, IsOwing}
use Rattle.fw_running.specs.Shaped.{IsOnEdge, IsShaped, IsWrittenOf}
use Rattle.fw_running.proofs.KeptShapes.{shaped-keep}
use Rattle.fw_events.specs.Sending.{with_queues}
use Rattle.fw_events.specs.Taking.{with_outputs, with_sources, with_told, without_found, TakesOff}
use Rattle.fw_events.proofs.ShapedLaws.{shaped-outputs, shaped-queues, shaped-sources, shaped-tables}

-- ---- a message that is pending no more

without-none : (found : Option Message) → without_found found [] ≡ []
without-none None = refl
without-none (Some m) = refl

without-fits : (P : Message → Type 0) (found : Option Message) (ms : List Message) → AllByRecursion P ms → AllByRecursion P (without_found found ms)
without-fits P None ms a = a
without-fits P (Some m) ms a = without-each P m ms a

-- what is found of what is pending on an edge is taken off, and all fits as before
pub shaped-taken : (old new : Running) (d : ℕ) (found : Option Message) → IsShaped old
    → new ≡ with_queues new.parts.queues old.ready.edges old → length new.parts.queues ≡ length old.parts.queues
    → queue_at new d ≡ without_found found (queue_at old d) → ((e : ℕ) → e ≢ d → on_edge new.parts.queues e ≡ on_edge old.parts.queues e)
    → IsShaped new
shaped-taken old new d found s is each here others =
    let there : (e : ℕ) → e ≢ d → queue_at new e ≡ queue_at old e = λ e n. ap (λ (x : MessagesState). x.messages) (others e n) in
    subst IsShaped (sym is) (shaped-queues old new.parts.queues old.ready.edges s each
    (λ e. elim (cases_eq e d) [
      | inl k ↦ subst (λ x. AllByRecursion (IsOnEdge old.flow x) (queue_at new x)) (sym k)
          (subst (AllByRecursion (IsOnEdge old.flow d)) (sym here) (without-fits (IsOnEdge old.flow d) found (queue_at old d) (s.queues d)))
      | inr n ↦ subst (AllByRecursion (IsOnEdge old.flow e)) (sym (there e n)) (s.queues e)
    ])
    (λ e c. s.ready.edges e (record {
      there = c.there;
      live = c.live;
      some = elim (cases_eq e d) [
        | inl k ↦ λ none. c.some (ap (queue_at new) k ∙ here ∙ ap (without_found found) (ap (queue_at old) (sym k) ∙ none) ∙ without-none found)
        | inr n ↦ λ none. c.some (there e n ∙ none)
      ];
    })))

-- so is the message that is found
pub taken-off : (old new : Running) (d : ℕ) (found : Option Message) (m : Message) → found ≡ Some m
    → queue_at new d ≡ without_found found (queue_at old d) → ((e : ℕ) → e ≢ d → on_edge new.parts.queues e ≡ on_edge old.parts.queues e)
    → TakesOff d m old new
taken-off old new d found m is here others = record {
  queue = here ∙ ap (λ x. without_found x (queue_at old d)) is;
  others = λ e n. ap (λ (x : MessagesState). x.messages) (others e n);
}

-- ---- a table that takes an event in

-- each table is of its node as before, where that of one node is
pub shaped-table : (old new : Running) (p : ℕ) → IsShaped old → new ≡ with_tables new.parts.tables old
    → length new.parts.tables ≡ length old.parts.tables → ((q : ℕ) → q ≢ p → table_of new q ≡ table_of old q)
    → IfSome (table_of new p) (IsNodeOf old.flow p) → IsShaped new
shaped-table old new p s is each there here =
    subst IsShaped (sym is) (shaped-tables old new.parts.tables s each
    (λ q k. elim (cases_eq q p) [
      | inl e ↦ subst (λ x. IfSome (table_of new x) (IsNodeOf old.flow x)) (sym e) here
      | inr n ↦ subst (λ (t : Option Node). IfSome t (IsNodeOf old.flow q)) (sym (there q n)) (s.tables q k)
    ]))

-- ---- an input that goes on

-- an input that had a batch goes on by one
pub shaped-source : (old new : Running) (i : ℕ) → IsShaped old → new ≡ with_sources new.parts.sources old
    → new.parts.sources ≡ with_source advanced old.parts.sources i → next_batch (source_of old i) ≢ None → IsShaped new
shaped-source old new i s is sources some =
    let there : (q : ℕ) → q ≢ i → source_of new q ≡ source_of old q = λ q n.
    ap (λ ss. source_at ss q) sources ∙ get_or-set_other old.parts.sources i q (advanced (source_of old i)) (unused_source []) n in
    subst IsShaped (sym is) (shaped-sources old new.parts.sources s (ap length sources ∙ length-set old.parts.sources i (advanced (source_of old i)))
    (λ q c. s.ready.inputs q (record {
      there = c.there;
      live = c.live;
      input = c.input;
      some = elim (cases_eq q i) [
        | inl k ↦ λ none. some (ap (λ x. next_batch (source_of old x)) (sym k) ∙ none)
        | inr n ↦ λ none. c.some (ap next_batch (there q n) ∙ none)
      ];
    })))

-- ---- an output that keeps a rec

-- an output keeps a rec more, and is among those that are ready
pub shaped-output : (old new : Running) (o : ℕ) (change : OutputState → OutputState) → IsShaped old
    → new ≡ with_outputs new.parts.outputs new.ready.outputs old → new.parts.outputs.outputs ≡ with_output change old.parts.outputs.outputs o
    → IsPut o old.ready.outputs new.ready.outputs → IsShaped new
shaped-output old new o change s is outputs put =
    let there : (q : ℕ) → q ≢ o → output_of new q ≡ output_of old q = λ q n.
    ap (λ os. output_at os q) outputs ∙ get_or-set_other old.parts.outputs.outputs o q (change (output_of old o)) new_output n in
    subst IsShaped (sym is) (shaped-outputs old new.parts.outputs new.ready.outputs s
    (ap length outputs ∙ length-set old.parts.outputs.outputs o (change (output_of old o)))
    (λ q c. elim (cases_eq q o) [
      | inl k ↦ subst (Contains new.ready.outputs) (sym k) put.there
      | inr n ↦ put.stays q (s.ready.outputs q (record {
        there = c.there;
        live = c.live;
        output = c.output;
        number = subst (λ (x : OutputState). x.bound < 2 ^ 32) (there q n) c.number;
        settled = subst (λ (x : OutputState). inside (front_of old.progress.settled q) (x.bound ∷ []) ≡ true) (there q n) c.settled;
        some = subst (λ (x : OutputState). HasSomething old.epochs x (kind_of old.flow q) x.bound) (there q n) c.some;
      }))
    ]))

-- ---- what is owed

-- a node that is owed a notification after a delivery was owed one before, or is the receiver, which is put among those that are ready
pub owing-delivered : (old : Running) (traces : Traces) (progress : Standing) (d : ℕ) (at : Stamp) (sent : List (Stamp × Rec)) → IsShaped old
    → DeliversOne old.flow d at sent old.progress.counts progress.counts
    → (is_notified_kind (kind_of old.flow (receiver old.flow d)) ≡ true → Contains old.ready.owing (receiver old.flow d))
    → (q : ℕ) → IsOwing (with_told traces progress old) q → Contains old.ready.owing q
owing-delivered old traces progress d at sent s t put q c = elim (cases_Bool (is_notified_kind (kind_of old.flow (receiver old.flow d)))) [
  | inl k ↦ elim (cases_eq q (receiver old.flow d)) [
    | inl e ↦ subst (Contains old.ready.owing) (sym e) (put k)
    | inr n ↦ s.ready.owing q (record { there = c.there; live = c.live; some = λ none. c.some ((t.owes k).others q n ∙ none) })
  ]
  | inr k ↦ s.ready.owing q
      (record { there = c.there; live = c.live; some = λ none. c.some (ap (λ xs. slice_index_or xs q []) (t.owes_none k) ∙ none) })
]

-- an injection owes nothing
pub owing-injected : (old : Running) (traces : Traces) (progress : Standing) (p : ℕ) (sent : List (Stamp × Rec)) → IsShaped old
    → IsInjected old.flow p sent old.progress.counts progress.counts → (q : ℕ) → IsOwing (with_told traces progress old) q → Contains old.ready.owing q
owing-injected old traces progress p sent s t q c =
    s.ready.owing q (record { there = c.there; live = c.live; some = λ none. c.some (ap (λ xs. slice_index_or xs q []) t.owed ∙ none) })

cond-same : (b : Bool) (n : ℕ) → cond b n n ≡ n
cond-same true n = refl
cond-same false n = refl

-- of what has none, there is none where there is none more
none-more : (at : Stamp) (bounds : Bounds) (new : List (Stamp × ℕ)) → HasNoMore at [] new → new ≡ []
unfolding times_in
none-more at bounds [] h = refl
none-more at bounds (e ∷ es) h =
    let tally = h.domain bounds (record { of_domain = tt; positive = tt }) in
    let first : times_in e.0 (e ∷ es) ≡ e.1 =
    ap (λ b. unwrap_or (cond b (Some e.1) (lookup (is_at (stamp_cmp e.0)) es)) 0) (is_eq-same e.0 e.0 ∙ same-refl e.0) in
    let zero_there : times_in e.0 (e ∷ es) ≡ 0 = h.times e.0 ∙ cond-same (same at e.0) 0 in
    let zero_first : e.1 ≡ 0 = sym first ∙ zero_there in
    let some : 0 < e.1 = tally.positive.0 in
    absurd (omega arith)

-- a notification owes nothing more
pub owing-notified : (old : Running) (traces : Traces) (progress : Standing) (p : ℕ) (at : Stamp) (sent : List (Stamp × Rec)) → IsShaped old
    → IsNotified old.flow p at sent old.progress.counts progress.counts → (q : ℕ) → IsOwing (with_told traces progress old) q → Contains old.ready.owing q
owing-notified old traces progress p at sent s t q c =
    s.ready.owing q (record {
      there = c.there;
      live = c.live;
      some = λ none. c.some (elim (cases_eq q p) [
        | inl e ↦ ap (owed_of progress.counts) e
            ∙ none-more at (bounds_of old.flow p) (owed_of progress.counts p)
            (subst (λ es. HasNoMore at es (owed_of progress.counts p)) (ap (owed_of old.progress.counts) (sym e) ∙ none) t.paid.here)
        | inr n ↦ t.paid.others q n ∙ none
      ]);
    })

-- ---- a write that is asked

-- an event of a node at a stamp of its domain is asked, or nothing is, and all fits as before
pub shaped-asked : {T E : Type 0} (result : Result T E) (old new : Running) (p : ℕ) (event : Logged) (stamps : Stamps) (before after : Option Records)
    → IsShaped old → ChangesKeep old new → in_domain (bounds_of old.flow p) (stamp_of_event event) ≡ true
    → OnOk result (IsAsked (tagged.Event p event) stamps old.parts.keep.entries new.parts.keep.entries before after)
    → OnErr result (IsAskRefused old.parts.keep new.parts.keep before after) → IsShaped new
shaped-asked (Ok x) old new p event stamps before after s c at a n =
    subst IsShaped (sym c) (shaped-keep old new.parts.keep s
    (subst (AllByRecursion (λ (e : Entry). IsWrittenOf old.flow e.node e.written)) (sym a.entries)
    (each-append (λ (e : Entry). IsWrittenOf old.flow e.node e.written) old.parts.keep.entries (asked a.id (tagged.Event p event) stamps ∷ []) s.entries (at, tt))))
shaped-asked (Err e) old new p event stamps before after s c at a n =
    subst IsShaped (sym c) (shaped-keep old new.parts.keep s
    (subst (AllByRecursion (λ (e : Entry). IsWrittenOf old.flow e.node e.written)) (sym n.entries) s.entries))
