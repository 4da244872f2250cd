-- The state of a checkpoint that is made of what is kept of a node is one of the machine's: its totals, and how much it sent.
use Rattle.std.proofs.Common.{◌≡◌, ℕ, ◌+◌, ◌<◌, ◌==◌, ◌&&◌, ◌||◌, Bool, true, false, cond, not, List, [], ◌∷◌, ◌++◌, length, Option, Some, None, refl, sym, ap, ◌∙◌, arith}
use Rattle.std.specs.List.{AllByRecursion}
use Rattle.std.proofs.lemmas.Bool.{cond_both}
use Rattle.fw_lemmas.proofs.Each.{each-weaker}
use Rattle.fw_lemmas.proofs.Filters.{filter-same_on}
use Rattle.fw_lemmas.proofs.Bools.{two_ways}
use Rattle.fw_time.specs.Stamp.{Stamp}
use Rattle.fw_bag.specs.declared.rec.Rec.{Rec}
use Rattle.fw_frontier.specs.Frontier.{Frontier, Within}
use Rattle.fw_frontier.specs.Front.{Front, inside}
use Rattle.fw_frontier.proofs.NamesLaws.{frontier-closed}
use Rattle.fw_frontier.specs.declared.state.SentCount.{SentCount}
use Rattle.fw_flow.specs.declared.event.Event.{Event}
use Rattle.fw_flow.specs.declared.event.Event.TheVariants.{Inject, Deliver, Notify}
use Rattle.fw_flow.specs.declared.event.Message.{Message}
use Rattle.fw_flow.specs.Kind.{Kind}
use Rattle.fw_flow.specs.declared.kind.Kind.TheVariants as kind
use Rattle.fw_flow.specs.declared.kind.Policy.{Policy}
use Rattle.fw_flow.specs.declared.restoring.Restoring.TheVariants.{Checkpoints}
use Rattle.fw_flow.specs.Dataflow.{System, kind_of, policy_of, bounds_of, node_frontier, is_input_kind, is_output_kind}
use Rattle.fw_flow.specs.NodeFunction.{delivered_recs, sequence_sent, sent_by}
use Rattle.fw_flow.specs.Projection.{events_at, all_inside, count_from, sent_count}
use Rattle.fw_flow.specs.Restoring.{restoring, way_of}
use Rattle.fw_flow.specs.WellFormed.{IsWellFormedSystem}
use Rattle.fw_model.specs.Filtering.{events_inside, messages_from}
use Rattle.fw_model.specs.History.{injected_count}
use Rattle.fw_model.specs.Machine.{Machine, events, family_of, front_of, is_failed, no_stamps}
use Rattle.fw_model.specs.Reached.{IsReached}
use Rattle.fw_model.specs.Sending.{SendsByCount}
use Rattle.fw_model.specs.Steps.{newest_checkpoint}
use Rattle.fw_model.specs.Writes.{takes_checkpoints}
use Rattle.fw_model.proofs.DomainLaws.{has_epochs}
use Rattle.fw_model.proofs.LegalLaws.{only_inputs_inject}
use Rattle.fw_model.proofs.SendPartLaws.{part-sends}
use Rattle.fw_model.proofs.SequenceLaws.{no_inject, sent_by-sequence}
use Rattle.fw_edge.proofs.LogLaws.{filter-both}
use Rattle.fw_node.specs.declared.node.Node.{Node}
use Rattle.fw_node.specs.Past.{totals_kept, totals_changed}
use Rattle.fw_progress.specs.declared.counts.Counts.{Counts}
use Rattle.fw_progress.specs.Counts.{sent_of}
use Rattle.fw_progress.specs.History.{IsCountOf}
use Rattle.fw_model.proofs.CauseLaws.{sent_by-one_cause}
use Rattle.fw_policy.specs.Entries.{sent_by_node}
use Rattle.fw_stands.specs.Parts.{has_table, sums_up, table_base, table_front, IsTableIn}
use Rattle.fw_stands.specs.Written.{events_within, count_within, told_inside}
use Rattle.fw_stands.proofs.AtReached.{reached-legal}
use Rattle.fw_stands.proofs.TableBaseLaws.{base-within}
use Rattle.fw_stands.proofs.RecoveredFacts.{legal-caused}
use Rattle.fw_stands.proofs.RecoveredTables.{within-at}
use Rattle.fw_settle.specs.Checkpoints.{AreTotalsAt, AreTotalsSince, AreSendsOf, is_sent_since, messages_told, told_epochs}
use Rattle.fw_settle.proofs.LogLaws.{messages_due, told-due}

-- ---- the table

inner-kind : (k : Kind) (p : Policy) → restoring k p ≡ Checkpoints → (is_input_kind k ≡ false) × (is_output_kind k ≡ false)
inner-kind kind.Input p e = absurd (cc)
inner-kind kind.OutputEpoch p e = absurd (cc)
inner-kind kind.OutputNumber p e = absurd (cc)
inner-kind k p e = (refl, refl)

-- a node that takes checkpoints and is not failed has a table
pub table-there : (sys : System) (state : Machine) (p : ℕ) → way_of sys.flow p ≡ Checkpoints → is_failed state p ≡ false → has_table sys state p ≡ true
table-there sys state p way live =
    let k = kind_of sys.flow p in
    let inner = inner-kind k _ way in
    ap (λ b. not (b || (is_output_kind k || is_failed state p))) inner.0
    ∙ ap (λ b. not (false || (b || is_failed state p))) inner.1
    ∙ ap (λ b. not (false || (false || b))) live

-- what its table tells is what its events inside left
totals-told : (sys : System) (state : Machine) (p : ℕ) (f : Front) → has_table sys state p ≡ true → Within (table_base sys state p) (node_frontier sys.flow p f)
    → (table : Option Node) → IsTableIn sys state p table → (totals : List Rec) → AreTotalsAt sys.flow table p f totals
    → totals ≡ totals_kept (kind_of sys.flow p) (delivered_recs (λ d s. node_frontier sys.flow p f s) (events_at sys.flow p (events state.history)))
totals-told sys state p f there within None t totals a = absurd (two_ways (has_table sys state p) there (sym t.there))
totals-told sys state p f there within (Some node) t totals a = a (table_base sys state p) (events_at sys.flow p (events state.history)) within t.of_events

recs-inside : (g : Frontier) (vs : List Event) → delivered_recs (λ d s. true) (events_inside g vs) ≡ delivered_recs (λ d s. g s) vs
recs-inside g [] = refl
recs-inside g (Inject s x ∷ vs) =
    cond_both (g (x ∷ [])) (Inject s x ∷ events_inside g vs) (events_inside g vs) (λ ws. delivered_recs (λ d s. true) ws ≡ delivered_recs (λ d s. g s) vs)
    (λ e. recs-inside g vs) (λ e. recs-inside g vs)
recs-inside g (Deliver e m ∷ vs) = by (g m.at) (recs-inside g vs)
  where
    by : (b : Bool) → delivered_recs (λ d s. true) (events_inside g vs) ≡ delivered_recs (λ d s. g s) vs
        → delivered_recs (λ d s. true) (cond b (Deliver e m ∷ events_inside g vs) (events_inside g vs)) ≡ cond b (m.rec ∷ []) [] ++ delivered_recs (λ d s. g s) vs
    by true h = ap (λ rs. m.rec ∷ rs) h
    by false h = h
recs-inside g (Notify p t ∷ vs) =
    cond_both (g t) (Notify p t ∷ events_inside g vs) (events_inside g vs) (λ ws. delivered_recs (λ d s. true) ws ≡ delivered_recs (λ d s. g s) vs)
    (λ e. recs-inside g vs) (λ e. recs-inside g vs)

pub totals-are : (sys : System) (state : Machine) → IsWellFormedSystem sys → IsReached sys state → (p : ℕ) (f : Front) → way_of sys.flow p ≡ Checkpoints → is_failed state p ≡ false
    → Within (family_of sys.flow state.settled p) (node_frontier sys.flow p f) → (table : Option Node) → IsTableIn sys state p table → (totals : List Rec)
    → AreTotalsAt sys.flow table p f totals
    → totals ≡ totals_kept (kind_of sys.flow p) (delivered_recs (λ d s. true) (events_at sys.flow p (events_within sys state p f)))
totals-are sys state w r p f way live within table t totals a =
    let g = node_frontier sys.flow p f in
    let vs = events_at sys.flow p (events state.history) in
    totals-told sys state p f (table-there sys state p way live) (λ u i. within u (base-within sys w state r p u i)) table t totals a
    ∙ ap (totals_kept (kind_of sys.flow p)) (sym (recs-inside g vs) ∙ ap (delivered_recs (λ d s. true)) (sym (within-at sys state p f)))

-- ---- what changed of it

recs-between : (g n : Frontier) (vs : List Event) → delivered_recs (λ d s. n s) (events_inside g vs) ≡ delivered_recs (λ d s. g s && n s) vs
recs-between g n [] = refl
recs-between g n (Inject s x ∷ vs) =
    cond_both (g (x ∷ [])) (Inject s x ∷ events_inside g vs) (events_inside g vs) (λ ws. delivered_recs (λ d s. n s) ws ≡ delivered_recs (λ d s. g s && n s) vs)
    (λ e. recs-between g n vs) (λ e. recs-between g n vs)
recs-between g n (Deliver e m ∷ vs) = by (g m.at) (recs-between g n vs)
  where
    by : (b : Bool) → delivered_recs (λ d s. n s) (events_inside g vs) ≡ delivered_recs (λ d s. g s && n s) vs
        → delivered_recs (λ d s. n s) (cond b (Deliver e m ∷ events_inside g vs) (events_inside g vs))
        ≡ cond (b && n m.at) (m.rec ∷ []) [] ++ delivered_recs (λ d s. g s && n s) vs
    by true h = ap (λ rs. cond (n m.at) (m.rec ∷ []) [] ++ rs) h
    by false h = h
recs-between g n (Notify p t ∷ vs) =
    cond_both (g t) (Notify p t ∷ events_inside g vs) (events_inside g vs) (λ ws. delivered_recs (λ d s. n s) ws ≡ delivered_recs (λ d s. g s && n s) vs)
    (λ e. recs-between g n vs) (λ e. recs-between g n vs)

totals-told_since : (sys : System) (state : Machine) (p : ℕ) (g f : Front) → has_table sys state p ≡ true → Within (table_base sys state p) (node_frontier sys.flow p f)
    → (sums_up (kind_of sys.flow p) ≡ true → table_front sys state p ≡ g) → (table : Option Node) → IsTableIn sys state p table → (totals : List Rec)
    → AreTotalsSince sys.flow table p g f totals
    → totals ≡ totals_changed (kind_of sys.flow p)
    (delivered_recs (λ d s. node_frontier sys.flow p f s && not (node_frontier sys.flow p g s)) (events_at sys.flow p (events state.history)))
    (delivered_recs (λ d s. node_frontier sys.flow p f s) (events_at sys.flow p (events state.history)))
totals-told_since sys state p g f there within base None t totals a = absurd (two_ways (has_table sys state p) there (sym t.there))
totals-told_since sys state p g f there within base (Some node) t totals a = a (table_front sys state p) (events_at sys.flow p (events state.history)) within base t.of_events

-- what its table tells of the keys that changed is what its events inside left since its newest checkpoint
pub totals-since : (sys : System) (state : Machine) → IsWellFormedSystem sys → IsReached sys state → (p : ℕ) (g f : Front) → takes_checkpoints (policy_of sys.flow p) ≡ true
    → newest_checkpoint p (no_stamps (bounds_of sys.flow p)) state.writes ≡ g → way_of sys.flow p ≡ Checkpoints → is_failed state p ≡ false
    → Within (family_of sys.flow state.settled p) (node_frontier sys.flow p f) → (table : Option Node) → IsTableIn sys state p table → (totals : List Rec)
    → AreTotalsSince sys.flow table p g f totals
    → totals ≡ totals_changed (kind_of sys.flow p) (delivered_recs (λ d s. not (node_frontier sys.flow p g s)) (events_at sys.flow p (events_within sys state p f)))
    (delivered_recs (λ d s. true) (events_at sys.flow p (events_within sys state p f)))
totals-since sys state w r p g f takes newest way live within table t totals a =
    let inner = node_frontier sys.flow p f in
    let after : Frontier = λ s. not (node_frontier sys.flow p g s) in
    let vs = events_at sys.flow p (events state.history) in
    let there = within-at sys state p f in
    let base : sums_up (kind_of sys.flow p) ≡ true → table_front sys state p ≡ g = λ sums.
    ap (λ b. cond b (newest_checkpoint p (no_stamps (bounds_of sys.flow p)) state.writes) (front_of state.settled p)) (ap (λ b. b && sums_up (kind_of sys.flow p)) takes ∙ sums) ∙ newest in
    totals-told_since sys state p g f (table-there sys state p way live) (λ u i. within u (base-within sys w state r p u i)) base table t totals a
    ∙ ap (λ rs. totals_changed (kind_of sys.flow p) rs (delivered_recs (λ d s. inner s) vs))
    (sym (recs-between inner after vs) ∙ ap (delivered_recs (λ d s. after s)) (sym there))
    ∙ ap (totals_changed (kind_of sys.flow p) (delivered_recs (λ d s. after s) (events_at sys.flow p (events_within sys state p f))))
    (sym (recs-inside inner vs) ∙ ap (delivered_recs (λ d s. true)) (sym there))

-- ---- how much it sent

count-length : (g : Frontier) (ms : List Message) → count_from g ms ≡ length (messages_from g ms)
count-length g [] = refl
count-length g (m ∷ ms) = by (all_inside g m.causes) (count-length g ms)
  where
    by : (b : Bool) → count_from g ms ≡ length (messages_from g ms) → cond b (count_from g ms + 1) (count_from g ms) ≡ length (cond b (m ∷ messages_from g ms) (messages_from g ms))
    by true h = omega (arith, h)
    by false h = h

pub sent-within : (sys : System) (state : Machine) (p : ℕ) (f : Front) (n : ℕ)
    → n ≡ sent_count sys (events state.history) p (node_frontier sys.flow p f) → n ≡ count_within sys state p f
sent-within sys state p f n e = e ∙ count-length (node_frontier sys.flow p f) (sent_by_node sys (events state.history) p)

fewer-injected : (g : Frontier) (p : ℕ) (h : List Event) → injected_count p h ≡ 0 → injected_count p (events_inside g h) ≡ 0
fewer-injected g p [] n = n
fewer-injected g p (Inject s x ∷ h) n = by (s == p) refl n (fewer-injected g p h)
  where
    by : (b : Bool) → (s == p) ≡ b → cond b (injected_count p h + 1) (injected_count p h) ≡ 0 → (injected_count p h ≡ 0 → injected_count p (events_inside g h) ≡ 0)
        → injected_count p (events_inside g (Inject s x ∷ h)) ≡ 0
    by true e k rest = absurd (omega arith)
    by false e k rest =
        cond_both (g (x ∷ [])) (Inject s x ∷ events_inside g h) (events_inside g h) (λ ws. injected_count p ws ≡ 0)
        (λ i. ap (λ b. cond b (injected_count p (events_inside g h) + 1) (injected_count p (events_inside g h))) e ∙ rest k)
        (λ i. rest k)
fewer-injected g p (Deliver e m ∷ h) n =
    cond_both (g m.at) (Deliver e m ∷ events_inside g h) (events_inside g h) (λ ws. injected_count p ws ≡ 0) (λ i. fewer-injected g p h n) (λ i. fewer-injected g p h n)
fewer-injected g p (Notify q t ∷ h) n =
    cond_both (g t) (Notify q t ∷ events_inside g h) (events_inside g h) (λ ws. injected_count p ws ≡ 0) (λ i. fewer-injected g p h n) (λ i. fewer-injected g p h n)

-- a sequence numbered as many messages as it sent
pub numbered-within : (sys : System) (state : Machine) → IsWellFormedSystem sys → IsReached sys state → (p : ℕ) (f : Front) → SendsByCount (kind_of sys.flow p)
    → count_within sys state p f ≡ length (sequence_sent (events_at sys.flow p (events_within sys state p f)))
numbered-within sys state w r p f is =
    let h = events state.history in
    let g = node_frontier sys.flow p f in
    let legal = reached-legal sys state w r in
    let none = no_inject sys.flow p (events_inside g h) (fewer-injected g p h (only_inputs_inject sys h legal p (ap is_input_kind is))) in
    ap length (sym (part-sends sys h w.flow (has_epochs sys w) legal p g (frontier-closed (bounds_of sys.flow p) f))
    ∙ ap (sent_by sys p) (sym (within-at sys state p f))
    ∙ sent_by-sequence sys p is (events_at sys.flow p (events_inside g h)) none)

causes-both : (f g : Frontier) (cs : List Stamp) → all_inside (λ t. f t && g t) cs ≡ (all_inside f cs && all_inside g cs)
causes-both f g [] = refl
causes-both f g (c ∷ cs) = ap (λ b. (f c && g c) && b) (causes-both f g cs) ∙ four (f c) (g c) (all_inside f cs) (all_inside g cs)
  where
    four : (a b c d : Bool) → ((a && b) && (c && d)) ≡ ((a && c) && (b && d))
    four true true c d = refl
    four true false true d = refl
    four true false false d = refl
    four false b c d = refl

count-both : (f g : Frontier) (ms : List Message) → count_from (λ t. f t && g t) ms ≡ count_from g (messages_from f ms)
count-both f g [] = refl
count-both f g (m ∷ ms) =
    ap (λ b. cond b (count_from (λ t. f t && g t) ms + 1) (count_from (λ t. f t && g t) ms)) (causes-both f g m.causes)
    ∙ by (all_inside f m.causes) (all_inside g m.causes) refl (count-both f g ms)
  where
    by : (a b : Bool) → all_inside g m.causes ≡ b → count_from (λ t. f t && g t) ms ≡ count_from g (messages_from f ms)
        → cond (a && b) (count_from (λ t. f t && g t) ms + 1) (count_from (λ t. f t && g t) ms) ≡ count_from g (cond a (m ∷ messages_from f ms) (messages_from f ms))
    by true b e rest =
        ap (λ n. cond b (n + 1) n) rest ∙ sym (ap (λ x. cond x (count_from g (messages_from f ms) + 1) (count_from g (messages_from f ms))) e)
    by false b e rest = rest

-- one cause is inside what is since then exactly where it was sent since then
cause-told : (since : Option Front) (f : Front) (causes : List Stamp) (t : Stamp) → causes ≡ t ∷ []
    → all_inside (told_epochs since f) causes ≡ (is_sent_since since causes && all_inside (inside f) causes)
cause-told None f causes t is = refl
cause-told (Some g) f causes t is =
    ap (all_inside (told_epochs (Some g) f)) is ∙ four (inside g t) (inside f t)
    ∙ sym (ap (λ cs. not (all_inside (inside g) cs) && all_inside (inside f) cs) is)
  where
    four : (a b : Bool) → ((not a && b) && true) ≡ (not (a && true) && (b && true))
    four true b = refl
    four false true = refl
    four false false = refl

-- of messages with one cause each those from the epochs inside since then are those sent since then
epochs-told : (since : Option Front) (f : Front) (ms : List Message) → AllByRecursion (λ (m : Message). (t : Stamp) × (m.causes ≡ t ∷ [])) ms
    → messages_from (told_epochs since f) ms ≡ messages_told since f ms
epochs-told since f ms one =
    let after : Message → Bool = λ m. is_sent_since since m.causes in
    let from : Message → Bool = λ m. all_inside (inside f) m.causes in
    filter-same_on (λ (m : Message). all_inside (told_epochs since f) m.causes) (λ m. after m && from m) ms
    (each-weaker (λ (m : Message). (t : Stamp) × (m.causes ≡ t ∷ [])) (λ m. all_inside (told_epochs since f) m.causes ≡ (after m && from m)) ms
    (λ m c. cause-told since f m.causes c.0 c.1) one)
    ∙ filter-both after from ms

-- what a sequence tells of what it sent since then, by its table
pub sends-are : (sys : System) (state : Machine) → IsWellFormedSystem sys → IsReached sys state → (p : ℕ) → p < length sys.flow.nodes → SendsByCount (kind_of sys.flow p)
    → (since : Option Front) (f : Front) (counts : Counts) → IsCountOf sys (events state.history) counts → (sends : List SentCount)
    → AreSendsOf (told_epochs since f) (sent_of counts p) sends
    → (g : Frontier) → told_inside g sends ≡ length (messages_from g (messages_due sys.flow p since f (sent_by_node sys (events state.history) p)))
sends-are sys state w r p l is since f counts k sends a g =
    let h = events state.history in
    let ms = sent_by_node sys h p in
    a.told g
    ∙ k.sent p l is (λ t. told_epochs since f t && g t)
    ∙ count-both (told_epochs since f) g ms
    ∙ count-length g (messages_from (told_epochs since f) ms)
    ∙ ap (λ xs. length (messages_from g xs)) (epochs-told since f ms (sent_by-one_cause sys p (events_at sys.flow p h)))
    ∙ ap (λ xs. length (messages_from g xs)) (told-due sys.flow p since f ms (legal-caused sys h w.flow (has_epochs sys w) (reached-legal sys state w r) p))
