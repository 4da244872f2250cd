-- What is counted after a recovery.
use Rattle.std.proofs.Common.{◌≡◌, ℕ, ◌+◌, Bool, true, false, cond, ◌&&◌, List, [], ◌∷◌, filter, refl, sym, ap, subst, ◌∙◌, inl, inr, arith, ◌<◌, length, slice_index_or}
use Rattle.std.specs.List.{AllByRecursion}
use Rattle.std.proofs.lemmas.Bool.{and_from, cases_Bool, cond_both, or_cases}
use Rattle.std.proofs.lemmas.List.Kept.{IsNonDecreasingBy-filter}
use Rattle.fw_lemmas.proofs.Bools.{two_ways}
use Rattle.fw_lemmas.proofs.Each.{each-weaker, each-filter}
use Rattle.fw_time.specs.Stamp.{Stamp, same, in_domain}
use Rattle.fw_frontier.specs.Frontier.{Frontier}
use Rattle.fw_frontier.specs.Front.{Front, inside}
use Rattle.fw_flow.specs.declared.choice.Choice.{Choice}
use Rattle.fw_flow.specs.declared.choice.Cut.{Cut}
use Rattle.fw_flow.specs.declared.choice.Cut.TheVariants.{Present, At}
use Rattle.fw_flow.specs.declared.event.Event.{Event}
use Rattle.fw_flow.specs.declared.event.Event.TheVariants.{Inject, Deliver, Notify}
use Rattle.fw_flow.specs.declared.event.Message.{Message}
use Rattle.fw_flow.specs.Counting.{how_many}
use Rattle.fw_flow.specs.Dataflow.{System, bounds_of, node_frontier, kind_of}
use Rattle.fw_flow.specs.NodeFunction.{event_stamp, sent_by}
use Rattle.fw_flow.specs.Projection.{events_at, all_inside, count_from, table_count}
use Rattle.fw_model.specs.Choice.{cut_of, kept_of}
use Rattle.fw_model.specs.Filtering.{messages_from}
use Rattle.fw_model.specs.History.{pending_messages, was_notified}
use Rattle.fw_model.specs.Machine.{Machine, events}
use Rattle.fw_model.specs.Sending.{SendsByCount}
use Rattle.fw_model.specs.SortedMessages.{sorted_messages}
use Rattle.fw_model.specs.Steps.{front_of_cut, recovered_state}
use Rattle.fw_model.specs.Told.{is_told}
use Rattle.fw_model.proofs.LegalLaws.{legal_events-in_domain}
use Rattle.fw_model.proofs.LocalityLaws.{sent_by-same}
use Rattle.fw_model.proofs.SortedLaws.{sorted_messages-weigh}
use Rattle.fw_model.proofs.StampLaws.{same-is}
use Rattle.fw_model.proofs.WeightLaws.{weigh}
use Rattle.fw_model.proofs.ToldLaws.{notified-told}
use Rattle.fw_progress.specs.Counts.{sent_of}
use Rattle.fw_progress.specs.Cut.{IsTableAfter, events_left, AreTablesAfter, ArePendingAfter}
use Rattle.fw_progress.specs.History.{count_at, IsCountOf}
use Rattle.fw_progress.specs.declared.counts.Counts.{Counts}
use Rattle.fw_progress.specs.Tally.{times_in}
use Rattle.fw_stands.specs.Recovered.{Recovers, table_left}
use Rattle.fw_stands.proofs.RecoveredFacts.{knows, events-now, from-cut, legal-caused}
use Rattle.fw_stands.proofs.RecoveredQueues.{queued-now}
use Rattle.fw_stands.proofs.RecoveredTables.{events-present, events-cut}
use Rattle.fw_stands.proofs.RedoneLaws.{told-notified, told-inside}
use Rattle.fw_stands.specs.Parts.{queued}

-- ---- what is pending

how_many-weigh : {X : Type 0} (test : X → Bool) (xs : List X) → how_many test xs ≡ weigh (λ x. cond (test x) 1 0) xs
unfolding weigh
how_many-weigh test [] = refl
how_many-weigh {X} test (x ∷ xs) =
    let one : X → ℕ = λ y. cond (test y) 1 0 in
    let rest : how_many test xs ≡ weigh one xs = how_many-weigh test xs in
    cond_both (test x) (how_many test xs + 1) (how_many test xs) (λ n. cond (test x) 1 0 + weigh one xs ≡ n → n ≡ cond (test x) 1 0 + weigh one xs)
    (λ e h. sym h) (λ e h. sym h)
    (elim (cases_Bool (test x)) [
      | inl i ↦
          let a : cond (test x) 1 0 + weigh one xs ≡ 1 + weigh one xs = ap (λ b. cond b 1 0 + weigh one xs) i in
          let b : cond (test x) (how_many test xs + 1) (how_many test xs) ≡ how_many test xs + 1 = ap (λ b. cond b (how_many test xs + 1) (how_many test xs)) i in
          a ∙ (let c : 1 + weigh one xs ≡ how_many test xs + 1 = omega arith in c) ∙ sym b
      | inr i ↦
          let a : cond (test x) 1 0 + weigh one xs ≡ 0 + weigh one xs = ap (λ b. cond b 1 0 + weigh one xs) i in
          let b : cond (test x) (how_many test xs + 1) (how_many test xs) ≡ how_many test xs = ap (λ b. cond b (how_many test xs + 1) (how_many test xs)) i in
          a ∙ (let c : 0 + weigh one xs ≡ how_many test xs = omega arith in c) ∙ sym b
    ])

-- in order there are as many at each stamp
count-sorted : (t : Stamp) (ms : List Message) → count_at t (sorted_messages ms) ≡ count_at t ms
count-sorted t ms =
    let test : Message → Bool = λ m. same t m.at in
    how_many-weigh test (sorted_messages ms) ∙ sorted_messages-weigh (λ m. cond (test m) 1 0) ms ∙ sym (how_many-weigh test ms)

-- counts of what is queued after a recovery count what is pending
pub queues-count : (sys : System) (state : Machine) (choice : Choice) (settled : List Front) (pending : List (List (Stamp × ℕ)))
    → ((e : ℕ) → e < length sys.flow.edges → (t : Stamp)
    → times_in t (slice_index_or pending e []) ≡ count_at t (queued sys (recovered_state sys state choice settled) e))
    → ArePendingAfter sys (events_left sys choice state.history) pending
queues-count sys state choice settled pending counted e l t =
    counted e l t ∙ ap (count_at t) (queued-now sys state choice settled e)
    ∙ count-sorted t (pending_messages sys (events (recovered_state sys state choice settled).history) e)

-- ---- what sequences sent

-- two tests of epochs, one after the other
table-both : (f g : Frontier) (table : List (ℕ × ℕ)) → table_count g (filter (λ entry. f (entry.0 ∷ [])) table) ≡ table_count (λ t. f t && g t) table
table-both f g [] = refl
table-both f g (x ∷ table) =
    let rest = table-both f g table in
    let left = filter (λ (entry : ℕ × ℕ). f (entry.0 ∷ [])) table in
    let all = table_count (λ t. f t && g t) table in
    by (f (x.0 ∷ [])) (g (x.0 ∷ [])) refl rest
  where
    by : (a b : Bool) → g (x.0 ∷ []) ≡ b
        → table_count g (filter (λ (entry : ℕ × ℕ). f (entry.0 ∷ [])) table) ≡ table_count (λ t. f t && g t) table
        → table_count g (cond a (x ∷ filter (λ (entry : ℕ × ℕ). f (entry.0 ∷ [])) table) (filter (λ (entry : ℕ × ℕ). f (entry.0 ∷ [])) table))
        ≡ cond (a && b) (x.1 + table_count (λ t. f t && g t) table) (table_count (λ t. f t && g t) table)
    by true true e rest = ap (λ c. cond c (x.1 + table_count g (filter (λ (entry : ℕ × ℕ). f (entry.0 ∷ [])) table)) (table_count g (filter (λ (entry : ℕ × ℕ). f (entry.0 ∷ [])) table))) e ∙ ap (λ n. x.1 + n) rest
    by true false e rest = ap (λ c. cond c (x.1 + table_count g (filter (λ (entry : ℕ × ℕ). f (entry.0 ∷ [])) table)) (table_count g (filter (λ (entry : ℕ × ℕ). f (entry.0 ∷ [])) table))) e ∙ rest
    by false b e rest = rest

causes-both : (f g : Frontier) (cs : List Stamp) → all_inside (λ t. f t && g t) cs ≡ (all_inside f cs && all_inside g cs)
causes-both f g [] = refl
causes-both f g (c ∷ cs) = ap (λ b. (f c && g c) && b) (causes-both f g cs) ∙ four (f c) (g c) (all_inside f cs) (all_inside g cs)
  where
    four : (a b c d : Bool) → ((a && b) && (c && d)) ≡ ((a && c) && (b && d))
    four true true c d = refl
    four true false true d = refl
    four true false false d = refl
    four false b c d = refl

-- of messages two tests of causes, one after the other
count-both : (f g : Frontier) (ms : List Message) → count_from g (messages_from f ms) ≡ count_from (λ t. f t && g t) ms
count-both f g [] = refl
count-both f g (m ∷ ms) =
    by (all_inside f m.causes) (all_inside g m.causes) (all_inside (λ t. f t && g t) m.causes) refl (causes-both f g m.causes) (count-both f g ms)
  where
    by : (a b c : Bool) → all_inside g m.causes ≡ b → c ≡ (a && b) → count_from g (messages_from f ms) ≡ count_from (λ t. f t && g t) ms
        → count_from g (cond a (m ∷ messages_from f ms) (messages_from f ms)) ≡ cond c (count_from (λ t. f t && g t) ms + 1) (count_from (λ t. f t && g t) ms)
    by true true c e k rest =
        ap (λ x. cond x (count_from g (messages_from f ms) + 1) (count_from g (messages_from f ms))) e ∙ ap (λ n. n + 1) rest
        ∙ sym (ap (λ x. cond x (count_from (λ t. f t && g t) ms + 1) (count_from (λ t. f t && g t) ms)) k)
    by true false c e k rest =
        ap (λ x. cond x (count_from g (messages_from f ms) + 1) (count_from g (messages_from f ms))) e ∙ rest
        ∙ sym (ap (λ x. cond x (count_from (λ t. f t && g t) ms + 1) (count_from (λ t. f t && g t) ms)) k)
    by false b c e k rest = rest ∙ sym (ap (λ x. cond x (count_from (λ t. f t && g t) ms + 1) (count_from (λ t. f t && g t) ms)) k)

-- what is told is at a stamp of the domain
told-domain : (D : Stamp → Type 0) (vs : List Event) → AllByRecursion (λ v. D (event_stamp v)) vs → (s : Stamp) → is_told vs s ≡ true → D s
told-domain D [] a s i = absurd (two_ways false i refl)
told-domain D (Inject q x ∷ vs) a s i = told-domain D vs a.1 s i
told-domain D (Deliver e m ∷ vs) a s i = told-domain D vs a.1 s i
told-domain D (Notify q t ∷ vs) a s i = elim (or_cases (same s t) (is_told vs s) i) [
  | inl j ↦ subst D (sym (same-is s t j)) a.0
  | inr j ↦ told-domain D vs a.1 s j
]

table-left : (sys : System) (state : Machine) (choice : Choice) (settled : List Front) → Recovers sys state choice settled
    → (p : ℕ) → (table : List (ℕ × ℕ)) → IsTableAfter sys (events state.history) p table → (cut : Cut) → cut_of choice p ≡ cut
    → IsTableAfter sys (events_left sys choice state.history) p (table_left cut table)
table-left sys state choice settled r p table a Present is =
    let h = events state.history in
    let now = events (recovered_state sys state choice settled).history in
    let same_events : events_at sys.flow p now ≡ events_at sys.flow p h = events-present sys state choice settled r p is in
    record {
      sent = λ g. a.sent g ∙ ap (λ vs. count_from g (sent_by sys p vs)) (sym same_events);
      in_order = a.in_order;
      epochs = each-weaker (λ (entry : ℕ × ℕ). was_notified p (entry.0 ∷ []) h ≡ true) (λ entry. was_notified p (entry.0 ∷ []) now ≡ true) table
          (λ entry n. told-notified sys.flow p (entry.0 ∷ []) now (ap (λ vs. is_told vs (entry.0 ∷ [])) same_events ∙ notified-told sys.flow p (entry.0 ∷ []) h n)) a.epochs;
    }
table-left sys state choice settled r p table a (At f) is =
    let k = knows sys state choice settled r in
    let w = r.well_formed.flow in
    let h = events state.history in
    let now = events (recovered_state sys state choice settled).history in
    let vs = events_at sys.flow p h in
    let b = node_frontier sys.flow p f in
    let sent = sent_by sys p vs in
    let left : sent_by sys p (events_at sys.flow p now) ≡ messages_from (inside f) sent =
    ap (λ us. sent_by sys p (events_at sys.flow p us)) (events-now sys state choice settled)
    ∙ sent_by-same sys h (kept_of sys.flow choice) w k.epochs k.legal k.keeps.kept p
    ∙ from-cut sys choice p sent (legal-caused sys h w k.epochs k.legal p)
    ∙ ap (λ c. messages_from (inside (front_of_cut c)) sent) is in
    record {
      sent = λ g. table-both (inside f) g table ∙ a.sent (λ t. inside f t && g t) ∙ sym (ap (count_from g) left ∙ count-both (inside f) g sent);
      in_order = IsNonDecreasingBy-filter (λ (entry : ℕ × ℕ). entry.0) (λ entry. inside f (entry.0 ∷ [])) table a.in_order;
      epochs = each-filter (λ (entry : ℕ × ℕ). was_notified p (entry.0 ∷ []) now ≡ true) (λ entry. inside f (entry.0 ∷ [])) table
          (each-weaker (λ (entry : ℕ × ℕ). was_notified p (entry.0 ∷ []) h ≡ true)
          (λ entry. inside f (entry.0 ∷ []) ≡ true → was_notified p (entry.0 ∷ []) now ≡ true) table
          (λ entry n i.
          let t : Stamp = entry.0 ∷ [] in
          let told = notified-told sys.flow p t h n in
          let d = told-domain (λ s. in_domain (bounds_of sys.flow p) s ≡ true) vs (legal_events-in_domain sys h w k.epochs k.legal p) t told in
          told-notified sys.flow p t now
          (ap (λ us. is_told us t) (events-cut sys state choice settled p f is)
          ∙ told-inside b vs t (and_from (in_domain (bounds_of sys.flow p) t) (inside f t) d i) told)) a.epochs);
    }

-- what a cut leaves of a sequence's table is its table after the recovery
pub tables-left : (sys : System) (state : Machine) (choice : Choice) (settled : List Front) → Recovers sys state choice settled
    → (p : ℕ) → p < length sys.flow.nodes → (table : List (ℕ × ℕ)) → IsTableAfter sys (events state.history) p table
    → IsTableAfter sys (events_left sys choice state.history) p (table_left (cut_of choice p) table)
tables-left sys state choice settled r p l table a = table-left sys state choice settled r p table a (cut_of choice p) refl

-- so where the tables are what the cuts leave of those that are counted, they are the tables after the recovery
pub counted-left : (sys : System) (state : Machine) (choice : Choice) (settled : List Front) → Recovers sys state choice settled
    → (counts : Counts) → IsCountOf sys (events state.history) counts → (tables : List (List (ℕ × ℕ)))
    → ((p : ℕ) → p < length sys.flow.nodes → SendsByCount (kind_of sys.flow p)
    → slice_index_or tables p [] ≡ table_left (cut_of choice p) (sent_of counts p))
    → AreTablesAfter sys (events_left sys choice state.history) tables
counted-left sys state choice settled r counts c tables same p l is =
    subst (IsTableAfter sys (events_left sys choice state.history) p) (sym (same p l is))
    (tables-left sys state choice settled r p l (sent_of counts p) (record { sent = c.sent p l is; in_order = c.in_order p l is; epochs = c.epochs p l is }))
