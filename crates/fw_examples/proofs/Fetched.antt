-- Witnesses for the laws of fetching: of three checkpoints of a running total.
use Rattle.std.proofs.Common.{[], lit<, refl, subst, ℕ, true, Some, List, ◌++◌, ◌<◌, ◌^◌, ◌∷◌, ◌∙◌, ◌≡◌}
use Rattle.std.specs.FinMap.{get, get-insert, empty, insert}
use Rattle.std.specs.Option.{ForSome}
use Rattle.std.specs.Cmp.{nat_cmp_total}
use Rattle.std.proofs.lemmas.List.Sorted.{IsPermutation-refl}
use Rattle.fw_time.specs.Stamp.{in_domain}
use Rattle.fw_bag.specs.declared.rec.Rec.{Rec}
use Rattle.fw_bytes.specs.Sound.{IsFront, IsStamp}
use Rattle.fw_frontier.proofs.NamesLaws.{is_within-holds}
use Rattle.fw_flow.specs.declared.kind.Kind.TheVariants as kind
use Rattle.fw_flow.specs.Dataflow.{bounds_of, in_edges, kind_of, node_frontier, out_edges, policy_of, receiver}
use Rattle.fw_model.specs.Choice.{until}
use Rattle.fw_model.specs.Filtering.{events_inside}
use Rattle.fw_model.specs.Sending.{SendsByCount}
use Rattle.fw_record.specs.OfNode.{AreChangesOf, CanBeLogged, IsCheckpointRecordOf, IsRecordedOf}
use Rattle.fw_record.specs.Sound.{AreTotals, IsCheckpoint, IsLog, IsLoggedMessage}
use Rattle.fw_record.specs.Spelling.{spelling}
use Rattle.fw_record.specs.declared.logged.Logged.{Logged}
use Rattle.fw_record.specs.declared.record.Record.TheVariants.{Changes, State}
use Rattle.fw_keep.specs.declared.entry.Entry.{Entry}
use Rattle.fw_keep.specs.Chains.{states_of}
use Rattle.fw_keep.specs.Joined.{IsFetchedOver, IsJoinedCheckpoint}
use Rattle.fw_keep.specs.Stored.{IsFetched, Records}
use Rattle.fw_node.specs.ChainOf.{HaveChanges}
use Rattle.fw_node.specs.StateOf.{IsStateOf}
use Rattle.fw_examples.specs.Fetched.{ChainIsFetched, all_saved, entries_under, entry_above, entry_beside, first_saved, logged_total, logging_flow, record_above, recorded_epochs, records_under, saved_epochs, second_saved, third_saved, three_epochs_came, three_held}
use Rattle.fw_examples.specs.Flows.{pair}
use Rattle.fw_examples.specs.RunningTotal.{run_to_out, total_node}

-- ---- what the checkpoints are of

no_sequence : {X : Type 0} → SendsByCount (kind_of logging_flow total_node) → X
unfolding kind_of
no_sequence k = absurd (let c : SendsByCount kind.Total = k in cc)

first_state : IsStateOf (kind_of logging_flow total_node) (events_inside (node_frontier logging_flow total_node (until 1)) three_epochs_came) first_saved.state
unfolding kind_of bounds_of
first_state = record { totals = refl; sent = λ k. no_sequence k }

changes : HaveChanges logging_flow total_node three_epochs_came (until 1) (states_of (second_saved ∷ third_saved ∷ []))
unfolding kind_of bounds_of
changes = (
  is_within-holds (bounds_of logging_flow total_node) (until 1) (until 2) refl,
  record { totals = refl; sent = λ k. no_sequence k },
  (
    is_within-holds (bounds_of logging_flow total_node) (until 2) (until 3) refl,
    record { totals = refl; sent = λ k. no_sequence k },
    tt,
  ),
)

joined : IsJoinedCheckpoint records_under third_saved all_saved
joined = record {
  node = refl;
  recorded = refl;
  sent = refl;
  sends = refl;
  totals = refl;
  messages = IsPermutation-refl all_saved.log;
  in_order = refl;
}

-- ---- their spelling

epoch_stamp : (x : ℕ) → x < 2 ^ 32 → IsStamp (x ∷ [])
epoch_stamp x l = record { some = lit< tt; few = lit< tt; fit = (l, tt) }

front_sound : (k : ℕ) → k < 2 ^ 32 → IsFront (until k)
front_sound k l = record { few = lit< tt; parts = (epoch_stamp k l, tt); follow = refl }

saved_sound : (k sent : ℕ) (totals : List Rec) (log : List Logged) → k < 2 ^ 32 → sent < 2 ^ 64 → AreTotals totals → IsLog log
    → IsCheckpoint (saved_epochs k sent totals log)
saved_sound k sent totals log few small held logged = record {
  node = lit< tt;
  front = front_sound k few;
  notified = front_sound k few;
  delivered = record { few = lit< tt; parts = (record { edge = lit< tt; front = front_sound k few }, tt); follow = refl };
  discarded = record { few = lit< tt; parts = tt; follow = refl };
  state = record { sent = small; sends = record { few = lit< tt; parts = tt; follow = refl }; entries = held };
  log = logged;
}

logged_sound : (x key value : ℕ) → x < 2 ^ 32 → key < 2 ^ 64 → value < 2 ^ 64 → IsLoggedMessage (logged_total x (pair key value))
logged_sound x key value l m n = record { edge = lit< tt; at = epoch_stamp x l; causes = epoch_stamp x l; rec = record { key = m; value = n } }

first_sound : IsCheckpoint first_saved
first_sound = saved_sound 1 1 (pair 1 10 ∷ []) (logged_total 0 (pair 1 10) ∷ []) (lit< tt) (lit< tt)
    (record { few = lit< tt; parts = (record { key = lit< tt; value = lit< tt }, tt); follow = refl })
    (record { few = lit< tt; parts = (logged_sound 0 1 10 (lit< tt) (lit< tt) (lit< tt), tt); follow = refl })

second_sound : IsCheckpoint second_saved
second_sound = saved_sound 2 3 (pair 1 15 ∷ pair 2 7 ∷ []) (logged_total 1 (pair 1 15) ∷ logged_total 1 (pair 2 7) ∷ []) (lit< tt) (lit< tt)
    (record { few = lit< tt; parts = (record { key = lit< tt; value = lit< tt }, (record { key = lit< tt; value = lit< tt }, tt)); follow = refl })
    (record {
      few = lit< tt;
      parts = (logged_sound 1 1 15 (lit< tt) (lit< tt) (lit< tt), (logged_sound 1 2 7 (lit< tt) (lit< tt) (lit< tt), tt));
      follow = refl;
    })

third_sound : IsCheckpoint third_saved
third_sound = saved_sound 3 4 (pair 2 8 ∷ []) (logged_total 2 (pair 2 8) ∷ []) (lit< tt) (lit< tt)
    (record { few = lit< tt; parts = (record { key = lit< tt; value = lit< tt }, tt); follow = refl })
    (record { few = lit< tt; parts = (logged_sound 2 2 8 (lit< tt) (lit< tt) (lit< tt), tt); follow = refl })

-- ---- they are records of their entries

recorded_of : (k : ℕ) → in_domain (bounds_of logging_flow total_node) (k ∷ []) ≡ true → IsRecordedOf logging_flow total_node (until k) (recorded_epochs k)
unfolding in_edges out_edges receiver kind_of bounds_of
recorded_of k is = record {
  front = refl;
  notified = (is, tt);
  delivered = (record { edge = (0, lit< tt, refl); stamps = (is, tt) }, tt);
  discarded = tt;
}

can_be_logged : (k x : ℕ) (rec : Rec) → in_domain (bounds_of logging_flow (receiver logging_flow run_to_out)) (x ∷ []) ≡ true
    → node_frontier logging_flow total_node (until k) (x ∷ []) ≡ true → CanBeLogged logging_flow total_node (until k) (logged_total x rec)
unfolding out_edges
can_be_logged k x rec at cause = record { edge = (0, lit< tt, refl); at = at; causes = (cause, tt) }

first_of_node : IsCheckpointRecordOf logging_flow total_node (until 1) first_saved
unfolding kind_of policy_of receiver bounds_of
first_of_node = record {
  node = refl;
  recorded = recorded_of 1 refl;
  state = record { causes = tt; counts = refl; entries = tt; numbers = tt };
  log = record { messages = (can_be_logged 1 0 (pair 1 10) refl refl, tt); policy = tt };
}

second_of_node : AreChangesOf logging_flow total_node (until 2) second_saved
unfolding kind_of policy_of receiver bounds_of
second_of_node = record {
  node = refl;
  recorded = recorded_of 2 refl;
  state = record { causes = tt; counts = refl; entries = tt; numbers = tt };
  log = record { messages = (can_be_logged 2 1 (pair 1 15) refl refl, (can_be_logged 2 1 (pair 2 7) refl refl, tt)); policy = tt };
}

third_of_node : AreChangesOf logging_flow total_node (until 3) third_saved
unfolding kind_of policy_of receiver bounds_of
third_of_node = record {
  node = refl;
  recorded = recorded_of 3 refl;
  state = record { causes = tt; counts = refl; entries = tt; numbers = tt };
  log = record { messages = (can_be_logged 3 2 (pair 2 8) refl refl, tt); policy = tt };
}

-- ---- they are fetched

abbrev two_held : Records
two_held = insert (insert empty 0 (spelling (State first_saved))) 1 (spelling (Changes 0 second_saved))

some_same : (a b : Records) → Some a ≡ Some b → a ≡ b
some_same a b e = cc

is_told : (id : ℕ) (bytes : List ℕ) → get three_held id ≡ Some bytes → ForSome (Some three_held) (λ held. get held id ≡ Some bytes)
is_told id bytes there held is = subst (λ (h : Records). get h id ≡ Some bytes) (some_same three_held held is) there

first_held : get three_held 0 ≡ Some (spelling (State first_saved))
first_held =
    get-insert nat_cmp_total two_held 2 (spelling record_above) 0
    ∙ get-insert nat_cmp_total (insert empty 0 (spelling (State first_saved))) 1 (spelling (Changes 0 second_saved)) 0
    ∙ get-insert nat_cmp_total empty 0 (spelling (State first_saved)) 0

second_held : get three_held 1 ≡ Some (spelling (Changes 0 second_saved))
second_held =
    get-insert nat_cmp_total two_held 2 (spelling record_above) 1
    ∙ get-insert nat_cmp_total (insert empty 0 (spelling (State first_saved))) 1 (spelling (Changes 0 second_saved)) 1

third_held : get three_held 2 ≡ Some (spelling record_above)
third_held = get-insert nat_cmp_total two_held 2 (spelling record_above) 2

abbrev first_entry : Entry
first_entry = entry_beside [] 0 (State first_saved)

abbrev second_entry : Entry
second_entry = entry_beside (first_entry ∷ []) 1 (Changes 0 second_saved)

first_fetched : IsFetched logging_flow (Some three_held) first_entry (State first_saved)
first_fetched = record {
  sound = first_sound;
  fits = record { of_node = first_of_node; recorded = refl };
  told = is_told 0 (spelling (State first_saved)) first_held;
}

second_fetched : IsFetched logging_flow (Some three_held) second_entry (Changes 0 second_saved)
second_fetched = record {
  sound = (lit< tt, second_sound);
  fits = record { of_node = (refl, second_of_node); recorded = refl };
  told = is_told 1 (spelling (Changes 0 second_saved)) second_held;
}

third_fetched : IsFetched logging_flow (Some three_held) entry_above record_above
third_fetched = record {
  sound = (lit< tt, third_sound);
  fits = record { of_node = (refl, third_of_node); recorded = refl };
  told = is_told 2 (spelling record_above) third_held;
}

fetched : IsFetchedOver logging_flow (Some three_held) (Some (2, spelling record_above)) entries_under entry_above (State all_saved)
fetched = record {
  under = records_under;
  own = record_above;
  lower = (first_fetched, (second_fetched, tt));
  itself = third_fetched;
  given = refl;
  joined = (all_saved, refl, joined);
}

-- ---- what the laws say of them

pub chain_is_fetched : ChainIsFetched
chain_is_fetched = record {
  bases = refl;
  first = first_state;
  changes = changes;
  joined = joined;
  fetched = fetched;
  messages = refl;
  state = λ law. law logging_flow total_node first_saved (Changes 0 second_saved ∷ []) third_saved all_saved (tt, tt) joined three_epochs_came first_state changes;
  log = λ law low. law first_saved (Changes 0 second_saved ∷ []) third_saved all_saved (tt, tt) joined logging_flow low run_to_out;
  chain = λ law. law records_under record_above (State all_saved) (tt, (tt, tt)) (all_saved, refl, joined);
  read = λ law.
      law logging_flow three_held (Some (2, spelling record_above)) (entries_under ++ entry_above ∷ []) entry_above all_saved (records_under ++ record_above ∷ [])
      (refl, (refl, (refl, tt))) fetched (first_fetched, (second_fetched, (third_fetched, tt)));
}
