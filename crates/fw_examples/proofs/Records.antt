-- Witnesses for the laws of records: of the running total, the loop and an event.
use Rattle.std.proofs.Common.{[], lit<, refl, ℕ, ◌<◌, ◌^◌, ◌∷◌}
use Rattle.fw_frontier.specs.Front.{IsCanonical}
use Rattle.fw_flow.specs.Dataflow.{bounds_of, in_edges, kind_of, loops_of, max_of, declared_parent, out_edges, parent_of, policy_of, receiver}
use Rattle.fw_model.specs.Choice.{until}
use Rattle.fw_bytes.specs.Fields.{coords_of, stamp_field}
use Rattle.fw_record.specs.OfNode.{IsCheckpointRecordOf}
use Rattle.fw_record.specs.Reading.{delivery_of, read_event, event_record_of, key_and_value_of, read_whole_record, tag_of, whole_of}
use Rattle.fw_bytes.specs.Sound.{IsFront, IsStamp}
use Rattle.fw_record.specs.Sound.{IsCheckpoint, IsLoggedMessage, IsSound}
use Rattle.fw_record.specs.declared.record.Record.TheVariants.{State}
use Rattle.fw_bytes.proofs.FrontLaws.{sound_of_canonical}
use Rattle.fw_record.proofs.FrontLaws.{fronts_canonical}
use Rattle.fw_record.proofs.RecordLaws.{whole_again}
use Rattle.fw_examples.specs.Flows.{loop_counts_up}
use Rattle.fw_examples.specs.Loop.{counted_rounds, round}
use Rattle.fw_examples.specs.Records.{FrontsAreSpelled, RecordsAreSpelled, rounds_meet, rec_came, rounds_saved, sent_in_round, total_saved}
use Rattle.fw_examples.specs.RunningTotal.{total_node, total_flow}
use Rattle.fw_examples.proofs.Fronts.{canonical_by}

-- ---- the running total

until_two : IsFront (until 2)
until_two = record {
  few = lit< tt;
  parts = (record { some = lit< tt; few = lit< tt; fit = (lit< tt, tt) }, tt);
  follow = refl;
}

total_sound : IsCheckpoint total_saved
total_sound = record {
  node = lit< tt;
  front = until_two;
  notified = until_two;
  delivered = record { few = lit< tt; parts = (record { edge = lit< tt; front = until_two }, tt); follow = refl };
  discarded = record { few = lit< tt; parts = (record { edge = lit< tt; front = until_two }, tt); follow = refl };
  state = record {
    sent = lit< tt;
    sends = record { few = lit< tt; parts = tt; follow = refl };
    entries = record { few = lit< tt; parts = (record { key = lit< tt; value = lit< tt }, tt); follow = refl };
  };
  log = record { few = lit< tt; parts = tt; follow = refl };
}

total_of_node : IsCheckpointRecordOf total_flow total_node (until 2) total_saved
unfolding kind_of policy_of in_edges out_edges receiver bounds_of
total_of_node = record {
  node = refl;
  recorded = record {
    front = refl;
    notified = (refl, tt);
    delivered = (record { edge = (0, lit< tt, refl); stamps = (refl, tt) }, tt);
    discarded = (record { edge = (0, lit< tt, refl); stamps = (refl, tt) }, tt);
  };
  state = record { causes = tt; counts = refl; entries = tt; numbers = tt };
  log = record { messages = tt; policy = refl };
}

-- ---- the loop

loop_stamp : (x c : ℕ) → x < 2 ^ 32 → c < 2 ^ 32 → IsStamp (round x c)
loop_stamp x c l m = record { some = lit< tt; few = lit< tt; fit = (l, (m, tt)) }

no_round : IsFront (round 0 0 ∷ [])
no_round = record { few = lit< tt; parts = (loop_stamp 0 0 (lit< tt) (lit< tt), tt); follow = refl }

first_round : IsFront (round 0 1 ∷ round 1 0 ∷ [])
first_round = record {
  few = lit< tt;
  parts = (loop_stamp 0 1 (lit< tt) (lit< tt), (loop_stamp 1 0 (lit< tt) (lit< tt), tt));
  follow = refl;
}

three_rounds : IsFront counted_rounds
three_rounds = record {
  few = lit< tt;
  parts = (loop_stamp 0 3 (lit< tt) (lit< tt), (loop_stamp 1 0 (lit< tt) (lit< tt), tt));
  follow = refl;
}

logged_sound : (c : ℕ) → c < 2 ^ 32 → c < 2 ^ 64 → IsLoggedMessage (sent_in_round c)
logged_sound c l m = record {
  edge = lit< tt;
  at = loop_stamp 0 c (lit< tt) l;
  causes = loop_stamp 0 c (lit< tt) l;
  rec = record { key = lit< tt; value = m };
}

rounds_sound : IsCheckpoint rounds_saved
rounds_sound = record {
  node = lit< tt;
  front = three_rounds;
  notified = no_round;
  delivered = record {
    few = lit< tt;
    parts = (record { edge = lit< tt; front = first_round }, (record { edge = lit< tt; front = three_rounds }, tt));
    follow = refl;
  };
  discarded = record { few = lit< tt; parts = tt; follow = refl };
  state = record {
    sent = lit< tt;
    sends = record { few = lit< tt; parts = tt; follow = refl };
    entries = record { few = lit< tt; parts = tt; follow = refl };
  };
  log = record {
    few = lit< tt;
    parts = (logged_sound 1 (lit< tt) (lit< tt), (logged_sound 2 (lit< tt) (lit< tt), tt));
    follow = refl;
  };
}

rounds_of_node : IsCheckpointRecordOf loop_counts_up rounds_meet counted_rounds rounds_saved
unfolding kind_of policy_of in_edges out_edges receiver bounds_of loops_of parent_of declared_parent max_of
rounds_of_node = record {
  node = refl;
  recorded = record {
    front = refl;
    notified = (refl, tt);
    delivered = (
      record { edge = (0, lit< tt, refl); stamps = (refl, (refl, tt)) },
      (record { edge = (1, lit< tt, refl); stamps = (refl, (refl, tt)) }, tt),
    );
    discarded = tt;
  };
  state = record { causes = tt; counts = refl; entries = refl; numbers = tt };
  log = record {
    messages = (
      record { edge = (0, lit< tt, refl); at = refl; causes = (refl, tt) },
      (record { edge = (0, lit< tt, refl); at = refl; causes = (refl, tt) }, tt),
    );
    policy = tt;
  };
}

-- ---- the event

came_sound : IsSound rec_came
came_sound = (
  lit< tt,
  (lit< tt, record { some = lit< tt; few = lit< tt; fit = (lit< tt, tt) }, record { key = lit< tt; value = lit< tt }),
)

-- ---- what the laws say of them

pub records_are_spelled : RecordsAreSpelled
unfolding whole_of read_whole_record tag_of event_record_of read_event delivery_of key_and_value_of stamp_field coords_of
records_are_spelled = record {
  total = total_sound;
  of_total = total_of_node;
  rounds = rounds_sound;
  of_rounds = rounds_of_node;
  event = came_sound;
  spelled = refl;
  total_again = whole_again (State total_saved) total_sound;
  rounds_again = whole_again (State rounds_saved) rounds_sound;
  event_again = whole_again rec_came came_sound;
  broken = refl;
  fronts = fronts_canonical loop_counts_up rounds_meet counted_rounds rounds_saved rounds_sound rounds_of_node;
}

loop_greatest : IsStamp (bounds_of loop_counts_up rounds_meet).greatest
unfolding bounds_of kind_of loops_of parent_of declared_parent max_of
loop_greatest = record { some = lit< tt; few = lit< tt; fit = (lit< tt, (lit< tt, tt)) }

rounds_canonical : IsCanonical (bounds_of loop_counts_up rounds_meet) counted_rounds
unfolding bounds_of kind_of loops_of parent_of declared_parent max_of
rounds_canonical = canonical_by (bounds_of loop_counts_up rounds_meet) counted_rounds refl

pub fronts_are_spelled : FrontsAreSpelled
fronts_are_spelled = record {
  greatest = loop_greatest;
  canonical = rounds_canonical;
  front = sound_of_canonical (bounds_of loop_counts_up rounds_meet) counted_rounds loop_greatest (lit< tt) rounds_canonical;
}
