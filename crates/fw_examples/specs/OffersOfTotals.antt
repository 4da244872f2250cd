-- What the nodes of the running total offer to the recovery after the output failed, as data, with its checkpoint as a record.
use Rattle.std.specs.Prelude.{List, [], false, true, ℕ, ◌∷◌, ◌≡◌}
use Rattle.fw_frontier.specs.Front.{Front}
use Rattle.fw_flow.specs.Restoring.{way_of}
use Rattle.fw_flow.specs.declared.choice.Counted.{Counted}
use Rattle.fw_flow.specs.declared.choice.Cut.TheVariants.{At, Present}
use Rattle.fw_flow.specs.declared.choice.Offer.{Offer}
use Rattle.fw_flow.specs.declared.choice.Offered.TheVariants.{Batches, Between, Listed}
use Rattle.fw_flow.specs.declared.choice.Recorded.{Recorded}
use Rattle.fw_flow.specs.declared.restoring.Restoring.TheVariants.{Checkpoints}
use Rattle.fw_model.specs.Choice.{IsConsistentBy, IsLargestBy, until}
use Rattle.fw_model.specs.LawsOfOffers.{ConsistentByOffersIsConsistent, LargestByOffersIsLargest}
use Rattle.fw_model.specs.Machine.{is_failed}
use Rattle.fw_model.specs.Offers.{RecordsAscend, AreOffersIn, IsOffered, covers_of, records_of}
use Rattle.fw_examples.specs.RunningTotal.{output_failed, total_node, run_to_out, src_to_run, total_flow, totals, two_epochs_kept, two_kept_noting}

-- a message on an edge, alone, that comes from an event at its own epoch
abbrev pub alone_at : ℕ → ℕ → Counted
alone_at e x = record { edge = e; at = x ∷ []; causes = (x ∷ []) ∷ []; count = 1 }

-- the record of a checkpoint of the running total: of what frontier, and up to where it received and sent recs
abbrev pub recorded_up_to : Front → Front → Recorded
recorded_up_to front recs = record {
  front = front;
  notified = front;
  delivered = record { edge = src_to_run; front = recs } ∷ [];
  discarded = record { edge = run_to_out; front = recs } ∷ [];
}

-- that of the checkpoint that is acknowledged: of epochs 0 and 1
abbrev pub record_of_checkpoint : Recorded
record_of_checkpoint = recorded_up_to (until 2) (until 2)

-- The input offers the four batches that it injected, from the low watermark on.
abbrev pub offer_of_input : Offer
offer_of_input = record {
  present = true;
  offered = Batches (until 2) (until 4) false;
  stamps = record {
    delivered = [];
    notified = [];
    sent = alone_at src_to_run 3 ∷ alone_at src_to_run 2 ∷ alone_at src_to_run 1 ∷ [];
  };
  table = [];
}

-- The running total lists its one checkpoint that is acknowledged and holds the low watermark.
abbrev pub offer_of_total : Offer
offer_of_total = record {
  present = true;
  offered = Listed (record_of_checkpoint ∷ []);
  stamps = record {
    delivered = alone_at src_to_run 2 ∷ alone_at src_to_run 1 ∷ [];
    notified = (2 ∷ []) ∷ (1 ∷ []) ∷ [];
    sent = alone_at run_to_out 2 ∷ alone_at run_to_out 1 ∷ [];
  };
  table = [];
}

-- The output failed. It offers what lies between the low watermark and what is settled and acknowledged.
abbrev pub offer_of_output : Offer
offer_of_output = record {
  present = false;
  offered = Between (until 2) (until 2);
  stamps = record {
    delivered = alone_at run_to_out 1 ∷ [];
    notified = [];
    sent = [];
  };
  table = [];
}

-- what each node offers
abbrev pub offers_of_totals : List Offer
offers_of_totals = offer_of_input ∷ offer_of_total ∷ offer_of_output ∷ []

-- The data are what the machine offers in the state of the failure, with an acknowledged checkpoint as a record. So the laws
-- of offers give what is consistent and what is largest by the data.
pub record CheckpointsAreOffered : Type 0 where
  pub way : way_of total_flow total_node ≡ Checkpoints
  pub recorded : records_of offers_of_totals total_node ≡ record_of_checkpoint ∷ []
  pub offered : IsOffered total_flow offers_of_totals total_node (At (until 2))
  pub present : IsOffered total_flow offers_of_totals total_node Present
  pub ascending : RecordsAscend total_flow offers_of_totals
  pub same : AreOffersIn totals output_failed (is_failed output_failed) offers_of_totals
  pub consistent : ConsistentByOffersIsConsistent
      → IsConsistentBy total_flow (covers_of total_flow offers_of_totals) (IsOffered total_flow offers_of_totals) (two_kept_noting (until 0))
  pub largest : LargestByOffersIsLargest
      → IsLargestBy total_flow (covers_of total_flow offers_of_totals) (IsOffered total_flow offers_of_totals) two_epochs_kept
