-- What stands for what is written, and what becomes of entries in a step.
use Rattle.std.specs.Prelude.{ℕ, Bool, not, ◌&&◌, ◌==◌, if◌then◌else◌, List, [], ◌∷◌, filter, ◌≡◌, Option, Some, None, option_and_then, option_to_list, true}
use Rattle.std.specs.List.{flat_map, list_any, AllZip}
use Rattle.fw_frontier.specs.Front.{Front, same_front}
use Rattle.fw_flow.specs.declared.choice.Stamps.{Stamps}
use Rattle.fw_flow.specs.declared.kind.Policy.{Policy}
use Rattle.fw_flow.specs.declared.kind.Policy.TheVariants as policy
use Rattle.fw_flow.specs.Dataflow.{System, node_frontier, is_one_of}
use Rattle.fw_model.specs.EventStamps.{AreStampsIf}
use Rattle.fw_model.specs.Machine.{Machine, checkpoint, logged_event, Written as WrittenBy, Write}
use Rattle.fw_record.specs.declared.record.Event.{Event}
use Rattle.fw_record.specs.declared.record.Event.TheVariants as logged
use Rattle.fw_record.specs.declared.record.Record.{Record}
use Rattle.fw_record.specs.declared.record.Record.TheVariants as tagged
use Rattle.fw_bag.specs.Bag.{IsRec}
use Rattle.fw_keep.specs.declared.entry.Entry.{Entry}
use Rattle.fw_keep.specs.declared.entry.Written.{Written}
use Rattle.fw_keep.specs.Entry.{asked, is_in_flight_of, written_front}
use Rattle.fw_stands.specs.Written.{HoldsWhatIsWritten, events_within, IsRecordFor}

-- ---- what is written stays

-- What stands for what is written of node p on this base in a state stands for it in the next one: what an entry holds of it, and the
-- record of it.
pub record StaysWritten (sys : System) (state next : Machine) (p : ℕ) (base : Option Front) (what : WrittenBy) : Type 0 where
  pub held : (entry : Written) → HoldsWhatIsWritten sys state p entry what → HoldsWhatIsWritten sys next p entry what
  pub spelled : (r : Record) → IsRecordFor sys state p base what r → IsRecordFor sys next p base what r

-- ---- one more write

-- the stamps are those of the events of a node in a checkpoint; of a logged event there are none to be kept
abbrev pub HasStamps : System → Machine → ℕ → WrittenBy → Stamps → Type 0
HasStamps sys state p (checkpoint f low) stamps = AreStampsIf true sys (events_within sys state p f) p (node_frontier sys.flow p f) stamps
HasStamps sys state p (logged_event serial) stamps = Unit {0}

-- the rec that an event delivers, if it does, has two numbers of 64 bits
abbrev pub HasRecOf64Bits : Event → Type 0
HasRecOf64Bits (logged.Deliver edge at rec) = IsRec rec
HasRecOf64Bits (logged.Notify at) = Unit {0}

-- ---- steps

-- the entry of an event of node p that is asked under an id, where the policy logs each event
abbrev pub entries_of_event : Policy → ℕ → ℕ → Event → Stamps → List Entry
entries_of_event policy.Full p id event stamps = asked id (tagged.Event p event) stamps ∷ []
entries_of_event other p id event stamps = []

-- whether an entry is lost where these nodes fail
abbrev pub is_lost_of : List ℕ → Entry → Bool
is_lost_of ps e = is_one_of e.node ps && not e.acknowledged

-- the entries that are left where the nodes are lost one after the other
abbrev pub without_lost_of : List ℕ → List Entry → List Entry
without_lost_of [] entries = entries
without_lost_of (p ∷ ps) entries = without_lost_of ps (filter (λ e. not (is_in_flight_of p e)) entries)

-- ---- the newest checkpoint

-- the frontiers of the checkpoints of node p, in order
abbrev pub entry_fronts : ℕ → List Entry → List Front
entry_fronts p entries = flat_map (λ (e : Entry). if e.node == p then option_to_list (written_front e.written) else []) entries

-- ---- bases

-- the id of the first of these entries that is of a checkpoint of node p at f, if one is
abbrev pub id_at_front : ℕ → Front → List Entry → Option ℕ
id_at_front p f [] = None
id_at_front p f (e ∷ entries) = if list_any (same_front f) (entry_fronts p (e ∷ [])) then Some e.id else id_at_front p f entries

-- each entry has for its base the id of the one, among all of them, that is at the front of its write's base; none where that has none
abbrev pub AreBasesOf : List Entry → List Entry → List Write → Type 0
AreBasesOf all entries writes =
    AllZip (λ (e : Entry) (write : Write). e.base ≡ option_and_then (λ f. id_at_front write.node f all) write.base) entries writes
