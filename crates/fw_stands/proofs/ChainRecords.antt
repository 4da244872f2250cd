-- The records that are read of a chain are those of its writes.
use Rattle.std.proofs.Common.{◌≡◌, ℕ, cond, List, [], ◌∷◌, ◌++◌, Option, Some, None, refl, sym, ap, subst, ◌∙◌}
use Rattle.std.specs.List.{AllZip}
use Rattle.std.proofs.lemmas.Bool.{eq-eqb}
use Rattle.fw_lemmas.proofs.Options.{some-is}
use Rattle.fw_frontier.specs.Frontier.{Within}
use Rattle.fw_frontier.specs.Front.{Front}
use Rattle.fw_frontier.proofs.NamesLaws.{is_within-holds}
use Rattle.fw_flow.specs.Dataflow.{System, bounds_of, node_frontier}
use Rattle.fw_model.specs.Machine.{Machine, Write, checkpoint}
use Rattle.fw_model.specs.Machine.{Written as WrittenBy}
use Rattle.fw_model.specs.Steps.{last_or, checkpoints_of, checkpoint_front}
use Rattle.fw_model.specs.Writes.{IsKeptWithin}
use Rattle.fw_node.specs.ChainOf.{last_front}
use Rattle.fw_record.specs.declared.record.Checkpoint.{Checkpoint}
use Rattle.fw_record.specs.declared.record.Record.{Record}
use Rattle.fw_record.specs.declared.record.Record.TheVariants as tagged
use Rattle.fw_keep.specs.Chains.{changes_in, changes_of, states_of}
use Rattle.fw_record.specs.Spelling.{spelling}
use Rattle.fw_record.proofs.RecordLaws.{one_spelling_lem}
use Rattle.fw_keep.specs.declared.entry.Entry.{Entry}
use Rattle.fw_keep.specs.Stored.{Records, HoldsAs}
use Rattle.fw_stands.specs.Chains.{IsNextInChain, EachIsNext, IsChainFor}
use Rattle.fw_stands.specs.Read.{StandOn, IsChainRead}
use Rattle.fw_stands.specs.Written.{IsHeldAs, IsChangesFor, IsCheckpointFor, IsRecordFor}

-- The records hold as an entry's the record of a write, which was asked with watermarks that lie within today's.
abbrev pub IsReadAs : System → Machine → Records → Entry → Write → Type 0
IsReadAs sys state held e w = IsHeldAs sys state held e w × IsKeptWithin sys state.low w.written

-- a record that can be the entry's is the one of its write
is-the-one : (sys : System) (state : Machine) (held : Records) (e : Entry) (w : Write) (r : Record) → IsHeldAs sys state held e w → HoldsAs sys.flow (Some held) e r
    → IsRecordFor sys state w.node w.base w.written r
is-the-one sys state held e w r h a =
    subst (IsRecordFor sys state w.node w.base w.written)
    (one_spelling_lem h.what r h.of_entry.sound a.sound (some-is (spelling h.what) (spelling r) (sym h.of_entry.bytes ∙ a.bytes))) h.of_write

as-changes : (sys : System) (state : Machine) (p : ℕ) (g f : Front) (low : List Front) (r : Record) → IsRecordFor sys state p (Some g) (checkpoint f low) r
    → (id : ℕ) × (c : Checkpoint) × (r ≡ tagged.Changes id c) × IsChangesFor sys state p g f low c
as-changes sys state p g f low (tagged.State c) a = absurd a
as-changes sys state p g f low (tagged.Event q event) a = absurd a
as-changes sys state p g f low (tagged.Changes id c) a = (id, c, refl, a)

as-whole : (sys : System) (state : Machine) (p : ℕ) (f : Front) (low : List Front) (r : Record) → IsRecordFor sys state p None (checkpoint f low) r
    → (c : Checkpoint) × (r ≡ tagged.State c) × IsCheckpointFor sys state p f low c
as-whole sys state p f low (tagged.State c) a = (c, refl, a)
as-whole sys state p f low (tagged.Event q event) a = absurd a
as-whole sys state p f low (tagged.Changes id c) a = absurd a

record-at : (sys : System) (state : Machine) (n p : ℕ) (b c : Option Front) (w v : WrittenBy) (r : Record) → n ≡ p → b ≡ c → w ≡ v → IsRecordFor sys state n b w r
    → IsRecordFor sys state p c v r
record-at sys state n p b c w v r i j k a =
    subst (λ x. IsRecordFor sys state p c x r) k (subst (λ x. IsRecordFor sys state p x w r) j (subst (λ x. IsRecordFor sys state x b w r) i a))

read-later : (sys : System) (state : Machine) (held : Records) (p : ℕ) (g : Front) (ws : List Write) (es : List Entry) (rs : List Record) → StandOn p g ws
    → AllZip (IsReadAs sys state held) es ws → AllZip (HoldsAs sys.flow (Some held)) es rs
    → EachIsNext sys state p g (changes_of rs) × (last_front g (states_of (changes_of rs)) ≡ last_or g (checkpoints_of p ws))
read-later sys state held p g [] [] [] stand zip read = (tt, refl)
read-later sys state held p g [] [] (r ∷ rs) stand zip read = absurd read
read-later sys state held p g [] (e ∷ es) rs stand zip read = absurd zip
read-later sys state held p g (w ∷ ws) [] rs stand zip read = absurd zip
read-later sys state held p g (w ∷ ws) (e ∷ es) [] stand zip read = absurd read
read-later sys state held p g (w ∷ ws) (e ∷ es) (r ∷ rs) stand zip read =
    let on = stand.0 in
    let got = as-changes sys state p g on.front on.low r
    (record-at sys state w.node p w.base (Some g) w.written (checkpoint on.front on.low) r on.node on.base on.of_checkpoint (is-the-one sys state held e w r zip.0.0 read.0)) in
    let c = got.1 in
    let same : c.recorded.front ≡ on.front = got.3.recorded.front in
    let rest = read-later sys state held p on.front ws es rs stand.1 zip.1 read.1 in
    let up : Within (node_frontier sys.flow p g) (node_frontier sys.flow p on.front) = is_within-holds (bounds_of sys.flow p) g on.front on.above in
    let one : IsNextInChain sys state p g c = record {
      low = on.low;
      changes = subst (λ x. IsChangesFor sys state p g x on.low c) (sym same) got.3;
      later = subst (λ x. Within (node_frontier sys.flow p g) (node_frontier sys.flow p x)) (sym same) up;
      kept = subst (IsKeptWithin sys state.low) on.of_checkpoint zip.0.1;
    } in
    let here : last_or g (checkpoints_of p (w ∷ ws)) ≡ last_or on.front (checkpoints_of p ws) =
    ap (λ b. last_or g (cond b (checkpoint_front w.written) [] ++ checkpoints_of p ws)) (eq-eqb w.node p on.node)
    ∙ ap (λ x. last_or g (checkpoint_front x ++ checkpoints_of p ws)) on.of_checkpoint in
    subst (λ x. EachIsNext sys state p g (changes_in x ++ changes_of rs) × (last_front g (states_of (changes_in x ++ changes_of rs)) ≡ last_or g (checkpoints_of p (w ∷ ws))))
    (sym got.2) (
      (one, subst (λ x. EachIsNext sys state p x (changes_of rs)) (sym same) rest.0),
      ap (λ x. last_front x (states_of (changes_of rs))) same ∙ rest.1 ∙ sym here,
    )

-- the records that are read of a chain of entries are a chain
pub chain-for : (sys : System) (state : Machine) (held : Records) (entries : List Entry) (p : ℕ) (f : Front) → (read : IsChainRead (IsReadAs sys state held) entries p f)
    → (r : Record) (rs : List Record) → HoldsAs sys.flow (Some held) read.first r → AllZip (HoldsAs sys.flow (Some held)) read.later rs
    → (c : Checkpoint) × (r ≡ tagged.State c) × IsChainFor sys state p f c (changes_of rs)
chain-for sys state held entries p f read r rs one others =
    let w = read.write in
    let got = as-whole sys state p read.whole read.low r
    (record-at sys state w.node p w.base None w.written (checkpoint read.whole read.low) r read.node read.base read.of_checkpoint
    (is-the-one sys state held read.first w r read.of_first.0 one)) in
    let c = got.0 in
    let same : c.recorded.front ≡ read.whole = got.2.recorded.front in
    let rest = read-later sys state held p read.whole read.writes read.later rs read.each read.of_later others in (
      c,
      got.1,
      record {
        low = read.low;
        whole = subst (λ x. IsCheckpointFor sys state p x read.low c) (sym same) got.2;
        kept = subst (λ x. IsKeptWithin sys state.low (checkpoint x read.low)) (sym same) (subst (IsKeptWithin sys state.low) read.of_checkpoint read.of_first.1);
        each = subst (λ x. EachIsNext sys state p x (changes_of rs)) (sym same) rest.0;
        last = ap (λ x. last_front x (states_of (changes_of rs))) same ∙ rest.1 ∙ read.ends;
      },
    )
