-- A record that is read is spelled by the bytes and sound, and a sound record's spelling is read again.
use Rattle.std.proofs.Common.{◌≡◌, ℕ, ◌^◌, ◌<◌, Bool, true, false, cond, eqb, List, [], ◌∷◌, ◌++◌, length, Ok, Err, refl, sym, ap, subst, ◌∙◌, append_assoc, arith, inl, inr}
use Rattle.std.specs.Prelude.{◌||◌, ◌==◌}
use Rattle.std.specs.Int.{w16, to_be_bytes}
use Rattle.std.specs.List.{list_any}
use Rattle.std.proofs.lemmas.Bool.{and_parts, eqb-true}
use Rattle.std.proofs.lemmas.List.{append-nil, nil_from_length}
use Rattle.fw_frontier.specs.declared.state.Entries.{Entries}
use Rattle.fw_frontier.specs.declared.state.Entries.TheVariants.{Totals}
use Rattle.fw_record.specs.declared.record.Checkpoint.{Checkpoint}
use Rattle.fw_record.specs.declared.record.Event.{Event}
use Rattle.fw_record.specs.declared.record.Record.{Record}
use Rattle.fw_record.specs.declared.record.Record.TheVariants as tagged
use Rattle.fw_bytes.specs.Fields.{byte_of, number_field}
use Rattle.fw_bytes.specs.Spelling.{u32_bytes}
use Rattle.fw_record.specs.Spelling.{tags, version_of, head_bytes, checkpoint_tag, checkpoint_bytes, changes_bytes, event_bytes, spelling}
use Rattle.fw_record.specs.Sound.{IsCheckpoint, IsEvent, IsSound}
use Rattle.fw_bytes.specs.Reading.{◌>>=◌, kept_if}
use Rattle.fw_record.specs.Reading.{is_version, is_tag, read_event, event_record_of, state_record_of, changes_record_of, other_record_of, tag_of, read_whole_record, whole_of}
use Rattle.fw_bytes.specs.Exact.{AreBytes, AreSplit}
use Rattle.fw_bytes.proofs.FieldLaws.{wide16, number_takes, number_again, byte_takes}
use Rattle.fw_bytes.proofs.PartLaws.{bind_ok, ok, ok_is, guard_ok, kept, step, chosen, second}
use Rattle.fw_bytes.proofs.ListLaws.{any32}
use Rattle.fw_record.proofs.CheckpointLaws.{checkpoints}
use Rattle.fw_record.proofs.ChangesLaws.{AreChanges, changes}
use Rattle.fw_record.proofs.EventLaws.{events}

-- ---- records

event_record_takes : (bytes : List ℕ) (x : Record × List ℕ) → AreBytes bytes → event_record_of bytes ≡ Ok x → AreSplit (head_bytes 2 ++ bytes) (spelling x.0) x.1 × IsSound x.0
unfolding event_record_of
event_record_takes bytes x fits e =
    step any32 (head_bytes 2 ++ bytes) (head_bytes 2) bytes (λ v0. (read_event v0.1 >>= λ v1. Ok (tagged.Event v0.0 v1.0, v1.1))) x (AreSplit (head_bytes 2 ++ bytes) (spelling x.0) x.1 × IsSound x.0) (record { parts = refl; rest_fits = fits }) e (λ s0 f0 t0 e0.
    step events (head_bytes 2 ++ bytes) (head_bytes 2 ++ u32_bytes s0.0) s0.1 (λ v1. Ok (tagged.Event s0.0 v1.0, v1.1)) x (AreSplit (head_bytes 2 ++ bytes) (spelling x.0) x.1 × IsSound x.0) t0 e0 (λ s1 f1 t1 e1.
    subst (λ (y : Record × List ℕ). AreSplit (head_bytes 2 ++ bytes) (spelling y.0) y.1 × IsSound y.0) (ok_is (tagged.Event s0.0 s1.0, s1.1) x e1) (t1, (f0, f1))))

-- a checkpoint that is read is of the first tag
first_tag : (entries : Entries) → checkpoint_tag entries ≡ 1
first_tag (Totals totals) = refl

state_record_takes : (bytes : List ℕ) (x : Record × List ℕ) → AreBytes bytes → state_record_of bytes ≡ Ok x → AreSplit (head_bytes 1 ++ bytes) (spelling x.0) x.1 × IsSound x.0
unfolding state_record_of
state_record_takes bytes x fits e =
    step checkpoints (head_bytes 1 ++ bytes) (head_bytes 1) bytes (λ v0. Ok (tagged.State v0.0, v0.1)) x (AreSplit (head_bytes 1 ++ bytes) (spelling x.0) x.1 × IsSound x.0) (record { parts = refl; rest_fits = fits }) e (λ s0 f0 t0 e0.
    subst (λ (y : Record × List ℕ). AreSplit (head_bytes 1 ++ bytes) (spelling y.0) y.1 × IsSound y.0) (ok_is (tagged.State s0.0, s0.1) x e0) (rw (first_tag s0.0.state.entries) t0, f0))

changes_record_takes : (bytes : List ℕ) (x : Record × List ℕ) → AreBytes bytes → changes_record_of bytes ≡ Ok x → AreSplit (head_bytes 3 ++ bytes) (spelling x.0) x.1 × IsSound x.0
unfolding changes_record_of
changes_record_takes bytes x fits e =
    step changes (head_bytes 3 ++ bytes) (head_bytes 3) bytes (λ v0. Ok (tagged.Changes v0.0.0 v0.0.1, v0.1)) x (AreSplit (head_bytes 3 ++ bytes) (spelling x.0) x.1 × IsSound x.0) (record { parts = refl; rest_fits = fits }) e (λ s0 f0 t0 e0.
    subst (λ (y : Record × List ℕ). AreSplit (head_bytes 3 ++ bytes) (spelling y.0) y.1 × IsSound y.0) (ok_is (tagged.Changes s0.0.0 s0.0.1, s0.1) x e0) (t0, f0))

-- the last of several tests
last_true : (b : Bool) → (b || false) ≡ true → b ≡ true
last_true true e = refl
last_true false e = absurd cc

record IsHead (bytes : List ℕ) (tag : ℕ) (rest : List ℕ) : Type 0 where
  parts : bytes ≡ head_bytes tag ++ rest
  rest_fits : AreBytes rest
  allowed : list_any (λ known. eqb tag known) tags ≡ true

tag_takes : (bytes : List ℕ) (x : ℕ × List ℕ) → AreBytes bytes → tag_of bytes ≡ Ok x → IsHead bytes x.0 x.1
unfolding tag_of
tag_takes bytes x fits e =
    let a = bind_ok (kept_if (λ m. m == 18007) bytes (number_field w16 bytes)) (λ magic. kept_if is_version magic.1 (byte_of magic.1) >>= λ version. kept_if (is_tag version.0) version.1 (byte_of version.1)) x e in
    let ka = kept (λ m. m == 18007) bytes (number_field w16 bytes) a.0 a.1 in
    let ta = number_takes w16 (2 ^ 16) wide16 bytes a.0 fits ka.0 in
    let b = bind_ok (kept_if is_version a.0.1 (byte_of a.0.1)) (λ version. kept_if (is_tag version.0) version.1 (byte_of version.1)) x a.2 in
    let kb = kept is_version a.0.1 (byte_of a.0.1) b.0 b.1 in
    let tb = byte_takes a.0.1 b.0 ta.0.rest_fits kb.0 in
    let kc = kept (is_tag b.0.0) b.0.1 (byte_of b.0.1) x b.2 in
    let tc = byte_takes b.0.1 x tb.1 kc.0 in
    let magic : a.0.0 ≡ 18007 = eqb-true a.0.0 18007 ka.1 in
    let both = and_parts (eqb b.0.0 (version_of x.0)) (list_any (λ known. eqb x.0 known) tags) kc.1 in
    let version : b.0.0 ≡ version_of x.0 = eqb-true b.0.0 (version_of x.0) both.0 in
    let e1 : bytes ≡ 70 ∷ 87 ∷ a.0.1 = ta.0.parts ∙ ap (λ (n : ℕ). to_be_bytes w16 n ++ a.0.1) magic in
    let e2 : a.0.1 ≡ version_of x.0 ∷ b.0.1 = tb.0 ∙ ap (λ (n : ℕ). n ∷ b.0.1) version in
    record { parts = e1 ∙ ap (λ (t : List ℕ). 70 ∷ 87 ∷ t) (e2 ∙ ap (λ (t : List ℕ). version_of x.0 ∷ t) tc.0); rest_fits = tc.1; allowed = both.1 }

record_takes : (bytes : List ℕ) (x : Record × List ℕ) → AreBytes bytes → read_whole_record bytes ≡ Ok x → AreSplit bytes (spelling x.0) x.1 × IsSound x.0
unfolding read_whole_record
record_takes bytes x fits e =
    let s = bind_ok (tag_of bytes) (λ tag. cond (eqb tag.0 1) (state_record_of tag.1) (other_record_of tag.0 tag.1)) x e in
    let h = tag_takes bytes s.0 fits s.1 in
    elim (chosen (eqb s.0.0 1) (state_record_of s.0.1) (other_record_of s.0.0 s.0.1) (Ok x) s.2) [
      | inl p ↦
          let d = state_record_takes s.0.1 x h.rest_fits p.1 in
          (record { parts = h.parts ∙ ap (λ (n : ℕ). head_bytes n ++ s.0.1) (eqb-true s.0.0 1 p.0) ∙ d.0.parts; rest_fits = d.0.rest_fits }, d.1)
      | inr p ↦
          let others = second (eqb s.0.0 1) (eqb s.0.0 2 || (eqb s.0.0 3 || false)) h.allowed p.0 in
          elim (chosen (eqb s.0.0 2) (event_record_of s.0.1) (changes_record_of s.0.1) (Ok x) p.1) [
            | inl q ↦
                let d = event_record_takes s.0.1 x h.rest_fits q.1 in
                (record { parts = h.parts ∙ ap (λ (n : ℕ). head_bytes n ++ s.0.1) (eqb-true s.0.0 2 q.0) ∙ d.0.parts; rest_fits = d.0.rest_fits }, d.1)
            | inr q ↦
                let d = changes_record_takes s.0.1 x h.rest_fits q.1 in
                let three = last_true (eqb s.0.0 3) (second (eqb s.0.0 2) (eqb s.0.0 3 || false) others q.0) in
                (record { parts = h.parts ∙ ap (λ (n : ℕ). head_bytes n ++ s.0.1) (eqb-true s.0.0 3 three) ∙ d.0.parts; rest_fits = d.0.rest_fits }, d.1)
          ]
    ]

-- the head of each tag is read again
head_again : (tag : ℕ) (rest : List ℕ) → is_version (version_of tag) ≡ true → is_tag (version_of tag) tag ≡ true → tag_of (head_bytes tag ++ rest) ≡ Ok (tag, rest)
unfolding tag_of
head_again tag rest known allowed = rw (number_again w16 (2 ^ 16) wide16 18007 (version_of tag ∷ tag ∷ rest) (omega arith), known, allowed) refl

state_record_again : (c : Checkpoint) (rest : List ℕ) → IsCheckpoint c → state_record_of (checkpoint_bytes c ++ rest) ≡ Ok (tagged.State c, rest)
unfolding state_record_of
state_record_again c rest sound = rw (checkpoints.again c rest sound) refl

changes_record_again : (base : ℕ) (c : Checkpoint) (rest : List ℕ) → AreChanges (base, c) → changes_record_of (changes_bytes base c ++ rest) ≡ Ok (tagged.Changes base c, rest)
unfolding changes_record_of
changes_record_again base c rest sound = rw (changes.again (base, c) rest sound) refl

event_record_again : (node : ℕ) (v : Event) (rest : List ℕ) → node < 2 ^ 32 → IsEvent v → event_record_of (u32_bytes node ++ (event_bytes v ++ rest)) ≡ Ok (tagged.Event node v, rest)
unfolding event_record_of
event_record_again node v rest a b = rw (any32.again node (event_bytes v ++ rest) a, events.again v rest b) refl

record_again : (r : Record) (rest : List ℕ) → IsSound r → read_whole_record (spelling r ++ rest) ≡ Ok (r, rest)
unfolding read_whole_record
record_again (tagged.State c) rest sound = rw (first_tag c.state.entries, head_again 1 (checkpoint_bytes c ++ rest) refl refl) (state_record_again c rest sound)
record_again (tagged.Event node v) rest sound =
    ap read_whole_record (ap (λ (t : List ℕ). head_bytes 2 ++ t) (append_assoc (u32_bytes node) (event_bytes v) rest)) ∙ rw (head_again 2 (u32_bytes node ++ (event_bytes v ++ rest)) refl refl) (event_record_again node v rest sound.0 sound.1)
record_again (tagged.Changes base c) rest sound = rw (head_again 3 (changes_bytes base c ++ rest) refl refl) (changes_record_again base c rest sound)

-- what is read as a whole is sound, and the bytes are its spelling
pub whole_takes : (bytes : List ℕ) (r : Record) → AreBytes bytes → whole_of bytes ≡ Ok r → IsSound r × (bytes ≡ spelling r)
unfolding whole_of
whole_takes bytes r fits e =
    let s = bind_ok (read_whole_record bytes) (λ x. cond (eqb (length x.1) 0) (Ok x.0) (Err (length x.1))) r e in
    let g = guard_ok (eqb (length s.0.1) 0) s.0.0 r (length s.0.1) s.2 in
    let t = record_takes bytes s.0 fits s.1 in
    let nothing : s.0.1 ≡ [] = nil_from_length s.0.1 (eqb-true _ _ g.0) in
    let parts : bytes ≡ spelling s.0.0 = t.0.parts ∙ ap (λ (u : List ℕ). spelling s.0.0 ++ u) nothing ∙ append-nil (spelling s.0.0) in
    subst (λ (q : Record). IsSound q × (bytes ≡ spelling q)) g.1 (t.1, parts)

-- the spelling of a sound record is read as that record
pub whole_again : (r : Record) → IsSound r → whole_of (spelling r) ≡ Ok r
unfolding whole_of
whole_again r sound =
    let one : read_whole_record (spelling r) ≡ Ok (r, []) = ap read_whole_record (sym (append-nil (spelling r))) ∙ record_again r [] sound in
    rw one refl

-- what is read of bytes that spell a sound record
pub is_same : (bytes : List ℕ) (q r : Record) → whole_of bytes ≡ Ok q → IsSound r → bytes ≡ spelling r → q ≡ r
is_same bytes q r e sound same = ok_is q r (sym e ∙ ap whole_of same ∙ whole_again r sound)

pub is_none : (bytes : List ℕ) (r : Record) (left : ℕ) → whole_of bytes ≡ Err left → IsSound r → bytes ≡ spelling r → ⊥
is_none bytes r left e sound same =
    let both : Err left ≡ ok r = sym e ∙ ap whole_of same ∙ whole_again r sound in
    absurd cc

-- no two sound records have one spelling
pub one_spelling_lem : (q r : Record) → IsSound q → IsSound r → spelling q ≡ spelling r → q ≡ r
one_spelling_lem q r sound_q sound_r same = is_same (spelling q) q r (whole_again q sound_q) sound_r same
