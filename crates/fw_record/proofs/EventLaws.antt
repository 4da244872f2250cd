-- Events are read as they are spelled.
use Rattle.std.proofs.Common.{◌≡◌, ℕ, ◌^◌, ◌<◌, cond, eqb, List, [], ◌∷◌, ◌++◌, Ok, refl, ap, ◌∙◌, append_assoc, subst, inl, inr}
use Rattle.std.specs.Int.{w32, w64}
use Rattle.std.proofs.lemmas.Bool.{eqb-true}
use Rattle.fw_time.specs.Stamp.{Stamp}
use Rattle.fw_bag.specs.declared.rec.Rec.{Rec}
use Rattle.fw_bytes.specs.Fields.{byte_of, number_field, stamp_field}
use Rattle.fw_bytes.specs.Spelling.{u32_bytes, u64_bytes, stamp_bytes}
use Rattle.fw_bytes.specs.Sound.{IsStamp}
use Rattle.fw_bytes.specs.Reading.{◌>>=◌, kept_if, any}
use Rattle.fw_bytes.specs.Exact.{AreBytes, AreSplit, IsExactReading}
use Rattle.fw_bytes.proofs.PlaceLaws.{ReadsInside, byte_inside, inside_then, kept_inside, either_inside}
use Rattle.fw_bytes.proofs.FieldLaws.{byte_takes}
use Rattle.fw_bytes.proofs.PartLaws.{bind_ok, ok_is, kept, step, starts, chosen, second}
use Rattle.fw_bytes.proofs.ListLaws.{any32, any64, any_stamps}
use Rattle.fw_record.specs.declared.record.Event.{Event}
use Rattle.fw_record.specs.declared.record.Event.TheVariants.{Deliver, Notify}
use Rattle.fw_record.specs.Spelling.{rec_bytes, delivery_bytes, event_bytes}
use Rattle.fw_record.specs.Sound.{IsEvent}
use Rattle.fw_bag.specs.Bag.{IsRec}
use Rattle.fw_record.specs.Reading.{is_event_byte, key_and_value_of, delivery_of, read_notice, read_event}

-- ---- a rec, each number a field

pub key_value_takes : (bytes : List ℕ) (x : Rec × List ℕ) → AreBytes bytes → key_and_value_of bytes ≡ Ok x → AreSplit bytes (rec_bytes x.0) x.1 × IsRec x.0
unfolding key_and_value_of
key_value_takes bytes x fits e =
    step any64 bytes ([]) bytes (λ v0. (any v0.1 (number_field w64 v0.1) >>= λ v1. Ok (record { key = v0.0; value = v1.0 }, v1.1))) x (AreSplit bytes (rec_bytes x.0) x.1 × IsRec x.0) (starts bytes fits) e (λ s0 f0 t0 e0.
    step any64 bytes (u64_bytes s0.0) s0.1 (λ v1. Ok (record { key = s0.0; value = v1.0 }, v1.1)) x (AreSplit bytes (rec_bytes x.0) x.1 × IsRec x.0) t0 e0 (λ s1 f1 t1 e1.
    subst (λ (y : Rec × List ℕ). AreSplit bytes (rec_bytes y.0) y.1 × IsRec y.0) (ok_is (record { key = s0.0; value = s1.0 }, s1.1) x e1) (t1, record { key = f0; value = f1 })))

pub key_value_again : (r : Rec) (rest : List ℕ) → IsRec r → key_and_value_of (rec_bytes r ++ rest) ≡ Ok (r, rest)
unfolding key_and_value_of
key_value_again r rest sound =
    ap key_and_value_of (append_assoc (u64_bytes r.key) (u64_bytes r.value) rest)
    ∙ rw (any64.again r.key (u64_bytes r.value ++ rest) sound.key, any64.again r.value rest sound.value) refl

key_value_inside : ReadsInside key_and_value_of
unfolding key_and_value_of
key_value_inside n bytes le =
    inside_then n (any bytes (number_field w64 bytes)) (λ v0. ((any v0.1 (number_field w64 v0.1)) >>= λ v1. Ok (record { key = v0.0; value = v1.0 }, v1.1))) (any64.inside n bytes le) (λ s0 l0.
    inside_then n (any s0.1 (number_field w64 s0.1)) (λ v1. Ok (record { key = s0.0; value = v1.0 }, v1.1)) (any64.inside n s0.1 l0) (λ s1 l1.
    l1))

pub key_values : IsExactReading key_and_value_of rec_bytes IsRec
key_values = record { takes = key_value_takes; again = key_value_again; inside = key_value_inside }

-- ---- events

pub delivery_takes : (bytes : List ℕ) (x : Event × List ℕ) → AreBytes bytes → delivery_of bytes ≡ Ok x → AreSplit (1 ∷ bytes) (event_bytes x.0) x.1 × IsEvent x.0
unfolding delivery_of
delivery_takes bytes x fits e =
    step any32 (1 ∷ bytes) (1 ∷ []) bytes (λ v0. (any v0.1 (stamp_field v0.1) >>= λ v1. (key_and_value_of v1.1 >>= λ v2. Ok (Deliver v0.0 v1.0 v2.0, v2.1)))) x (AreSplit (1 ∷ bytes) (event_bytes x.0) x.1 × IsEvent x.0) (record { parts = refl; rest_fits = fits }) e (λ s0 f0 t0 e0.
    step any_stamps (1 ∷ bytes) (1 ∷ u32_bytes s0.0) s0.1 (λ v1. (key_and_value_of v1.1 >>= λ v2. Ok (Deliver s0.0 v1.0 v2.0, v2.1))) x (AreSplit (1 ∷ bytes) (event_bytes x.0) x.1 × IsEvent x.0) t0 e0 (λ s1 f1 t1 e1.
    step key_values (1 ∷ bytes) (1 ∷ (u32_bytes s0.0 ++ stamp_bytes s1.0)) s1.1 (λ v2. Ok (Deliver s0.0 s1.0 v2.0, v2.1)) x (AreSplit (1 ∷ bytes) (event_bytes x.0) x.1 × IsEvent x.0) t1 e1 (λ s2 f2 t2 e2.
    subst (λ (y : Event × List ℕ). AreSplit (1 ∷ bytes) (event_bytes y.0) y.1 × IsEvent y.0) (ok_is (Deliver s0.0 s1.0 s2.0, s2.1) x e2) (t2, (f0, f1, f2)))))

pub notice_takes : (bytes : List ℕ) (x : Event × List ℕ) → AreBytes bytes → read_notice bytes ≡ Ok x → AreSplit (2 ∷ bytes) (event_bytes x.0) x.1 × IsEvent x.0
unfolding read_notice
notice_takes bytes x fits e =
    step any_stamps (2 ∷ bytes) (2 ∷ []) bytes (λ v0. Ok (Notify v0.0, v0.1)) x (AreSplit (2 ∷ bytes) (event_bytes x.0) x.1 × IsEvent x.0) (record { parts = refl; rest_fits = fits }) e (λ s0 f0 t0 e0.
    subst (λ (y : Event × List ℕ). AreSplit (2 ∷ bytes) (event_bytes y.0) y.1 × IsEvent y.0) (ok_is (Notify s0.0, s0.1) x e0) (t0, f0))

pub delivery_again : (edge : ℕ) (at : Stamp) (rec : Rec) (rest : List ℕ) → edge < 2 ^ 32 → IsStamp at → IsRec rec → delivery_of (delivery_bytes edge at rec ++ rest) ≡ Ok (Deliver edge at rec, rest)
unfolding delivery_of
delivery_again edge at rec rest a b c =
    ap delivery_of (append_assoc (u32_bytes edge ++ stamp_bytes at) (rec_bytes rec) rest ∙ append_assoc (u32_bytes edge) (stamp_bytes at) (rec_bytes rec ++ rest))
    ∙ rw (any32.again edge (stamp_bytes at ++ (rec_bytes rec ++ rest)) a, any_stamps.again at (rec_bytes rec ++ rest) b, key_values.again rec rest c) refl

pub notice_again : (at : Stamp) (rest : List ℕ) → IsStamp at → read_notice (stamp_bytes at ++ rest) ≡ Ok (Notify at, rest)
unfolding read_notice
notice_again at rest a = rw (any_stamps.again at rest a) refl

pub event_takes : (bytes : List ℕ) (x : Event × List ℕ) → AreBytes bytes → read_event bytes ≡ Ok x → AreSplit bytes (event_bytes x.0) x.1 × IsEvent x.0
unfolding read_event
event_takes bytes x fits e =
    let s = bind_ok (kept_if is_event_byte bytes (byte_of bytes)) (λ byte. cond (eqb byte.0 1) (delivery_of byte.1) (read_notice byte.1)) x e in
    let k = kept is_event_byte bytes (byte_of bytes) s.0 s.1 in
    let t = byte_takes bytes s.0 fits k.0 in
    elim (chosen (eqb s.0.0 1) (delivery_of s.0.1) (read_notice s.0.1) (Ok x) s.2) [
      | inl p ↦
          let d = delivery_takes s.0.1 x t.1 p.1 in
          (record { parts = t.0 ∙ ap (λ (n : ℕ). n ∷ s.0.1) (eqb-true s.0.0 1 p.0) ∙ d.0.parts; rest_fits = d.0.rest_fits }, d.1)
      | inr p ↦
          let d = notice_takes s.0.1 x t.1 p.1 in
          let two = second (eqb s.0.0 1) (eqb s.0.0 2) k.1 p.0 in
          (record { parts = t.0 ∙ ap (λ (n : ℕ). n ∷ s.0.1) (eqb-true s.0.0 2 two) ∙ d.0.parts; rest_fits = d.0.rest_fits }, d.1)
    ]

pub event_again : (v : Event) (rest : List ℕ) → IsEvent v → read_event (event_bytes v ++ rest) ≡ Ok (v, rest)
unfolding read_event
event_again (Deliver edge at rec) rest sound = delivery_again edge at rec rest sound.0 sound.1 sound.2
event_again (Notify at) rest sound = notice_again at rest sound

delivery_inside : ReadsInside delivery_of
unfolding delivery_of
delivery_inside n bytes le =
    inside_then n (any bytes (number_field w32 bytes)) (λ v0. ((any v0.1 (stamp_field v0.1)) >>= λ v1. ((key_and_value_of v1.1) >>= λ v2. Ok (Deliver v0.0 v1.0 v2.0, v2.1)))) (any32.inside n bytes le) (λ s0 l0.
    inside_then n (any s0.1 (stamp_field s0.1)) (λ v1. ((key_and_value_of v1.1) >>= λ v2. Ok (Deliver s0.0 v1.0 v2.0, v2.1))) (any_stamps.inside n s0.1 l0) (λ s1 l1.
    inside_then n (key_and_value_of s1.1) (λ v2. Ok (Deliver s0.0 s1.0 v2.0, v2.1)) (key_values.inside n s1.1 l1) (λ s2 l2.
    l2)))

notice_inside : ReadsInside read_notice
unfolding read_notice
notice_inside n bytes le =
    inside_then n (any bytes (stamp_field bytes)) (λ v0. Ok (Notify v0.0, v0.1)) (any_stamps.inside n bytes le) (λ s0 l0.
    l0)

event_inside : ReadsInside read_event
unfolding read_event
event_inside n bytes le =
    inside_then n (kept_if is_event_byte bytes (byte_of bytes)) (λ byte. cond (eqb byte.0 1) (delivery_of byte.1) (read_notice byte.1)) (kept_inside is_event_byte n bytes (byte_of bytes) le (byte_inside n bytes le)) (λ byte le'.
    either_inside (eqb byte.0 1) n (delivery_of byte.1) (read_notice byte.1) (delivery_inside n byte.1 le') (notice_inside n byte.1 le'))

pub events : IsExactReading read_event event_bytes IsEvent
events = record { takes = event_takes; again = event_again; inside = event_inside }
