-- Fields of records are read as they are spelled.
use Rattle.std.proofs.Common.{◌≡◌, ℕ, ◌^◌, ◌<◌, List, [], ◌∷◌, ◌++◌, Some, refl, sym, ap, subst, ◌∙◌, append_assoc}
use Rattle.std.specs.Int.{w32, w64}
use Rattle.std.specs.List.{flat_map}
use Rattle.std.proofs.lemmas.List.{append-nil}
use Rattle.std.proofs.lemmas.List.Concat.{flat_map-cons}
use Rattle.fw_time.specs.Stamp.{Stamp}
use Rattle.fw_bag.specs.declared.rec.Rec.{Rec}
use Rattle.fw_bytes.specs.Fields.{◌>>=◌, number_field, stamp_field}
use Rattle.fw_bytes.specs.Spelling.{u32_bytes, u64_bytes, stamp_bytes}
use Rattle.fw_bytes.specs.Sound.{IsStamp}
use Rattle.fw_bytes.specs.Fields as field
use Rattle.fw_bytes.specs.Exact.{AreBytes, AreSplit, IsExactField}
use Rattle.fw_bytes.proofs.PlaceLaws.{StaysInside, field_then, number_inside, stamp_inside}
use Rattle.fw_bytes.proofs.FieldLaws.{bind_some, some_is, AreSplit-then, form32, form64, stamps, two_take}
use Rattle.fw_record.specs.declared.logged.Logged.{Logged}
use Rattle.fw_record.specs.Fields.{rec_of, logged_of}
use Rattle.fw_record.specs.Spelling.{rec_bytes, logged_bytes}
use Rattle.fw_record.specs.Sound.{IsOneStamp, IsLoggedMessage}
use Rattle.fw_bag.specs.Bag.{IsRec}

-- ---- recs and logged messages

rec_takes : (bytes : List ℕ) (x : Rec × List ℕ) → AreBytes bytes → rec_of bytes ≡ Some x → AreSplit bytes (rec_bytes x.0) x.1 × IsRec x.0
unfolding rec_of
rec_takes bytes x fits e =
    two_take form64 form64 (λ key value. record { key = key; value = value }) bytes x fits e (λ y. AreSplit bytes (rec_bytes y.0) y.1 × IsRec y.0)
    (λ key value rest t f g. (t, record { key = f; value = g }))

rec_again : (r : Rec) (rest : List ℕ) → IsRec r → rec_of (rec_bytes r ++ rest) ≡ Some (r, rest)
unfolding rec_of
rec_again r rest fits =
    ap rec_of (append_assoc (u64_bytes r.key) (u64_bytes r.value) rest) ∙ rw (form64.again r.key (u64_bytes r.value ++ rest) fits.key, form64.again r.value rest fits.value) refl

rec_inside : StaysInside rec_of
unfolding rec_of
rec_inside n bytes le =
    field_then n (number_field w64 bytes) (λ v0. field.◌>>=◌ (number_field w64 v0.1) (λ v1. Some (record { key = v0.0; value = v1.0 }, v1.1))) (number_inside w64 n bytes le) (λ s0 l0.
    field_then n (number_field w64 s0.1) (λ v1. Some (record { key = s0.0; value = v1.0 }, v1.1)) (number_inside w64 n s0.1 l0) (λ s1 l1.
    l1))

pub recs : IsExactField rec_of rec_bytes IsRec
recs = record { takes = rec_takes; again = rec_again; inside = rec_inside }

one_stamp : (s : Stamp) → flat_map stamp_bytes (s ∷ []) ≡ stamp_bytes s
one_stamp s = flat_map-cons stamp_bytes s [] ∙ append-nil (stamp_bytes s)

logged_takes : (bytes : List ℕ) (x : Logged × List ℕ) → AreBytes bytes → logged_of bytes ≡ Some x → AreSplit bytes (logged_bytes x.0) x.1 × IsLoggedMessage x.0
unfolding logged_of logged_bytes
logged_takes bytes x fits e =
    let a = bind_some (number_field w32 bytes) (λ edge. stamp_field edge.1 >>= λ at. stamp_field at.1 >>= λ cause. rec_of cause.1 >>= λ rec. Some (record { edge = edge.0; message = record { at = at.0; rec = rec.0; causes = cause.0 ∷ [] } }, rec.1)) x e in
    let b = bind_some (stamp_field a.0.1) (λ at. stamp_field at.1 >>= λ cause. rec_of cause.1 >>= λ rec. Some (record { edge = a.0.0; message = record { at = at.0; rec = rec.0; causes = cause.0 ∷ [] } }, rec.1)) x a.2 in
    let c = bind_some (stamp_field b.0.1) (λ cause. rec_of cause.1 >>= λ rec. Some (record { edge = a.0.0; message = record { at = b.0.0; rec = rec.0; causes = cause.0 ∷ [] } }, rec.1)) x b.2 in
    let d = bind_some (rec_of c.0.1) (λ rec. Some (record { edge = a.0.0; message = record { at = b.0.0; rec = rec.0; causes = c.0.0 ∷ [] } }, rec.1)) x c.2 in
    let t0 = form32.takes bytes a.0 fits a.1 in
    let t1 = stamps.takes a.0.1 b.0 t0.0.rest_fits b.1 in
    let t2 = stamps.takes b.0.1 c.0 t1.0.rest_fits c.1 in
    let t3 = recs.takes c.0.1 d.0 t2.0.rest_fits d.1 in
    let e01 = AreSplit-then bytes (u32_bytes a.0.0) a.0.1 (stamp_bytes b.0.0) b.0.1 t0.0 t1.0 in
    let e02 = AreSplit-then bytes (u32_bytes a.0.0 ++ stamp_bytes b.0.0) b.0.1 (stamp_bytes c.0.0) c.0.1 e01 t2.0 in
    let e03 = AreSplit-then bytes (u32_bytes a.0.0 ++ stamp_bytes b.0.0 ++ stamp_bytes c.0.0) c.0.1 (rec_bytes d.0.0) d.0.1 e02 t3.0 in
    let spelled = subst (λ (t : List ℕ). AreSplit bytes (u32_bytes a.0.0 ++ stamp_bytes b.0.0 ++ t ++ rec_bytes d.0.0) d.0.1) (sym (one_stamp c.0.0)) e03 in
    let made : Logged × List ℕ = (record { edge = a.0.0; message = record { at = b.0.0; rec = d.0.0; causes = c.0.0 ∷ [] } }, d.0.1) in
    subst (λ (y : Logged × List ℕ). AreSplit bytes (logged_bytes y.0) y.1 × IsLoggedMessage y.0) (some_is made x d.2) (spelled, record { edge = t0.1; at = t1.1; causes = t2.1; rec = t3.1 })

logged_again : (m : Logged) (rest : List ℕ) → IsLoggedMessage m → logged_of (logged_bytes m ++ rest) ≡ Some (m, rest)
unfolding logged_of logged_bytes
logged_again m rest fits = with_causes m.edge m.message.at m.message.rec m.message.causes rest fits.edge fits.at fits.rec fits.causes
  where
    with_causes : (edge : ℕ) (at : Stamp) (rec : Rec) (causes : List Stamp) (rest : List ℕ) → edge < 2 ^ 32 → IsStamp at → IsRec rec → IsOneStamp causes
        → logged_of ((u32_bytes edge ++ stamp_bytes at ++ flat_map stamp_bytes causes ++ rec_bytes rec) ++ rest) ≡ Some (record { edge = edge; message = record { at = at; rec = rec; causes = causes } }, rest)
    with_causes edge at rec [] rest a b c none = absurd none
    with_causes edge at rec (s ∷ t ∷ ss) rest a b c none = absurd none
    with_causes edge at rec (s ∷ []) rest a b c one =
        let regrouped : (u32_bytes edge ++ stamp_bytes at ++ stamp_bytes s ++ rec_bytes rec) ++ rest ≡ u32_bytes edge ++ (stamp_bytes at ++ (stamp_bytes s ++ (rec_bytes rec ++ rest))) =
        append_assoc (u32_bytes edge ++ stamp_bytes at ++ stamp_bytes s) (rec_bytes rec) rest
        ∙ append_assoc (u32_bytes edge ++ stamp_bytes at) (stamp_bytes s) (rec_bytes rec ++ rest)
        ∙ append_assoc (u32_bytes edge) (stamp_bytes at) (stamp_bytes s ++ (rec_bytes rec ++ rest)) in
        ap (λ (t : List ℕ). logged_of ((u32_bytes edge ++ stamp_bytes at ++ t ++ rec_bytes rec) ++ rest)) (one_stamp s)
        ∙ ap logged_of regrouped
        ∙ rw (form32.again edge (stamp_bytes at ++ (stamp_bytes s ++ (rec_bytes rec ++ rest))) a, stamps.again at (stamp_bytes s ++ (rec_bytes rec ++ rest)) b, stamps.again s (rec_bytes rec ++ rest) one, recs.again rec rest c) refl

logged_inside : StaysInside logged_of
unfolding logged_of
logged_inside n bytes le =
    field_then n (number_field w32 bytes) (λ v0. field.◌>>=◌ (stamp_field v0.1) (λ v1. field.◌>>=◌ (stamp_field v1.1) (λ v2. field.◌>>=◌ (rec_of v2.1) (λ v3. Some (record { edge = v0.0; message = record { at = v1.0; rec = v3.0; causes = v2.0 ∷ [] } }, v3.1))))) (number_inside w32 n bytes le) (λ s0 l0.
    field_then n (stamp_field s0.1) (λ v1. field.◌>>=◌ (stamp_field v1.1) (λ v2. field.◌>>=◌ (rec_of v2.1) (λ v3. Some (record { edge = s0.0; message = record { at = v1.0; rec = v3.0; causes = v2.0 ∷ [] } }, v3.1)))) (stamp_inside n s0.1 l0) (λ s1 l1.
    field_then n (stamp_field s1.1) (λ v2. field.◌>>=◌ (rec_of v2.1) (λ v3. Some (record { edge = s0.0; message = record { at = s1.0; rec = v3.0; causes = v2.0 ∷ [] } }, v3.1))) (stamp_inside n s1.1 l1) (λ s2 l2.
    field_then n (rec_of s2.1) (λ v3. Some (record { edge = s0.0; message = record { at = s1.0; rec = v3.0; causes = s2.0 ∷ [] } }, v3.1)) (rec_inside n s2.1 l2) (λ s3 l3.
    l3))))

pub logged : IsExactField logged_of logged_bytes IsLoggedMessage
logged = record { takes = logged_takes; again = logged_again; inside = logged_inside }
