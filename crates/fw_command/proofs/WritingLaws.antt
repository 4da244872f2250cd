-- What a sink took, piece by piece.
use Rattle.std.proofs.Common.{◌≡◌, inl, inr, ℕ, List, [], ◌++◌, length, take, drop, Option, Some, None, option_map, Result, Ok, Err, refl, sym, ◌∙◌, ap, subst, arith, append_assoc}
use Rattle.std.proofs.Math.Seq.{take-append_seam}
use Rattle.std.proofs.lemmas.List.{append-nil, length-append, take-append-drop}
use Rattle.std.specs.Prelude.{OnOk, OnErr}
use Rattle.fw_outside.specs.declared.fault.OutFault.{OutFault}
use Rattle.fw_outside.specs.declared.fault.OutFault.TheVariants.{Failed, NoMemory}
use Rattle.fw_outside.specs.Outside.{SinkView, Takes, TakesPrefix, faults_after, refusals_after}
use Rattle.fw_command.specs.Writing.{faults_by, IsRefusedBy, IsWritten, IsPartWritten, IsCutOff, Writes}

-- ---- pieces

pub takes_more : (before mid after : Option (List ℕ)) (one other : List ℕ) → Takes before one mid → Takes mid other after → Takes before (one ++ other) after
takes_more None mid after one other e f = f ∙ ap (option_map (λ t. t ++ other)) e
takes_more (Some taken) mid after one other e f = f ∙ ap (option_map (λ t. t ++ other)) e ∙ ap Some (append_assoc taken one other)

pub takes_none : (before : Option (List ℕ)) → Takes before [] before
takes_none None = refl
takes_none (Some taken) = ap Some (sym (append-nil taken))

-- ---- what was written

pub written_nothing : (view : SinkView) → IsWritten [] view view
written_nothing view = record { taken = takes_none view.taken; none_refused = refl; none_failed = refl }

-- bytes were written behind others
pub written_more : (one other : List ℕ) (before mid after : SinkView) → IsWritten one before mid → IsWritten other mid after → IsWritten (one ++ other) before after
written_more one other before mid after w v = record {
  taken = takes_more before.taken mid.taken after.taken one other w.taken v.taken;
  none_refused = v.none_refused ∙ w.none_refused;
  none_failed = v.none_failed ∙ w.none_failed;
}

-- what a write answers
pub writes : {T : Type 0} (bytes : List ℕ) (answer : Result T OutFault) (before after : SinkView) → OnOk answer (Takes before.taken bytes after.taken) → OnErr answer (TakesPrefix before.taken bytes after.taken)
    → after.refusals ≡ refusals_after answer before.refusals → after.faults ≡ faults_after answer before.faults → Writes bytes answer before after
writes bytes (Ok value) before after whole part refusals faults = record { taken = whole; none_refused = refusals; none_failed = faults }
writes bytes (Err Failed) before after whole part refusals faults = record { taken = part; faults = faults; refusals = refusals }
writes bytes (Err NoMemory) before after whole part refusals faults = record { taken = part; faults = faults; refusals = inr refusals }

-- memory was refused before any of these bytes were written
pub cut_nothing : (bytes : List ℕ) (view : SinkView) → IsCutOff bytes NoMemory view view
cut_nothing bytes view = record { taken = (0, omega arith, takes_none view.taken); faults = refl; refusals = inl refl }

-- none of these bytes were written
pub part_nothing : (bytes : List ℕ) (view : SinkView) → IsPartWritten bytes view view
part_nothing bytes view = record { taken = (0, omega arith, takes_none view.taken); none_refused = refl; none_failed = refl }

-- ---- first bytes

-- bytes that were taken are first bytes of more
pub takes_first : (before after : Option (List ℕ)) (one other : List ℕ) → Takes before one after → TakesPrefix before (one ++ other) after
takes_first before after one other t = (
  length one,
  omega (arith, length-append one other),
  subst (λ bytes. Takes before bytes after) (sym (take-append_seam one other)) t,
)

-- bytes of which first ones were written, and the fault was not the output's, were cut off as if memory had been refused
pub cut_of-part : (bytes : List ℕ) (before after : SinkView) → IsPartWritten bytes before after → IsCutOff bytes NoMemory before after
cut_of-part bytes before after p = record { taken = p.taken; faults = p.none_failed; refusals = inl p.none_refused }
