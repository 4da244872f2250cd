-- What a call opens with, as a text.
use Rattle.std.proofs.Common.{◌≡◌, ◌⊎◌, inl, inr, ℕ, ◌++◌, List, [], Err, append_assoc, refl, ap, ◌∙◌}
use Rattle.std.specs.Prelude.{IsErrOf}
use Rattle.fw_outside.specs.Outside.{SinkView}
use Rattle.fw_live.specs.declared.fault.ServeFault.{ServeFault}
use Rattle.fw_live.specs.declared.fault.ServeFault.TheVariants.{Read, Write, Store, NoMemory}
use Rattle.fw_live.specs.Serving.{IsCutBy}
use Rattle.fw_command.specs.Writing.{IsWritten}
use Rattle.fw_run.specs.declared.status.Status.TheVariants.{Done, ReadFault, StoreFault}
use Rattle.fw_run.specs.declared.status.Status.TheVariants as status
use Rattle.fw_run.specs.Call.{CountsWrites}
use Rattle.fw_live.specs.Call.{stopped_status}
use Rattle.fw_live.proofs.CommandLaws.{writes-none}
use Rattle.fw_relive.specs.Opening.{CutsOpening}

-- three pieces, of which the first has three parts
pub resumed-parts : (old r d n l o one two three : List ℕ) → one ≡ old ++ (r ++ (d ++ n)) → two ≡ one ++ l → three ≡ two ++ o
    → three ≡ old ++ ((r ++ (d ++ (n ++ l))) ++ o)
resumed-parts old r d n l o one two three p q s =
    s ∙ ap (λ xs. xs ++ o) (q ∙ ap (λ xs. xs ++ l) p ∙ append_assoc old (r ++ (d ++ n)) l
    ∙ ap (λ xs. old ++ xs) (append_assoc r (d ++ n) l ∙ ap (λ xs. r ++ xs) (append_assoc d n l)))
    ∙ append_assoc old (r ++ (d ++ (n ++ l))) o

-- what came, what was found, and the end
pub opened-parts : (came found end zero one two three : List ℕ) → zero ≡ [] → one ≡ zero ++ came → two ≡ one ++ found → three ≡ two ++ end
    → three ≡ came ++ (found ++ end)
opened-parts came found end zero one two three z p q s =
    s ∙ ap (λ xs. xs ++ end) (q ∙ ap (λ xs. xs ++ found) (p ∙ ap (λ xs. xs ++ came) z)) ∙ append_assoc came found end

-- ---- how much of it was written

pub cuts-by : (fault : ServeFault) (text : List ℕ) (before after : SinkView) → IsCutBy fault text before after → CutsOpening fault text before after
cuts-by Read text before after c = absurd c
cuts-by Write text before after c = c
cuts-by Store text before after c = absurd c
cuts-by NoMemory text before after c = inr c

-- where nothing was kept nothing was written
pub cuts-kept : (fault : ServeFault) (text : List ℕ) (at : SinkView) → (IsErrOf {T = Unit {0}} (Err fault) Write → ⊥) → (IsErrOf {T = Unit {0}} (Err fault) Read → ⊥)
    → CutsOpening fault text at at
cuts-kept Read text at write read = absurd (read refl)
cuts-kept Write text at write read = absurd (write refl)
cuts-kept Store text at write read = refl
cuts-kept NoMemory text at write read = inl refl

-- ---- how often the output failed

pub counts-written : (text : List ℕ) (before after : SinkView) → IsWritten text before after → CountsWrites Done before after
counts-written text before after w = record {
  faults = w.none_failed;
  refusals = λ _. w.none_refused;
  no_memory = λ _. inl w.none_refused;
}

pub counts-cut_by : (fault : ServeFault) (text : List ℕ) (before after : SinkView) → IsCutBy fault text before after
    → CountsWrites (stopped_status fault) before after
counts-cut_by Read text before after c = absurd c
counts-cut_by Write text before after c = record { faults = c.faults; refusals = λ _. c.refusals; no_memory = λ e. absurd cc }
counts-cut_by Store text before after c = absurd c
counts-cut_by NoMemory text before after c = record { faults = c.faults; refusals = λ n. absurd (n refl); no_memory = λ _. c.refusals }

pub counts-kept : (fault : ServeFault) (at : SinkView) → (IsErrOf {T = Unit {0}} (Err fault) Write → ⊥) → CountsWrites (stopped_status fault) at at
counts-kept Read at write = writes-none ReadFault at (λ count. refl)
counts-kept Write at write = absurd (write refl)
counts-kept Store at write = writes-none StoreFault at (λ count. refl)
counts-kept NoMemory at write = writes-none status.NoMemory at (λ count. refl)
