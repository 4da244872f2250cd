-- Whether an event is logged, as a test of its serial.
use Rattle.std.proofs.Common.{◌≡◌, ◌↔◌, inl, inr, ℕ, true, ◌&&◌, ◌==◌, List, [], ◌∷◌}
use Rattle.std.proofs.lemmas.Bool.{and_parts, and_from, eqb-true, eq-eqb, or_cases, or_left, or_right}
use Rattle.fw_model.specs.Choice.{ever, is_counted, IsLogged, logs_serial, is_serial_logged}
use Rattle.fw_model.specs.Machine.{Write, Written, checkpoint, logged_event, Stage}
use Rattle.fw_model.proofs.WriteLaws.{HoldsOfOne, NamesEvent, LogsEvent, some-logged, logged-some}

pub names-of : (serial : ℕ) (w : Written) (far : Stage) → (logs_serial serial w && is_counted ever far) ≡ true → NamesEvent serial w far
names-of serial (checkpoint g low) far k = absurd (cc)
names-of serial (logged_event s) far k = let a = and_parts (s == serial) (is_counted ever far) k in (eqb-true s serial a.0, a.1)

pub named-test : (serial : ℕ) (w : Written) (far : Stage) → NamesEvent serial w far → (logs_serial serial w && is_counted ever far) ≡ true
named-test serial (checkpoint g low) far k = absurd k
named-test serial (logged_event s) far k = and_from (s == serial) (is_counted ever far) (eq-eqb s serial k.0) k.1

pub test-logged : (serial : ℕ) (writes : List Write) → is_serial_logged serial writes ≡ true → HoldsOfOne (LogsEvent serial) writes
test-logged serial [] k = absurd (cc)
test-logged serial (x ∷ xs) k = elim (or_cases (logs_serial serial x.written && is_counted ever x.stage) (is_serial_logged serial xs) k) [
  | inl a ↦ inl (names-of serial x.written x.stage a)
  | inr a ↦ inr (test-logged serial xs a)
]

pub logged-test : (serial : ℕ) (writes : List Write) → HoldsOfOne (LogsEvent serial) writes → is_serial_logged serial writes ≡ true
logged-test serial [] k = absurd k
logged-test serial (x ∷ xs) (inl a) = or_left (logs_serial serial x.written && is_counted ever x.stage) (is_serial_logged serial xs) (named-test serial x.written x.stage a)
logged-test serial (x ∷ xs) (inr a) = or_right (logs_serial serial x.written && is_counted ever x.stage) (is_serial_logged serial xs) (logged-test serial xs a)

-- the test passes exactly where the event is logged
pub logged-is : (serial : ℕ) (writes : List Write) → (is_serial_logged serial writes ≡ true) ↔ IsLogged serial writes
logged-is serial writes = (
  λ k. logged-some serial writes (test-logged serial writes k),
  λ k. logged-test serial writes (some-logged serial writes k),
)
