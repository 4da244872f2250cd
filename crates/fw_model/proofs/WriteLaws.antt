-- Writes: which of them hold a checkpoint or log an event, that checkpoints ascend, and that the collected ones lie below.
use Rattle.std.proofs.Common.{◌≡◌, ℕ, ◌<◌, Bool, true, List, [], ◌∷◌, ◌++◌, length, filter, map, sym, ap, subst, ◌∙◌, inl, inr, ◌⊎◌}
use Rattle.std.specs.List.{AllByRecursion}
use Rattle.std.proofs.lemmas.Bool.{cond_both}
use Rattle.fw_lemmas.proofs.Bools.{two_ways}
use Rattle.fw_lemmas.proofs.Each.{each-append, each-map, each-passed, each-replaced}
use Rattle.fw_frontier.specs.Frontier.{Within}
use Rattle.fw_frontier.specs.Front.{Front, frontier_of, IsCanonical}
use Rattle.fw_flow.specs.Dataflow.{System, bounds_of}
use Rattle.fw_model.specs.Machine.{Write, Written, checkpoint, logged_event, Stage, in_flight, acknowledged, collected, front_of}
use Rattle.fw_model.specs.Choice.{View, kept, ever, is_counted, HasCheckpoint, IsLogged}
use Rattle.fw_model.proofs.CheckpointLaws.{HoldsSettled}

-- ---- some element of a list

-- some element of the list has the property
abbrev pub HoldsOfOne : {A : Type 0} → (A → Type 0) → List A → Type 0
HoldsOfOne P [] = ⊥
HoldsOfOne P (x ∷ xs) = P x ⊎ HoldsOfOne P xs

pub some-weaker : {A : Type 0} (P Q : A → Type 0) (xs : List A) → ((x : A) → P x → Q x) → HoldsOfOne P xs → HoldsOfOne Q xs
some-weaker P Q [] w a = absurd a
some-weaker P Q (x ∷ xs) w (inl a) = inl (w x a)
some-weaker P Q (x ∷ xs) w (inr a) = inr (some-weaker P Q xs w a)

pub some-append : {A : Type 0} (P : A → Type 0) (xs ys : List A) → HoldsOfOne P xs → HoldsOfOne P (xs ++ ys)
some-append P [] ys a = absurd a
some-append P (x ∷ xs) ys (inl a) = inl a
some-append P (x ∷ xs) ys (inr a) = inr (some-append P xs ys a)

pub some-passed : {A : Type 0} (P : A → Type 0) (test : A → Bool) (xs : List A) → ((x : A) → P x → test x ≡ true) → HoldsOfOne P xs → HoldsOfOne P (filter test xs)
some-passed P test [] w a = absurd a
some-passed P test (x ∷ xs) w (inl a) =
    cond_both (test x) (x ∷ filter test xs) (filter test xs) (HoldsOfOne P) (λ e. inl a) (λ e. absurd (two_ways (test x) (w x a) e))
some-passed P test (x ∷ xs) w (inr a) =
    let rest = some-passed P test xs w a in
    cond_both (test x) (x ∷ filter test xs) (filter test xs) (HoldsOfOne P) (λ e. inr rest) (λ e. rest)

pub some-mapped : {A B : Type 0} (P : A → Type 0) (Q : B → Type 0) (f : A → B) (xs : List A) → ((x : A) → P x → Q (f x)) → HoldsOfOne P xs → HoldsOfOne Q (map f xs)
some-mapped P Q f [] w a = absurd a
some-mapped P Q f (x ∷ xs) w (inl a) = inl (w x a)
some-mapped P Q f (x ∷ xs) w (inr a) = inr (some-mapped P Q f xs w a)

pub some-replaced : {A : Type 0} (P : A → Type 0) (xs : List A) (y z : A) (ys : List A) → (P y → P z) → HoldsOfOne P (xs ++ y ∷ ys) → HoldsOfOne P (xs ++ z ∷ ys)
some-replaced P [] y z ys w (inl a) = inl (w a)
some-replaced P [] y z ys w (inr a) = inr a
some-replaced P (x ∷ xs) y z ys w (inl a) = inl a
some-replaced P (x ∷ xs) y z ys w (inr a) = inr (some-replaced P xs y z ys w a)

-- ---- checkpoints and logged events

-- what is written of a node is its checkpoint at f, and counts in the view
abbrev pub IsCheckpointAt : View → ℕ → Front → ℕ → Written → Stage → Type 0
IsCheckpointAt view p f n (checkpoint g low) far = (n ≡ p) × (g ≡ f) × (is_counted view far ≡ true)
IsCheckpointAt view p f n (logged_event serial) far = ⊥

-- the write is the node's checkpoint at f
abbrev pub IsItsCheckpoint : View → ℕ → Front → Write → Type 0
IsItsCheckpoint view p f write = IsCheckpointAt view p f write.node write.written write.stage

-- what is written logs the event of this serial, and was acknowledged
abbrev pub NamesEvent : ℕ → Written → Stage → Type 0
NamesEvent serial (checkpoint g low) far = ⊥
NamesEvent serial (logged_event s) far = (s ≡ serial) × (is_counted ever far ≡ true)

-- the write logs it
abbrev pub LogsEvent : ℕ → Write → Type 0
LogsEvent serial write = NamesEvent serial write.written write.stage

pub some-checkpoint : (view : View) (p : ℕ) (f : Front) (writes : List Write) → HasCheckpoint view p f writes → HoldsOfOne (IsItsCheckpoint view p f) writes
some-checkpoint view p f [] k = absurd k
some-checkpoint view p f (write ∷ writes) k = by write.node write.written write.stage (λ c. some-checkpoint view p f writes c) k
  where
    by : (n : ℕ) (w : Written) (far : Stage) → (HasCheckpoint view p f writes → HoldsOfOne (IsItsCheckpoint view p f) writes) → HasCheckpoint view p f (record write { node = n; written = w; stage = far } ∷ writes)
        → IsCheckpointAt view p f n w far ⊎ HoldsOfOne (IsItsCheckpoint view p f) writes
    by n (checkpoint g low) far rest k = elim k [ inl c ↦ inl c | inr c ↦ inr (rest c) ]
    by n (logged_event serial) far rest k = elim k [ inl c ↦ absurd c | inr c ↦ inr (rest c) ]

pub checkpoint-some : (view : View) (p : ℕ) (f : Front) (writes : List Write) → HoldsOfOne (IsItsCheckpoint view p f) writes → HasCheckpoint view p f writes
checkpoint-some view p f [] k = absurd k
checkpoint-some view p f (write ∷ writes) k = by write.node write.written write.stage (λ c. checkpoint-some view p f writes c) k
  where
    by : (n : ℕ) (w : Written) (far : Stage) → (HoldsOfOne (IsItsCheckpoint view p f) writes → HasCheckpoint view p f writes) → IsCheckpointAt view p f n w far ⊎ HoldsOfOne (IsItsCheckpoint view p f) writes
        → HasCheckpoint view p f (record write { node = n; written = w; stage = far } ∷ writes)
    by n (checkpoint g low) far rest k = elim k [ inl c ↦ inl c | inr c ↦ inr (rest c) ]
    by n (logged_event serial) far rest k = elim k [ inl c ↦ absurd c | inr c ↦ inr (rest c) ]

pub some-logged : (serial : ℕ) (writes : List Write) → IsLogged serial writes → HoldsOfOne (LogsEvent serial) writes
some-logged serial [] k = absurd k
some-logged serial (write ∷ writes) k = by write.node write.written write.stage (λ c. some-logged serial writes c) k
  where
    by : (n : ℕ) (w : Written) (far : Stage) → (IsLogged serial writes → HoldsOfOne (LogsEvent serial) writes) → IsLogged serial (record write { node = n; written = w; stage = far } ∷ writes)
        → NamesEvent serial w far ⊎ HoldsOfOne (LogsEvent serial) writes
    by n (checkpoint g low) far rest k = elim k [ inl c ↦ absurd c | inr c ↦ inr (rest c) ]
    by n (logged_event s) far rest k = elim k [ inl c ↦ inl c | inr c ↦ inr (rest c) ]

pub logged-some : (serial : ℕ) (writes : List Write) → HoldsOfOne (LogsEvent serial) writes → IsLogged serial writes
logged-some serial [] k = absurd k
logged-some serial (write ∷ writes) k = by write.node write.written write.stage (λ c. logged-some serial writes c) k
  where
    by : (n : ℕ) (w : Written) (far : Stage) → (HoldsOfOne (LogsEvent serial) writes → IsLogged serial writes) → NamesEvent serial w far ⊎ HoldsOfOne (LogsEvent serial) writes
        → IsLogged serial (record write { node = n; written = w; stage = far } ∷ writes)
    by n (checkpoint g low) far rest k = elim k [ inl c ↦ absurd c | inr c ↦ inr (rest c) ]
    by n (logged_event s) far rest k = elim k [ inl c ↦ inl c | inr c ↦ inr (rest c) ]

-- ---- each write and each later one

-- each write is so related to each later one, by their nodes and what is written: how far they are plays no part
abbrev pub ArePairs : (ℕ → Written → ℕ → Written → Type 0) → List Write → Type 0
ArePairs R [] = Unit {0}
ArePairs R (x ∷ xs) = AllByRecursion (λ (y : Write). R x.node x.written y.node y.written) xs × ArePairs R xs

pub pairs-append : (R : ℕ → Written → ℕ → Written → Type 0) (xs ys : List Write) → ArePairs R xs → ArePairs R ys
    → AllByRecursion (λ (x : Write). AllByRecursion (λ (y : Write). R x.node x.written y.node y.written) ys) xs → ArePairs R (xs ++ ys)
pairs-append R [] ys a b c = b
pairs-append R (x ∷ xs) ys a b c = (each-append (λ (y : Write). R x.node x.written y.node y.written) xs ys a.0 c.0, pairs-append R xs ys a.1 b c.1)

pub pairs-passed : (R : ℕ → Written → ℕ → Written → Type 0) (test : Write → Bool) (xs : List Write) → ArePairs R xs → ArePairs R (filter test xs)
pairs-passed R test [] a = tt
pairs-passed R test (x ∷ xs) a =
    let rest = pairs-passed R test xs a.1 in
    let P : Write → Type 0 = λ y. R x.node x.written y.node y.written in
    cond_both (test x) (x ∷ filter test xs) (filter test xs) (ArePairs R) (λ e. (each-passed P P test xs (λ y k b. b) a.0, rest)) (λ e. rest)

pub pairs-mapped : (R : ℕ → Written → ℕ → Written → Type 0) (far : Write → Stage) (xs : List Write) → ArePairs R xs
    → ArePairs R (map (λ (x : Write). record x { stage = far x }) xs)
pairs-mapped R far [] a = tt
pairs-mapped R far (x ∷ xs) a =
    (each-map (λ (y : Write). R x.node x.written y.node y.written) (λ (y : Write). record y { stage = far y }) xs a.0, pairs-mapped R far xs a.1)

pub pairs-replaced : (R : ℕ → Written → ℕ → Written → Type 0) (xs : List Write) (y : Write) (far : Stage) (ys : List Write) → ArePairs R (xs ++ y ∷ ys)
    → ArePairs R (xs ++ record y { stage = far } ∷ ys)
pairs-replaced R [] y far ys a = a
pairs-replaced R (x ∷ xs) y far ys a =
    (each-replaced (λ (z : Write). R x.node x.written z.node z.written) xs y (record y { stage = far }) ys (λ b. b) a.0, pairs-replaced R xs y far ys a.1)

-- ---- checkpoints ascend

-- of two that are written of one node the first lies within the second, if both are checkpoints
abbrev pub LiesBelow : System → ℕ → Written → ℕ → Written → Type 0
LiesBelow sys p (checkpoint f l) q (checkpoint g m) = p ≡ q → p < length sys.flow.nodes → Within (frontier_of (bounds_of sys.flow p) f) (frontier_of (bounds_of sys.flow p) g)
LiesBelow sys p (checkpoint f l) q (logged_event s) = Unit {0}
LiesBelow sys p (logged_event r) q w = Unit {0}

abbrev pub IsWriteBelow : System → Write → Write → Type 0
IsWriteBelow sys x y = LiesBelow sys x.node x.written y.node y.written

-- the checkpoints of each node ascend in order of asking
abbrev pub AreAscending : System → List Write → Type 0
AreAscending sys xs = ArePairs (LiesBelow sys) xs

-- what lies within what is settled lies below the checkpoint of it
pub settled-below : (sys : System) (settled : List Front) (p : ℕ) (w : Written) (q : ℕ) (low : List Front) → HoldsSettled sys settled p w
    → LiesBelow sys p w q (checkpoint (front_of settled q) low)
settled-below sys settled p (checkpoint f l) q low h = λ e i t k. ap (λ n. frontier_of (bounds_of sys.flow p) (front_of settled n) t) (sym e) ∙ h i t k
settled-below sys settled p (logged_event r) q low h = tt

one_front : (view : View) (p : ℕ) (f g : Front) (n : ℕ) (w : Written) (far : Stage) → IsCheckpointAt view p f n w far → IsCheckpointAt view p g n w far → f ≡ g
one_front view p f g n (checkpoint x l) far a b = sym a.1 ∙ b.1
one_front view p f g n (logged_event r) far a b = absurd a

two_fronts : (sys : System) (view : View) (p : ℕ) (f g : Front) (m n : ℕ) (v w : Written) (near far : Stage) → p < length sys.flow.nodes
    → LiesBelow sys m v n w → IsCheckpointAt view p f m v near → IsCheckpointAt view p g n w far → Within (frontier_of (bounds_of sys.flow p) f) (frontier_of (bounds_of sys.flow p) g)
two_fronts sys view p f g m n (checkpoint x l) (checkpoint y k) near far i b a c =
    let lies : Within (frontier_of (bounds_of sys.flow p) x) (frontier_of (bounds_of sys.flow p) y) =
    subst (λ q. q < length sys.flow.nodes → Within (frontier_of (bounds_of sys.flow q) x) (frontier_of (bounds_of sys.flow q) y)) a.0 (b (a.0 ∙ sym c.0)) i in
    λ t j. ap (λ z. frontier_of (bounds_of sys.flow p) z t) (sym c.1) ∙ lies t (ap (λ z. frontier_of (bounds_of sys.flow p) z t) a.1 ∙ j)
two_fronts sys view p f g m n (checkpoint x l) (logged_event r) near far i b a c = absurd c
two_fronts sys view p f g m n (logged_event r) w near far i b a c = absurd a

below-some : (sys : System) (view : View) (p : ℕ) (f g : Front) (x : Write) (xs : List Write) → p < length sys.flow.nodes → AllByRecursion (IsWriteBelow sys x) xs
    → IsItsCheckpoint view p f x → HoldsOfOne (IsItsCheckpoint view p g) xs → Within (frontier_of (bounds_of sys.flow p) f) (frontier_of (bounds_of sys.flow p) g)
below-some sys view p f g x [] i b a c = absurd c
below-some sys view p f g x (y ∷ xs) i b a (inl c) = two_fronts sys view p f g x.node y.node x.written y.written x.stage y.stage i b.0 a c
below-some sys view p f g x (y ∷ xs) i b a (inr c) = below-some sys view p f g x xs i b.1 a c

-- of two checkpoints of a node one lies within the other
pub ascending-chain : (sys : System) (view : View) (p : ℕ) (f g : Front) (xs : List Write) → p < length sys.flow.nodes → AreAscending sys xs
    → HoldsOfOne (IsItsCheckpoint view p f) xs → HoldsOfOne (IsItsCheckpoint view p g) xs
    → Within (frontier_of (bounds_of sys.flow p) f) (frontier_of (bounds_of sys.flow p) g) ⊎ Within (frontier_of (bounds_of sys.flow p) g) (frontier_of (bounds_of sys.flow p) f)
ascending-chain sys view p f g [] i a b c = absurd b
ascending-chain sys view p f g (x ∷ xs) i a (inl b) (inl c) =
    inl (λ t k. ap (λ z. frontier_of (bounds_of sys.flow p) z t) (sym (one_front view p f g x.node x.written x.stage b c)) ∙ k)
ascending-chain sys view p f g (x ∷ xs) i a (inl b) (inr c) = inl (below-some sys view p f g x xs i a.0 b c)
ascending-chain sys view p f g (x ∷ xs) i a (inr b) (inl c) = inr (below-some sys view p g f x xs i a.0 c b)
ascending-chain sys view p f g (x ∷ xs) i a (inr b) (inr c) = ascending-chain sys view p f g xs i a.1 b c

-- ---- collected checkpoints lie below the low watermark

-- what is written of a node and was collected does not contain the low watermark, if it is a checkpoint
abbrev pub IsCollectedBelow : System → List Front → ℕ → Written → Stage → Type 0
IsCollectedBelow sys low p (checkpoint f l) in_flight = Unit {0}
IsCollectedBelow sys low p (checkpoint f l) acknowledged = Unit {0}
IsCollectedBelow sys low p (checkpoint f l) collected =
    p < length sys.flow.nodes → IsCanonical (bounds_of sys.flow p) f
    → Within (frontier_of (bounds_of sys.flow p) (front_of low p)) (frontier_of (bounds_of sys.flow p) f) → ⊥
IsCollectedBelow sys low p (logged_event s) far = Unit {0}

abbrev pub IsWriteCollectedBelow : System → List Front → Write → Type 0
IsWriteCollectedBelow sys low write = IsCollectedBelow sys low write.node write.written write.stage

not_collected : (sys : System) (low : List Front) (p : ℕ) (f : Front) (n : ℕ) (w : Written) (far : Stage) → p < length sys.flow.nodes
    → IsCanonical (bounds_of sys.flow p) f → Within (frontier_of (bounds_of sys.flow p) (front_of low p)) (frontier_of (bounds_of sys.flow p) f)
    → IsCollectedBelow sys low n w far → IsCheckpointAt ever p f n w far → IsCheckpointAt kept p f n w far
not_collected sys low p f n (checkpoint g l) in_flight i c v b a = a
not_collected sys low p f n (checkpoint g l) acknowledged i c v b a = a
not_collected sys low p f n (checkpoint g l) collected i c v b a =
    absurd (subst (λ q. q < length sys.flow.nodes → IsCanonical (bounds_of sys.flow q) f
    → Within (frontier_of (bounds_of sys.flow q) (front_of low q)) (frontier_of (bounds_of sys.flow q) f) → ⊥) a.0
    (subst (λ x. n < length sys.flow.nodes → IsCanonical (bounds_of sys.flow n) x
    → Within (frontier_of (bounds_of sys.flow n) (front_of low n)) (frontier_of (bounds_of sys.flow n) x) → ⊥) a.1 b) i c v)
not_collected sys low p f n (logged_event s) far i c v b a = absurd a

-- a checkpoint that contains the low watermark is kept
pub kept-from_ever : (sys : System) (low : List Front) (p : ℕ) (f : Front) (xs : List Write) → p < length sys.flow.nodes → IsCanonical (bounds_of sys.flow p) f
    → Within (frontier_of (bounds_of sys.flow p) (front_of low p)) (frontier_of (bounds_of sys.flow p) f) → AllByRecursion (IsWriteCollectedBelow sys low) xs
    → HoldsOfOne (IsItsCheckpoint ever p f) xs → HoldsOfOne (IsItsCheckpoint kept p f) xs
kept-from_ever sys low p f [] i c v a b = absurd b
kept-from_ever sys low p f (x ∷ xs) i c v a (inl b) = inl (not_collected sys low p f x.node x.written x.stage i c v a.0 b)
kept-from_ever sys low p f (x ∷ xs) i c v a (inr b) = inr (kept-from_ever sys low p f xs i c v a.1 b)
