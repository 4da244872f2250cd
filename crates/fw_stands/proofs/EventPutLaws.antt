-- For the loops that put what is sent into queues and logs: message by message, and out-edge by out-edge.
use Rattle.std.proofs.Common.{◌≡◌, ℕ, zero, suc, ◌+◌, ◌<◌, Bool, true, false, not, ◌&&◌, ◌||◌, ◌==◌, cond, List, [], ◌∷◌, ◌++◌, length, get_or, take, Option, Some, None, refl, sym, ap, ◌∙◌, inl, inr, arith}
use Rattle.std.specs.Prelude.{filter, slice_get}
use Rattle.std.proofs.lemmas.Bool.{cases_eq, cond-true, cond-false, cond_both, eq-eqb, eqb-true, false_from_ne_true}
use Rattle.fw_frontier.specs.Front.{Front, inside}
use Rattle.fw_flow.specs.declared.event.Message.{Message}
use Rattle.fw_flow.specs.declared.key_part.KeyPart.{KeyPart}
use Rattle.fw_flow.specs.Dataflow.{Dataflow, is_one_of, out_edges, sender}
use Rattle.fw_flow.specs.KeyParts.{is_of_part_if}
use Rattle.fw_model.specs.Carried.{messages_of_part}
use Rattle.fw_model.specs.Filtering.{messages_outside}
use Rattle.fw_model.specs.SortedMessages.{sorted_messages, with_message, with_messages}
use Rattle.fw_progress.proofs.OutLaws.{among-out, out-among}
use Rattle.fw_stands.proofs.EventQueueLaws.{last-put_in}

-- ---- message by message

take-suc : (ms : List Message) (i : ℕ) (m : Message) → slice_get ms i ≡ Some m → take (suc i) ms ≡ take i ms ++ m ∷ []
take-suc [] i m k = absurd (cc k)
take-suc (x ∷ ms) zero m k = let is : x ≡ m = cc k in ap (λ y. y ∷ []) is
take-suc (x ∷ ms) (suc i) m k = ap (λ ys. x ∷ ys) (take-suc ms i m k)

take-past : (ms : List Message) (i : ℕ) → slice_get ms i ≡ None → take (suc i) ms ≡ take i ms
take-past [] zero k = refl
take-past [] (suc i) k = refl
take-past (x ∷ ms) zero k = absurd (cc k)
take-past (x ∷ ms) (suc i) k = ap (λ ys. x ∷ ys) (take-past ms i k)

next : (ms : List Message) (i : ℕ) → take (i + 1) ms ≡ take (suc i) ms
next ms i = let one : i + 1 ≡ suc i = omega arith in ap (λ n. take n ms) one

filter-last : (test : Message → Bool) (ms : List Message) (m : Message) → filter test (ms ++ m ∷ []) ≡ filter test ms ++ cond (test m) (m ∷ []) []
filter-last test [] m = refl
filter-last test (x ∷ ms) m =
    cond_both (test x) (x ∷ filter test ms) (filter test ms) (λ zs. cond (test x) (x ∷ filter test (ms ++ m ∷ [])) (filter test (ms ++ m ∷ [])) ≡ zs ++ cond (test m) (m ∷ []) [])
    (λ e. cond-true (test x) (x ∷ filter test (ms ++ m ∷ [])) (filter test (ms ++ m ∷ [])) e ∙ ap (λ zs. x ∷ zs) (filter-last test ms m))
    (λ e. cond-false (test x) (x ∷ filter test (ms ++ m ∷ [])) (filter test (ms ++ m ∷ [])) e ∙ filter-last test ms m)

append-none : (xs : List Message) → xs ++ [] ≡ xs
append-none [] = refl
append-none (x ∷ xs) = ap (λ ys. x ∷ ys) (append-none xs)

-- the message at the next place is put in, where it passes a test
pub kept-step : (test : Message → Bool) (ms : List Message) (i : ℕ) (m : Message) (now new old : List Message) → sorted_messages old ≡ old → Some m ≡ slice_get ms i → test m ≡ true
    → now ≡ with_messages (filter test (take i ms)) old → new ≡ with_message m now → new ≡ with_messages (filter test (take (i + 1) ms)) old
kept-step test ms i m now new old s k o e g =
    let t = next ms i ∙ take-suc ms i m (sym k) in
    let d = filter-last test (take i ms) m ∙ ap (λ b. filter test (take i ms) ++ cond b (m ∷ []) []) o in
    g ∙ ap (with_message m) e ∙ sym (last-put_in (filter test (take i ms)) m old s) ∙ sym (ap (λ xs. with_messages xs old) (ap (filter test) t ∙ d))

-- where it does not it is not
pub kept-skip : (test : Message → Bool) (ms : List Message) (i : ℕ) (m : Message) (now new old : List Message) → Some m ≡ slice_get ms i → test m ≡ false
    → now ≡ with_messages (filter test (take i ms)) old → new ≡ now → new ≡ with_messages (filter test (take (i + 1) ms)) old
kept-skip test ms i m now new old k o e g =
    let t = next ms i ∙ take-suc ms i m (sym k) in
    let d = filter-last test (take i ms) m ∙ ap (λ b. filter test (take i ms) ++ cond b (m ∷ []) []) o ∙ append-none (filter test (take i ms)) in
    g ∙ e ∙ sym (ap (λ xs. with_messages xs old) (ap (filter test) t ∙ d))

-- past the last place none is
pub kept-past : (test : Message → Bool) (ms : List Message) (i : ℕ) (now new old : List Message) → None ≡ slice_get ms i
    → now ≡ with_messages (filter test (take i ms)) old → new ≡ now → new ≡ with_messages (filter test (take (i + 1) ms)) old
kept-past test ms i now new old k e g = g ∙ e ∙ sym (ap (λ xs. with_messages (filter test xs) old) (next ms i ∙ take-past ms i (sym k)))

-- of a part and then outside is both
pub outside-part : (f : Front) (part : Option KeyPart) (ms : List Message)
    → messages_outside (inside f) (messages_of_part part ms) ≡ filter (λ (m : Message). is_of_part_if part m.rec.key && not (inside f m.at)) ms
outside-part f part [] = refl
outside-part f part (m ∷ ms) = by (is_of_part_if part m.rec.key) (outside-part f part ms)
  where
    mine : List Message
    mine = messages_of_part part ms

    both : List Message
    both = filter (λ (x : Message). is_of_part_if part x.rec.key && not (inside f x.at)) ms

    by : (b : Bool) → messages_outside (inside f) mine ≡ both → messages_outside (inside f) (cond b (m ∷ mine) mine) ≡ cond (b && not (inside f m.at)) (m ∷ both) both
    by true h = ap (λ xs. cond (not (inside f m.at)) (m ∷ xs) xs) h
    by false h = h

-- ---- out-edge by out-edge

-- one place more is one edge more
pub out_edge-more : (es : List ℕ) (i e : ℕ) → i < length es → is_one_of e (take (suc i) es) ≡ (is_one_of e (take i es) || get_or es i e == e)
out_edge-more [] i e l = absurd (omega arith)
out_edge-more (x ∷ es) zero e l = or-false (x == e)
  where
    or-false : (b : Bool) → (b || false) ≡ b
    or-false true = refl
    or-false false = refl
out_edge-more (x ∷ es) (suc i) e l =
    ap (λ b. x == e || b) (out_edge-more es i e (omega arith)) ∙ or-assoc (x == e) (is_one_of e (take i es)) (get_or es i e == e)
  where
    or-assoc : (a b c : Bool) → (a || (b || c)) ≡ ((a || b) || c)
    or-assoc true b c = refl
    or-assoc false b c = refl

-- an edge is one of the out-edges of a node where the node sends on it
pub out_edge-all : (flow : Dataflow) (p e : ℕ) → e < length flow.edges → is_one_of e (out_edges flow p) ≡ (sender flow e == p)
out_edge-all flow p e l = elim (cases_eq (sender flow e) p) [
  | inl i ↦ out-among flow p e l i ∙ sym (eq-eqb (sender flow e) p i)
  | inr n ↦
      false_from_ne_true (is_one_of e (out_edges flow p)) (λ k. n (among-out flow p e k))
      ∙ sym (false_from_ne_true (sender flow e == p) (λ k. n (eqb-true (sender flow e) p k)))
]
