-- What stands in lists of which there is one for each.
use Rattle.std.proofs.Common.{◌≡◌, ℕ, zero, suc, Bor, List, [], ◌∷◌, length, nat_lt, Option, Some, None, refl, ap, ◌∙◌, arith}
use Rattle.std.specs.Prelude.{IfSome, is_some, slice_get}
use Rattle.std.specs.Option.{option_copied}
use Rattle.std.proofs.lemmas.Bool.Decides.{nat_tests}
use Rattle.fw_flow.specs.declared.event.Message.{Message}
use Rattle.fw_edge.specs.Messages.{MessagesState}
use Rattle.fw_rollback.specs.Edges.{on_edge}

-- something is there, if it is once it is copied
pub is_some-copied : {A : Type 0} (found : Option (Bor A)) → is_some found ≡ is_some (option_copied found)
is_some-copied None = refl
is_some-copied (Some x) = refl

less-suc : (i n : ℕ) → nat_lt i n ≡ nat_lt (suc i) (suc n)
less-suc i n = grind (arith, nat_tests)

-- something stands in a list at the places below its length
is_some-get : {A : Type 0} (xs : List A) (i : ℕ) → is_some (slice_get xs i) ≡ nat_lt i (length xs)
is_some-get [] i = grind (arith, nat_tests)
is_some-get (x ∷ xs) zero = grind (arith, nat_tests)
is_some-get (x ∷ xs) (suc i) = is_some-get xs i ∙ less-suc i (length xs)

-- so it does at the places below a number, if that is the length
pub is_some-there : {A : Type 0} (xs : List A) (i n : ℕ) (found : Option (Bor A)) → option_copied found ≡ slice_get xs i → length xs ≡ n
    → is_some found ≡ nat_lt i n
is_some-there xs i n found e l = is_some-copied found ∙ ap is_some e ∙ is_some-get xs i ∙ ap (λ m. nat_lt i m) l

-- the messages of an edge's queue, where there is one
pub messages-there : (queues : List MessagesState) (e : ℕ) (ms : List Message) (found : Option MessagesState) → found ≡ slice_get queues e
    → (on_edge queues e).messages ≡ ms → IfSome found (λ queue. queue.messages ≡ ms)
messages-there queues e ms None is at = tt
messages-there [] e ms (Some q) is at = absurd (cc)
messages-there (x ∷ queues) zero ms (Some q) is at = ap (λ (o : Option MessagesState). by o) is ∙ at
  where
    by : Option MessagesState → List Message
    by None = []
    by (Some y) = y.messages
messages-there (x ∷ queues) (suc e) ms (Some q) is at = messages-there queues e ms (Some q) is at
