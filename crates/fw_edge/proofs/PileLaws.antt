-- Messages put in are some, and one more.
use Rattle.std.proofs.Common.{◌≡◌, ◌≢◌, ◌+◌, List, [], ◌∷◌, length, refl, ap, arith}
use Rattle.std.specs.Ordering.{is_le}
use Rattle.std.proofs.lemmas.Bool.{cond_both}
use Rattle.fw_flow.specs.declared.event.Message.{Message}
use Rattle.fw_flow.specs.Message.{message_cmp}
use Rattle.fw_model.specs.SortedMessages.{with_message, sorted_messages}

pub length-with_message : (m : Message) (xs : List Message) → length (with_message m xs) ≡ length xs + 1
length-with_message m [] = refl
length-with_message m (x ∷ xs) =
    let h = length-with_message m xs in
    cond_both (is_le (message_cmp m x)) (m ∷ x ∷ xs) (x ∷ with_message m xs) (λ ys. length ys ≡ length (x ∷ xs) + 1) (λ e. omega arith) (λ e. omega arith)

pub with_message-some : (m : Message) (xs : List Message) → with_message m xs ≢ []
with_message-some m xs e = let l = length-with_message m xs in let z = ap length e in absurd (omega arith)

-- messages in order are as many
pub length-sorted_messages : (xs : List Message) → length (sorted_messages xs) ≡ length xs
length-sorted_messages [] = refl
length-sorted_messages (x ∷ xs) = let h = length-sorted_messages xs in let l = length-with_message x (sorted_messages xs) in omega arith
