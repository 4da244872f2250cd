use Rattle.std.proofs.Common.{◌≡◌, ◌+◌, ◌*◌, ◌/◌, ◌%◌, ◌^◌, ◌<◌, ◌≤◌, ℕ, List, length, get_or, bit_and, ap, subst, inl, inr, arith}
use Rattle.std.proofs.lemmas.Bool.{cases_lt}
use Rattle.std.proofs.lemmas.Nat.{and_le_l}
use Rattle.std.proofs.lemmas.Nat.Bits.{ones_shl}
use Rattle.std.specs.Int.{trailing_zeros, w64}
use Rattle.fw_places.specs.Marks.{IsMarkFrom}
use Rattle.fw_places.proofs.MarkLaws.{IsRest, rest_whole, rest_masked, mark_in, none_in, mark_later}
use Rattle.fw_places.proofs.places.next_mark.Goals as goal

-- what is left of the first word
left : List ℕ → ℕ → ℕ
left ws from = bit_and (get_or ws (from / 64) 0) (18446744073709551615 * 2 ^ (from % 64) % 18446744073709551616)

is_left : (ws : List ℕ) (from : ℕ) → get_or ws (from / 64) 0 < 2 ^ 64 → IsRest (get_or ws (from / 64) 0) (left ws from) (from % 64)
unfolding left
is_left ws from f =
    let w = get_or ws (from / 64) 0 in
    let k = from % 64 in
    let l : k < 64 = omega arith in
    let m : k ≤ 64 = omega arith in
    let mask = 18446744073709551615 * 2 ^ k % 18446744073709551616 in
    let under : bit_and w mask ≤ w = and_le_l w mask in
    rest_masked w (bit_and w mask) k l (omega arith) (ap (bit_and w) (ones_shl 64 k m))

pub returns-then-rest-ne0 : goal.returns-then-rest-ne0
unfolding left
returns-then-rest-ne0 c =
    let ws : List ℕ = c.args.words.now in
    let from : ℕ = c.args.from in
    let f : get_or ws (from / 64) 0 < 2 ^ 64 = omega (arith, c.type_inv.words (from / 64)) in
    let there : from / 64 < length ws = omega arith in
    let e : from / 64 * 64 + from % 64 ≡ from = omega arith in
    let some : 0 < left ws from = omega (arith, c.if-rest-ne0.true) in
    subst (λ m. IsMarkFrom ws m (from / 64 * 64 + trailing_zeros w64 (left ws from))) e
    (mark_in ws (from / 64) (from % 64) (left ws from) there (is_left ws from f) some).1

pub loop-i-init : goal.loop-i-init
unfolding left
loop-i-init c = λ q a b.
    let ws : List ℕ = c.args.words.now in
    let from : ℕ = c.args.from in
    let f : get_or ws (from / 64) 0 < 2 ^ 64 = omega (arith, c.type_inv.words (from / 64)) in
    none_in ws (from / 64) (from % 64) (left ws from) (is_left ws from f) c.if-rest-ne0.false q (omega arith) b

pub loop-i-preserved : goal.loop-i-preserved
loop-i-preserved c = λ q a b.
    let ws : List ℕ = c.args.words.now in
    let i : ℕ = c.loop-i.i in
    let f : get_or ws i 0 < 2 ^ 64 = omega (arith, c.type_inv.words i) in
    elim (cases_lt q (i * 64)) [
      | inl m ↦ c.loop-i.invariant q a m
      | inr m ↦ none_in ws i 0 (get_or ws i 0) (rest_whole (get_or ws i 0) f) c.if-word-ne0.false q (omega arith) b
    ]

pub returns-then-word-ne0 : goal.returns-then-word-ne0
returns-then-word-ne0 c =
    let ws : List ℕ = c.args.words.now in
    let from : ℕ = c.args.from in
    let i : ℕ = c.loop-i.i in
    let w : ℕ = get_or ws i 0 in
    let f : get_or ws i 0 < 2 ^ 64 = omega (arith, c.type_inv.words i) in
    let there : i < length ws = omega arith in
    let some : 0 < w = omega (arith, c.if-word-ne0.true) in
    mark_later ws from (i * 64 + 0) (i * 64 + trailing_zeros w64 w) (omega arith) (λ q a b. c.loop-i.invariant q a (omega arith)) (mark_in ws i 0 w there (rest_whole w f) some).1
