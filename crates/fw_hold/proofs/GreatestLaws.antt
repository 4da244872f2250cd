-- Which of two roots is of the greater turn.
use Rattle.std.proofs.Common.{◌≡◌, inl, inr, ℕ, ◌<◌, ◌≤◌, List, Option, Some, None, IfSome, IsSome, Result, Ok, Err, IfOk, refl, sym, ◌∙◌, ap, subst, arith}
use Rattle.std.specs.FinMap as map_of
use Rattle.std.specs.Option.{ForSome}
use Rattle.std.proofs.lemmas.Option.{same_Some}
use Rattle.fw_bytes.proofs.PartLaws.{ok_is}
use Rattle.fw_outside.specs.Outside.{StayIfTold}
use Rattle.fw_keep.specs.Stored.{Records}
use Rattle.fw_root.specs.declared.root.Head.{Head}
use Rattle.fw_hold.specs.declared.found.FoundRoot.{FoundRoot}
use Rattle.fw_hold.specs.Faults.{OnOkNone}
use Rattle.fw_hold.specs.Found.{BeginAs, HasGreatestTurn, HasNoneFound, IsFoundRoot}
use Rattle.fw_hold.specs.Kept.{root_id}

abbrev HeadRead : Type 0
HeadRead = Head × List ℕ

-- bytes begin as one head
pub one_head : (bytes : List ℕ) (one other : Head) → BeginAs bytes one → BeginAs bytes other → one ≡ other
one_head bytes one other a b = ap (λ (x : HeadRead). x.0) (ok_is {A = HeadRead} (one, a.0) (other, b.0) (sym a.1 ∙ b.1))

-- under the id is nothing
abbrev pub IsNoneAt : ℕ → Option Records → Type 0
IsNoneAt id records = ForSome records (λ held. map_of.get held id ≡ None)

-- under the id is nothing, or what begins as a root of at most this turn
abbrev AtMost : ℕ → ℕ → Option Records → Type 0
AtMost id turn records = ForSome records (λ held. (bytes : List ℕ) → map_of.get held id ≡ Some bytes → (head : Head) × BeginAs bytes head × (head.turn ≤ turn))

none-at : (id turn : ℕ) (records : Option Records) → IsNoneAt id records → AtMost id turn records
none-at id turn records none = λ held told bytes there. absurd (let no : Some bytes ≡ None = sym there ∙ none held told in cc)

some-at : (id turn : ℕ) (records : Option Records) (found : FoundRoot) → IsFoundRoot records found → found.id ≡ id → found.head.turn ≤ turn → AtMost id turn records
some-at id turn records found is at less = λ held told bytes there.
    let same : found.bytes.items ≡ bytes = same_Some found.bytes.items bytes (sym (is.there held told) ∙ ap (map_of.get held) at ∙ there) in
    (found.head, subst (λ b. BeginAs b found.head) same is.begins, less)

at-stays : (id turn : ℕ) (old new : Option Records) → StayIfTold old new → AtMost id turn old → AtMost id turn new
at-stays id turn old new stay at = λ held told. at held (sym (stay (subst (λ (r : Option Records). IsSome r) (sym told) refl)) ∙ told)

none-stays : (id : ℕ) (old new : Option Records) → StayIfTold old new → IsNoneAt id old → IsNoneAt id new
none-stays id old new stay none = λ held told. none held (sym (stay (subst (λ (r : Option Records). IsSome r) (sym told) refl)) ∙ told)

both-at : (records : Option Records) (greatest : Head) → AtMost (root_id 0) greatest.turn records → AtMost (root_id 1) greatest.turn records → HasGreatestTurn records greatest
both-at records greatest even odd = λ held told id bytes is there. elim is [
  | inl e ↦ even held told bytes (ap (map_of.get held) (sym e) ∙ there)
  | inr o ↦ odd held told bytes (ap (map_of.get held) (sym o) ∙ there)
]

-- neither is there
pub none_there : (old new : Option Records) → StayIfTold old new → IsNoneAt (root_id 0) old → IsNoneAt (root_id 1) new → HasNoneFound new
none_there old new stay even odd = λ held told id is. elim is [
  | inl e ↦ ap (map_of.get held) e ∙ none-stays (root_id 0) old new stay even held told
  | inr o ↦ ap (map_of.get held) o ∙ odd held told
]

-- the odd one alone is there
pub odd_alone : (old new : Option Records) (odd : FoundRoot) → StayIfTold old new → IsNoneAt (root_id 0) old → IsFoundRoot new odd → odd.id ≡ root_id 1 → HasGreatestTurn new odd.head
odd_alone old new odd stay none is at =
    both-at new odd.head (at-stays (root_id 0) odd.head.turn old new stay (none-at (root_id 0) odd.head.turn old none)) (some-at (root_id 1) odd.head.turn new odd is at (omega arith))

-- the even one alone
pub even_alone : (old new : Option Records) (even : FoundRoot) → StayIfTold old new → IsFoundRoot old even → even.id ≡ root_id 0 → IsNoneAt (root_id 1) new → HasGreatestTurn new even.head
even_alone old new even stay is at none =
    both-at new even.head (at-stays (root_id 0) even.head.turn old new stay (some-at (root_id 0) even.head.turn old even is at (omega arith))) (none-at (root_id 1) even.head.turn new none)

-- what was found is found still
pub found-stays : (old new : Option Records) (found : FoundRoot) → StayIfTold old new → IsFoundRoot old found → IsFoundRoot new found
found-stays old new found stay is = record {
  id = is.id;
  there = λ held told. is.there held (sym (stay (subst (λ (r : Option Records). IsSome r) (sym told) refl)) ∙ told);
  begins = is.begins;
}

-- both, and the odd one is of no lesser turn
pub odd_greater : (old new : Option Records) (even odd : FoundRoot) → StayIfTold old new → IsFoundRoot old even → even.id ≡ root_id 0 → IsFoundRoot new odd → odd.id ≡ root_id 1
    → even.head.turn ≤ odd.head.turn → HasGreatestTurn new odd.head
odd_greater old new even odd stay is at odd_is odd_at less =
    both-at new odd.head (some-at (root_id 0) odd.head.turn new even (found-stays old new even stay is) at less) (some-at (root_id 1) odd.head.turn new odd odd_is odd_at (omega arith))

-- both, and the even one is of the greater turn, and was read again
pub even_greater : (first mid new : Option Records) (even odd again : FoundRoot) → StayIfTold first mid → StayIfTold mid new → IsFoundRoot first even → even.id ≡ root_id 0
    → IsFoundRoot mid odd → odd.id ≡ root_id 1 → odd.head.turn < even.head.turn → IsFoundRoot new again → again.id ≡ root_id 0 → HasGreatestTurn new again.head
even_greater first mid new even odd again one two is at odd_is odd_at less again_is again_at = λ held told.
    let was = found-stays mid new even two (found-stays first mid even one is) in
    let bytes : again.bytes.items ≡ even.bytes.items =
    same_Some again.bytes.items even.bytes.items (sym (again_is.there held told) ∙ ap (map_of.get held) (again_at ∙ sym at) ∙ was.there held told) in
    let same : again.head ≡ even.head = one_head even.bytes.items again.head even.head (subst (λ b. BeginAs b again.head) bytes again_is.begins) is.begins in
    both-at new again.head (some-at (root_id 0) again.head.turn new again again_is again_at (omega arith))
    (some-at (root_id 1) again.head.turn new odd (found-stays mid new odd two odd_is) odd_at (omega (arith, less, ap (λ (h : Head). h.turn) same))) held told

-- ---- what calls answer

-- what is true of the value in a `Some`
pub of_some : {X : Type 0} (P : X → Type 0) (o : Option X) (x : X) → o ≡ Some x → IfSome o P → P x
of_some P None x e h = absurd (let no : None ≡ Some x = e in cc)
of_some P (Some y) x e h = subst P (same_Some y x e) h

-- what is true where there is none
pub of_none : {X : Type 0} (F : Type 0) (P : Type 0) (o : Option X) → o ≡ None → OnOkNone {F = F} (Ok o) P → P
of_none F P None e h = h
of_none F P (Some x) e h = absurd (let no : Some x ≡ None = e in cc)

-- the answer tells the odd one, where the even one is not there
pub odd_answered : {F : Type 0} (result : Result (Option FoundRoot) F) (old new : Option Records) → StayIfTold old new → IsNoneAt (root_id 0) old
    → IfOk result (λ some. IfSome some (IsFoundRoot new)) → IfOk result (λ some. IfSome some (λ found. found.id ≡ root_id 1))
    → IfOk result (λ some. IfSome some (λ found. HasGreatestTurn new found.head))
odd_answered (Ok None) old new stay none is at = tt
odd_answered (Ok (Some found)) old new stay none is at = odd_alone old new found stay none is at
odd_answered (Err fault) old new stay none is at = tt
