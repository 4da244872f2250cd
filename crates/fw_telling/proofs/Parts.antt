-- What a stream that tells its bytes has taken of a piece.
use Rattle.std.proofs.Common.{◌≡◌, ℕ, ◌+◌, ◌≤◌, List, [], ◌++◌, take, drop, take_all, take-add, drop-drop, length, length-drop, Option, Some, None, Result, Ok, Err, refl, sym, ap, subst, ◌∙◌, arith}
use Rattle.std.specs.Prelude.{OnErr}
use Rattle.std.specs.Io.KnownBytes.{Appends, Keeps}
use Rattle.std.proofs.lemmas.List.{append-nil, append_assoc}
use Rattle.fw_telling.specs.Handed.{AppendsPart, HasTaken}

-- what is appended in turn is appended
appends-appends : (a b c : Option (List ℕ)) (xs ys : List ℕ) → Appends a b xs → Appends b c ys → Appends a c (xs ++ ys)
appends-appends None b c xs ys h k = tt
appends-appends (Some old) None c xs ys h k = absurd h
appends-appends (Some old) (Some mid) None xs ys h k = absurd k
appends-appends (Some old) (Some mid) (Some new) xs ys h k = k ∙ ap (λ zs. zs ++ ys) h ∙ append_assoc old xs ys

-- what was appended is so still where nothing changes
appends-keeps : (a b c : Option (List ℕ)) (xs : List ℕ) → Appends a b xs → Keeps b c → Appends a c xs
appends-keeps None b c xs h k = tt
appends-keeps (Some old) None c xs h k = absurd h
appends-keeps (Some old) (Some mid) None xs h k = absurd k
appends-keeps (Some old) (Some mid) (Some new) xs h k = k ∙ h

appends-nothing : (a : Option (List ℕ)) → Appends a a []
appends-nothing None = tt
appends-nothing (Some old) = sym (append-nil old)

-- of a piece of which nothing was taken all is left
pub none_taken : (old : Option (List ℕ)) (piece : List ℕ) → HasTaken old old piece piece
none_taken old piece = (0, refl, appends-nothing old)

pub none_taken_yet : (old new : Option (List ℕ)) (piece : List ℕ) → Keeps old new → HasTaken old new piece piece
none_taken_yet old new piece stays = (0, refl, appends-keeps old old new [] (appends-nothing old) stays)

-- so many bytes were taken
pub taken : (old new : Option (List ℕ)) (piece left : List ℕ) (count : ℕ) → Appends old new (take count piece) → left ≡ drop count piece → HasTaken old new piece left
taken old new piece left count more is = (count, is, more)

-- of what is left a first part is taken
pub taken_then : (old mid new : Option (List ℕ)) (piece left later : List ℕ) → HasTaken old mid piece left → HasTaken mid new left later → HasTaken old new piece later
taken_then old mid new piece left later (k, is, so) (n, then, more) = (
  k + n,
  then ∙ ap (drop n) is ∙ drop-drop n k piece,
  subst (λ bytes. Appends old new bytes) (sym (take-add k n piece))
      (appends-appends old mid new (take k piece) (take n (drop k piece)) so (subst (λ bytes. Appends mid new (take n bytes)) is more)),
)

-- where nothing is left, all is taken
pub all_taken : (old now : Option (List ℕ)) (piece left : List ℕ) → HasTaken old now piece left → length left ≡ 0 → Appends old now piece
all_taken old now piece left (k, is, so) none =
    let past : length piece ≤ k = (let l = length-drop k piece in let e : length left ≡ length (drop k piece) = ap length is in omega arith) in
    subst (λ bytes. Appends old now bytes) (take_all k piece past) so

-- what is taken is a first part
pub part_taken : (old now : Option (List ℕ)) (piece left : List ℕ) → HasTaken old now piece left → AppendsPart old now piece
part_taken old now piece left (k, is, so) = (k, so)

-- all of it is a part as well
all_part : (old now : Option (List ℕ)) (piece : List ℕ) → Appends old now piece → AppendsPart old now piece
all_part old now piece so = (length piece, subst (λ bytes. Appends old now bytes) (sym (take_all (length piece) piece (omega arith))) so)

-- a piece that was taken whole is taken in part, where nothing changes then and that is refused
pub flushed : {A E : Type 0} (r : Result A E) (old mid new : Option (List ℕ)) (piece : List ℕ) → Appends old mid piece → Keeps mid new
    → OnErr r (AppendsPart old new piece)
flushed (Ok a) old mid new piece so stays = tt
flushed (Err e) old mid new piece so stays = all_part old new piece (appends-keeps old mid new piece so stays)
