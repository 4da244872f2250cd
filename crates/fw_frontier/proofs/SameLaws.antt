-- Two fronts are one list exactly where the test says so.
use Rattle.std.proofs.Common.{◌≡◌, true, ap, subst}
use Rattle.std.specs.Ordering.{is_eq}
use Rattle.std.proofs.lemmas.Cmp.{nat_list_cmp_total, lists_total, tied_itself}
use Rattle.std.proofs.lemmas.Map.Lookups.{exact_bytes}
use Rattle.std.specs.Cmp.Lexicographic.{slice_cmp}
use Rattle.fw_lemmas.proofs.Orderings.{equal_from_is_eq, slice_cmp-same}
use Rattle.fw_time.specs.Stamp.{stamp_cmp}
use Rattle.fw_frontier.specs.Front.{Front, same_front}

pub same_front-is : (f g : Front) → same_front f g ≡ true → f ≡ g
same_front-is f g e = slice_cmp-same stamp_cmp exact_bytes f g (equal_from_is_eq (slice_cmp stamp_cmp f g) e)

pub same_front-itself : (f : Front) → same_front f f ≡ true
same_front-itself f = ap is_eq (tied_itself (lists_total nat_list_cmp_total) f)

pub same_front-from : (f g : Front) → f ≡ g → same_front f g ≡ true
same_front-from f g e = subst (λ x. same_front f x ≡ true) e (same_front-itself f)
