-- What sequences sent, one after the other.
use Rattle.std.proofs.Common.{◌≡◌, ℕ, ◌+◌, ◌<◌, List, [], ◌∷◌, ◌++◌, get_or, length, take, sym, ap, subst, ◌∙◌}
use Rattle.std.specs.List.{AllByRecursion, AllZip}
use Rattle.std.proofs.lemmas.List.{take_more}
use Rattle.fw_lemmas.proofs.Each.{each-at}
use Rattle.fw_lemmas.proofs.SideBySide.{zip-append}
use Rattle.fw_frontier.specs.declared.state.SentCount.{SentCount}
use Rattle.fw_progress.specs.declared.counts.Counts.{Counts}
use Rattle.fw_resume.specs.Sends.{AreSendsTold}

-- a sequence is there
pub node_there : (n : ℕ) (ps : List ℕ) (i p : ℕ) → AllByRecursion (λ q. q < n) ps → i < length ps → p ≡ get_or ps i p → p < n
node_there n ps i p a l is = subst (λ q. q < n) (sym is) (each-at (λ q. q < n) ps i p l a)

-- the next one
pub sends_next : (counts : Counts) (ps : List ℕ) (i p : ℕ) (old new : List (List SentCount)) (x : List SentCount) → i < length ps → p ≡ get_or ps i p
    → AllZip (AreSendsTold counts) (take i ps) old → AreSendsTold counts p x → new ≡ old ++ x ∷ [] → AllZip (AreSendsTold counts) (take (i + 1) ps) new
sends_next counts ps i p old new x l is a s n =
    subst (λ (ys : List (List SentCount)). AllZip (AreSendsTold counts) (take (i + 1) ps) ys) (sym n)
    (subst (λ (qs : List ℕ). AllZip (AreSendsTold counts) qs (old ++ x ∷ [])) (sym (take_more ps i p l ∙ ap (λ q. take i ps ++ q ∷ []) (sym is)))
    (zip-append (AreSendsTold counts) (take i ps) old (p ∷ []) (x ∷ []) a (s, tt)))
