-- Tallies of what a node sent: more messages, a larger base, a cut, and how many come from a frontier.
use Rattle.std.proofs.Common.{◌≡◌, ℕ, suc, ◌+◌, Bool, true, false, not, ◌&&◌, ◌||◌, cond, List, [], ◌∷◌, length, refl, sym, ap, ◌∙◌, arith}
use Rattle.std.specs.Prelude.{filter}
use Rattle.std.specs.List.{AllByRecursion}
use Rattle.std.proofs.lemmas.Bool.{and_parts, and_from, or_right}
use Rattle.fw_time.specs.Stamp.{Stamp, in_domain}
use Rattle.fw_time.specs.declared.stamp.Bounds.{Bounds}
use Rattle.fw_frontier.specs.Frontier.{Frontier, Within}
use Rattle.fw_frontier.specs.Front.{Front, inside, frontier_of}
use Rattle.fw_flow.specs.declared.event.Message.{Message}
use Rattle.fw_flow.specs.Projection.{all_inside, count_from}
use Rattle.fw_model.specs.Filtering.{messages_from}
use Rattle.fw_model.proofs.PhiLaws.{count-append}
use Rattle.fw_model.proofs.SequenceLaws.{one_inside}
use Rattle.fw_progress.specs.declared.sent_tally.SentTally.{SentTally}
use Rattle.fw_progress.specs.Tally.{count_inside}
use Rattle.fw_progress.specs.SentTally.{IsSentTally, ComeFromDomain, CountsMore, IsTallySettledTo, IsTallyCutTo}

abbrev Entries : Type 0
Entries = List (Stamp × ℕ)

-- ---- sets that agree on a domain

-- two sets have the same stamps of a domain
abbrev AgreeOn : Bounds → Frontier → Frontier → Type 0
AgreeOn bounds f g = (t : Stamp) → in_domain bounds t ≡ true → f t ≡ g t

inside-agree : (bounds : Bounds) (f g : Frontier) → AgreeOn bounds f g → (cs : List Stamp) → AllByRecursion (λ t. in_domain bounds t ≡ true) cs → all_inside f cs ≡ all_inside g cs
inside-agree bounds f g a [] d = refl
inside-agree bounds f g a (c ∷ cs) d = ap (λ b. b && all_inside f cs) (a c d.0) ∙ ap (λ b. g c && b) (inside-agree bounds f g a cs d.1)

pub from-agree : (bounds : Bounds) (f g : Frontier) → AgreeOn bounds f g → (ms : List Message) → ComeFromDomain bounds ms → count_from f ms ≡ count_from g ms
from-agree bounds f g a [] d = refl
from-agree bounds f g a (m ∷ ms) d =
    ap (λ b. cond b (count_from f ms + 1) (count_from f ms)) (inside-agree bounds f g a m.causes d.0)
    ∙ ap (λ n. cond (all_inside g m.causes) (n + 1) n) (from-agree bounds f g a ms d.1)

-- ---- what a tally has inside

counts-push : (g : Frontier) (b : Bool) (e : Stamp × ℕ) (es : Entries) → count_inside g (cond b (e ∷ es) es) ≡ cond b (cond (g e.0) (e.1 + count_inside g es) (count_inside g es)) (count_inside g es)
counts-push g true e es = refl
counts-push g false e es = refl

-- inside the one set or the other
counts-either : (f g : Frontier) (es : Entries) → count_inside g (filter (λ e. not (f e.0)) es) + count_inside f es ≡ count_inside (λ t. g t || f t) es
counts-either f g [] = refl
counts-either f g (e ∷ es) =
    ap (λ n. n + cond (f e.0) (e.1 + count_inside f es) (count_inside f es)) (counts-push g (not (f e.0)) e (filter (λ d. not (f d.0)) es))
    ∙ by (f e.0) (g e.0) e.1 (count_inside g (filter (λ d. not (f d.0)) es)) (count_inside f es) (count_inside (λ t. g t || f t) es) (counts-either f g es)
  where
    by : (b c : Bool) (n x y z : ℕ) → x + y ≡ z → cond (not b) (cond c (n + x) x) x + cond b (n + y) y ≡ cond (c || b) (n + z) z
    by true true n x y z k = omega (arith, k)
    by true false n x y z k = omega (arith, k)
    by false true n x y z k = omega (arith, k)
    by false false n x y z k = k

-- inside both sets
counts-both : (f g : Frontier) (es : Entries) → count_inside g (filter (λ e. f e.0) es) ≡ count_inside (λ t. g t && f t) es
counts-both f g [] = refl
counts-both f g (e ∷ es) =
    counts-push g (f e.0) e (filter (λ d. f d.0) es)
    ∙ by (f e.0) (g e.0) e.1 (count_inside g (filter (λ d. f d.0) es)) (count_inside (λ t. g t && f t) es) (counts-both f g es)
  where
    by : (b c : Bool) (n x z : ℕ) → x ≡ z → cond b (cond c (n + x) x) x ≡ cond (c && b) (n + z) z
    by true true n x z k = ap (λ y. n + y) k
    by true false n x z k = k
    by false true n x z k = k
    by false false n x z k = k

-- ---- messages that come from a part

from-part : (f g : Frontier) (ms : List Message) → count_from g (messages_from f ms) ≡ count_from (λ t. g t && f t) ms
from-part f g [] = refl
from-part f g (m ∷ ms) =
    push (all_inside f m.causes) ∙ by (all_inside f m.causes) (all_inside g m.causes) (count_from g (messages_from f ms)) (count_from (λ t. g t && f t) ms) (from-part f g ms)
    ∙ sym (ap (λ b. cond b (count_from (λ t. g t && f t) ms + 1) (count_from (λ t. g t && f t) ms)) (each m.causes))
  where
    push : (b : Bool) → count_from g (cond b (m ∷ messages_from f ms) (messages_from f ms))
        ≡ cond b (cond (all_inside g m.causes) (count_from g (messages_from f ms) + 1) (count_from g (messages_from f ms))) (count_from g (messages_from f ms))
    push true = refl
    push false = refl

    by : (b c : Bool) (x z : ℕ) → x ≡ z → cond b (cond c (x + 1) x) x ≡ cond (c && b) (z + 1) z
    by true true x z k = ap (λ y. y + 1) k
    by true false x z k = k
    by false true x z k = k
    by false false x z k = k

    parts : (a b c d : Bool) → ((a && b) && (c && d)) ≡ ((a && c) && (b && d))
    parts true true c d = refl
    parts true false true d = refl
    parts true false false d = refl
    parts false b c d = refl

    each : (cs : List Stamp) → all_inside (λ t. g t && f t) cs ≡ (all_inside g cs && all_inside f cs)
    each [] = refl
    each (c ∷ cs) = ap (λ b. (g c && f c) && b) (each cs) ∙ parts (g c) (f c) (all_inside g cs) (all_inside f cs)

-- messages of one cause come from there, all or none
from-one : (f : Frontier) (at : Stamp) (ms : List Message) → AllByRecursion (λ (m : Message). m.causes ≡ at ∷ []) ms → count_from f ms ≡ cond (f at) (length ms) 0
from-one f at [] a = none (f at)
  where
    none : (b : Bool) → ◌≡◌ {A = ℕ} 0 (cond b 0 0)
    none true = refl
    none false = refl
from-one f at (m ∷ ms) a =
    ap (λ b. cond b (count_from f ms + 1) (count_from f ms)) (one_inside f at m (f at) refl a.0) ∙ by (f at) (count_from f ms) (length ms) (from-one f at ms a.1)
  where
    by : (b : Bool) (x y : ℕ) → x ≡ cond b y 0 → cond b (x + 1) x ≡ cond b (suc y) 0
    by true x y k = omega (arith, k)
    by false x y k = k

-- ---- the calls

pub tally-more : (at : Stamp) (count : ℕ) (old new : SentTally) → new.inside ≡ old.inside
    → ((f : Frontier) → count_inside f new.outside ≡ count_inside f old.outside + cond (f at) count 0) → CountsMore at count old new
tally-more at count old new same more base ms now a l h f w =
    let x = h f w in
    let y = more f in
    let z = count-append f now ms in
    let v = from-one f at now a ∙ ap (λ n. cond (f at) n 0) l in
    omega (arith, x, y, z, v, same)

-- a front has of a domain what its frontier has
front-agree : (bounds : Bounds) (f : Front) (t : Stamp) → in_domain bounds t ≡ true → inside f t ≡ frontier_of bounds f t
front-agree bounds f t d = ap (λ b. b && inside f t) (sym d)

within-front : (bounds : Bounds) (base : Frontier) (f : Front) → Within base (frontier_of bounds f) → Within base (inside f)
within-front bounds base f w t i = (and_parts (in_domain bounds t) (inside f t) (w t i)).1

pub tally-count : (bounds : Bounds) (base : Frontier) (ms : List Message) (f : Front) (tally : SentTally) → ComeFromDomain bounds ms → Within base (frontier_of bounds f)
    → IsSentTally base ms tally → tally.inside + count_inside (inside f) tally.outside ≡ count_from (frontier_of bounds f) ms
tally-count bounds base ms f tally d w h = h (inside f) (within-front bounds base f w) ∙ from-agree bounds (inside f) (frontier_of bounds f) (front-agree bounds f) ms d

pub tally-settle : (f : Front) (old new : SentTally) → new.inside ≡ old.inside + count_inside (inside f) old.outside
    → new.outside ≡ filter (λ e. not (inside f e.0)) old.outside → IsTallySettledTo f old new
tally-settle f old new all left bounds base ms d w h g v =
    let either : Frontier = λ t. g t || inside f t in
    let now = ap (count_inside g) left in
    let parts = counts-either (inside f) g old.outside in
    let whole = h either (λ t i. or_right (g t) (inside f t) (within-front bounds base f w t i)) in
    let agree = from-agree bounds either g (λ t k. covered (g t) (inside f t) (λ i. v t (and_from (in_domain bounds t) (inside f t) k i))) ms d in
    omega (arith, all, now, parts, whole, agree)
  where
    covered : (a b : Bool) → (b ≡ true → a ≡ true) → (a || b) ≡ a
    covered true b k = refl
    covered false true k = sym (k refl)
    covered false false k = refl

pub tally-cut : (f : Front) (old new : SentTally) → new.inside ≡ old.inside → new.outside ≡ filter (λ e. inside f e.0) old.outside → IsTallyCutTo f old new
tally-cut f old new same left bounds base ms d w h g v =
    let both : Frontier = λ t. g t && inside f t in
    let now = ap (count_inside g) left ∙ counts-both (inside f) g old.outside in
    let whole = h both (λ t i. and_from (g t) (inside f t) (v t i) (within-front bounds base f w t i)) in
    let agree = from-agree bounds both (λ t. g t && frontier_of bounds f t) (λ t k. ap (λ b. g t && b) (front-agree bounds f t k)) ms d in
    let part = from-part (frontier_of bounds f) g ms in
    omega (arith, same, now, whole, agree, part)
