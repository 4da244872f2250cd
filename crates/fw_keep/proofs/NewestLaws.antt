-- The newest of entries, looked for from the last one.
use Rattle.std.proofs.Common.{◌≡◌, ℕ, List, [], ◌∷◌, ◌++◌, Option, Some, None, refl, ap, ◌∙◌}
use Rattle.std.specs.Option.{option_or}
use Rattle.fw_frontier.specs.Front.{Front}
use Rattle.fw_keep.specs.declared.entry.Entry.{Entry}
use Rattle.fw_keep.specs.Newest.{checkpoint_by, newest_by, whole_front, whole_within}

none-either : {A : Type 0} (o : Option A) → option_or None o ≡ option_or o None
none-either None = refl
none-either (Some x) = refl

or-assoc : {A : Type 0} (a b c : Option A) → option_or (option_or a b) c ≡ option_or a (option_or b c)
or-assoc None b c = refl
or-assoc (Some x) b c = refl

-- with one more behind the others
newest-last : (p : ℕ) (es : List Entry) (e : Entry) → newest_by p (es ++ e ∷ []) ≡ option_or (checkpoint_by p e) (newest_by p es)
newest-last p [] e = none-either (checkpoint_by p e)
newest-last p (x ∷ es) e =
    ap (λ o. option_or o (checkpoint_by p x)) (newest-last p es e) ∙ or-assoc (checkpoint_by p e) (newest_by p es) (checkpoint_by p x)

whole-last : (p : ℕ) (f : Front) (es : List Entry) (e : Entry) → whole_within p f (es ++ e ∷ []) ≡ option_or (whole_front p f e) (whole_within p f es)
whole-last p f [] e = none-either (whole_front p f e)
whole-last p f (x ∷ es) e =
    ap (λ o. option_or o (whole_front p f x)) (whole-last p f es e) ∙ or-assoc (whole_front p f e) (whole_within p f es) (whole_front p f x)

-- the last one is it, or the newest before it is
pub newest-here : (p : ℕ) (es before : List Entry) (e x : Entry) → es ≡ before ++ e ∷ [] → checkpoint_by p e ≡ Some x → newest_by p es ≡ Some x
newest-here p es before e x last here =
    ap (newest_by p) last ∙ newest-last p before e ∙ ap (λ o. option_or o (newest_by p before)) here

pub newest-before : (p : ℕ) (es before : List Entry) (e : Entry) → es ≡ before ++ e ∷ [] → checkpoint_by p e ≡ None → newest_by p es ≡ newest_by p before
newest-before p es before e last here =
    ap (newest_by p) last ∙ newest-last p before e ∙ ap (λ o. option_or o (newest_by p before)) here

pub whole-here : (p : ℕ) (f : Front) (es before : List Entry) (e : Entry) (g : Front) → es ≡ before ++ e ∷ [] → whole_front p f e ≡ Some g
    → whole_within p f es ≡ Some g
whole-here p f es before e g last here =
    ap (whole_within p f) last ∙ whole-last p f before e ∙ ap (λ o. option_or o (whole_within p f before)) here

pub whole-before : (p : ℕ) (f : Front) (es before : List Entry) (e : Entry) → es ≡ before ++ e ∷ [] → whole_front p f e ≡ None
    → whole_within p f es ≡ whole_within p f before
whole-before p f es before e last here =
    ap (whole_within p f) last ∙ whole-last p f before e ∙ ap (λ o. option_or o (whole_within p f before)) here
