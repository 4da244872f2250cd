-- The newest checkpoint of a node by its entries, and whether nothing is settled.
use Rattle.std.proofs.Common.{◌≡◌, ◌↔◌, ℕ, ◌==◌, Bool, true, false, cond, not, ◌&&◌, List, [], ◌∷◌, refl, sym, ap, ◌∙◌}
use Rattle.std.specs.Prelude.{IsTrue, Option, Some, None, option_to_list, unwrap_or}
use Rattle.std.specs.Option.{option_or}
use Rattle.std.proofs.lemmas.Bool.{and_parts, false_from_ne_true}
use Rattle.fw_lemmas.proofs.Bools.{two_ways}
use Rattle.fw_time.specs.Stamp.{origin, in_domain}
use Rattle.fw_time.specs.declared.stamp.Bounds.{Bounds}
use Rattle.fw_time.proofs.StampLaws.{leq-refl, origin-leq}
use Rattle.fw_time.proofs.DomainLaws.{domain-length, plain-in_domain, plain-up_to}
use Rattle.fw_frontier.specs.Frontier.{nothing}
use Rattle.fw_frontier.specs.Front.{Front, inside, frontier_of, IsCanonical, IsFrontOf}
use Rattle.fw_frontier.proofs.NamesLaws.{frontier-closed, names-nothing, names-same}
use Rattle.fw_model.specs.Machine.{no_stamps}
use Rattle.fw_model.specs.Steps.{last_or}
use Rattle.fw_model.proofs.AskedLaws.{last-append}
use Rattle.fw_keep.specs.declared.entry.Entry.{Entry}
use Rattle.fw_keep.specs.declared.entry.Written.{Written}
use Rattle.fw_keep.specs.declared.entry.Written.TheVariants as written
use Rattle.fw_keep.specs.Entry.{is_checkpoint, written_front}
use Rattle.fw_keep.specs.Newest.{newest_by}
use Rattle.fw_stands.specs.Entries.{entry_fronts}
use Rattle.fw_settle.specs.Checkpoints.{front_of_entry}
use Rattle.fw_settle.proofs.BaseLaws.{newest-there}

-- ---- nothing is settled

-- a front outside which the least stamp lies has none
pub none-settled : (b : Bounds) (f : Front) → b.sides ≡ false → IsCanonical b f → inside f (origin b.greatest) ≡ false → f ≡ no_stamps b
none-settled b f plain c out =
    let o = origin b.greatest in
    let here : in_domain b o ≡ true = plain-in_domain b o plain ∙ origin-leq b.greatest b.greatest refl in
    let none : IsFrontOf b f nothing = record {
      canonical = c;
      same = λ t. false_from_ne_true (frontier_of b f t) (λ i.
          let d = (and_parts (in_domain b t) (inside f t) i).0 in
          let least = (frontier-closed b f).closed o t here (origin-leq b.greatest t (sym (domain-length b t d))) i in
          two_ways (inside f o) (and_parts (in_domain b o) (inside f o) least).1 out);
    } in
    names-same b f (no_stamps b) nothing none (names-nothing b)

-- and one without stamps has it outside
pub least-outside : (b : Bounds) (f : Front) → b.sides ≡ false → f ≡ no_stamps b → inside f (origin b.greatest) ≡ false
least-outside b f plain is =
    ap (λ g. inside g (origin b.greatest)) (is ∙ ap (λ (d : Bounds). no_stamps d) (sym (plain-up_to b plain)))
    ∙ ap (λ k. not k && true) (leq-refl (origin b.greatest))

-- ---- the newest one

-- the front of the last entry that is a checkpoint of the node is the last of their fronts
pub newest-front : (p : ℕ) (f : Front) (es : List Entry) → unwrap_or (front_of_entry (newest_by p es)) f ≡ last_or f (entry_fronts p es)
newest-front p f [] = refl
newest-front p f (z ∷ es) =
    by (newest_by p es) (newest-front p (last_or f head) es) (λ y k. (newest-there p es y k).of_checkpoint) refl
    ∙ sym (last-append f head (entry_fronts p es))
  where
    head : List Front
    head = cond (z.node == p) (option_to_list (written_front z.written)) []

    one : (own : Bool) (w : Written) → z.written ≡ w
        → unwrap_or (front_of_entry (cond (own && is_checkpoint w) (Some z) None)) f ≡ last_or f (cond own (option_to_list (written_front w)) [])
    one true (written.Checkpoint r t n) e = ap (λ w. unwrap_or (written_front w) f) e
    one true (written.Event event) e = refl
    one false w e = refl

    there : (w : Written) → is_checkpoint w ≡ true → (g k : Front) → unwrap_or (written_front w) g ≡ unwrap_or (written_front w) k
    there (written.Checkpoint r t n) i g k = refl
    there (written.Event event) i g k = absurd (two_ways false i refl)

    by : (o : Option Entry) → unwrap_or (front_of_entry o) (last_or f head) ≡ last_or (last_or f head) (entry_fronts p es)
        → ((y : Entry) → o ≡ Some y → is_checkpoint y.written ≡ true) → newest_by p es ≡ o
        → unwrap_or (front_of_entry (option_or o (cond ((z.node == p) && is_checkpoint z.written) (Some z) None))) f ≡ last_or (last_or f head) (entry_fronts p es)
    by (Some y) rest is e = there y.written (is y refl) f (last_or f head) ∙ rest
    by None rest is e = one (z.node == p) z.written refl ∙ rest

-- ---- whether it is at what is settled

pub newest-some : (r : Bool) (front settled last : Front) → (IsTrue r ↔ (front ≡ settled)) → front ≡ last → (IsTrue r ↔ (settled ≡ last))
newest-some r front settled last same is = (λ t. sym (same.0 t) ∙ is, λ e. same.1 (is ∙ sym e))

pub newest-none : (b : Bounds) (f last : Front) (r : Bool) → b.sides ≡ false → IsCanonical b f → r ≡ inside f (origin b.greatest) → no_stamps b ≡ last → (IsTrue (not r) ↔ (f ≡ last))
newest-none b f last r plain c e is = (
  λ t. none-settled b f plain c (sym e ∙ not-true r t) ∙ is,
  λ same. true-not r (e ∙ least-outside b f plain (same ∙ sym is)),
)
  where
    not-true : (x : Bool) → IsTrue (not x) → x ≡ false
    not-true true t = absurd (two_ways (not true) t refl)
    not-true false t = refl

    true-not : (x : Bool) → x ≡ false → IsTrue (not x)
    true-not true k = absurd (two_ways true refl k)
    true-not false k = refl
