-- Where the nodes of most kinds send: at the stamp of the event; and outputs nowhere.
use Rattle.std.proofs.Common.{◌≡◌, ◌↔◌, true, Some, None, refl, sym, Option, Bool, [], arith}
use Rattle.std.proofs.lemmas.Bool.{and_from}
use Rattle.fw_time.specs.Stamp.{Stamp, leq, in_domain, up_to}
use Rattle.fw_time.specs.declared.stamp.Bounds.{Bounds}
use Rattle.fw_time.proofs.StampLaws.{leq-refl, leq-trans}
use Rattle.fw_frontier.specs.Frontier.{Frontier, IsFrontier}
use Rattle.fw_model.specs.Senders.{IsLawfulSender}
use Rattle.fw_model.specs.Sending.{IsSentFrom, SendsAbove, SendsWithin}
use Rattle.fw_model.proofs.StampLaws.{leq_from, leq_to, some_is}
use Rattle.fw_model.specs.Wholes.{IsLawfulWhole}

same_phi : (bounds : Bounds) (f : Frontier) → IsFrontier bounds f → (u : Stamp) → in_domain bounds u ≡ true → (f u ≡ true) ↔ IsSentFrom bounds (λ t. Some t) f u
same_phi bounds f fr u i =
    (λ k t s d e l. fr.closed t u d (leq_from s t u (sym (some_is t s e)) l) k, λ all. all u u i refl (leq-refl u))

same_psi : (bounds : Bounds) (f : Frontier) → IsFrontier bounds f → (u : Stamp) → in_domain bounds u ≡ true → (f u ≡ true) ↔ SendsAbove (λ t. Some t) f u
same_psi bounds f fr u i =
    (λ k. (u, u, k, refl, leq-refl u), λ w. fr.closed u w.0 i (leq_to u w.1 w.0 (sym (some_is w.0 w.1 w.3)) w.4) w.2)

same_back : (b : Stamp) (g : Frontier) → IsFrontier (up_to b) g → (t : Stamp) → leq t b ≡ true → (g t ≡ true) ↔ SendsWithin (λ s. Some s) g t
same_back b g fr t i = (
  λ k s w l e.
      let a = some_is s w e in
      fr.closed w t (leq_from s w b a (leq-trans s t b l i)) (leq_from s w t a l) k,
  λ all. all t t (leq-refl t) refl,
)

-- what is asked of a sender that sends at the stamp of its event
pub at_its_stamp : (b : Stamp) (by_stamp by_count : Type 0)
    → IsLawfulSender (up_to b) (up_to b) (λ t. Some t) by_stamp by_count (λ n f u. f u) (λ f u. f u) (λ g t. g t)
at_its_stamp b by_stamp by_count = record {
  lands = λ t s i e. leq_from t s _ (some_is t s e) i;
  rises = λ s t w i l e. (s, refl, leq_to s t w (some_is t w e) l);
  of_phi = record {
    grows = λ m n f g w c u k. w u k;
    closed = λ n f fr s u i j l k. fr.closed s u i l k;
    meets = λ count mono f g ff fg u j k. and_from (f u) (g u) j k;
    of_all = λ n u i. i;
    counts = λ m n f u k. refl;
    by_stamps = λ n f p fr u i. same_phi (up_to b) f fr u i;
  };
  of_psi = record {
    grows = λ f g w u k. w u k;
    closed = λ f fr s u i j l k. fr.closed s u i l k;
    from_one = λ family f w u k. w.from_one u k;
    of_nothing = λ u. refl;
    by_stamps = λ f p fr u i. same_psi (up_to b) f fr u i;
  };
  of_back = λ g p fr t i. same_back b g fr t i;
}

-- what is asked of a node that sends nothing
pub nowhere : (b : Stamp) (by_count : Type 0) → IsLawfulSender (up_to b) (up_to b) (λ t. None) ⊥ by_count (λ n f u. f u) (λ f u. f u) (λ g t. g t)
nowhere b by_count =
    let own = at_its_stamp b ⊥ by_count in
    record {
      lands = λ t s i e. absurd (none_some s e);
      rises = λ s t w i l e. absurd (none_some w e);
      of_phi = record {
        grows = own.of_phi.grows;
        closed = own.of_phi.closed;
        meets = own.of_phi.meets;
        of_all = own.of_phi.of_all;
        counts = own.of_phi.counts;
        by_stamps = λ n f p fr u i. absurd p;
      };
      of_psi = record {
        grows = own.of_psi.grows;
        closed = own.of_psi.closed;
        from_one = own.of_psi.from_one;
        of_nothing = own.of_psi.of_nothing;
        by_stamps = λ f p fr u i. absurd p;
      };
      of_back = λ g p fr t i. absurd p;
    }
  where
    none_some : (s : Stamp) → ◌≡◌ {A = Option Stamp} None (Some s) → ⊥
    none_some s e = cc

-- what is asked of what it sends in all: nothing
pub nothing_made : (within out : Bounds) (takes : Stamp → Stamp → Bool) (alone at_once inner : Type 0)
    → IsLawfulWhole within out takes alone at_once inner (λ batches bags. [])
nothing_made within out takes alone at_once inner = record {
  lands = λ batches bags l a. tt;
  by_parts = λ k batches bags t. refl;
  fewer = λ k batches t x bag cag ds f. omega arith;
  agrees = λ k batches t x bag cag ds f. refl;
}
