-- Where data are what the machine offers in a state, a certificate over the data is one over the state, and back.
use Rattle.std.proofs.Common.{◌≡◌, ◌↔◌, ℕ, ◌<◌, Bool, List, [], ◌∷◌, length, refl, sym, subst, arith}
use Rattle.std.proofs.lemmas.List.{length-set}
use Rattle.fw_lemmas.proofs.Each.{each-both, each-weaker}
use Rattle.fw_frontier.specs.Frontier.{Frontier, Within}
use Rattle.fw_flow.specs.declared.choice.Choice.{Choice}
use Rattle.fw_flow.specs.declared.choice.Cut.{Cut}
use Rattle.fw_flow.specs.declared.choice.Cut.TheVariants.{Present, At}
use Rattle.fw_flow.specs.declared.choice.Offer.{Offer}
use Rattle.fw_flow.specs.declared.side.Side.{Side}
use Rattle.fw_flow.specs.declared.side.Side.TheVariants.{Delivered, Discarded, Notified}
use Rattle.fw_flow.specs.declared.side.Limit.{Limit}
use Rattle.fw_flow.specs.declared.side.Limit.TheVariants.{Own, Note}
use Rattle.fw_flow.specs.declared.side.Inclusion.{Inclusion}
use Rattle.fw_flow.specs.declared.side.Inclusion.TheVariants.{OfCut, OfNote}
use Rattle.fw_flow.specs.declared.trail.Lowering.{Lowering}
use Rattle.fw_flow.specs.Dataflow.{System, Dataflow, sender, node_frontier}
use Rattle.fw_flow.specs.WellFormed.{IsWellFormed}
use Rattle.fw_model.specs.Machine.{Machine}
use Rattle.fw_model.specs.Choice.{kept, cut_of, notice_of, kept_of, IsCandidate}
use Rattle.fw_model.specs.Covers.{Covers, covers_in}
use Rattle.fw_model.specs.Inclusions.{owner, note_node, left_of, right_of, limit_of, Holds, IsInclusionOf, IsSideOfFlow, IsLimitIn, inclusions}
use Rattle.fw_model.specs.Lowerings.{IsCutLeft, IsRightLowering, IsValueLeft, LeadRight, with_value}
use Rattle.fw_model.specs.Certificates.{IsBeginning, IsCertificate, IsDeadEnd}
use Rattle.fw_model.specs.Offers.{AreOffersIn, IsOffered, covers_of}
use Rattle.fw_model.proofs.InclusionLaws.{inclusions-there, owner-there, set_there}
use Rattle.fw_certify.specs.LawsOfCertificates.{CertificateOfState, DeadEndOfState}

-- the same cuts are offered, and in them the same counts
record AreSame (flow : Dataflow) (covers others : Covers) (offers ones : ℕ → Cut → Type 0) : Type 0 where
  offered : (p : ℕ) → p < length flow.nodes → (x : Cut) → offers p x ↔ ones p x
  left : (side : Side) → IsSideOfFlow flow side → (x : Cut) → offers (owner flow side) x → left_of covers side x ≡ left_of others side x
  arrived : (e : ℕ) → e < length flow.edges → (f : Frontier) → covers.arrived e f ≡ others.arrived e f

same-back : (flow : Dataflow) (covers others : Covers) (offers ones : ℕ → Cut → Type 0) → IsWellFormed flow → AreSame flow covers others offers ones → AreSame flow others covers ones offers
same-back flow covers others offers ones well s = record {
  offered = λ p l x. ((s.offered p l x).1, (s.offered p l x).0);
  left = λ side there x o. sym (s.left side there x ((s.offered (owner flow side) (owner-there flow side well there) x).1 o));
  arrived = λ e l f. sym (s.arrived e l f);
}

-- each cut of a choice is offered
record IsOfOffered (flow : Dataflow) (offers : ℕ → Cut → Type 0) (choice : Choice) : Type 0 where
  one_each : length choice.cuts ≡ length flow.nodes
  cuts : (p : ℕ) → p < length flow.nodes → offers p (cut_of choice p)

right-same : (flow : Dataflow) (covers others : Covers) (offers ones : ℕ → Cut → Type 0) → AreSame flow covers others offers ones → (side : Side) → IsSideOfFlow flow side → (choice : Choice)
    → right_of flow covers side choice ≡ right_of flow others side choice
right-same flow covers others offers ones s (Delivered d) there choice = s.arrived d there (kept_of flow choice (sender flow d))
right-same flow covers others offers ones s (Discarded e) there choice = refl
right-same flow covers others offers ones s (Notified p) there choice = refl

limit-same : (flow : Dataflow) (covers others : Covers) (offers ones : ℕ → Cut → Type 0) → AreSame flow covers others offers ones → (limit : Limit) → IsLimitIn flow limit → (choice : Choice)
    → limit_of flow covers limit choice ≡ limit_of flow others limit choice
limit-same flow covers others offers ones s (Own p) there choice = refl
limit-same flow covers others offers ones s (Note d) there choice = s.arrived d there (notice_of flow choice (sender flow d))

along : (f g : Frontier) → f ≡ g → (h k : Frontier) → h ≡ k → Within f h → Within g k
along f g e h k i w = subst (λ x. Within g x) i (subst (λ x. Within x h) e w)

holds-same : (flow : Dataflow) (covers others : Covers) (offers ones : ℕ → Cut → Type 0) → IsWellFormed flow → AreSame flow covers others offers ones → (choice : Choice) → IsOfOffered flow offers choice
    → (i : Inclusion) → IsInclusionOf flow i → Holds flow covers choice i → Holds flow others choice i
holds-same flow covers others offers ones well s choice o (OfCut side) there h =
    let cut = cut_of choice (owner flow side) in
    along (left_of covers side cut) (left_of others side cut) (s.left side there cut (o.cuts (owner flow side) (owner-there flow side well there)))
    (right_of flow covers side choice) (right_of flow others side choice) (right-same flow covers others offers ones s side there choice) h
holds-same flow covers others offers ones well s choice o (OfNote limit) there h =
    subst (Within (notice_of flow choice (note_node flow limit))) (limit-same flow covers others offers ones s limit there choice) h

-- so what is left is the same
cut_left-same : (flow : Dataflow) (covers others : Covers) (offers ones : ℕ → Cut → Type 0) → IsWellFormed flow → AreSame flow covers others offers ones → (choice : Choice)
    → (side : Side) → IsSideOfFlow flow side → (x : Cut) → IsCutLeft flow covers offers choice side x → IsCutLeft flow others ones choice side x
cut_left-same flow covers others offers ones well s choice side there x left = record {
  offered = (s.offered (owner flow side) (owner-there flow side well there) x).0 left.offered;
  within = left.within;
  meets = along (left_of covers side x) (left_of others side x) (s.left side there x left.offered)
      (right_of flow covers side choice) (right_of flow others side choice) (right-same flow covers others offers ones s side there choice) left.meets;
}

value_left-same : (flow : Dataflow) (covers others : Covers) (offers ones : ℕ → Cut → Type 0) → IsWellFormed flow → AreSame flow covers others offers ones → (choice : Choice)
    → (i : Inclusion) → IsInclusionOf flow i → (x : Cut) → IsValueLeft flow covers offers choice i x → IsValueLeft flow others ones choice i x
value_left-same flow covers others offers ones well s choice (OfCut side) there x left = cut_left-same flow covers others offers ones well s choice side there x left
value_left-same flow covers others offers ones well s choice (OfNote limit) there Present left = left
value_left-same flow covers others offers ones well s choice (OfNote limit) there (At f) left = record {
  canonical = left.canonical;
  within = left.within;
  meets = subst (Within (node_frontier flow (note_node flow limit) f)) (limit-same flow covers others offers ones s limit there choice) left.meets;
}

-- so a right lowering is one by the others
lowering-same : (flow : Dataflow) (covers others : Covers) (offers ones : ℕ → Cut → Type 0) → IsWellFormed flow → AreSame flow covers others offers ones → (choice next : Choice) (l : Lowering)
    → IsOfOffered flow offers choice → IsRightLowering flow covers offers choice l next → IsRightLowering flow others ones choice l next
lowering-same flow covers others offers ones well s choice next l o r =
    let back = same-back flow covers others offers ones well s in record {
      inclusion = r.inclusion;
      of_flow = r.of_flow;
      told = r.told;
      fails = λ h. r.fails (holds-same flow others covers ones offers well back choice
          (record { one_each = o.one_each; cuts = λ p m. (s.offered p m (cut_of choice p)).0 (o.cuts p m) }) r.inclusion r.of_flow h);
      greatest = record {
        left = value_left-same flow covers others offers ones well s choice r.inclusion r.of_flow l.to r.greatest.left;
        greatest = λ y k. r.greatest.greatest y (value_left-same flow others covers ones offers well back choice r.inclusion r.of_flow y k);
      };
      with_it = r.with_it;
    }

-- and each cut that it leads to is offered
next-offered : (flow : Dataflow) (covers : Covers) (offers : ℕ → Cut → Type 0) → IsWellFormed flow → (choice next : Choice) (l : Lowering)
    → IsOfOffered flow offers choice → IsRightLowering flow covers offers choice l next → IsOfOffered flow offers next
next-offered flow covers offers well choice next l o r = subst (IsOfOffered flow offers) (sym r.with_it) (at r.inclusion l.to r.of_flow r.greatest.left)
  where
    at : (i : Inclusion) (x : Cut) → IsInclusionOf flow i → IsValueLeft flow covers offers choice i x → IsOfOffered flow offers (with_value flow choice i x)
    at (OfCut side) x there left =
        let p = owner flow side in
        let one = o.one_each in
        let inside = owner-there flow side well there in
        let here : p < length choice.cuts = omega arith in
        record {
          one_each = subst (λ n. n ≡ length flow.nodes) (sym (length-set choice.cuts p x)) o.one_each;
          cuts = set_there offers choice.cuts (length flow.nodes) p x Present here o.cuts left.offered;
        }
    at (OfNote limit) Present there left = o
    at (OfNote limit) (At f) there left = record { one_each = o.one_each; cuts = o.cuts }

leads-same : (flow : Dataflow) (covers others : Covers) (offers ones : ℕ → Cut → Type 0) → IsWellFormed flow → AreSame flow covers others offers ones → (choice : Choice) (ls : List Lowering) (end : Choice)
    → IsOfOffered flow offers choice → LeadRight flow covers offers choice ls end → LeadRight flow others ones choice ls end × IsOfOffered flow offers end
leads-same flow covers others offers ones well s choice [] end o same = (same, subst (IsOfOffered flow offers) same o)
leads-same flow covers others offers ones well s choice (l ∷ ls) end o (next, low, rest) =
    let more = leads-same flow covers others offers ones well s next ls end (next-offered flow covers offers well choice next l o low) rest in
    ((next, lowering-same flow covers others offers ones well s choice next l o low, more.0), more.1)

beginning-same : (flow : Dataflow) (covers others : Covers) (offers ones : ℕ → Cut → Type 0) → AreSame flow covers others offers ones → (start : Choice) → IsBeginning flow offers start → IsBeginning flow ones start
beginning-same flow covers others offers ones s start b = record {
  one_cut_each = b.one_cut_each;
  one_notice_each = b.one_notice_each;
  cuts = λ p l. record {
    offered = (s.offered p l (cut_of start p)).0 (b.cuts p l).offered;
    greatest = λ x o. (b.cuts p l).greatest x ((s.offered p l x).1 o);
  };
  notices = b.notices;
}

beginning-offered : (flow : Dataflow) (offers : ℕ → Cut → Type 0) (start : Choice) → IsBeginning flow offers start → IsOfOffered flow offers start
beginning-offered flow offers start b = record { one_each = b.one_cut_each; cuts = λ p l. (b.cuts p l).offered }

certificate-same : (flow : Dataflow) (covers others : Covers) (offers ones : ℕ → Cut → Type 0) → IsWellFormed flow → AreSame flow covers others offers ones → (ls : List Lowering) (end : Choice)
    → IsCertificate flow covers offers ls end → IsCertificate flow others ones ls end
certificate-same flow covers others offers ones well s ls end c =
    let leads = leads-same flow covers others offers ones well s c.start ls end (beginning-offered flow offers c.start c.begins) c.leads in record {
      start = c.start;
      begins = beginning-same flow covers others offers ones s c.start c.begins;
      leads = leads.0;
      ends = each-weaker (λ i. IsInclusionOf flow i × Holds flow covers end i) (Holds flow others end) (inclusions flow)
          (λ i k. holds-same flow covers others offers ones well s end leads.1 i k.0 k.1)
          (each-both (IsInclusionOf flow) (Holds flow covers end) (inclusions flow) (inclusions-there flow) c.ends);
    }

dead_end-same : (flow : Dataflow) (covers others : Covers) (offers ones : ℕ → Cut → Type 0) → IsWellFormed flow → AreSame flow covers others offers ones → (ls : List Lowering) (side : Side)
    → IsDeadEnd flow covers offers ls side → IsDeadEnd flow others ones ls side
dead_end-same flow covers others offers ones well s ls side d = record {
  start = d.start;
  begins = beginning-same flow covers others offers ones s d.start d.begins;
  end = d.end;
  leads = (leads-same flow covers others offers ones well s d.start ls d.end (beginning-offered flow offers d.start d.begins) d.leads).0;
  of_flow = d.of_flow;
  none = λ x left. d.none x (cut_left-same flow others covers ones offers well (same-back flow covers others offers ones well s) d.end side d.of_flow x left);
}

-- ---- of a state

state-same : (sys : System) (state : Machine) (lost : ℕ → Bool) (offers : List Offer) → AreOffersIn sys state lost offers
    → AreSame sys.flow (covers_of sys.flow offers) (covers_in sys state) (IsOffered sys.flow offers) (IsCandidate sys state lost kept)
state-same sys state lost offers a = record { offered = a.offered; left = left; arrived = a.arrived }
  where
    left : (side : Side) → IsSideOfFlow sys.flow side → (x : Cut) → IsOffered sys.flow offers (owner sys.flow side) x
        → left_of (covers_of sys.flow offers) side x ≡ left_of (covers_in sys state) side x
    left (Delivered d) there x o = a.delivered d there x o
    left (Discarded e) there x o = a.discarded e there x o
    left (Notified p) there x o = a.notified p there x o

pub certificate-of_state : CertificateOfState
certificate-of_state sys state lost offers ls end well a =
    let s = state-same sys state lost offers a in
    let ours : Covers = covers_of sys.flow offers in
    let theirs : Covers = covers_in sys state in (
      certificate-same sys.flow ours theirs (IsOffered sys.flow offers) (IsCandidate sys state lost kept) well s ls end,
      certificate-same sys.flow theirs ours (IsCandidate sys state lost kept) (IsOffered sys.flow offers) well
          (same-back sys.flow ours theirs (IsOffered sys.flow offers) (IsCandidate sys state lost kept) well s) ls end,
    )

pub dead_end-of_state : DeadEndOfState
dead_end-of_state sys state lost offers ls side well a =
    let s = state-same sys state lost offers a in
    let ours : Covers = covers_of sys.flow offers in
    let theirs : Covers = covers_in sys state in (
      dead_end-same sys.flow ours theirs (IsOffered sys.flow offers) (IsCandidate sys state lost kept) well s ls side,
      dead_end-same sys.flow theirs ours (IsCandidate sys state lost kept) (IsOffered sys.flow offers) well
          (same-back sys.flow ours theirs (IsOffered sys.flow offers) (IsCandidate sys state lost kept) well s) ls side,
    )
