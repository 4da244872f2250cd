-- A root says the same of a state and of that in which every node is failed.
use Rattle.std.proofs.Common.{◌≡◌, true, not, List, filter, refl, sym, subst, ◌∙◌}
use Rattle.std.specs.List.{AllZip}
use Rattle.fw_lemmas.proofs.Each.{each-one}
use Rattle.fw_lemmas.proofs.Filters.{filter-inner}
use Rattle.fw_model.specs.Choice.{kept, is_counted}
use Rattle.fw_model.specs.Machine.{Write, Stage, in_flight, acknowledged, collected}
use Rattle.fw_model.specs.Steps.{is_in_flight}
use Rattle.fw_regain.specs.RootOf.{IsWriteNamed, DownHasTheSameRoots}
use Rattle.fw_regain.proofs.ThirdLaws.{third-stays}

kept-lands : (far : Stage) → is_counted kept far ≡ true → not (is_in_flight far) ≡ true
kept-lands in_flight e = absurd (cc)
kept-lands acknowledged e = refl
kept-lands collected e = absurd (cc)

-- what is kept of the writes is so without those in flight
kept-same : (writes : List Write)
    → filter (λ (x : Write). is_counted kept x.stage) (filter (λ (x : Write). not (is_in_flight x.stage)) writes) ≡ filter (λ (x : Write). is_counted kept x.stage) writes
kept-same writes =
    filter-inner (λ (x : Write). is_counted kept x.stage) (λ (x : Write). not (is_in_flight x.stage)) writes
    (each-one (λ (x : Write). is_counted kept x.stage ≡ true → not (is_in_flight x.stage) ≡ true) writes (λ x e. kept-lands x.stage e))

pub down-same_roots : DownHasTheSameRoots
down-same_roots sys state root = (
  λ r. record {
    injected = r.injected;
    bounds = r.bounds;
    settled = r.settled;
    low = r.low;
    third = λ p l full. let f = r.third p l full in record { canonical = f.canonical; same = λ t. f.same t ∙ sym (third-stays sys state p t) };
    writes = subst (AllZip IsWriteNamed root.writes) (sym (kept-same state.writes)) r.writes;
    pending = r.pending;
    owed = r.owed;
    sends = r.sends;
  },
  λ r. record {
    injected = r.injected;
    bounds = r.bounds;
    settled = r.settled;
    low = r.low;
    third = λ p l full. let f = r.third p l full in record { canonical = f.canonical; same = λ t. f.same t ∙ third-stays sys state p t };
    writes = subst (AllZip IsWriteNamed root.writes) (kept-same state.writes) r.writes;
    pending = r.pending;
    owed = r.owed;
    sends = r.sends;
  },
)
