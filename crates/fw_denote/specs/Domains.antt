-- At which stamps timed recs are.
use Rattle.std.specs.Prelude.{◌≡◌, true, List}
use Rattle.std.specs.List.{AllByRecursion}
use Rattle.fw_time.specs.Stamp.{in_domain}
use Rattle.fw_flow.specs.Kind.{Kind}
use Rattle.fw_flow.specs.Dataflow.{Dataflow, bounds_of_domain, domain_of_kind, out_domain_of_kind}
use Rattle.fw_flow.specs.WholeBags.{Timed}

-- each timed rec is at a stamp of the kind's domain
abbrev pub AreIn : Dataflow → Kind → List Timed → Type 0
AreIn flow kind rs = AllByRecursion (λ (r : Timed). in_domain (bounds_of_domain flow (domain_of_kind flow kind)) r.at ≡ true) rs

-- each timed rec is at a stamp of the kind's out domain
abbrev pub AreOut : Dataflow → Kind → List Timed → Type 0
AreOut flow kind rs = AllByRecursion (λ (r : Timed). in_domain (bounds_of_domain flow (out_domain_of_kind flow kind)) r.at ≡ true) rs
