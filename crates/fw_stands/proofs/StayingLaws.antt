-- Steps that leave parts as they are.
use Rattle.std.proofs.Common.{◌≡◌, ℕ, List, refl}
use Rattle.fw_flow.specs.Dataflow.{System}
use Rattle.fw_model.specs.Machine.{Machine, Write}
use Rattle.fw_model.specs.Steps.{checkpoints_of}
use Rattle.fw_stands.specs.Staying.{KeepsAllButTables, KeepsTables}
use Rattle.fw_stands.proofs.TableBaseLaws.{same-front, same_table-stands}

-- where the writes alone are other ones, all parts but tables stay as they were
pub writes-keep_parts : (sys : System) (state : Machine) (writes : List Write) → KeepsAllButTables sys state (record state { writes = writes })
writes-keep_parts sys state writes = record {
  queues = λ e. refl;
  logs = λ e. refl;
  outputs = record { bound = λ o. refl; recs = λ o x. refl };
  sources = λ s source t. record { given = t.given; injected = t.injected; held = t.held };
  traces = λ floor p traces t. t;
}

-- tables do too, where each node has the same checkpoints
pub writes-keep_tables : (sys : System) (state : Machine) (writes : List Write) → ((p : ℕ) → checkpoints_of p writes ≡ checkpoints_of p state.writes)
    → KeepsTables sys state (record state { writes = writes })
writes-keep_tables sys state writes same = λ p table t.
    let next : Machine = record state { writes = writes } in
    same_table-stands sys state next p table refl (same-front sys state next p (λ is. same p) (λ isnt. refl)) refl t
