use Rattle.std.proofs.Common.{ℕ, false, List, length, ap, ◌∙◌}
use Rattle.std.specs.Prelude.{slice_index_or}
use Rattle.fw_resume.proofs.traces.traces_of.Goals as goal

pub tell-requires-clause-ready : goal.tell-requires-clause-ready
tell-requires-clause-ready c = record { lists = c.in_ok-traces.ensures.traces c.in_ok-traces.ensures.ready; ready = c.in_ok-traces.ensures.ready }

pub tell-requires-clause-injected_each : goal.tell-requires-clause-injected_each
tell-requires-clause-injected_each c = ap (λ (xs : List ℕ). length xs) c.deref.ensures.value ∙ c.requires.counts.injected_each

pub returns-clause-held : goal.returns-clause-held
returns-clause-held c = λ state w r are low written.
    c.in_ok-tell.ensures.held state
    (record {
      well_formed = w;
      reached = r;
      counts = λ p l. ap (λ (xs : List ℕ). slice_index_or xs p 0) c.deref.ensures.value ∙ are.injected p l;
      lows = low;
      written = written;
      first = c.in_ok-traces.ensures.none false _;
    })
