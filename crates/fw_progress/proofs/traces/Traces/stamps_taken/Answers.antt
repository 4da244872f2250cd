use Rattle.std.proofs.Common.{◌≡◌, ℕ, List, [], get_or, option_copied, ap, ◌∙◌, arith}
use Rattle.fw_time.specs.Stamp.{Stamp}
use Rattle.fw_flow.specs.declared.choice.Counted.{Counted}
use Rattle.fw_flow.specs.declared.choice.Stamps.{Stamps}
use Rattle.fw_lemmas.proofs.Lists.{read_at}
use Rattle.fw_progress.specs.StampData.{taken, count_taken, all_delivered, all_sent}
use Rattle.fw_progress.specs.Trace.{no_tally}
use Rattle.fw_progress.proofs.traces.Traces.stamps_taken.Goals as goal

-- stamps are the same that have the same lists
same-stamps : (d e : List Counted) (n m : List Stamp) (s t : List Counted) → d ≡ e → n ≡ m → s ≡ t
    → ◌≡◌ {A = Stamps} (record { delivered = d; notified = n; sent = s }) (record { delivered = e; notified = m; sent = t })
same-stamps d e n m s t i j k =
    let on : List Counted → Stamps = λ x. record { delivered = x; notified = n; sent = s } in
    let of : List Stamp → Stamps = λ x. record { delivered = e; notified = x; sent = s } in
    let out : List Counted → Stamps = λ x. record { delivered = e; notified = m; sent = x } in
    ap on i ∙ ap of j ∙ ap out k

pub returns : goal.returns
returns c =
    let flow = c.args.flow.now in
    let p = c.args.node in
    let traces = c.args.self.now in
    let part = option_copied c.args.f in
    let at : c.place-place.result ≡ p = c.place-place.ensures in
    let told = read_at traces.notified.items p c.place-place.result c.index.result.now [] at (omega (arith, at, c.requires.there, c.requires.lists.notified_each)) c.index.ensures in
    let tally = read_at traces.counted.items p c.place-place.result c.index-2.result.now no_tally at (omega (arith, at, c.requires.there, c.requires.lists.counted_each)) c.index-2.ensures in
    let sends : List (List Stamp) → ℕ → List Counted = λ lists n. all_sent flow p (λ e. taken part (get_or lists e [])) n in
    same-stamps c.of.result (all_delivered flow p (λ d. taken part (get_or traces.delivered.items d []))) c.of-2.result (taken part (get_or traces.notified.items p []))
    c.of-3.result (sends traces.sent.items (count_taken part (get_or traces.counted.items p no_tally)))
    (c.of.ensures ∙ c.in_ok-delivered.ensures ∙ ap (λ (lists : List (List Stamp)). all_delivered flow p (λ d. taken part (get_or lists d []))) c.deref.ensures.value)
    (c.of-2.ensures ∙ c.in_ok-notified.ensures ∙ ap (taken part) told)
    (c.of-3.ensures ∙ c.in_ok-sent.ensures ∙ ap (λ (lists : List (List Stamp)). sends lists c.in_ok-count.count) c.deref-2.ensures.value
    ∙ ap (sends traces.sent.items) (c.in_ok-count.ensures ∙ ap (count_taken part) tally))
