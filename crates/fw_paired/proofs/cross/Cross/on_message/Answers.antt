use Rattle.fw_paired.proofs.cross.Cross.on_message.Goals as goal

pub returns-clause-ok : goal.returns-clause-ok
returns-clause-ok c = λ came h.
    let e = c.in_ok-put.ensures in
    let put = e.ok came (record { first = h.first; second = h.second }) in
    record { first = put.first; second = put.second }
