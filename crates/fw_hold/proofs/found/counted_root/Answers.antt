use Rattle.std.proofs.Common.{◌≡◌, None, rules}
use Rattle.std.proofs.lemmas.Result.{err_from_is_err_and}
use Rattle.fw_hold.specs.Found.{IsFoundRoot}
use Rattle.fw_hold.specs.Kept.{root_id}
use Rattle.fw_hold.specs.declared.fault.HoldFault.{HoldFault}
use Rattle.fw_hold.specs.declared.found.FoundRoot.{FoundRoot}
use Rattle.fw_hold.proofs.FaultLaws.{damage_passed}
use Rattle.fw_hold.proofs.GreatestLaws.{IsNoneAt, even_alone, even_greater, odd_answered, odd_greater, of_none, of_some}
use Rattle.fw_hold.proofs.found.counted_root.Goals as goal

pub returns-in_err-even-clause-damaged : goal.returns-in_err-even-clause-damaged
returns-in_err-even-clause-damaged g c =
    let p = err_from_is_err_and c.from_residual.result c.from_residual.ensures.1 in
    rw (p.1, p.2) (λ at e. c.in_err-even.ensures.damaged at (damage_passed _ _ _ at e))

pub returns-in_err-odd-clause-damaged : goal.returns-in_err-odd-clause-damaged
returns-in_err-odd-clause-damaged g c =
    let p = err_from_is_err_and c.from_residual-in_err-odd.result c.from_residual-in_err-odd.ensures.1 in
    rw (p.1, p.2) (λ at e. c.in_err-odd.ensures.damaged at (damage_passed _ _ _ at e))

pub returns-in_err-read_root-clause-damaged : goal.returns-in_err-read_root-clause-damaged
returns-in_err-read_root-clause-damaged g c =
    let p = err_from_is_err_and c.from_residual-in_err-read_root.result c.from_residual-in_err-read_root.ensures.1 in
    rw (p.1, p.2) (λ at e. c.in_err-read_root.ensures.damaged at (damage_passed _ _ _ at e))

pub returns-in_default-clause-greatest : goal.returns-in_default-clause-greatest
returns-in_default-clause-greatest g c =
    let first = (g.K.Store.view c.root_under.new.store).records in
    let none : c.in_ok-even.field-0 ≡ None = search rules in
    let new = (g.K.Store.view c.root_under-in_default.new.store).records in
    odd_answered c.root_under-in_default.result first new c.root_under-in_default.ensures.stays (of_none HoldFault (IsNoneAt (root_id 0) first) c.in_ok-even.field-0 none c.in_ok-even.ensures.none)
    c.root_under-in_default.ensures.found c.root_under-in_default.ensures.id

pub returns-in_default-2-clause-greatest : goal.returns-in_default-2-clause-greatest
returns-in_default-2-clause-greatest g c =
    let first = (g.K.Store.view c.root_under.new.store).records in
    let mid = (g.K.Store.view c.root_under-2.new.store).records in
    let even = of_some (IsFoundRoot first) c.in_ok-even.field-0 c.in-Some.even c.in-Some.is c.in_ok-even.ensures.found in
    let even_at = of_some (λ (found : FoundRoot). found.id ≡ root_id 0) c.in_ok-even.field-0 c.in-Some.even c.in-Some.is c.in_ok-even.ensures.id in
    let none : c.in_ok-odd.field-0 ≡ None = search rules in
    even_alone first mid c.in-Some.even c.in_ok-odd.ensures.stays even even_at (of_none HoldFault (IsNoneAt (root_id 1) mid) c.in_ok-odd.field-0 none c.in_ok-odd.ensures.none)

pub returns-then-odd-even-clause-greatest : goal.returns-then-odd-even-clause-greatest
returns-then-odd-even-clause-greatest g c =
    let first = (g.K.Store.view c.root_under.new.store).records in
    let mid = (g.K.Store.view c.root_under-2.new.store).records in
    let even = of_some (IsFoundRoot first) c.in_ok-even.field-0 c.in-Some.even c.in-Some.is c.in_ok-even.ensures.found in
    let even_at = of_some (λ (found : FoundRoot). found.id ≡ root_id 0) c.in_ok-even.field-0 c.in-Some.even c.in-Some.is c.in_ok-even.ensures.id in
    let odd = of_some (IsFoundRoot mid) c.in_ok-odd.field-0 c.in-Some-2.odd c.in-Some-2.is c.in_ok-odd.ensures.found in
    let odd_at = of_some (λ (found : FoundRoot). found.id ≡ root_id 1) c.in_ok-odd.field-0 c.in-Some-2.odd c.in-Some-2.is c.in_ok-odd.ensures.id in
    let new = (g.K.Store.view c.read_root.new.store).records in
    even_greater first mid new c.in-Some.even c.in-Some-2.odd c.in_ok-read_root.field-0 c.in_ok-odd.ensures.stays c.in_ok-read_root.ensures.stays even even_at odd odd_at
    c.if-odd-even.true c.in_ok-read_root.ensures.found c.in_ok-read_root.ensures.id

pub returns-clause-greatest : goal.returns-clause-greatest
returns-clause-greatest g c =
    let first = (g.K.Store.view c.root_under.new.store).records in
    let mid = (g.K.Store.view c.root_under-2.new.store).records in
    let even = of_some (IsFoundRoot first) c.in_ok-even.field-0 c.in-Some.even c.in-Some.is c.in_ok-even.ensures.found in
    let even_at = of_some (λ (found : FoundRoot). found.id ≡ root_id 0) c.in_ok-even.field-0 c.in-Some.even c.in-Some.is c.in_ok-even.ensures.id in
    let odd = of_some (IsFoundRoot mid) c.in_ok-odd.field-0 c.in-Some-2.odd c.in-Some-2.is c.in_ok-odd.ensures.found in
    let odd_at = of_some (λ (found : FoundRoot). found.id ≡ root_id 1) c.in_ok-odd.field-0 c.in-Some-2.odd c.in-Some-2.is c.in_ok-odd.ensures.id in
    odd_greater first mid c.in-Some.even c.in-Some-2.odd c.in_ok-odd.ensures.stays even even_at odd odd_at c.if-odd-even.false
