use Rattle.std.proofs.Common.{List, length, get_or, nat_lt, sym, ap, ◌∙◌}
use Rattle.std.specs.Prelude.{slice_get}
use Rattle.fw_time.specs.Stamp.{Stamp as StampList}
use Rattle.fw_bag.specs.declared.rec.Rec.{Rec}
use Rattle.fw_node.specs.Sends.{sends_list}
use Rattle.fw_node.proofs.SendsLaws.{at_stamp, together-some, numbered-some, numbered-none}
use Rattle.fw_node.proofs.sends.Sends.get.Goals as goal

pub returns-in_err-rec-in-Numbered : goal.returns-in_err-rec-in-Numbered
returns-in_err-rec-in-Numbered c =
    let l = c.in_err-rec-in-Numbered.ensures.lookup in
    c.from_residual-in_err-rec-in-Numbered.ensures
    ∙ numbered-none c.in-Numbered.sent.first c.in-Numbered.sent.recs c.args.place (l.0 ∙ ap (λ (rs : List Rec). nat_lt c.args.place (length rs)) c.as_slice-in-Numbered.ensures)
    ∙ sym (ap (λ s. slice_get (sends_list s) c.args.place) c.in-Numbered.is)

pub returns-in_ok-rec-in-AtOneStamp : goal.returns-in_ok-rec-in-AtOneStamp
returns-in_ok-rec-in-AtOneStamp c =
    let r : Rec = c.in_ok-rec-in-AtOneStamp.rec.now in
    let l = c.in_ok-rec-in-AtOneStamp.ensures.lookup in
    ap (λ (t : StampList). at_stamp t r) c.copy.ensures
    ∙ together-some c.in-AtOneStamp.sent.at c.in-AtOneStamp.sent.recs c.args.place r
    (l.0 ∙ ap (λ (rs : List Rec). nat_lt c.args.place (length rs)) c.as_slice.ensures) (l.1 ∙ ap (λ (rs : List Rec). get_or rs c.args.place r) c.as_slice.ensures)
    ∙ sym (ap (λ s. slice_get (sends_list s) c.args.place) c.in-AtOneStamp.is)

pub returns-in_ok-rec-in-Numbered : goal.returns-in_ok-rec-in-Numbered
returns-in_ok-rec-in-Numbered c =
    let r : Rec = c.in_ok-rec-in-Numbered.rec.now in
    let l = c.in_ok-rec-in-Numbered.ensures.lookup in
    ap (λ (t : StampList). at_stamp t r) c.new.ensures
    ∙ numbered-some c.in-Numbered.sent.first c.in-Numbered.sent.recs c.args.place r
    (l.0 ∙ ap (λ (rs : List Rec). nat_lt c.args.place (length rs)) c.as_slice-in-Numbered.ensures)
    (l.1 ∙ ap (λ (rs : List Rec). get_or rs c.args.place r) c.as_slice-in-Numbered.ensures)
    ∙ sym (ap (λ s. slice_get (sends_list s) c.args.place) c.in-Numbered.is)
