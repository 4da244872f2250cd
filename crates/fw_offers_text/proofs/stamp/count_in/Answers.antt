use Rattle.std.proofs.Common.{◌+◌, ◌-◌, length, take, drop, ◌∙◌, ap}
use Rattle.std.proofs.lemmas.List.{take_rest}
use Rattle.fw_offers_text.proofs.CheckedLaws.{counted_value, counted_none}
use Rattle.fw_offers_text.proofs.stamp.count_in.Goals as goal

pub returns-in-Value : goal.returns-in-Value
returns-in-Value c =
    let word = c.args.word.now in
    let at = c.colon_place-at.result in
    counted_value word (take at word) (take (length word - (at + 1)) (drop (at + 1) word)) c.in_ok-epoch.epoch c.from.result c.in-Value.value (ap (λ n. take n word) c.colon_place-at.ensures.place)
    (take_rest word (at + 1) ∙ ap (λ n. drop (n + 1) word) c.colon_place-at.ensures.place) c.in_ok-epoch.ensures c.from.ensures c.in-Value.ensures

pub returns-in-TooLarge : goal.returns-in-TooLarge
returns-in-TooLarge c =
    let word = c.args.word.now in
    let at = c.colon_place-at.result in
    counted_none word (take (length word - (at + 1)) (drop (at + 1) word)) c.number.result c.requires (take_rest word (at + 1) ∙ ap (λ n. drop (n + 1) word) c.colon_place-at.ensures.place) c.number.ensures c.in-TooLarge.is
