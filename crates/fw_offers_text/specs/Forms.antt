-- The forms of the lines of offers and of certificates: what the words of a line tell, with names, stamps and numbers as written.
use Rattle.std.specs.Prelude.{ℕ, zero, suc, ◌==◌, Bool, true, false, ◌&&◌, List, [], ◌∷◌, take, drop, length, if◌then◌else◌, Option, Some, None, codes}
use Rattle.std.specs.List.{list_all, prefix_len}
use Rattle.std.specs.Option.{option_map, option_and_then}
use Rattle.std.specs.Str.{bytes_eq}
use Rattle.fw_lines.specs.Spelling.{is_numeral}
use Rattle.fw_flow.specs.FullNames.{is_full_name}
use Rattle.fw_flow.specs.declared.trail.Part.{Part}
use Rattle.fw_flow.specs.declared.trail.Part.TheVariants as part
use Rattle.fw_schedule.specs.Stamps.{is_stamp}
use Rattle.fw_offers_text.specs.declared.form.CauseForm.{CauseForm}
use Rattle.fw_offers_text.specs.declared.form.CauseForm.TheVariants as cause
use Rattle.fw_offers_text.specs.declared.form.CertificateForm.{CertificateForm}
use Rattle.fw_offers_text.specs.declared.form.CertificateForm.TheVariants as certificate
use Rattle.fw_offers_text.specs.declared.form.CoverForm.{CoverForm}
use Rattle.fw_offers_text.specs.declared.form.CutForm.{CutForm}
use Rattle.fw_offers_text.specs.declared.form.CutForm.TheVariants.{Present, At}
use Rattle.fw_offers_text.specs.declared.form.OfferForm.{OfferForm}
use Rattle.fw_offers_text.specs.declared.form.OfferForm.TheVariants.{Node, Record, Range, Delivered, Sent, Notified, Counts}
use Rattle.fw_offers_text.specs.declared.form.SideForm.{SideForm}
use Rattle.fw_offers_text.specs.declared.form.SideForm.TheVariants as side
use Rattle.fw_offers_text.specs.Words.{Word, behind, is_count}

-- ---- frontiers and cuts: what is found where words begin, and the words behind it

-- stamps, at least one
abbrev pub stamps_at : List Word → Option (List Word × List Word)
stamps_at words =
    if prefix_len is_stamp words == 0 then None else Some (take (prefix_len is_stamp words) words, drop (prefix_len is_stamp words) words)

-- a frontier, by its stamps: `all`, or `until` and stamps
abbrev pub frontier_at : List Word → Option (List Word × List Word)
frontier_at [] = None
frontier_at (word ∷ words) =
    if bytes_eq word (codes "all") then Some ([], words) else (if bytes_eq word (codes "until") then stamps_at words else None)

-- a cut: `present`, or a frontier
abbrev pub cut_at : List Word → Option (CutForm × List Word)
cut_at [] = None
cut_at (word ∷ words) =
    if bytes_eq word (codes "present") then Some (Present, words) else option_map (λ found. (At found.0, found.1)) (frontier_at (word ∷ words))

-- ---- the covers of a record

-- a name
abbrev pub name_at : List Word → Option (Word × List Word)
name_at [] = None
name_at (name ∷ words) = if is_full_name name then Some (name, words) else None

-- what a cover is of: `notified`; or `delivered` or `discarded`, and the name of an edge
abbrev pub side_at : List Word → Option (SideForm × List Word)
side_at [] = None
side_at (word ∷ words) =
    if bytes_eq word (codes "notified") then Some (side.Notified, words)
    else (if bytes_eq word (codes "delivered") then option_map (λ found. (side.Delivered found.0, found.1)) (name_at words)
    else (if bytes_eq word (codes "discarded") then option_map (λ found. (side.Discarded found.0, found.1)) (name_at words) else None))

-- a cover: of what, and a frontier
abbrev pub cover_at : List Word → Option (CoverForm × List Word)
cover_at words =
    option_and_then (λ found. option_map (λ front. (record { of = found.0; front = front.0 }, front.1)) (frontier_at found.1)) (side_at words)

-- the covers that words are, one behind the other, if they are at most so many
abbrev pub covers_within : List Word → ℕ → Option (List CoverForm)
covers_within [] most = Some []
covers_within (word ∷ words) zero = None
covers_within (word ∷ words) (suc most) =
    option_and_then (λ found. option_map (λ covers. found.0 ∷ covers) (covers_within found.1 most)) (cover_at (word ∷ words))

-- the covers that words are; each has a word or more
abbrev pub covers_of_words : List Word → Option (List CoverForm)
covers_of_words words = covers_within words (length words)

-- ---- the lines of offers

-- what a node is: `present` or `failed`
abbrev pub presence_in : List Word → Option Bool
presence_in [] = None
presence_in (word ∷ []) =
    if bytes_eq word (codes "present") then Some true else (if bytes_eq word (codes "failed") then Some false else None)
presence_in (word ∷ other ∷ words) = None

-- a line of what a node is
abbrev pub node_form : Word → List Word → Option OfferForm
node_form name words = option_map (λ present. Node name present) (presence_in words)

-- a record of a node: a frontier and covers
abbrev pub record_form : Word → List Word → Option OfferForm
record_form name words = option_and_then (λ found. option_map (λ covers. Record name found.0 covers) (covers_of_words found.1)) (frontier_at words)

-- whether all is offered above a range: `and all`, or nothing
abbrev pub and_all_in : List Word → Option Bool
and_all_in [] = Some false
and_all_in (word ∷ []) = None
and_all_in (word ∷ other ∷ []) = if bytes_eq word (codes "and") && bytes_eq other (codes "all") then Some true else None
and_all_in (word ∷ other ∷ another ∷ words) = None

-- the end of a range of a node, behind its least frontier: `to` and a frontier, and perhaps `and all`
abbrev pub range_to : Word → List Word → List Word → Option OfferForm
range_to name least words =
    option_and_then (λ found. option_map (λ and_all. Range name least found.0 and_all) (and_all_in found.1))
    (option_and_then frontier_at (behind (codes "to") words))

-- a range of a node: `from`, a frontier, and its end
abbrev pub range_form : Word → List Word → Option OfferForm
range_form name words = option_and_then (λ found. range_to name found.0 found.1) (option_and_then frontier_at (behind (codes "from") words))

-- a line of counts
abbrev pub counts_form : Word → List Word → Option OfferForm
counts_form name words = if list_all is_count words then Some (Counts name words) else None

-- a line of these stamps, by its verb
abbrev pub line_of_stamps : Word → Word → List Word → Option OfferForm
line_of_stamps verb name stamps =
    if bytes_eq verb (codes "delivered") then Some (Delivered name stamps)
    else (if bytes_eq verb (codes "sent") then Some (Sent name stamps)
    else (if bytes_eq verb (codes "notified") then Some (Notified name stamps) else None))

-- a line of stamps
abbrev pub stamps_form : Word → Word → List Word → Option OfferForm
stamps_form verb name words = if list_all is_stamp words then line_of_stamps verb name words else None

-- a line by its verb, its name and the words behind them
abbrev pub offer_in : Word → Word → List Word → Option OfferForm
offer_in verb name words =
    if bytes_eq verb (codes "node") then node_form name words
    else (if bytes_eq verb (codes "record") then record_form name words
    else (if bytes_eq verb (codes "range") then range_form name words
    else (if bytes_eq verb (codes "count") then counts_form name words
    else stamps_form verb name words)))

-- the form of a line of offers
abbrev pub offer_form : List Word → Option OfferForm
offer_form [] = None
offer_form (verb ∷ []) = None
offer_form (verb ∷ name ∷ words) = if is_full_name name then offer_in verb name words else None

-- ---- the lines of certificates

-- a cause of one word
abbrev pub lone_cause : Word → Option CauseForm
lone_cause word =
    if bytes_eq word (codes "notified") then Some cause.Notified else (if bytes_eq word (codes "own") then Some cause.Own else None)

-- a cause of a word and the name of an edge
abbrev pub named_cause : Word → Word → Option CauseForm
named_cause word name =
    if is_full_name name
    then (if bytes_eq word (codes "delivered") then Some (cause.Delivered name)
    else (if bytes_eq word (codes "discarded") then Some (cause.Discarded name)
    else (if bytes_eq word (codes "note") then Some (cause.Note name) else None)))
    else None

-- a cause
abbrev pub cause_in : List Word → Option CauseForm
cause_in [] = None
cause_in (word ∷ []) = lone_cause word
cause_in (word ∷ name ∷ []) = named_cause word name
cause_in (word ∷ name ∷ other ∷ words) = None

-- `by` and a cause
abbrev pub by_in : List Word → Option CauseForm
by_in words = option_and_then cause_in (behind (codes "by") words)

-- `by` and a cause, or nothing
abbrev pub perhaps_by_in : List Word → Option (Option CauseForm)
perhaps_by_in [] = Some None
perhaps_by_in (word ∷ words) = option_map (λ by. Some by) (by_in (word ∷ words))

-- the cut that words are
abbrev pub whole_cut : CutForm → List Word → Option CutForm
whole_cut cut [] = Some cut
whole_cut cut (word ∷ words) = None

-- a line of a cut, by the name of its node
abbrev pub cut_in : Word → List Word → Option CertificateForm
cut_in name words = option_and_then (λ found. option_map (λ cut. certificate.Cut name cut) (whole_cut found.0 found.1)) (cut_at words)

-- which of a node's values: `cut` or `note`
abbrev pub part_in : Word → Option Part
part_in word = if bytes_eq word (codes "cut") then Some part.Cut else (if bytes_eq word (codes "note") then Some part.Note else None)

-- the lowering of this value of a node: a cut, `by` and a cause
abbrev pub lowering_in : Word → Part → List Word → Option CertificateForm
lowering_in name of words = option_and_then (λ found. option_map (λ by. certificate.Down name of found.0 by) (by_in found.1)) (cut_at words)

-- a line of a lowering: the value, and to what it is lowered, and why
abbrev pub down_in : Word → List Word → Option CertificateForm
down_in name [] = None
down_in name (word ∷ words) = option_and_then (λ of. lowering_in name of words) (part_in word)

-- the last line: a number, and `yes` or `none`
abbrev pub end_in : Word → List Word → Option CertificateForm
end_in number [] = None
end_in number (word ∷ []) =
    if bytes_eq word (codes "yes") then Some (certificate.End number true)
    else (if bytes_eq word (codes "none") then Some (certificate.End number false) else None)
end_in number (word ∷ other ∷ words) = None

-- a line of a node, by its verb
abbrev pub certificate_in : Word → Word → List Word → Option CertificateForm
certificate_in verb name words =
    if bytes_eq verb (codes "cut") then cut_in name words
    else (if bytes_eq verb (codes "down") then down_in name words
    else (if bytes_eq verb (codes "none") then option_map (λ by. certificate.NoneLeft name by) (perhaps_by_in words) else None))

-- a line by its first two words and those behind them: the last line, or a line of a node
abbrev pub line_in : Word → Word → List Word → Option CertificateForm
line_in verb second words =
    if bytes_eq verb (codes "certificate") then (if is_numeral second then end_in second words else None)
    else (if is_full_name second then certificate_in verb second words else None)

-- the form of a line of a certificate
abbrev pub certificate_form : List Word → Option CertificateForm
certificate_form [] = None
certificate_form (verb ∷ []) = None
certificate_form (verb ∷ second ∷ words) = line_in verb second words
