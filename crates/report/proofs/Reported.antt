-- Locality: a record, its status included, depends only on its reach, the reaches above it and the rate factors, and its size on whether its river has nitrification.
use mathlib.Core.Path.{◌≡◌, sym, ap, ap₂, ◌∙◌}
use mathlib.Core.List.{List, map}
use Prim.Native.Nat.{ℕ, suc, ◌<◌}
use lib.ListN.{length, take, length-map}
use lib.Seq.{take_at}
use Rattle.std.specs.Prelude.{Option}
use Rattle.river.specs.declared.card.RateFactors.{RateFactors}
use Rattle.river.specs.Refusal.{accepted}
use Rattle.river.specs.River.{River}
use Rattle.flows.specs.Rates.{card_in_force}
use Rattle.river.specs.Read.{read_file}
use Rattle.report.specs.Status.{reported}
use Rattle.report.specs.Program.{reported_at}
use Rattle.report.specs.Record.{has_nitrification, plain_bytes, encode_plain, encode_record, record_size}
use Rattle.report.specs.Locality.{SameReach, Agree}
use Rattle.report.specs.Report.{record_of, bytes_read, Accepted, Reports}
use Rattle.report.proofs.record.Encoding.{record_length, plain_first}
use Rattle.report.proofs.Entry.{record_stands}
use Rattle.report.proofs.Locality.{same_figures, agreed_reach, reach_in_force}
use Rattle.report.proofs.River.{cards_of_file}
use Rattle.report.proofs.Size.{nitrification_in_force}

module _ {file before after : List ℕ} {result : ℕ} (call : Reports file before after result) (river : Accepted file (length before)) (i : ℕ) (l : i < length river.cards) where
  -- the bytes of a reach
  pub record_bytes_lem : bytes_read river.cards after i ≡ record_of river.cards i
  record_bytes_lem =
      let s = record_stands file before call.call.leaves river i l in
      ap (take (record_size river.cards)) s.is ∙ take_at (record_of river.cards i) s.rest (record_size river.cards) (record_length (has_nitrification river.cards) (reported_at river.cards (suc i)))

-- two calls, and reaches with the same card and the same forest above them, outlets and the order of feeders aside
module _
    {file before after file' before' after' : List ℕ} {result result' : ℕ} (i j : ℕ)
    (call : Reports file before after result) (call' : Reports file' before' after' result')
    (here : Accepted file (length before)) (there : Accepted file' (length before'))
    (l : i < length here.cards) (l' : j < length there.cards)
    (same : SameReach here.cards i there.cards j) where
  -- what is reported of them is the same
  same_reported : reported_at here.cards (suc i) ≡ reported_at there.cards (suc j)
  same_reported = ap reported (same_figures same.card same.forest)

  -- THEOREM: the bytes of the reaches are the same, if both rivers have nitrification or neither has
  pub same_record_anew : has_nitrification here.cards ≡ has_nitrification there.cards → bytes_read here.cards after i ≡ bytes_read there.cards after' j
  same_record_anew alike =
      record_bytes_lem call here i l ∙ ap₂ encode_record alike same_reported ∙ sym (record_bytes_lem call' there j l')

  -- THEOREM: and those of their `RP` records are the same in any case
  pub same_plain_anew : take plain_bytes (bytes_read here.cards after i) ≡ take plain_bytes (bytes_read there.cards after' j)
  same_plain_anew =
      ap (take plain_bytes) (record_bytes_lem call here i l)
      ∙ plain_first (has_nitrification here.cards) (reported_at here.cards (suc i))
      ∙ ap encode_plain same_reported
      ∙ sym (ap (take plain_bytes) (record_bytes_lem call' there j l') ∙ plain_first (has_nitrification there.cards) (reported_at there.cards (suc j)))

-- THEOREM: in particular where the rivers agree on a reach and on the reaches above it
pub same_record :
    {file before after file' before' after' : List ℕ} {result result' : ℕ} (i : ℕ) →
    Reports file before after result →
    Reports file' before' after' result' →
    (here : Accepted file (length before)) (there : Accepted file' (length before')) →
    i < length here.cards →
    i < length there.cards →
    Agree here.cards there.cards i →
    has_nitrification here.cards ≡ has_nitrification there.cards →
    bytes_read here.cards after i ≡ bytes_read there.cards after' i
same_record i call call' here there l l' agree alike =
    same_record_anew i i call call' here there l l' (agreed_reach here.cards there.cards i agree) alike

-- two calls on rivers with the same rate factors, which have the same reach on their cards as the files give them, numbered anew or not
module _
    {file before after file' before' after' : List ℕ} {result result' : ℕ} {river river' : River} (i j : ℕ)
    (call : Reports file before after result) (call' : Reports file' before' after' result')
    (here : Accepted file (length before)) (there : Accepted file' (length before'))
    (read : read_file file ≡ accepted river) (read' : read_file file' ≡ accepted river')
    (factors : river.factors ≡ river'.factors)
    (l : i < length river.cards) (k : j < length river'.cards)
    (same : SameReach river.cards i river'.cards j) where
  in_force_lem : here.cards ≡ map (card_in_force river'.factors) river.cards
  in_force_lem = cards_of_file file here.passes read ∙ ap (λ (f : Option RateFactors). map (card_in_force f) river.cards) factors

  in_force' : there.cards ≡ map (card_in_force river'.factors) river'.cards
  in_force' = cards_of_file file' there.passes read'

  within : i < length here.cards
  within = rw (in_force_lem, length-map river.cards _) l

  within' : j < length there.cards
  within' = rw (in_force', length-map river'.cards _) k

  same_in_force : SameReach here.cards i there.cards j
  same_in_force = rw (in_force_lem, in_force') (reach_in_force river'.factors l k same)

  -- THEOREM: the bytes of the reaches are the same, if both rivers have nitrification or neither has
  pub same_record_given : has_nitrification river.cards ≡ has_nitrification river'.cards → bytes_read here.cards after i ≡ bytes_read there.cards after' j
  same_record_given alike =
      same_record_anew i j call call' here there within within' same_in_force
      (rw (in_force_lem, in_force') (nitrification_in_force _ river.cards ∙ alike ∙ sym (nitrification_in_force _ river'.cards)))

  -- THEOREM: and those of their `RP` records are the same in any case
  pub same_plain_given : take plain_bytes (bytes_read here.cards after i) ≡ take plain_bytes (bytes_read there.cards after' j)
  same_plain_given = same_plain_anew i j call call' here there within within' same_in_force
