-- How the program answers below its entries for C: with what there is to tell of an accepted river, or with the refusal. `Reports` and `Means` name
-- none of this.
use Rattle.std.specs.Prelude.{◌≡◌, List, ℕ, length}
use Rattle.river.specs.declared.card.Card.{Card}
use Rattle.river.specs.Refusal.{Answer, accepted, after as then}
use Rattle.flows.specs.held.Stored.{oxygen_of}
use Rattle.report.specs.Call.{lent_after}
use Rattle.report.specs.Record.{has_nitrification}
use Rattle.report.specs.Report.{report_answer, buffer_reported}
use Rattle.report.specs.Mean.{Weighted, river_mean, mean_answer, buffer_averaged}
use Rattle.report.specs.declared.reporting.Reported.{Reported}
use Rattle.report.specs.declared.mean.RiverMean.{RiverMean}

-- a call of the program with this answer: what there is to tell of its value, or its refusal, and what the call was lent, before and after
pub record Answers {A B Lent : Type 0} (answer : Answer A) (tell : A → B) (write : A → Lent → Lent) (told : Answer B) (before after : Lent) : Type 0 where
  pub told_is : told ≡ then answer (λ a. accepted (tell a))
  pub leaves : after ≡ lent_after write answer before

-- reporting tells of a river how many reaches it has, and whether it has nitrification
abbrev pub report_told : List Card → Reported
report_told cards = record { count = length cards; nitrified = has_nitrification cards }

abbrev pub AnswersReport : (file before after : List ℕ) → Answer Reported → Type 0
AnswersReport file before after r = Answers (report_answer file (length before)) report_told buffer_reported r before after

-- the means tell of a river how many reaches it has, and its mean
pub record MeansTold : Type 0 where
  pub count : ℕ
  pub mean : Weighted

abbrev pub means_told : List Card → MeansTold
means_told cards = record { count = length cards; mean = river_mean cards }

-- which the program stores
abbrev pub means_in : RiverMean → MeansTold
means_in m = record { count = m.count; mean = record { units = oxygen_of m.units; remainder = m.remainder } }

abbrev pub AnswersMeans : (file before after : List ℕ) → Answer RiverMean → Type 0
AnswersMeans file before after r =
    Answers (mean_answer file (length before)) means_told buffer_averaged (then r (λ m. accepted (means_in m))) before after
