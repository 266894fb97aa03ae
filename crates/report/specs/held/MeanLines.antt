-- What the program holds on the way to the means: what a reach hands on with its mean, a table of the means, and the sums of volume × mean.
use Rattle.std.specs.Prelude.{◌≡◌, List, ℕ, suc, ◌*◌, ◌≤◌, ◌<◌, length, get_or}
use Rattle.river.specs.declared.card.Card.{Card}
use Rattle.river.specs.Bytes.{four_bytes}
use Rattle.flows.specs.held.Stored.{stored_limit, oxygen_of, oxygen_sum_of}
use Rattle.report.specs.Record.{complement}
use Rattle.report.specs.held.Lines.{HandsOn}
use Rattle.report.specs.held.Reaches.{Here}
use Rattle.report.specs.Mean.{mean_at, counted_volume_at, volume_sum, weighted_sum}
use Rattle.report.specs.declared.mean.ReachMean.{ReachMean}
use Rattle.report.specs.declared.reach.Site.{Site}
use Rattle.report.specs.declared.mean.MeanTable.{MeanTable}
use Rattle.report.specs.declared.weights.Weights.{Weights}

-- what reach i + 1 hands on, and its mean as it is reported
pub record ReachAveraged (cards : List Card) (i : ℕ) (r : ReachMean) : Type 0 where
  pub hands_on : HandsOn cards i r.brings
  pub mean : oxygen_of r.mean ≡ mean_at cards (suc i)

-- for every river that it may be of
abbrev pub AveragedBy : Site → ReachMean → Type 0
AveragedBy site r = (here : Here site) → ReachAveraged here.cards here.i r

-- the largest volume of a reach
abbrev pub volume_limit : ℕ
volume_limit = 1_000_000_000

-- the sums of the first n reaches stand for the sum of volume × mean, with the volume that counts, and a mean of these fits four bytes
pub record Weighs (cards : List Card) (n : ℕ) (w : Weights) : Type 0 where
  pub sum : oxygen_sum_of (volume_sum (λ i. counted_volume_at cards (suc i)) n) w.sum ≡ weighted_sum (λ i. counted_volume_at cards (suc i)) (λ i. mean_at cards (suc i)) n
  pub fits : w.sum ≤ stored_limit * w.volume
  pub volume : w.volume ≡ volume_sum (λ i. counted_volume_at cards (suc i)) n
  pub few : w.volume ≤ n * volume_limit

-- the means of the first n reaches in a table
pub record MeansTabled (cards : List Card) (n : ℕ) (means : List ℕ) : Type 0 where
  pub full : length means ≡ 128
  pub mean : (j : ℕ) → j < n → oxygen_of (get_or means j 0) ≡ mean_at cards (suc j)

-- what the means of a river are to be: a table of them, and their sums
pub record AllAveraged (cards : List Card) (t : MeanTable) : Type 0 where
  pub tabled : MeansTabled cards (length cards) t.stored
  pub weighed : Weighs cards (length cards) t.weights

-- the bytes of a stored mean in a table
abbrev pub stored_row : (means : List ℕ) → ℕ → List ℕ
stored_row means i = four_bytes (complement (oxygen_of (get_or means i 0)))
