-- "Mean oxygen" of the river file paper: the mean of a reach as it is reported, the mean of the river weighted by volume, and what a call of the entry
-- returns and leaves in the buffer.
use Rattle.std.specs.Prelude.{◌≡◌, cond, List, ◌++◌, ℕ, zero, suc, ◌+◌, ◌-◌, ◌*◌, ◌%◌, ◌≤◌, ◌<◌, leb, ltb, ℤ, pos, negsuc, ◌+ℤ◌, ◌*ℤ◌, length, drop}
use Rattle.decay.specs.Fraction.{of_ℤ, ◌≼◌, distance}
use Rattle.river.specs.declared.card.Card.{Card}
use Rattle.river.specs.declared.source.Demand.TheVariants.{Bod, Nitrogenous}
use Rattle.river.specs.declared.refusal.Rule.TheVariants.{BufferShort, NoVolume}
use Rattle.river.specs.Bytes.{four_bytes, four_at}
use Rattle.flows.specs.Flow.{Feeders, reach_flow, card_of, above}
use Rattle.flows.specs.Head.{floor}
use Rattle.river.specs.Refusal.{Answer, accepted, need, after as then}
use Rattle.flows.specs.Accept.{accept_file}
use Rattle.report.specs.Program.{demand_at_head, oxygen_at_head, used_above, status_of}
use Rattle.report.specs.Record.{complement, from_complement}
use Rattle.report.specs.Distance.{allowance_at}
use Rattle.report.specs.Ties.{NoChange}
use Rattle.report.specs.ExactMean.{exact_mean_oxygen, IsMean}
use Rattle.report.specs.Call.{Called, AcceptedExactly}
use Rattle.report.specs.Report.{first_rows}
use Rattle.report.specs.held.MeanAlong.{mean_along}

-- mean oxygen of a reach
unfoldable pub mean_oxygen : Card → Feeders → ℤ
mean_oxygen card up = mean_along card (reach_flow card up) (demand_at_head Bod card up) (demand_at_head Nitrogenous card up) (oxygen_at_head card up)

-- the mean of reach i of a river: 0 at status 2, where oxygen is used up above
abbrev pub mean_at : List Card → ℕ → ℤ
mean_at cards i = cond (used_above (above cards i)) (pos 0) (mean_oxygen (card_of cards i) (above cards i))

-- the sum of the volumes of the first n of some reaches
unfoldable pub volume_sum : (volume : ℕ → ℕ) → ℕ → ℕ
volume_sum volume zero = 0
volume_sum volume (suc n) = volume_sum volume n + volume n

-- the volume of reach i of a river that counts, which is none at status 2, and that of its reaches of status 0 and 1 together
abbrev pub counted_volume_at : List Card → ℕ → ℕ
counted_volume_at cards i = cond (used_above (above cards i)) 0 (card_of cards i).volume

abbrev pub counted_volume : List Card → ℕ
counted_volume cards = volume_sum (λ i. counted_volume_at cards (suc i)) (length cards)

-- the sum of volume × mean of the first n of some reaches
unfoldable pub weighted_sum : (volume : ℕ → ℕ) (mean : ℕ → ℤ) → ℕ → ℤ
weighted_sum volume mean zero = pos 0
weighted_sum volume mean (suc n) = weighted_sum volume mean n +ℤ pos (volume n) *ℤ mean n

-- a mean as whole units and a remainder
pub record Weighted : Type 0 where
  pub units : ℤ
  pub remainder : ℕ

-- the remainder of a signed number over a positive one that is rounded down: −(n + 1) over d leaves d − 1 − n mod d
unfoldable pub rest_of : ℤ → ℕ → ℕ
rest_of (pos n) d = n % d
rest_of (negsuc n) d = d - 1 - n % d

-- a weighted sum divided by a volume, rounded down
unfoldable pub divided_by : ℤ → ℕ → Weighted
divided_by sum volume = record { units = floor sum volume; remainder = rest_of sum volume }

-- the mean of the first n of some reaches, weighted by volume
abbrev pub weighted_mean : (volume : ℕ → ℕ) (mean : ℕ → ℤ) → ℕ → Weighted
weighted_mean volume mean n = divided_by (weighted_sum volume mean n) (volume_sum volume n)

-- the mean oxygen of a river
unfoldable pub river_mean : List Card → Weighted
river_mean cards = weighted_mean (λ i. counted_volume_at cards (suc i)) (λ i. mean_at cards (suc i)) (length cards)

-- the bytes of a mean: four, in two's complement
abbrev pub mean_bytes : ℕ
mean_bytes = 4

abbrev pub mean_row : List Card → ℕ → List ℕ
mean_row cards i = four_bytes (complement (mean_at cards (suc i)))

-- the means of a river, and how many bytes they have together
abbrev pub means_of : List Card → List ℕ
means_of cards = first_rows (mean_row cards) (length cards)

abbrev pub means_size : List Card → ℕ
means_size cards = mean_bytes * length cards

-- 12 with reach 0 for a buffer that is shorter than the means, then 16 with reach 0 where no volume has status 0 or 1
unfoldable pub mean_room_answer : (room : ℕ) → List Card → Answer (List Card)
mean_room_answer room cards = need (leb (means_size cards) room) BufferShort 0 (need (ltb 0 (counted_volume cards)) NoVolume 0 (accepted cards))

-- the call refuses as reading, then as the flow check, then for want of room, then for want of volume
unfoldable pub mean_answer : (file : List ℕ) (room : ℕ) → Answer (List Card)
mean_answer file room = then (accept_file file) (mean_room_answer room)

-- the buffer with the means: the means and then what stood there
abbrev pub buffer_averaged : List Card → (before : List ℕ) → List ℕ
buffer_averaged cards before = means_of cards ++ drop (means_size cards) before

-- the file's river is accepted and has volume of status 0 or 1, and a buffer of so many bytes can hold its means
pub record Averaged (file : List ℕ) (room : ℕ) : Type 0 where
  pub cards : List Card
  pub passes : accept_file file ≡ accepted cards
  pub holds : means_size cards ≤ room
  pub volume : 0 < counted_volume cards

-- the mean read back from the bytes of reach i + 1
unfoldable pub mean_read : (buffer : List ℕ) → ℕ → ℤ
mean_read buffer i = from_complement (four_at (drop (mean_bytes * i) buffer) 0)

-- what a call of the entry is lent: a buffer for the means of the reaches, and two numbers for the mean of the river
pub record MeansLent : Type 0 where
  pub buffer : List ℕ
  pub mean : Weighted

abbrev pub lent : (buffer : List ℕ) (units : ℤ) (remainder : ℕ) → MeansLent
lent buffer units remainder = record { buffer = buffer; mean = record { units = units; remainder = remainder } }

-- and what it writes there
abbrev pub means_written : List Card → MeansLent → MeansLent
means_written cards before = record { buffer = buffer_averaged cards before.buffer; mean = river_mean cards }

-- what the bytes of the means tell of reach i + 1
pub record TellsMean (cards : List Card) (buffer : List ℕ) (i : ℕ) : Type 0 where
  -- its mean, read back from its bytes
  pub mean : mean_read buffer i ≡ mean_at cards (suc i)
  -- at status 2 the mean is 0 and no volume counts, and at status 0 and 1 the whole volume does
  pub used_up_above :
      status_of (card_of cards (suc i)) (above cards (suc i)) ≡ 2 → (mean_read buffer i ≡ pos 0) × (counted_volume_at cards (suc i) ≡ 0)
  pub counted : status_of (card_of cards (suc i)) (above cards (suc i)) ≤ 1 → counted_volume_at cards (suc i) ≡ (card_of cards (suc i)).volume
  -- oxygen that does not change along a reach of status 0 or 1 has its head value for its mean, to the unit
  pub constant :
      status_of (card_of cards (suc i)) (above cards (suc i)) ≤ 1 →
      NoChange (card_of cards (suc i)) →
      mean_read buffer i ≡ oxygen_at_head (card_of cards (suc i)) (above cards (suc i))
  -- the promised distance: at status 0 and 1, and for every series length from 40 on, the mean is near the exact one
  pub within :
      status_of (card_of cards (suc i)) (above cards (suc i)) ≤ 1 →
      (N : ℕ) →
      40 ≤ N →
      distance (of_ℤ (mean_read buffer i)) (exact_mean_oxygen N (card_of cards (suc i)) (above cards (suc i))) ≼ allowance_at cards (suc i)
  -- which is the integral of the oxygen formula, divided by the travel time
  pub exact : (N : ℕ) → 40 ≤ N → IsMean N (card_of cards (suc i)) (above cards (suc i))

-- what the two numbers tell of a river whose means stand in these bytes
pub record TellsRiverMean (cards : List Card) (buffer : List ℕ) (units : ℤ) (remainder : ℕ) : Type 0 where
  -- they are the river's mean
  pub mean : record { units = units; remainder = remainder } ≡ river_mean cards
  -- of the means in the bytes: units × the volume that counts + remainder is the sum of volume × mean, also below zero
  pub weighted :
      units *ℤ pos (counted_volume cards) +ℤ pos remainder ≡ weighted_sum (λ i. counted_volume_at cards (suc i)) (mean_read buffer) (length cards)
  pub remains : remainder < counted_volume cards

-- a call of the entry on a file, with the buffer and the two numbers that it is lent, before and after, that returns the result
pub record Means (file before after : List ℕ) (units₀ units : ℤ) (remainder₀ remainder : ℕ) (result : ℕ) : Type 0 where
  -- the result, which is 0 exactly for an accepted river with volume of status 0 or 1 whose means the buffer can hold, and all that was lent: the
  -- whole buffer and both numbers
  pub call :
      Called (mean_answer file (length before)) means_written (Averaged file (length before)) (lent before units₀ remainder₀) (lent after units remainder)
      result
  pub lawful : AcceptedExactly file
  -- the bytes of each reach, and the two numbers
  pub each : (river : Averaged file (length before)) (i : ℕ) → i < length river.cards → TellsMean river.cards after i
  pub all : (river : Averaged file (length before)) → TellsRiverMean river.cards after units remainder
