-- "Reporting" of the river file paper: what a call of the entry returns and leaves in the report buffer, and the size of a file's records. The cards
-- of an accepted file are those with the rates in force.
use Rattle.std.specs.Prelude.{◌≡◌, ◌↔◌, List, [], ◌++◌, ℕ, zero, suc, ◌*◌, ◌≤◌, ◌<◌, leb, length, take, drop}
use Rattle.river.specs.declared.card.Card.{Card}
use Rattle.river.specs.Refusal.{Answer, accepted, refused, need, after}
use Rattle.river.specs.declared.refusal.Refusal.{Refusal}
use Rattle.river.specs.declared.refusal.Rule.TheVariants.{BufferShort}
use Rattle.river.specs.River.{River}
use Rattle.river.specs.Read.{read_file}
use Rattle.flows.specs.Flow.{card_of, above, depth_at, flow_at}
use Rattle.report.specs.Program.{oxygen_at, status_of, figures_at, reported_at}
use Rattle.report.specs.Distance.{allowance_at, WithinAllowance}
use Rattle.report.specs.Ties.{Tied}
use Rattle.report.specs.Locality.{LiesAbove}
use Rattle.report.specs.Record.{has_nitrification, Figures, encode_record, record_size, record_at, read_record}
use Rattle.flows.specs.Accept.{accept_file}
use Rattle.report.specs.Call.{Called, AcceptedExactly}

-- the first n of some rows of bytes, one behind the other
unfoldable pub first_rows : (ℕ → List ℕ) → ℕ → List ℕ
first_rows row zero = []
first_rows row (suc n) = first_rows row n ++ row n

-- the record of the reach at place i
abbrev pub record_of : List Card → ℕ → List ℕ
record_of cards i = encode_record (has_nitrification cards) (reported_at cards (suc i))

-- the report of a river: the records of its reaches, and how many bytes they have together
abbrev pub report_of : List Card → List ℕ
report_of cards = first_rows (record_of cards) (length cards)

abbrev pub report_size : List Card → ℕ
report_size cards = record_size cards * length cards

-- 12 with reach 0 for a buffer that is shorter than the report
unfoldable pub room_answer : (room : ℕ) → List Card → Answer (List Card)
room_answer room cards = need (leb (report_size cards) room) BufferShort 0 (accepted cards)

-- reporting refuses as reading, then as the flow check, then for want of room
unfoldable pub report_answer : (file : List ℕ) (room : ℕ) → Answer (List Card)
report_answer file room = after (accept_file file) (room_answer room)

-- the buffer with a report: the report and then what stood there
abbrev pub buffer_reported : List Card → (before : List ℕ) → List ℕ
buffer_reported cards before = report_of cards ++ drop (report_size cards) before

-- the file's river is accepted, and a buffer of so many bytes can hold its report
pub record Accepted (file : List ℕ) (room : ℕ) : Type 0 where
  pub cards : List Card
  pub passes : accept_file file ≡ accepted cards
  pub holds : report_size cards ≤ room

-- the figures read back from the bytes of reach i + 1
abbrev pub figures_read : List Card → (buffer : List ℕ) → ℕ → Figures
figures_read cards buffer i = read_record (has_nitrification cards) (record_at (record_size cards) buffer i)

-- the bytes of reach i + 1 themselves
abbrev pub bytes_read : List Card → (buffer : List ℕ) → ℕ → List ℕ
bytes_read cards buffer i = take (record_size cards) (record_at (record_size cards) buffer i)

-- the bytes say that a reach which lies above reach i + 1, through all above, has status 1 or 2
pub record UsedUpAbove (cards : List Card) (buffer : List ℕ) (i : ℕ) : Type 0 where
  pub place : ℕ
  pub within : place < length cards
  pub lies_above : LiesAbove cards place i
  pub used_up : 1 ≤ (figures_read cards buffer place).status

-- what the bytes of a report tell of reach i + 1
pub record TellsReach (cards : List Card) (buffer : List ℕ) (i : ℕ) : Type 0 where
  -- its record, read back from its bytes: what "Oxygen used up" reports of the program's own figures
  pub figures : figures_read cards buffer i ≡ reported_at cards (suc i)
  -- which at status 0 and 1 are these figures themselves: the head by "Head of a reach", foot and critical point by the program's own factors
  pub whole : (figures_read cards buffer i).status ≤ 1 → figures_read cards buffer i ≡ figures_at cards (suc i)
  -- the named counts: depth and flow are those of "Flows and depth"
  pub depth : (figures_read cards buffer i).depth ≡ depth_at cards (suc i)
  pub flow : (figures_read cards buffer i).flow ≡ flow_at cards (suc i)
  -- the status: that of the definition, and 2 exactly where a reach above has status 1 or 2 in the bytes
  pub status : (figures_read cards buffer i).status ≡ status_of (card_of cards (suc i)) (above cards (suc i))
  pub used_up_above : ((figures_read cards buffer i).status ≡ 2) ↔ UsedUpAbove cards buffer i
  -- the ties, the critical point and what the status says of them, on the program's oxygen at each instant
  pub tied : Tied (card_of cards (suc i)) (oxygen_at (card_of cards (suc i)) (above cards (suc i))) (figures_read cards buffer i)
  -- demand 3: for every series length from 40 on, the demands are near the exact ones, and oxygen at status 0 and 1
  pub within :
      (N : ℕ) → 40 ≤ N → WithinAllowance N (card_of cards (suc i)) (above cards (suc i)) (figures_read cards buffer i) (allowance_at cards (suc i))

-- a call on a file, with the report buffer before and after, that returns the result
pub record Reports (file before after : List ℕ) (result : ℕ) : Type 0 where
  -- the result, which is 0 exactly for an accepted river whose report the buffer can hold, and the whole buffer: untouched by a refusal, else
  -- each reach's record, and past the report what stood there
  pub call : Called (report_answer file (length before)) buffer_reported (Accepted file (length before)) before after result
  pub lawful : AcceptedExactly file
  -- the bytes of each reach
  pub each : (river : Accepted file (length before)) (i : ℕ) → i < length river.cards → TellsReach river.cards after i

-- the size of a file's records, by the answer of reading: 0 where it refuses
unfoldable pub size_answer : Answer River → ℕ
size_answer (accepted river) = record_size river.cards
size_answer (refused r) = 0

-- reading refuses a file
pub record ReadingRefuses (file : List ℕ) : Type 0 where
  pub refusal : Refusal
  pub is : read_file file ≡ refused refusal

-- a call on a file that returns the size of its records, with no flow check
pub record TellsSize (file : List ℕ) (result : ℕ) : Type 0 where
  -- the result, by the answer of reading
  pub answer : result ≡ size_answer (read_file file)
  -- in short: that of the river's records where the file is read, and 0 exactly where it is not
  pub size : (river : River) → read_file file ≡ accepted river → result ≡ record_size river.cards
  pub zero : (result ≡ 0) ↔ ReadingRefuses file
