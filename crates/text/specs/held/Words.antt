-- How the program holds what it prints on the way to a text: numbers stored as oxygen is, the figures in the records of a report,
-- the means in their bytes, and words put into a buffer. `Renders` and `RendersMeans` name none of this.
use Rattle.std.specs.Prelude.{◌≡◌, Bool, cond, List, map, ℕ, pred, ◌+◌, ◌≤◌, ℤ, get_or, length}
use Rattle.river.specs.declared.bytes.Cursor.{Cursor}
use Rattle.river.specs.held.Cursors.{Puts}
use Rattle.flows.specs.held.Stored.{oxygen_of}
use Rattle.report.specs.Record.{Figures, record_bytes, record_at, read_record}
use Rattle.report.specs.Mean.{mean_read, Weighted}
use Rattle.report.specs.declared.mean.RiverMean.{RiverMean}
use Rattle.text.specs.Text.{signed}

-- the word of stored number i, and all words of some stored numbers
abbrev pub word_at : List ℕ → ℕ → List ℕ
word_at numbers i = signed (oxygen_of (get_or numbers i 0))

abbrev pub words_of : List ℕ → List (List ℕ)
words_of numbers = map signed (map oxygen_of numbers)

-- how many numbers the line of a reach has, by whether its river has nitrification
abbrev pub number_count : (nitrified : Bool) → ℕ
number_count nitrified = cond nitrified 12 10

-- the bytes of a reach's line at most: 22 for each of twelve numbers, which are 20 digits, a sign and what stands after the word
abbrev pub longest_line : ℕ
longest_line = 264

-- the figures of reach i in a report, by whether its river has nitrification
abbrev pub recorded : (nitrified : Bool) → List ℕ → ℕ → Figures
recorded nitrified report i = read_record nitrified (record_at (record_bytes nitrified) report (pred i))

-- the bytes of the line of a reach and its mean at most, and of the line of the river: `river`, a sign, 20 digits twice, and what stands
-- after each word
abbrev pub longest_mean_line : ℕ
longest_mean_line = 44

abbrev pub longest_river_line : ℕ
longest_river_line = 49

-- the mean of reach i among the bytes of means
abbrev pub mean_held : (means : List ℕ) → ℕ → ℤ
mean_held means i = mean_read means (pred i)

-- the mean of a river, from what the program tells
abbrev pub mean_told : RiverMean → Weighted
mean_told m = record { units = oxygen_of m.units; remainder = m.remainder }

-- a word of at most so many bytes is put at a cursor, whose buffer keeps its length
pub record PutsWithin (most : ℕ) (word : List ℕ) (before after : Cursor) : Type 0 where
  pub put : Puts before word after
  pub within : after.at ≤ before.at + most
  pub long : length after.out.now ≡ length before.out.now
