-- "The printing program" of the river file paper, asked for means: the text of a river's mean oxygen, or of its refusal, as ASCII codes.
use Rattle.std.specs.Prelude.{List, [], ◌∷◌, ◌++◌, map, ℕ, ◌*◌, ℤ, pos, length}
use Rattle.river.specs.declared.card.Card.{Card}
use Rattle.river.specs.Refusal.{Answer, accepted, refused, number_of}
use Rattle.report.specs.Mean.{Weighted, mean_bytes, mean_at, river_mean, mean_answer}
use Rattle.text.specs.Text.{ascii, number, signed, line, first_lines, refusal_line, Rendered}

-- the line of a reach: its number and its mean
unfoldable pub mean_line : (reach : ℕ) (mean : ℤ) → List ℕ
mean_line reach mean = line (map signed (pos reach ∷ mean ∷ []))

-- the lines of the first n reaches, whose means are given by reach number
abbrev pub mean_lines : (ℕ → ℤ) → ℕ → List ℕ
mean_lines mean = first_lines (λ i. mean_line i (mean i))

-- the line of the river: its mean, as whole units and a remainder
unfoldable pub river_line : Weighted → List ℕ
river_line w = line (ascii "river" ∷ signed w.units ∷ number w.remainder ∷ [])

-- the bytes that the means of an accepted river have at most, for it has at most 128 reaches
abbrev pub means_room : ℕ
means_room = mean_bytes * 128

-- the text by the answer of a call: one line a reach and that of the river, or the refusal
unfoldable pub mean_text_of : Answer (List Card) → List ℕ
mean_text_of (accepted cards) = mean_lines (mean_at cards) (length cards) ++ river_line (river_mean cards)
mean_text_of (refused r) = refusal_line (number_of r.rule) r.reach

-- the text for a river file, by a call with so much room
abbrev pub mean_text : (file : List ℕ) → List ℕ
mean_text file = mean_text_of (mean_answer file means_room)

-- a call on a river file
abbrev pub RendersMeans : (file before after : List ℕ) (result : ℕ) → Type 0
RendersMeans file before after result = Rendered (mean_text file) before after result
