-- "The printing program" of the river file paper: the text of a river's report, or of its refusal, as ASCII codes.
use Rattle.std.specs.Prelude.{Bool, true, false, cond, List, [], ◌∷◌, ◌++◌, map, ◌≡◌, ℕ, zero, suc, ◌+◌, ◌/◌, ◌%◌, ltb, ℤ, pos, negsuc, length, drop}
use Prim.Native.Char.{code}
use Prim.Native.String.{String, [] as none, ◌∷◌ as ◌then◌}
use Rattle.river.specs.declared.card.Card.{Card}
use Rattle.river.specs.Refusal.{Answer, accepted, refused, number_of}
use Rattle.flows.specs.Accept.{accept_file}
use Rattle.report.specs.Program.{reported_at}
use Rattle.report.specs.Record.{has_nitrification, Figures}

-- the characters of a text
abbrev pub ascii : String → List ℕ
ascii none = []
ascii (c then s) = code c ∷ ascii s

-- the digit of a number below ten
abbrev pub digit : ℕ → ℕ
digit d = code "0" + d

-- the digits of a number: below ten its own digit, else the digits of a tenth of it, and then its last
unfoldable pub digits_by : (below_ten : Bool) (shorter : ℕ → List ℕ) → ℕ → List ℕ
digits_by true shorter n = digit n ∷ []
digits_by false shorter n = shorter (n / 10) ++ (digit (n % 10) ∷ [])

-- a number in decimal, where so many digits are enough
unfoldable pub decimal : (most n : ℕ) → List ℕ
decimal zero n = []
decimal (suc most) n = digits_by (ltb n 10) (decimal most) n

-- a number in decimal: n + 1 digits are enough for n
unfoldable pub number : ℕ → List ℕ
number n = decimal (suc n) n

-- a number with a minus sign below zero
unfoldable pub signed : ℤ → List ℕ
signed (pos n) = number n
signed (negsuc n) = ascii "-" ++ number (suc n)

-- what stands after a word: one space, or the end of the line where no further word follows
unfoldable pub after_word : (further : List (List ℕ)) → List ℕ
after_word [] = ascii "\n"
after_word (w ∷ ws) = ascii " "

-- a line of words
unfoldable pub line : List (List ℕ) → List ℕ
line [] = []
line (w ∷ ws) = w ++ (after_word ws ++ line ws)

-- the numbers in the line of a reach: reach, depth, Q, head BOD, foot BOD, head oxygen, critical instant, critical oxygen, foot oxygen, status;
-- and in a river with nitrification head and foot nitrogenous BOD
unfoldable pub numbers_of : (nitrified : Bool) (reach : ℕ) → Figures → List ℤ
numbers_of nitrified reach f =
    pos reach ∷
    pos f.depth ∷
    pos f.flow ∷
    pos f.head_bod ∷
    pos f.foot_bod ∷
    f.head_oxygen ∷
    pos f.critical_instant ∷
    f.critical_oxygen ∷
    f.foot_oxygen ∷ pos f.status ∷ cond nitrified (pos f.head_nitrogenous ∷ pos f.foot_nitrogenous ∷ []) []

-- the line of a reach
abbrev pub reach_line : (nitrified : Bool) (reach : ℕ) → Figures → List ℕ
reach_line nitrified reach f = line (map signed (numbers_of nitrified reach f))

-- the lines of the first n reaches, which are given by reach number
unfoldable pub first_lines : (ℕ → List ℕ) → ℕ → List ℕ
first_lines line zero = []
first_lines line (suc n) = first_lines line n ++ line (suc n)

-- those of a report, whose figures are given by reach number
abbrev pub lines_of : (nitrified : Bool) → (ℕ → Figures) → ℕ → List ℕ
lines_of nitrified figures = first_lines (λ i. reach_line nitrified i (figures i))

-- the line of a refusal
unfoldable pub refusal_line : (number reach : ℕ) → List ℕ
refusal_line n reach = line (ascii "refused" ∷ number n ∷ ascii "reach" ∷ number reach ∷ [])

-- the text for a river file, by the answer of reading and flow check: one line a reach, or the refusal
unfoldable pub text_of : Answer (List Card) → List ℕ
text_of (accepted cards) = lines_of (has_nitrification cards) (reported_at cards) (length cards)
text_of (refused r) = refusal_line (number_of r.rule) r.reach

-- a call that puts a text, with the buffer before and after: it returns the length of the text, which stands at the buffer's start,
-- and the bytes past it keep their contents
pub record Rendered (text before after : List ℕ) (result : ℕ) : Type 0 where
  pub size : result ≡ length text
  pub buffer : after ≡ text ++ drop result before

-- a call on a river file
abbrev pub Renders : (file before after : List ℕ) (result : ℕ) → Type 0
Renders file before after result = Rendered (text_of (accept_file file)) before after result
