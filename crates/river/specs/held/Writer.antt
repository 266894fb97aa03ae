-- What the writer's two passes over the cards that it is lent come to.
use Rattle.std.specs.Prelude.{List, ◌++◌, ℕ, length, drop}
use Rattle.river.specs.Refusal.{Answer, accepted, after}
use Rattle.river.specs.River.{River}
use Rattle.river.specs.Write.{encode, check_river}

-- a river is checked: its first refusal, or the length of its file
abbrev pub checked_length : River → Answer ℕ
checked_length r = after (check_river (length r.cards) r) (λ _. accepted (length (encode r)))

-- a river's file at the start of a buffer
abbrev pub file_over : River → List ℕ → List ℕ
file_over r before = encode r ++ drop (length (encode r)) before
