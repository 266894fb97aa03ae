-- A reach as the program reads it, and how far the reading of a file has come.
use Rattle.std.specs.Prelude.{◌≡◌, Result, Option, IfOk, List, ◌++◌, length, take, drop, ℕ, ◌+◌, ◌-◌, ◌≤◌}
use Rattle.river.specs.declared.card.Card.{Card}
use Rattle.river.specs.declared.card.RateFactors.{RateFactors}
use Rattle.river.specs.declared.refusal.Refusal.{Refusal}
use Rattle.river.specs.declared.read.Taken.{Taken}
use Rattle.river.specs.Card.{size_of, reach_bytes, optional, optionals_of}
use Rattle.river.specs.Optional.{Values, read_optionals}
use Rattle.river.specs.Read.{read_reaches, read_file}
use Rattle.river.specs.River.{River, river_of}
use Rattle.river.specs.Refusal.{Answer, accepted, after}
use Rattle.river.specs.held.Optionals.{value_of}

-- reading a reach at a position yields an answer: the card, with the position behind its records, or the refusal
pub record YieldsReach (at : ℕ) (a : Answer Card) (r : Result (Taken Card) Refusal) : Type 0 where
  pub answer : value_of r ≡ a
  pub place : IfOk r (λ taken. taken.next ≡ at + size_of taken.value)

-- a card with what is held of the records that follow its `RE` record
abbrev pub card_with : Card → Values optional → Card
card_with c vs = record c { dam = vs.0; optionals = optionals_of vs.1 }

-- what reading the records that follow an `RE` record makes of its card
abbrev pub records_read : ℕ → List ℕ → Card → Answer Card
records_read i s plain = after (read_optionals optional i (drop reach_bytes s)) (λ vs. accepted (card_with plain vs))

-- the river of rate factors, of cards, and of those that an answer has behind them
abbrev pub with_cards : Option RateFactors → List Card → Answer (List Card) → Answer River
with_cards f cs x = after x (λ ds. accepted (river_of f (cs ++ ds)))

-- the reading of a file goes on: of n cards i are read, the place is behind them, and what is still to be read decides the answer
pub record ReadingGoesOn (s : List ℕ) (n i : ℕ) (f : Option RateFactors) (at : List Card) (place : ℕ) : Type 0 where
  pub few : n ≤ 128
  pub room : length at ≡ 128
  pub rest : read_file s ≡ with_cards f (take i at) (read_reaches n (i + 1) (n - i) (drop place s))
