-- What every call on a river file promises, said once: its result, by the order of refusals, and all that it was lent, a buffer or numbers, before and after it.
use Rattle.std.specs.Prelude.{◌≡◌, ◌↔◌, List, ℕ, ◌/◌, ◌%◌}
use Rattle.river.specs.declared.card.Card.{Card}
use Rattle.river.specs.declared.refusal.Rule.{Rule}
use Rattle.river.specs.Refusal.{Answer, accepted, refused, refuse, number_of, code_of}
use Rattle.flows.specs.Accept.{accept_file, AcceptedFile}

-- the result: 0 where an answer is accepted, and number + 256 × reach for a refusal
unfoldable pub result_of : {A : Type 0} → Answer A → ℕ
result_of (accepted a) = 0
result_of (refused r) = code_of r

-- what was lent, afterwards: written where the answer is accepted, and as it was after a refusal
unfoldable pub lent_after : {A Lent : Type 0} → (write : A → Lent → Lent) → Answer A → (before : Lent) → Lent
lent_after write (accepted a) before = write a before
lent_after write (refused r) before = before

-- the answer is accepted, and what was lent is written
pub record IsWritten {A Lent : Type 0} (answer : Answer A) (write : A → Lent → Lent) (before after : Lent) : Type 0 where
  pub value : A
  pub is : answer ≡ accepted value
  pub written : after ≡ write value before

-- the answer is the refusal of the rule that has this number, at a reach
pub record IsRefused {A : Type 0} (answer : Answer A) (number reach : ℕ) : Type 0 where
  pub rule : Rule
  pub numbered : number_of rule ≡ number
  pub is : answer ≡ refused (refuse rule reach)

-- a call with this answer that returns the result and leaves what it was lent so, where `Exactly` says when the result is 0
pub record Called {A Lent : Type 0} (answer : Answer A) (write : A → Lent → Lent) (Exactly : Type 0) (before after : Lent) (result : ℕ) : Type 0 where
  -- the result, by the order of refusals
  pub returns : result ≡ result_of answer
  -- any other than 0 has the number and the reach of the refusal
  pub refuses : (result ≡ 0 → ⊥) → IsRefused answer (result % 256) (result / 256)
  -- it is 0 exactly where this holds
  pub exactly : (result ≡ 0) ↔ Exactly
  -- all that was lent, by the answer
  pub leaves : after ≡ lent_after write answer before
  -- in short: a call that returns 0 writes it, and a refused call writes nothing
  pub writes : result ≡ 0 → IsWritten answer write before after
  pub untouched : (result ≡ 0 → ⊥) → after ≡ before

-- a file is accepted exactly if it is the file of a lawful river whose cards, with the rates in force, pass the flow rules
abbrev pub AcceptedExactly : (file : List ℕ) → Type 0
AcceptedExactly file = (cards : List Card) → (accept_file file ≡ accepted cards) ↔ AcceptedFile file cards
