-- Refusals, and answers that are a value or a refusal.
use Rattle.std.specs.Prelude.{Result, Bool, true, false, ℕ, ◌+◌, ◌*◌, List, ◌++◌, codes, decimal}
pub use Rattle.std.specs.Prelude.{Ok as accepted, Err as refused}
use Rattle.river.specs.declared.refusal.Refusal.{Refusal}
use Rattle.river.specs.declared.refusal.Rule.{Rule}
use Rattle.river.specs.declared.refusal.Rule.TheVariants.{CutShort, WrongMark, ReachCount, FieldRange, WrongOutlet, BytesLeft, NoFlow, FlowLimit, DamFlow, BodLimit, RateLimit, BufferShort, TakeLimit, BedLimit, RateRange, NoVolume}

-- the number of a rule that is broken
abbrev pub number_of : Rule → ℕ
number_of CutShort = 1
number_of WrongMark = 2
number_of ReachCount = 3
number_of FieldRange = 4
number_of WrongOutlet = 5
number_of BytesLeft = 6
number_of NoFlow = 7
number_of FlowLimit = 8
number_of DamFlow = 9
number_of BodLimit = 10
number_of RateLimit = 11
number_of BufferShort = 12
number_of TakeLimit = 13
number_of BedLimit = 14
number_of RateRange = 15
number_of NoVolume = 16

-- an answer: what was asked for, or the refusal
abbrev pub Answer : Type 0 → Type 0
Answer A = Result A Refusal

-- the refusal of a rule at a reach
abbrev pub refuse : Rule → ℕ → Refusal
refuse rule i = record { rule = rule; reach = i }

-- number + 256 × reach
abbrev pub code_of : Refusal → ℕ
code_of r = number_of r.rule + 256 * r.reach

-- the text of a refusal
abbrev pub refusal_text : Refusal → List ℕ
refusal_text r = codes "refused " ++ decimal (number_of r.rule) ++ codes " reach " ++ decimal r.reach

module _ {A : Type 0} where
  -- goes on where the test holds, and is refused by the rule at the reach where it fails
  unfoldable pub need : Bool → Rule → ℕ → Answer A → Answer A
  need true rule i rest = rest
  need false rule i rest = refused (refuse rule i)

  -- the first answer where the test holds, else the second
  unfoldable pub choose : Bool → Answer A → Answer A → Answer A
  choose true a b = a
  choose false a b = b

  -- goes on with what was accepted
  unfoldable pub after : {B : Type 0} → Answer A → (A → Answer B) → Answer B
  after (accepted a) f = f a
  after (refused r) f = refused r
