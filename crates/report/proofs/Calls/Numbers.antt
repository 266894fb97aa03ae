-- Every rule has a number from 1 to 255, so that 0 is no refusal's result, and the rule's number and the reach are read back from the result.
-- Assumes nothing.
use mathlib.Core.Path.{◌≡◌, ap}
use Prim.Native.Nat.{ℕ, ◌/◌, ◌%◌, ◌<◌}
use native.Mathlib.Omega.{arith}
use lib.Dec.{lit<}
use Rattle.river.specs.declared.refusal.Refusal.{Refusal}
use Rattle.river.specs.declared.refusal.Rule.{Rule}
use Rattle.river.specs.declared.refusal.Rule.TheVariants.{CutShort, WrongMark, ReachCount, FieldRange, WrongOutlet, BytesLeft, NoFlow, FlowLimit, DamFlow, BodLimit, RateLimit, BufferShort, TakeLimit, BedLimit, RateRange, NoVolume}
use Rattle.river.specs.Refusal.{refused, refuse, number_of, code_of}
use Rattle.report.specs.Call.{IsRefused}

-- a rule's number is from 1 to 255
pub record Numbered (rule : Rule) : Type 0 where
  pub some : 0 < number_of rule
  pub fits : number_of rule < 256

pub numbered : (rule : Rule) → Numbered rule
numbered CutShort = record { some = lit< tt; fits = lit< tt }
numbered WrongMark = record { some = lit< tt; fits = lit< tt }
numbered ReachCount = record { some = lit< tt; fits = lit< tt }
numbered FieldRange = record { some = lit< tt; fits = lit< tt }
numbered WrongOutlet = record { some = lit< tt; fits = lit< tt }
numbered BytesLeft = record { some = lit< tt; fits = lit< tt }
numbered NoFlow = record { some = lit< tt; fits = lit< tt }
numbered FlowLimit = record { some = lit< tt; fits = lit< tt }
numbered DamFlow = record { some = lit< tt; fits = lit< tt }
numbered BodLimit = record { some = lit< tt; fits = lit< tt }
numbered RateLimit = record { some = lit< tt; fits = lit< tt }
numbered BufferShort = record { some = lit< tt; fits = lit< tt }
numbered TakeLimit = record { some = lit< tt; fits = lit< tt }
numbered BedLimit = record { some = lit< tt; fits = lit< tt }
numbered RateRange = record { some = lit< tt; fits = lit< tt }
numbered NoVolume = record { some = lit< tt; fits = lit< tt }

-- the rule and the reach of a refusal are read back from its result
pub read_refusal : {A : Type 0} (r : Refusal) {result : ℕ} → result ≡ code_of r → IsRefused {A = A} (refused r) (result % 256) (result / 256)
read_refusal r {result} e =
    let n = numbered r.rule in
    record { rule = r.rule; numbered = omega (arith, n.fits, e); is = ap (λ (i : ℕ). refused (refuse r.rule i)) (omega (arith, n.fits, e)) }
