-- A line of a river without nitrification has the first of the numbers of one with it. Assumes nothing.
use mathlib.Core.Path.{◌≡◌, refl, sym, ap₂, ◌∙◌}
use mathlib.Core.Bool.{Bool, true, false}
use mathlib.Core.List.{List, map}
use Prim.Native.Nat.{ℕ}
use lib.ListN.{take}
use Rattle.std.proofs.lemmas.List.{take-map}
use Rattle.flows.specs.held.Stored.{oxygen_of}
use Rattle.report.specs.Record.{Figures}
use Rattle.text.specs.Text.{numbers_of}
use Rattle.text.specs.held.Words.{number_count}

first_numbers : (nitrified : Bool) (reach : ℕ) (f : Figures) → take (number_count nitrified) (numbers_of true reach f) ≡ numbers_of nitrified reach f
unfolding numbers_of
first_numbers true reach f = refl
first_numbers false reach f = refl

-- the stored numbers of a line, all or the first of them
pub numbers_are : (nitrified : Bool) {count : ℕ} (numbers : List ℕ) (reach : ℕ) (f : Figures) → map oxygen_of numbers ≡ numbers_of true reach f → count ≡ number_count nitrified → map oxygen_of (take count numbers) ≡ numbers_of nitrified reach f
numbers_are nitrified {count} numbers reach f e n = sym (take-map oxygen_of count numbers) ∙ ap₂ take n e ∙ first_numbers nitrified reach f
