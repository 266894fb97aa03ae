-- The comparisons of a function's branches as tests of a definition.
-- Assumes nothing.
use Prim.Native.Nat.{ℕ, zero-le}
use mathlib.Core.Bool.{and-true}
use mathlib.Core.List.{List, map}
use mathlib.Core.Path.{◌≡◌, sym, ◌∙◌}
use native.Mathlib.Nat.{le_of_suc-le-suc}
use lib.ListN.{length, length-map}
use borrow.Author.Tests.{le-leb, lt-leb, lt-ltb, le-ltb, eq-eqb, ne_eqb}

pub ruleset tests = (le-leb, lt-leb, lt-ltb, le-ltb, eq-eqb, ne_eqb)

-- and as tests of the ranges of fields
pub ruleset ranges = (le-leb, lt-leb, zero-le, le_of_suc-le-suc, and-true)

-- an array has as many elements as the list of its elements' values
pub mapped_length : {X Y : Type 0} (f : X → Y) (l : List X) (n : ℕ) → length (map f l) ≡ n → length l ≡ n
mapped_length f l n e = sym (length-map l f) ∙ e
