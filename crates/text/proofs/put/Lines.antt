-- The lines of the first reaches, put one behind the other at a cursor: what a loop over the reaches holds. Assumes nothing.
use mathlib.Core.Path.{◌≡◌, refl, ap₂}
use mathlib.Core.List.{List, ◌++◌}
use Prim.Native.Nat.{ℕ, zero, suc, ◌+◌, ◌*◌, ◌<◌}
use native.Mathlib.Nat.{mul-suc}
use native.Mathlib.Numerals.{add-one}
use native.Mathlib.Omega.{arith}
use Rattle.river.specs.declared.bytes.Cursor.{Cursor}
use Rattle.text.specs.Text.{first_lines}
use Rattle.river.specs.held.Cursors.{Room}
use Rattle.text.specs.held.Words.{PutsWithin}
use Rattle.text.proofs.put.Puts.{both, widened, nothing}

-- the lines of the first i of so many reaches are put, of at most so many bytes each
pub record LinesPut (line : ℕ → List ℕ) (most count : ℕ) (before now : Cursor) (i : ℕ) : Type 0 where
  pub fits : Room before (most * count)
  pub lines : PutsWithin (most * i) (first_lines line i) before now

pub none_put : (line : ℕ → List ℕ) (most count : ℕ) (c : Cursor) → Room c (most * count) → LinesPut line most count c c 0
unfolding first_lines
none_put line most count c h = record { fits = h; lines = widened (omega arith) (nothing c) }

module _ {line : ℕ → List ℕ} {most count : ℕ} {before now : Cursor} {i : ℕ} (h : LinesPut line most count before now i) where
  pub one_put : {after : Cursor} → PutsWithin most (line (suc i)) now after → LinesPut line most count before after (i + 1)
  unfolding first_lines
  one_put p = record { fits = h.fits; lines = rw add-one (widened (omega (arith, mul-suc most i)) (both h.lines p)) }

  -- all of them
  pub all_put : i ≡ count → PutsWithin (most * count) (first_lines line count) before now
  all_put all = rw all at h.lines

-- equal lines make the same text
pub same_lines : (line other : ℕ → List ℕ) (n : ℕ) → ((i : ℕ) → i < n → line (suc i) ≡ other (suc i)) → first_lines line n ≡ first_lines other n
unfolding first_lines
same_lines line other zero h = refl
same_lines line other (suc n) h = ap₂ ◌++◌ (same_lines line other n (λ i l. h i (omega arith))) (h n (omega arith))
