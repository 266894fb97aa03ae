-- Stored oxygen as a signed number of four bytes.
use Prim.Native.Nat.{ℕ, ◌<◌, ◌≤◌}
use native.Mathlib.Decide.{dec_le}
use native.Mathlib.Omega.{arith}
use lib.IntN.{pos}
use lib.Signed.{mag}
use mir.Syntax.{w32, w64}
use mir.Val.{SFits}
use Rattle.flows.specs.held.Stored.{stored_zero, oxygen_of}
use Rattle.flows.proofs.head.Offset.{sub_pos, sub_neg}

module _ (n : ℕ) (h : n < 4_294_967_296) where
  -- stored oxygen is less than 2^31 from zero
  oxygen_small : mag (oxygen_of n) < 2_147_483_648
  unfolding oxygen_of
  oxygen_small = by_sign (dec_le stored_zero n)
    where
      by_sign : Dec (stored_zero ≤ n) → mag (oxygen_of n) < 2_147_483_648
      by_sign (yes k) = rw (sub_pos n stored_zero k) (omega arith)
      by_sign (no k) = rw (sub_neg n stored_zero (omega arith)) (omega arith)

  -- and fits four bytes, and eight
  pub oxygen_fits : SFits w32 (oxygen_of n)
  oxygen_fits = record { sfits = oxygen_small }

  pub fits_wide : SFits w64 (oxygen_of n)
  fits_wide = record { sfits = omega (arith, oxygen_small) }

  pub number_wide : SFits w64 (pos n)
  number_wide = record { sfits = omega arith }
