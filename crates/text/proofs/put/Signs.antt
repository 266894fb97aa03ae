-- A stored number with its sign. Assumes nothing.
use mathlib.Core.Path.{◌≡◌, ap, ◌∙◌}
use mathlib.Core.List.{◌++◌}
use Prim.Native.Nat.{ℕ, ◌-◌, ◌≤◌, ◌<◌}
use native.Mathlib.Omega.{arith}
use Rattle.flows.specs.held.Stored.{stored_zero, oxygen_of}
use Rattle.flows.proofs.head.Offset.{sub_neg, sub_pos}
use Rattle.text.specs.Text.{ascii, number, signed}

pub below : (n : ℕ) → n < stored_zero → signed (oxygen_of n) ≡ ascii "-" ++ number (stored_zero - n)
unfolding signed oxygen_of
below n h = ap signed (sub_neg n stored_zero h) ∙ ap (λ (k : ℕ). ascii "-" ++ number k) (omega arith)

pub above : (n : ℕ) → stored_zero ≤ n → signed (oxygen_of n) ≡ number (n - stored_zero)
unfolding signed oxygen_of
above n h = ap signed (sub_pos n stored_zero h)
