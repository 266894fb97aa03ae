-- Exact arithmetic to reason with: signed numbers, fractions, identities by normal form, inequalities by certificate, distances, and the way from whole numbers to fractions and back.
-- Provers import this module alone. `Uses.antt` has a checked example of each way to use it.
pub mod Signed
pub mod Ring
pub mod Normal
pub mod Whole
pub mod Rational
pub mod Identity
pub mod Order
pub mod Division
pub mod Distance
pub mod Embedding
pub use Signed.{nonneg_pos, pos_mono, ≤ℤ_neg, neg-*ℤ}
pub use Whole.{solve_ℤ}
pub use Normal.{var, con, ◌:+◌, ◌:*◌, :-◌, LeftOver, nil, term, factor, unit, Quoted, QuotedAll, Sides, gap, Given, rest, Vanishes}
pub use Rational.{Fraction-ring, ≈_refl, ≈_sym, ≈_trans, +ᶠ_cong, *ᶠ_cong, -ᶠ_cong, *ᶠ_comm, of_ℤ-+, of_ℤ-*, of_ℤ_neg}
pub use Identity.{quote, replaced, Read, ring, ring_by, Zeros, none, ◌&◌, ◌⋅◌}
pub use Order.{≼_refl, ≼_of-≈, ≼_trans, ≼_antisym, ≼_total, ≼_by, ≼_computed, Nonneg, nonneg_num, num_nonneg, nonneg_by, slack, from_slack, number, ◌⊞◌, ◌⊠◌, square, difference_zero, multiple, certify, certify_by, certify_times}
pub use Division.{◌≺◌, ≺→≼, Positive, positive_nonneg, positive_nonzero, positive_whole, positive_sum, positive_product, nonneg-÷, certify_over, ÷_cancel, ÷_cancel_pos, ÷_zero, ÷_unique, ÷_cong, ÷_reciprocal, ÷_le, le-÷, ÷_nonneg, ÷_mono, ÷_positive, not_negative}
pub use Distance.{Small, Within, small, within, sized, small_zero, small_minus, small_weaken, small_by, bound_nonneg, ◌⊞ˢ◌, ◌⊠ˢ◌, near, within_of-≈, within_sym, within_weaken, within_trans, within_sum, within_scale, within_by, small_abs, abs_le, within_distance, distance→within, within→distance}
pub use Embedding.{of_ℤ_mono, of_ℤ_reflect, of_ℕ_mono, of_ℕ_reflect, of_ℤ-≈, of_ℕ-≈, of_ℤ_injective, ring_ℤ, of_ℕ-+, of_ℕ-*, of_ℕ_suc, of_ℕ_sub, of_ℤ_negsuc, floor_times, floor_next, floor_ℤ_low, floor_ℤ_high, floor_low, floor_high}
