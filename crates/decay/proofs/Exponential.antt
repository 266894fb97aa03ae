-- The exponential series S and the share F: sanity rows, terms, tails, the addition law, and the composition of F.
-- Provers import this module alone.
pub mod Sanity
pub mod Division
pub mod Sequence
pub mod Terms
pub mod Tail
pub mod Addition
pub mod Exponent
pub mod Compose
pub mod Used
pub mod Short
pub mod MeanSanity
pub mod Powers
pub mod Instants
pub mod Integrals
pub mod Mean
pub mod First
pub mod Laws
unfoldable pub use Terms.{e}
pub use Terms.{e_zero, e_suc, e_nonneg, e_mono, S-six}
pub use Tail.{UpTo, here, further, up_to}
pub use Exponent.{exponent_nonneg, exponent_step, exponent_scaled}
pub use Compose.{S-compose, F-compose, S-start, F-start}
unfoldable pub use Used.{d}
pub use Used.{d_zero, d_suc, d_nonneg}
pub use Short.{S-short, F-short, d_small}
unfoldable pub use Mean.{first_s, first_f}
pub use Mean.{average_of, integral_of, S-value, F-value, S-mean, F-mean}
pub use First.{first_s_short, first_f_short}
