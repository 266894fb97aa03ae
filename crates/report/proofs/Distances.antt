-- Of distances that are together within a bound, those before the last are, and so is the last.
use mathlib.Core.List.{[], ◌∷◌}
use Rattle.decay.specs.Fraction.{Fraction, ◌≼◌, ◌+ᶠ◌, distance}
use Rattle.decay.proofs.Algebra.{Nonneg, quote, certify, slack, ◌⊞◌, Within, small, bound_nonneg, within_distance, distance→within}

distance_nonneg : (x y : Fraction) → Nonneg (distance x y)
distance_nonneg x y = bound_nonneg (small (within_distance x y))

pub without_last : {x e : Fraction} (c d : Fraction) → x +ᶠ distance c d ≼ e → x ≼ e
without_last {x} {e} c d h =
    certify (x ∷ distance c d ∷ e ∷ []) (slack h ⊞ distance_nonneg c d) (search quote depth 40 fits 9999) tt

pub first_of_two : {a b e : Fraction} (c d : Fraction) → distance a b +ᶠ distance c d ≼ e → Within a b e
first_of_two c d h = distance→within (without_last c d h)

pub last_of_three : (a b n m : Fraction) {c d e : Fraction} → distance a b +ᶠ distance n m +ᶠ distance c d ≼ e → Within c d e
last_of_three a b n m {c} {d} {e} h =
    distance→within
    (certify (distance a b ∷ distance n m ∷ distance c d ∷ e ∷ []) (slack h ⊞ distance_nonneg a b ⊞ distance_nonneg n m) (search quote depth 40 fits 9999) tt)
