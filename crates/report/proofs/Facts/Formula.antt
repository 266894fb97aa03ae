-- The oxygen formula as a sum of powers of the time. Its value at an instant and its mean over a reach are linear in the coefficients, so that
-- both are made alike of those of S and F: a constant is itself, and a line has the value that it takes at one instant, on average the middle.
use mathlib.Core.Bool.{Bool, true, false, cond}
use mathlib.Core.List.{[], ◌∷◌}
use Prim.Native.Nat.{ℕ, zero, suc, ◌*◌, ◌≤◌}
use native.Mathlib.Omega.{arith}
use lib.Dec.{eqb, lit<}
use Rattle.decay.specs.Fraction.{Fraction, ◌≈◌, of_ℕ, ◌+ᶠ◌, -ᶠ◌, ◌-ᶠ◌, ◌*ᶠ◌, ◌÷◌}
use Rattle.decay.specs.Exact.{steps, foot, exponent, power, sum}
use Rattle.decay.specs.Integral.{value_at, integral, mean_of, constant, times_time, series_terms, share_terms, all_terms}
use Rattle.decay.proofs.Algebra.{quote, ring, ring_by, ◌⋅◌, ◌&◌, none as no_equations, ≈_refl, ≈_trans, *ᶠ_cong, positive_whole, ÷_cancel_pos, ÷_reciprocal}
use Rattle.decay.proofs.Exponential.Sequence.{Same}
use Rattle.decay.proofs.Exponential.Powers.{times_time_value}
use Rattle.river.specs.declared.card.Card.{Card}
use Rattle.river.specs.declared.source.Demand.TheVariants.{Bod, Nitrogenous}
use Rattle.river.specs.Source.{rate_of}
use Rattle.flows.specs.Flow.{sludge_of}
use Rattle.report.specs.held.MeanAlong.{middle}
use Rattle.report.specs.Recurrence.{exact_saturation}
use Rattle.report.specs.ExactMean.{loss_terms, oxygen_terms}

-- the exact loss to a bed at instant m, where S₂ of the head's deficit is left
unfoldable pub loss_by : Card → (Q m : ℕ) (S₂ : Fraction) → Fraction
loss_by card Q m S₂ =
    of_ℕ 1_000_000 *ᶠ cond (eqb card.k2 0) (of_ℕ (sludge_of card * card.volume * m) ÷ of_ℕ (86_400 * 1_024 * Q)) (of_ℕ (sludge_of card) *ᶠ (of_ℕ 1 -ᶠ S₂) ÷ of_ℕ card.k2)

-- what is linear in coefficients, is a for a constant a, and has for a line the value at instant m
pub record Linear (φ : (ℕ → Fraction) → Fraction) (m : ℕ) : Type 0 where
  pub combined : (a b : Fraction) (c f g : ℕ → Fraction) → Same c (λ j. a *ᶠ f j +ᶠ b *ᶠ g j) → φ c ≈ a *ᶠ φ f +ᶠ b *ᶠ φ g
  pub still : (a : Fraction) → φ (constant a) ≈ a
  pub line : (a : Fraction) → φ (times_time (constant a)) ≈ of_ℕ m *ᶠ a

-- ---- the formula

module _ {φ : (ℕ → Fraction) → Fraction} {m : ℕ} (linear : Linear φ m) where
  -- less a multiple
  less : (c f : ℕ → Fraction) (b : Fraction) → φ (λ j. c j -ᶠ f j *ᶠ b) ≈ φ c -ᶠ φ f *ᶠ b
  less c f b =
      ≈_trans (linear.combined (of_ℕ 1) (-ᶠ b) _ c f (λ j. ring (c j ∷ f j ∷ b ∷ []) (search quote depth 40 fits 9999) tt))
      (ring (φ c ∷ φ f ∷ b ∷ []) (search quote depth 40 fits 9999) tt)

  module _ (N : ℕ) (card : Card) (Q : ℕ) where
    abbrev y2 : Fraction
    y2 = exponent card.k2 card.volume Q 1

    abbrev series : ℕ → Fraction
    series = series_terms N y2

    -- the loss, where the series comes to S₂
    loss_is : (S₂ : Fraction) → φ series ≈ S₂ → φ (loss_terms N card Q) ≈ loss_by card Q m S₂
    unfolding loss_terms loss_by
    loss_is S₂ e = by_case (eqb card.k2 0)
      where
        s : ℕ
        s = sludge_of card

        d : Fraction
        d = of_ℕ (86_400 * 1_024 * Q)

        whole : Fraction
        whole = of_ℕ (s * card.volume) ÷ d

        k : Fraction
        k = of_ℕ 1 ÷ of_ℕ card.k2

        by_case : (t : Bool) → φ (λ j. of_ℕ 1_000_000 *ᶠ cond t (times_time (constant whole) j) (of_ℕ s *ᶠ (constant (of_ℕ 1) j -ᶠ series j) ÷ of_ℕ card.k2)) ≈ of_ℕ 1_000_000 *ᶠ cond t (of_ℕ (s * card.volume * m) ÷ d) (of_ℕ s *ᶠ (of_ℕ 1 -ᶠ S₂) ÷ of_ℕ card.k2)
        by_case true =
            ≈_trans (linear.combined (of_ℕ 1_000_000) (of_ℕ 0) _ (times_time (constant whole)) series (λ j. ring (times_time (constant whole) j ∷ series j ∷ []) (search quote depth 40 fits 9999) tt))
            (ring_by (φ (times_time (constant whole)) ∷ φ series ∷ whole ∷ (of_ℕ (s * card.volume * m) ÷ d) ∷ (of_ℕ 1 ÷ d) ∷ of_ℕ s ∷ of_ℕ card.volume ∷ of_ℕ m ∷ []) (of_ℕ 1_000_000 ⋅ linear.line whole & (of_ℕ 1_000_000 *ᶠ of_ℕ m) ⋅ ÷_reciprocal (of_ℕ (s * card.volume)) d & of_ℕ 1_000_000 ⋅ ÷_reciprocal (of_ℕ (s * card.volume * m)) d & no_equations) (search quote depth 40 fits 9999) tt)
        by_case false =
            ≈_trans (linear.combined (of_ℕ 1_000_000 *ᶠ of_ℕ s *ᶠ k) (-ᶠ (of_ℕ 1_000_000 *ᶠ of_ℕ s *ᶠ k)) _ (constant (of_ℕ 1)) series (λ j. ring_by (constant (of_ℕ 1) j ∷ series j ∷ of_ℕ s ∷ k ∷ (of_ℕ s *ᶠ (constant (of_ℕ 1) j -ᶠ series j) ÷ of_ℕ card.k2) ∷ []) (of_ℕ 1_000_000 ⋅ ÷_reciprocal (of_ℕ s *ᶠ (constant (of_ℕ 1) j -ᶠ series j)) (of_ℕ card.k2) & no_equations) (search quote depth 40 fits 9999) tt))
            (ring_by (φ (constant (of_ℕ 1)) ∷ φ series ∷ S₂ ∷ of_ℕ s ∷ k ∷ (of_ℕ s *ᶠ (of_ℕ 1 -ᶠ S₂) ÷ of_ℕ card.k2) ∷ []) ((of_ℕ 1_000_000 *ᶠ of_ℕ s *ᶠ k) ⋅ linear.still (of_ℕ 1) & (of_ℕ 1_000_000 *ᶠ of_ℕ s *ᶠ k) ⋅ e & of_ℕ 1_000_000 ⋅ ÷_reciprocal (of_ℕ s *ᶠ (of_ℕ 1 -ᶠ S₂)) (of_ℕ card.k2) & no_equations) (search quote depth 40 fits 9999) tt)

    abbrev turned : ℕ → ℕ → Fraction
    turned k = share_terms N k card.k2 card.volume Q

    -- THEOREM: oxygen is saturation less what has turned of each demand, what is left of the deficit, and the loss to a bed
    pub oxygen_is : (L Ln C F F' S₂ : Fraction) → φ (turned (rate_of Bod card)) ≈ F → φ (turned (rate_of Nitrogenous card)) ≈ F' → φ series ≈ S₂ → let Cs = exact_saturation card in
        φ (oxygen_terms N card Q L Ln C) ≈ Cs -ᶠ F *ᶠ L -ᶠ F' *ᶠ Ln -ᶠ S₂ *ᶠ (Cs -ᶠ C) -ᶠ loss_by card Q m S₂
    unfolding oxygen_terms
    oxygen_is L Ln C F F' S₂ eF eF' eS =
        let Cs = exact_saturation card in
        let f = turned (rate_of Bod card) in
        let g = turned (rate_of Nitrogenous card) in
        let a₁ : ℕ → Fraction = λ j. constant Cs j -ᶠ f j *ᶠ L in
        let a₂ : ℕ → Fraction = λ j. a₁ j -ᶠ g j *ᶠ Ln in
        let a₃ : ℕ → Fraction = λ j. a₂ j -ᶠ series j *ᶠ (Cs -ᶠ C) in
        ≈_trans (linear.combined (of_ℕ 1) (-ᶠ (of_ℕ 1)) _ a₃ (loss_terms N card Q) (λ j. ring (a₃ j ∷ loss_terms N card Q j ∷ []) (search quote depth 40 fits 9999) tt))
        (ring_by (Cs ∷ L ∷ Ln ∷ C ∷ F ∷ F' ∷ S₂ ∷ φ (constant Cs) ∷ φ f ∷ φ g ∷ φ series ∷ φ a₁ ∷ φ a₂ ∷ φ a₃ ∷ φ (loss_terms N card Q) ∷ loss_by card Q m S₂ ∷ [])
        (of_ℕ 1 ⋅ linear.still Cs & of_ℕ 1 ⋅ less (constant Cs) f L & of_ℕ 1 ⋅ less a₁ g Ln & of_ℕ 1 ⋅ less a₂ series (Cs -ᶠ C) & of_ℕ 1 ⋅ loss_is S₂ eS & L ⋅ eF & Ln ⋅ eF' & (Cs -ᶠ C) ⋅ eS & no_equations) (search quote depth 40 fits 9999) tt)

-- ---- the value at an instant

value_combined : (a b : Fraction) (c f g : ℕ → Fraction) → Same c (λ j. a *ᶠ f j +ᶠ b *ᶠ g j) → (n : ℕ) (t : Fraction) → value_at n c t ≈ a *ᶠ value_at n f t +ᶠ b *ᶠ value_at n g t
unfolding value_at sum
value_combined a b c f g h zero t = ring (a ∷ b ∷ []) (search quote depth 40 fits 9999) tt
value_combined a b c f g h (suc n) t =
    ring_by (a ∷ b ∷ c n ∷ f n ∷ g n ∷ power t n ∷ value_at n c t ∷ value_at n f t ∷ value_at n g t ∷ []) (of_ℕ 1 ⋅ value_combined a b c f g h n t & power t n ⋅ h n & no_equations) (search quote depth 40 fits 9999) tt

value_still : (a : Fraction) (n : ℕ) (t : Fraction) → value_at (suc n) (constant a) t ≈ a
unfolding value_at sum power constant
value_still a zero t = ring (a ∷ []) (search quote depth 40 fits 9999) tt
value_still a (suc n) t =
    ring_by (a ∷ power t n ∷ t ∷ value_at (suc n) (constant a) t ∷ []) (of_ℕ 1 ⋅ value_still a n t & no_equations) (search quote depth 40 fits 9999) tt

-- t times a sum of powers
value_times : (c d : ℕ → Fraction) → Same c (times_time d) → (n : ℕ) (t : Fraction) → value_at (suc n) c t ≈ t *ᶠ value_at n d t
value_times c d h n t =
    ≈_trans (times_time_value (of_ℕ 1) c d (λ j. ring_by (c j ∷ times_time d j ∷ []) (of_ℕ 1 ⋅ h j & no_equations) (search quote depth 40 fits 9999) tt) n t)
    (ring (t ∷ value_at n d t ∷ []) (search quote depth 40 fits 9999) tt)

-- a line, which has two terms
value_line : (a : Fraction) (c : ℕ → Fraction) → Same c (times_time (constant a)) → (n : ℕ) (t : Fraction) → value_at (suc (suc n)) c t ≈ t *ᶠ a
value_line a c h n t = ≈_trans (value_times c (constant a) h (suc n) t) (*ᶠ_cong (≈_refl t) (value_still a n t))

-- ---- the mean

integral_combined : (a b : Fraction) (c f g : ℕ → Fraction) → Same c (λ j. a *ᶠ f j +ᶠ b *ᶠ g j) → Same (integral c) (λ j. a *ᶠ integral f j +ᶠ b *ᶠ integral g j)
unfolding integral
integral_combined a b c f g h zero = ring (a ∷ b ∷ []) (search quote depth 40 fits 9999) tt
integral_combined a b c f g h (suc j) =
    let d = of_ℕ (suc j) in
    let r = of_ℕ 1 ÷ d in
    ring_by (a ∷ b ∷ c j ∷ f j ∷ g j ∷ (c j ÷ d) ∷ (f j ÷ d) ∷ (g j ÷ d) ∷ r ∷ []) (of_ℕ 1 ⋅ ÷_reciprocal (c j) d & a ⋅ ÷_reciprocal (f j) d & b ⋅ ÷_reciprocal (g j) d & r ⋅ h j & no_equations) (search quote depth 40 fits 9999) tt

nothing_over : (d : Fraction) → of_ℕ 0 ÷ d ≈ of_ℕ 0
nothing_over d = ring_by ((of_ℕ 0 ÷ d) ∷ (of_ℕ 1 ÷ d) ∷ []) (of_ℕ 1 ⋅ ÷_reciprocal (of_ℕ 0) d & no_equations) (search quote depth 40 fits 9999) tt

-- the integral of a constant is a line, and that of a line is t times one of half the slope
integral_still : (a : Fraction) → Same (integral (constant a)) (times_time (constant a))
unfolding integral constant times_time
integral_still a zero = ≈_refl (of_ℕ 0)
integral_still a (suc zero) = ring_by (a ∷ (a ÷ of_ℕ 1) ∷ []) (of_ℕ 1 ⋅ ÷_cancel_pos a (positive_whole {n = 1} (lit< tt)) & no_equations) (search quote depth 40 fits 9999) tt
integral_still a (suc (suc j)) = nothing_over (of_ℕ (suc (suc j)))

integral_line : (a : Fraction) → Same (integral (times_time (constant a))) (times_time (times_time (constant (a ÷ of_ℕ 2))))
unfolding integral constant times_time
integral_line a zero = ≈_refl (of_ℕ 0)
integral_line a (suc zero) = nothing_over (of_ℕ 1)
integral_line a (suc (suc zero)) = ≈_refl (a ÷ of_ℕ 2)
integral_line a (suc (suc (suc j))) = nothing_over (of_ℕ (suc (suc (suc j))))

over_steps : (a b : Fraction) → b ≈ of_ℕ steps *ᶠ a → b ÷ of_ℕ steps ≈ a
over_steps a b e =
    ≈_trans (÷_reciprocal b (of_ℕ steps))
    (ring_by (a ∷ b ∷ (of_ℕ 1 ÷ of_ℕ steps) ∷ []) ((of_ℕ 1 ÷ of_ℕ steps) ⋅ e & a ⋅ ÷_cancel_pos (of_ℕ 1) (positive_whole {n = steps} (lit< tt)) & no_equations) (search quote depth 40 fits 9999) tt)

module _ (N : ℕ) (some : 1 ≤ N) where
  -- THEOREM: the value at instant m is linear
  pub value_linear : (m : ℕ) → Linear (λ c. value_at (all_terms N) c (of_ℕ m)) m
  value_linear m =
      record {
        combined = λ a b c f g h. value_combined a b c f g h (all_terms N) (of_ℕ m);
        still = λ a. value_still a N (of_ℕ m);
        line = λ a. line_at a (of_ℕ m) N some;
      }
    where
      line_at : (a t : Fraction) (n : ℕ) → 1 ≤ n → value_at (suc n) (times_time (constant a)) t ≈ t *ᶠ a
      line_at a t zero h = absurd (omega arith)
      line_at a t (suc n) h = value_line a (times_time (constant a)) (λ j. ≈_refl (times_time (constant a) j)) n t

  -- THEOREM: the mean over a reach is linear, and that of a line is half way down
  pub mean_linear : Linear (mean_of (all_terms N)) middle
  unfolding mean_of
  mean_linear =
      record {
        combined = λ a b c f g h. over_combined a b _ _ _ (value_combined a b (integral c) (integral f) (integral g) (integral_combined a b c f g h) (suc (all_terms N)) (of_ℕ foot));
        still = λ a. over_steps a _ (value_line a (integral (constant a)) (integral_still a) N (of_ℕ foot));
        line = λ a. over_steps (of_ℕ middle *ᶠ a) _ (line_up_to a N some);
      }
    where
      over_combined : (a b x y z : Fraction) → x ≈ a *ᶠ y +ᶠ b *ᶠ z → x ÷ of_ℕ steps ≈ a *ᶠ (y ÷ of_ℕ steps) +ᶠ b *ᶠ (z ÷ of_ℕ steps)
      over_combined a b x y z e =
          let r = of_ℕ 1 ÷ of_ℕ steps in
          ring_by (a ∷ b ∷ x ∷ y ∷ z ∷ (x ÷ of_ℕ steps) ∷ (y ÷ of_ℕ steps) ∷ (z ÷ of_ℕ steps) ∷ r ∷ []) (of_ℕ 1 ⋅ ÷_reciprocal x (of_ℕ steps) & a ⋅ ÷_reciprocal y (of_ℕ steps) & b ⋅ ÷_reciprocal z (of_ℕ steps) & r ⋅ e & no_equations) (search quote depth 40 fits 9999) tt

      line_up_to : (a : Fraction) (n : ℕ) → 1 ≤ n → value_at (suc (suc n)) (integral (times_time (constant a))) (of_ℕ foot) ≈ of_ℕ steps *ᶠ (of_ℕ middle *ᶠ a)
      line_up_to a zero h = absurd (omega arith)
      line_up_to a (suc n) h =
          let half = times_time (constant (a ÷ of_ℕ 2)) in
          let value = value_at (suc (suc n)) half (of_ℕ foot) in
          ≈_trans (value_times (integral (times_time (constant a))) half (integral_line a) (suc (suc n)) (of_ℕ foot))
          (ring_by (a ∷ (a ÷ of_ℕ 2) ∷ value ∷ []) (of_ℕ steps ⋅ value_line (a ÷ of_ℕ 2) half (λ j. ≈_refl (half j)) n (of_ℕ foot) & of_ℕ 524_288 ⋅ ÷_cancel_pos a (positive_whole {n = 2} (lit< tt)) & no_equations) (search quote depth 40 fits 9999) tt)
