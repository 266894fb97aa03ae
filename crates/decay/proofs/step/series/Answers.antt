-- `step::series` meets its contract: after each turn of the loop one more term of the definition is summed. Assumes nothing.
use Rattle.std.proofs.Common.{◌≡◌, ℕ, ◌+◌, ◌-◌, ◌<◌, refl, sym, ◌∙◌, ap, subst, arith}
use Rattle.decay.specs.Series.{terms_at, term_at, with_term, most_terms, count_from, series_of, SumsExactly}
use Rattle.decay.specs.declared.step.Terms.{Terms}
use Rattle.decay.proofs.step.Shares.{terms_made, term_made, next_sum, stops_here, ends_here, counts_next, series_exact, terms_small, first_sum, sum_fits}
use Rattle.decay.proofs.step.series.Invariants.{Summing}
use Rattle.decay.proofs.step.series.Goals as goal

module _ {y z : ℕ} {terms : Terms} {sum n : ℕ} (u : Summing y z terms sum n) where
  term_summed : n < most_terms → (term_at y z n ≡ 0 → ⊥) → Summing y z (terms_at y z n) (with_term sum (term_at y z n) n) (n + 1)
  term_summed l h =
      record {
        terms_are = ap (terms_at y z) {x = n} {y = n + 1 - 1} (omega arith);
        sum_is = ap (λ (s : ℕ). with_term s (term_at y z n) n) u.sum_is ∙ next_sum y z n;
        leading = omega arith;
        end = omega arith;
        counts_on = counts_next y z n most_terms l h ∙ u.counts_on;
      }

  -- no more terms are counted
  done : count_from y z n (most_terms - n) ≡ n → SumsExactly y z (record { sum = sum; count = n })
  unfolding series_of
  done e = subst (SumsExactly y z) (sym all) (series_exact y z)
    where
      all : record { sum = sum; count = n } ≡ series_of y z
      all = cc (u.sum_is, u.counts_on, e)

pub loop-i-init : goal.loop-i-init
unfolding terms_at
loop-i-init c =
    record {
      terms_are = refl;
      sum_is = sym (first_sum _ _);
      leading = omega arith;
      end = omega arith;
      counts_on = refl;
    }

pub next_terms-terms-requires : goal.next_terms-terms-requires
unfolding term_at
next_terms-terms-requires c =
    let e = c.args.e in
    (rw c.loop-i.invariant.terms_are (terms_small _ _ e.y_small e.z_small _), omega arith)

pub overflow_add-t : goal.overflow_add-t
overflow_add-t c =
    let u = c.loop-i.invariant in
    let e = c.args.e in
    omega (arith, term_made _ _ _ u.terms_are u.leading c.next_terms-terms.ensures, terms_small _ _ e.y_small e.z_small c.loop-i.i)

pub with_term-sum-requires : goal.with_term-sum-requires
with_term-sum-requires c =
    let u = c.loop-i.invariant in
    let e = c.args.e in
    let r = sum_fits _ _ e.y_small e.z_small c.loop-i.i u.leading in
    omega (arith, term_made _ _ _ u.terms_are u.leading c.next_terms-terms.ensures, u.sum_is, r.lower, r.upper, e.y_small)

pub loop-i-preserved : goal.loop-i-preserved
unfolding term_at
loop-i-preserved c =
    let u = c.loop-i.invariant in
    let is = c.next_terms-terms.ensures in
    rw (c.with_term-sum.ensures, terms_made _ _ _ u.terms_are u.leading is) (term_summed u (omega arith) (λ e. omega (arith, term_made _ _ _ u.terms_are u.leading is)))

pub returns : goal.returns
returns c =
    let last : c.loop-i.i ≡ most_terms = omega arith in
    done (rw last at c.loop-i.invariant) (ends_here _ _ most_terms most_terms (omega arith))

pub returns-then-ended : goal.returns-then-ended
returns-then-ended c =
    let u = c.loop-i.invariant in
    done u (stops_here _ _ _ _ (omega (arith, term_made _ _ _ u.terms_are u.leading c.next_terms-terms.ensures)))
