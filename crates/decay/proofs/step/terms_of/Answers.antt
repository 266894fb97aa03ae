-- `step::terms_of` meets its contract: each turn of the loop makes one more term of the definition. Assumes nothing.
use Rattle.std.proofs.Common.{◌≡◌, ◌+◌, ◌-◌, ◌<◌, refl, sym, ap, ◌∙◌, arith}
use Rattle.std.proofs.lemmas.List.{get_or-set_other, length-set}
use Rattle.std.proofs.lemmas.Grind.{get_or-set_at}
use mathlib.Core.Logic.{⊎_elim}
use native.Mathlib.Nat.{eq-or-lt_of_le}
use Rattle.decay.specs.Series.{terms_at, term_at}
use Rattle.decay.proofs.step.Shares.{first_term, terms_made, term_made, terms_small}
use Rattle.decay.proofs.step.terms_of.Goals as goal

pub loop-i-init : goal.loop-i-init
unfolding terms_at
loop-i-init c =
    record {
      terms_are = refl;
      each = λ i h. let first : i ≡ 0 = omega arith in rw first (sym (first_term _ _));
      leading = omega arith;
      end = omega arith;
      room = refl;
    }

pub next_terms-terms-requires : goal.next_terms-terms-requires
unfolding term_at
next_terms-terms-requires c =
    let e = c.args.e in
    (rw c.loop-i.invariant.terms_are (terms_small _ _ e.y_small e.z_small _), omega arith)

pub overflow_add-all : goal.overflow_add-all
overflow_add-all c =
    let u = c.loop-i.invariant in
    let e = c.args.e in
    omega (arith, term_made _ _ _ u.terms_are u.leading c.next_terms-terms.ensures, terms_small _ _ e.y_small e.z_small c.loop-i.i)

pub loop-i-preserved : goal.loop-i-preserved
loop-i-preserved c =
    let u = c.loop-i.invariant in
    let n = c.loop-i.i in
    record {
      terms_are = terms_made _ _ _ u.terms_are u.leading c.next_terms-terms.ensures ∙ ap (terms_at _ _) {x = n} {y = n + 1 - 1} (omega arith);
      each =
          λ i h.
          ⊎_elim
          (λ (e : i ≡ n). rw e (get_or-set_at c.loop-i.all n n _ 0 refl (omega (arith, u.room)) ∙ term_made _ _ _ u.terms_are u.leading c.next_terms-terms.ensures))
          (λ (l : i < n). get_or-set_other c.loop-i.all n i _ 0 (λ e. omega arith) ∙ u.each i l)
          (eq-or-lt_of_le {n = i} {m = n} (omega arith));
      leading = omega arith;
      end = omega arith;
      room = length-set c.loop-i.all n _ ∙ u.room;
    }
