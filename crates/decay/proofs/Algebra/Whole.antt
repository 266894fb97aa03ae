-- The signed numbers as a ring for the normaliser. The expressions are written out: `solve_ℤ (a ∷ b ∷ []) (var 0 :+ var 1) (var 1 :+ var 0) tt : a +ℤ b ≡ b +ℤ a`.
use mathlib.Core.Path.{◌≡◌, refl, sym, ◌∙◌, ap, ap₂}
use mathlib.Core.List.{List}
use Prim.Native.Nat.{suc, zero-le, suc-le-suc}
use lib.IntN.{ℤ, pos, neg_ℤ, ◌+ℤ◌, ◌*ℤ◌, +ℤ_assoc, +ℤ_comm, +ℤ_idl, *ℤ_comm, zero-*ℤ}
use Rattle.decay.proofs.Algebra.Signed.{*ℤ_assoc, *ℤ_distrib_r, *ℤ_idl, neg-*ℤ, *ℤ_cancel_r}
use Rattle.decay.proofs.Algebra.Ring.{Ring}
use Rattle.decay.proofs.Algebra.Normal.{Expr, ◌:+◌, :-◌, norm, Vanishes, eval, solve}

abbrev pub ℤ_ring : Ring
ℤ_ring =
    record {
      Carrier = ℤ;
      ◌~◌ = ◌≡◌;
      ◌⊕◌ = ◌+ℤ◌;
      ◌⊗◌ = ◌*ℤ◌;
      ⊖◌ = neg_ℤ;
      whole = λ z. z;
      same = λ a. refl;
      back = sym;
      chain = ◌∙◌;
      ⊕_cong = ap₂ ◌+ℤ◌;
      ⊗_cong = ap₂ ◌*ℤ◌;
      ⊕_assoc = +ℤ_assoc;
      ⊕_comm = +ℤ_comm;
      ⊕_zero = +ℤ_idl;
      ⊗_assoc = *ℤ_assoc;
      ⊗_comm = *ℤ_comm;
      ⊗_one = *ℤ_idl;
      ⊗_zero = zero-*ℤ;
      distrib = *ℤ_distrib_r;
      ⊖_times = λ a. ap neg_ℤ (sym (*ℤ_idl a)) ∙ sym (neg-*ℤ (pos 1) a);
      whole-⊕ = λ a b. refl;
      whole-⊗ = λ a b. refl;
      cancel = λ n a e. *ℤ_cancel_r (suc n) a (pos 0) (suc-le-suc zero-le) (*ℤ_comm a (pos (suc n)) ∙ e ∙ sym (zero-*ℤ (pos (suc n))));
    }

pub solve_ℤ : (vs : List ℤ) (l r : Expr) → Vanishes (norm (l :+ :- r)) → eval ℤ_ring vs l ≡ eval ℤ_ring vs r
solve_ℤ = solve ℤ_ring
