-- The fractions as a ring for the normaliser, with `≈` for their equality: each law is an identity of signed numbers, by multiplying across.
use mathlib.Core.Path.{◌≡◌, refl, sym, ◌∙◌, ap, ap₂}
use mathlib.Core.List.{List, [], ◌∷◌}
use Prim.Native.Nat.{ℕ, suc, ◌*◌, zero-le, suc-le-suc}
use lib.IntN.{ℤ, pos, negsuc, neg_ℤ, ◌+ℤ◌, ◌*ℤ◌, *ℤ_comm, zero-*ℤ}
use Rattle.decay.specs.Fraction.{Fraction, ◌≈◌, of_ℤ, ◌+ᶠ◌, -ᶠ◌, ◌*ᶠ◌}
use Rattle.decay.proofs.Algebra.Signed.{*ℤ_cancel_r, *ℤ_idr}
use Rattle.decay.proofs.Algebra.Ring.{Ring}
use Rattle.decay.proofs.Algebra.Normal.{Expr, var, con, ◌:+◌, ◌:*◌, :-◌, norm, Vanishes, eval}
use Rattle.decay.proofs.Algebra.Whole.{ℤ_ring, solve_ℤ}

-- ---- expressions of fractions: an expression over another, in the numerators and denominators of up to four fractions

abbrev Over : Type 0
Over = Expr × Expr

abbrev A : Over
A = (var 0, var 1)

abbrev B : Over
B = (var 2, var 3)

abbrev C : Over
C = (var 4, var 5)

abbrev number : ℤ → Over
number z = (con z, con (pos 1))

infixl 6 ◌:⊕◌
infixl 7 ◌:⊗◌
abbrev ◌:⊕◌ : Over → Over → Over
p :⊕ q = (p.0 :* q.1 :+ q.0 :* p.1, p.1 :* q.1)

abbrev ◌:⊗◌ : Over → Over → Over
p :⊗ q = (p.0 :* q.0, p.1 :* q.1)

-- the numbers that the variables stand for
abbrev parts : List Fraction → List ℤ
parts [] = []
parts (a ∷ rest) = a.num ∷ pos a.den ∷ parts rest

-- multiplied across, the two are the same polynomial
law : (fs : List Fraction) (p q : Over) → Vanishes (norm (p.0 :* q.1 :+ :- (q.0 :* p.1)))
    → eval ℤ_ring (parts fs) (p.0 :* q.1) ≡ eval ℤ_ring (parts fs) (q.0 :* p.1)
law fs p q = solve_ℤ (parts fs) (p.0 :* q.1) (q.0 :* p.1)

-- ---- the laws

pub ≈_refl : (a : Fraction) → a ≈ a
≈_refl a = record { across = refl }

pub ≈_sym : {a b : Fraction} → a ≈ b → b ≈ a
≈_sym h = record { across = sym h.across }

-- the last two of three factors change places
pub swap : (x : ℤ) (m n : ℕ) → x *ℤ pos m *ℤ pos n ≡ x *ℤ pos n *ℤ pos m
swap x m n = solve_ℤ (x ∷ pos m ∷ pos n ∷ []) (var 0 :* var 1 :* var 2) (var 0 :* var 2 :* var 1) tt

pub ≈_trans : {a b c : Fraction} → a ≈ b → b ≈ c → a ≈ c
≈_trans {a} {b} {c} h k =
    record {
      across = *ℤ_cancel_r b.den (a.num *ℤ pos c.den) (c.num *ℤ pos a.den) b.den_pos (swap a.num c.den b.den ∙ ap (λ x. x *ℤ pos c.den) h.across ∙ swap b.num a.den c.den ∙ ap (λ x. x *ℤ pos a.den) k.across ∙ swap c.num b.den a.den);
    }

pub +ᶠ_cong : {a b c d : Fraction} → a ≈ b → c ≈ d → a +ᶠ c ≈ b +ᶠ d
unfolding ◌+ᶠ◌
+ᶠ_cong {a} {b} {c} {d} h k =
    record {
      across = solve_ℤ (parts (a ∷ b ∷ c ∷ d ∷ [])) ((var 0 :* var 5 :+ var 4 :* var 1) :* (var 3 :* var 7)) (var 0 :* var 3 :* (var 5 :* var 7) :+ var 4 :* var 7 :* (var 1 :* var 3)) tt ∙ ap₂ (λ x y. x *ℤ pos (c.den * d.den) +ℤ y *ℤ pos (a.den * b.den)) h.across k.across ∙ solve_ℤ (parts (a ∷ b ∷ c ∷ d ∷ [])) (var 2 :* var 1 :* (var 5 :* var 7) :+ var 6 :* var 5 :* (var 1 :* var 3)) ((var 2 :* var 7 :+ var 6 :* var 3) :* (var 1 :* var 5)) tt;
    }

pub *ᶠ_cong : {a b c d : Fraction} → a ≈ b → c ≈ d → a *ᶠ c ≈ b *ᶠ d
unfolding ◌*ᶠ◌
*ᶠ_cong {a} {b} {c} {d} h k =
    record {
      across = solve_ℤ (parts (a ∷ b ∷ c ∷ d ∷ [])) (var 0 :* var 4 :* (var 3 :* var 7)) (var 0 :* var 3 :* (var 4 :* var 7)) tt ∙ ap₂ ◌*ℤ◌ h.across k.across ∙ solve_ℤ (parts (a ∷ b ∷ c ∷ d ∷ [])) (var 2 :* var 1 :* (var 6 :* var 5)) (var 2 :* var 6 :* (var 1 :* var 5)) tt;
    }

pub -ᶠ_cong : {a b : Fraction} → a ≈ b → -ᶠ a ≈ -ᶠ b
unfolding -ᶠ◌
-ᶠ_cong {a} {b} h =
    record {
      across = solve_ℤ (parts (a ∷ b ∷ [])) (:- var 0 :* var 3) (:- (var 0 :* var 3)) tt ∙ ap neg_ℤ h.across ∙ solve_ℤ (parts (a ∷ b ∷ [])) (:- (var 2 :* var 1)) (:- var 2 :* var 1) tt;
    }

pub +ᶠ_assoc : (a b c : Fraction) → a +ᶠ b +ᶠ c ≈ a +ᶠ (b +ᶠ c)
unfolding ◌+ᶠ◌
+ᶠ_assoc a b c = record { across = law (a ∷ b ∷ c ∷ []) (A :⊕ B :⊕ C) (A :⊕ (B :⊕ C)) tt }

pub +ᶠ_comm : (a b : Fraction) → a +ᶠ b ≈ b +ᶠ a
unfolding ◌+ᶠ◌
+ᶠ_comm a b = record { across = law (a ∷ b ∷ []) (A :⊕ B) (B :⊕ A) tt }

pub +ᶠ-zero : (a : Fraction) → of_ℤ (pos 0) +ᶠ a ≈ a
unfolding ◌+ᶠ◌ of_ℤ
+ᶠ-zero a = record { across = law (a ∷ []) (number (pos 0) :⊕ A) A tt }

pub *ᶠ_assoc : (a b c : Fraction) → a *ᶠ b *ᶠ c ≈ a *ᶠ (b *ᶠ c)
unfolding ◌*ᶠ◌
*ᶠ_assoc a b c = record { across = law (a ∷ b ∷ c ∷ []) (A :⊗ B :⊗ C) (A :⊗ (B :⊗ C)) tt }

pub *ᶠ_comm : (a b : Fraction) → a *ᶠ b ≈ b *ᶠ a
unfolding ◌*ᶠ◌
*ᶠ_comm a b = record { across = law (a ∷ b ∷ []) (A :⊗ B) (B :⊗ A) tt }

pub *ᶠ_one : (a : Fraction) → of_ℤ (pos 1) *ᶠ a ≈ a
unfolding ◌*ᶠ◌ of_ℤ
*ᶠ_one a = record { across = law (a ∷ []) (number (pos 1) :⊗ A) A tt }

pub *ᶠ_zero : (a : Fraction) → of_ℤ (pos 0) *ᶠ a ≈ of_ℤ (pos 0)
unfolding ◌*ᶠ◌ of_ℤ
*ᶠ_zero a = record { across = law (a ∷ []) (number (pos 0) :⊗ A) (number (pos 0)) tt }

pub *ᶠ_distrib : (a b c : Fraction) → (a +ᶠ b) *ᶠ c ≈ a *ᶠ c +ᶠ b *ᶠ c
unfolding ◌+ᶠ◌ ◌*ᶠ◌
*ᶠ_distrib a b c = record { across = law (a ∷ b ∷ c ∷ []) ((A :⊕ B) :⊗ C) (A :⊗ C :⊕ B :⊗ C) tt }

pub -ᶠ_times : (a : Fraction) → -ᶠ a ≈ of_ℤ (negsuc 0) *ᶠ a
unfolding -ᶠ◌ ◌*ᶠ◌ of_ℤ
-ᶠ_times a = record { across = law (a ∷ []) (:- var 0, var 1) (number (negsuc 0) :⊗ A) tt }

pub of_ℤ-+ : (x y : ℤ) → of_ℤ (x +ℤ y) ≈ of_ℤ x +ᶠ of_ℤ y
unfolding ◌+ᶠ◌ of_ℤ
of_ℤ-+ x y =
    record { across = solve_ℤ (x ∷ y ∷ []) ((var 0 :+ var 1) :* con (pos 1)) ((var 0 :* con (pos 1) :+ var 1 :* con (pos 1)) :* con (pos 1)) tt }

pub of_ℤ-* : (x y : ℤ) → of_ℤ (x *ℤ y) ≈ of_ℤ x *ᶠ of_ℤ y
unfolding ◌*ᶠ◌ of_ℤ
of_ℤ-* x y = record { across = refl }

pub of_ℤ_neg : (z : ℤ) → of_ℤ (neg_ℤ z) ≈ -ᶠ of_ℤ z
unfolding of_ℤ -ᶠ◌
of_ℤ_neg z = record { across = refl }

pub zero_num : {a : Fraction} → a.num ≡ pos 0 → a ≈ of_ℤ (pos 0)
unfolding of_ℤ
zero_num {a} e = record { across = rw e (solve_ℤ (pos a.den ∷ []) (con (pos 0) :* con (pos 1)) (con (pos 0) :* var 0) tt) }

pub num_zero : {a : Fraction} → a ≈ of_ℤ (pos 0) → a.num ≡ pos 0
unfolding of_ℤ
num_zero {a} e = sym (*ℤ_idr a.num) ∙ e.across ∙ zero-*ℤ (pos a.den)

pub cancel_whole : (n : ℕ) (a : Fraction) → of_ℤ (pos (suc n)) *ᶠ a ≈ of_ℤ (pos 0) → a ≈ of_ℤ (pos 0)
unfolding ◌*ᶠ◌ of_ℤ
cancel_whole n a e = zero_num (*ℤ_cancel_r (suc n) a.num (pos 0) (suc-le-suc zero-le) (*ℤ_comm a.num (pos (suc n)) ∙ num_zero e ∙ sym (zero-*ℤ (pos (suc n)))))

abbrev pub Fraction-ring : Ring
Fraction-ring =
    record {
      Carrier = Fraction;
      ◌~◌ = ◌≈◌;
      ◌⊕◌ = ◌+ᶠ◌;
      ◌⊗◌ = ◌*ᶠ◌;
      ⊖◌ = -ᶠ◌;
      whole = of_ℤ;
      same = ≈_refl;
      back = ≈_sym;
      chain = ≈_trans;
      ⊕_cong = +ᶠ_cong;
      ⊗_cong = *ᶠ_cong;
      ⊕_assoc = +ᶠ_assoc;
      ⊕_comm = +ᶠ_comm;
      ⊕_zero = +ᶠ-zero;
      ⊗_assoc = *ᶠ_assoc;
      ⊗_comm = *ᶠ_comm;
      ⊗_one = *ᶠ_one;
      ⊗_zero = *ᶠ_zero;
      distrib = *ᶠ_distrib;
      ⊖_times = -ᶠ_times;
      whole-⊕ = of_ℤ-+;
      whole-⊗ = of_ℤ-*;
      cancel = cancel_whole;
    }
