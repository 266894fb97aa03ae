-- Laws of answers: what passes a guard and a sequence, and what an accepted answer says about the guards before it.
-- Assumes nothing.
use Prim.Native.Nat.{ℕ}
use mathlib.Core.Path.{◌≡◌, refl}
use mathlib.Core.Bool.{Bool, true, false, ◌&&◌}
use native.Mathlib.Omega.{arith}
use Rattle.river.specs.Refusal.{Answer, accepted, refused, refuse, need, choose, after}
use Rattle.river.specs.declared.refusal.Rule.{Rule}

-- two constructors are not equal
pub clash : {P : Type 0} → ◌≡◌ {A = ℕ} 0 1 → P
clash z = absurd (let h : ⊥ = omega arith in h)

pub never : {A : Type 0} {a : A} {r : _} {P : Type 0} → ◌≡◌ {A = Answer A} (refused r) (accepted a) → P
never e = clash (cc)

pub record Both (a b : Bool) : Type 0 where
  pub left : a ≡ true
  pub right : b ≡ true

-- a conjunction of tests
pub both_true : {a b : Bool} → (a && b) ≡ true → Both a b
both_true {a = true} e = record { left = refl; right = e }
both_true {a = false} e = clash (cc)

pub both : {a b : Bool} → a ≡ true → b ≡ true → (a && b) ≡ true
both p q = rw (p, q)

module _ {A : Type 0} where
  pub need_true : (b : Bool) (n : Rule) (i : ℕ) (x : Answer A) → b ≡ true → need b n i x ≡ x
  unfolding need
  need_true b n i x p = rw p

  pub need_false : (b : Bool) (n : Rule) (i : ℕ) (x : Answer A) → b ≡ false → need b n i x ≡ refused (refuse n i)
  unfolding need
  need_false b n i x p = rw p

  pub choose_true : (b : Bool) (x y : Answer A) → b ≡ true → choose b x y ≡ x
  unfolding choose
  choose_true b x y p = rw p

  pub choose_false : (b : Bool) (x y : Answer A) → b ≡ false → choose b x y ≡ y
  unfolding choose
  choose_false b x y p = rw p

  pub after_accepted : {B : Type 0} (x : Answer A) {a : A} (f : A → Answer B) → x ≡ accepted a → after x f ≡ f a
  unfolding after
  after_accepted x f p = rw p

  pub after_refused : {B : Type 0} (x : Answer A) {r : _} (f : A → Answer B) → x ≡ refused r → after x f ≡ refused r
  unfolding after
  after_refused x f p = rw p

  pub after_all : (x : Answer A) → after x accepted ≡ x
  unfolding after
  after_all (accepted a) = refl
  after_all (refused r) = refl

  -- a sequence of three
  pub after_after : {B C : Type 0} (x : Answer A) (f : A → Answer B) (g : B → Answer C) → after (after x f) g ≡ after x (λ a. after (f a) g)
  unfolding after
  after_after (accepted a) f g = refl
  after_after (refused r) f g = refl

  -- what passed a guard
  pub record Passed (b : Bool) (x : Answer A) (a : A) : Type 0 where
    pub test : b ≡ true
    pub rest : x ≡ accepted a

  pub passed : (b : Bool) (n : Rule) (i : ℕ) (x : Answer A) {a : A} → need b n i x ≡ accepted a → Passed b x a
  unfolding need
  passed true n i x e = record { test = refl; rest = e }
  passed false n i x e = never e

  -- what passed a sequence
  pub record Went {B : Type 0} (x : Answer A) (f : A → Answer B) (b : B) : Type 0 where
    pub value : A
    pub first : x ≡ accepted value
    pub then : f value ≡ accepted b

  pub went : {B : Type 0} (x : Answer A) (f : A → Answer B) {b : B} → after x f ≡ accepted b → Went x f b
  unfolding after
  went (accepted a) f e = record { value = a; first = refl; then = e }
  went (refused r) f e = never e
