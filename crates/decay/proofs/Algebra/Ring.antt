-- A commutative ring over a carrier with an equivalence of its own, and an embedding of the signed numbers whose values serve as 0, 1 and −1.
-- One proof over such a record serves the signed numbers with `≡` and the fractions with `≈`. Below the record: the laws that the normaliser needs.
use Prim.Native.Nat.{ℕ, suc}
use lib.IntN.{ℤ, pos, negsuc, ◌+ℤ◌, ◌*ℤ◌}

pub record Ring : Type 1 where
  infix 4 ◌~◌
  infixl 6 ◌⊕◌
  infixl 7 ◌⊗◌
  infix 8 ⊖◌
  pub Carrier : Type 0
  pub ◌~◌ : Carrier → Carrier → Type 0
  pub ◌⊕◌ : Carrier → Carrier → Carrier
  pub ◌⊗◌ : Carrier → Carrier → Carrier
  pub ⊖◌ : Carrier → Carrier
  pub whole : ℤ → Carrier
  pub same : (a : Carrier) → a ~ a
  pub back : {a b : Carrier} → a ~ b → b ~ a
  pub chain : {a b c : Carrier} → a ~ b → b ~ c → a ~ c
  pub ⊕_cong : {a b c d : Carrier} → a ~ b → c ~ d → (a ⊕ c) ~ (b ⊕ d)
  pub ⊗_cong : {a b c d : Carrier} → a ~ b → c ~ d → (a ⊗ c) ~ (b ⊗ d)
  pub ⊕_assoc : (a b c : Carrier) → ((a ⊕ b) ⊕ c) ~ (a ⊕ (b ⊕ c))
  pub ⊕_comm : (a b : Carrier) → (a ⊕ b) ~ (b ⊕ a)
  pub ⊕_zero : (a : Carrier) → (whole (pos 0) ⊕ a) ~ a
  pub ⊗_assoc : (a b c : Carrier) → ((a ⊗ b) ⊗ c) ~ (a ⊗ (b ⊗ c))
  pub ⊗_comm : (a b : Carrier) → (a ⊗ b) ~ (b ⊗ a)
  pub ⊗_one : (a : Carrier) → (whole (pos 1) ⊗ a) ~ a
  pub ⊗_zero : (a : Carrier) → (whole (pos 0) ⊗ a) ~ whole (pos 0)
  pub distrib : (a b c : Carrier) → ((a ⊕ b) ⊗ c) ~ ((a ⊗ c) ⊕ (b ⊗ c))
  pub ⊖_times : (a : Carrier) → (⊖ a) ~ (whole (negsuc 0) ⊗ a)
  pub whole-⊕ : (a b : ℤ) → whole (a +ℤ b) ~ (whole a ⊕ whole b)
  pub whole-⊗ : (a b : ℤ) → whole (a *ℤ b) ~ (whole a ⊗ whole b)
  pub cancel : (n : ℕ) (a : Carrier) → (whole (pos (suc n)) ⊗ a) ~ whole (pos 0) → a ~ whole (pos 0)

module _ (R : Ring) where
  infix 4 ◌~◌
  infixl 6 ◌⊕◌
  infixl 7 ◌⊗◌
  infix 8 ⊖◌
  infixr 3 ◌⨾◌
  open R use {Carrier, ◌~◌, ◌⊕◌, ◌⊗◌, ⊖◌, whole, same, back, chain, ⊕_cong, ⊗_cong, ⊕_assoc, ⊕_comm, ⊕_zero, ⊗_assoc, ⊗_comm, ⊗_one, ⊗_zero, distrib, ⊖_times, whole-⊕, whole-⊗}

  ◌⨾◌ : {a b c : Carrier} → a ~ b → b ~ c → a ~ c
  p ⨾ q = chain p q

  on_left : {a b : Carrier} (c : Carrier) → a ~ b → a ⊕ c ~ b ⊕ c
  on_left c p = ⊕_cong p (same c)

  on_right : {a b : Carrier} (c : Carrier) → a ~ b → c ⊕ a ~ c ⊕ b
  on_right c p = ⊕_cong (same c) p

  pub ⊕_zero_r : (a : Carrier) → a ⊕ whole (pos 0) ~ a
  ⊕_zero_r a = ⊕_comm a (whole (pos 0)) ⨾ ⊕_zero a

  -- the first two of three summands change places
  pub ⊕_left_comm : (a b c : Carrier) → a ⊕ (b ⊕ c) ~ b ⊕ (a ⊕ c)
  ⊕_left_comm a b c = back (⊕_assoc a b c) ⨾ on_left c (⊕_comm a b) ⨾ ⊕_assoc b a c

  -- the middle two of four summands change places
  pub ⊕_swap : (a b c d : Carrier) → (a ⊕ b) ⊕ (c ⊕ d) ~ (a ⊕ c) ⊕ (b ⊕ d)
  ⊕_swap a b c d = ⊕_assoc a b (c ⊕ d) ⨾ on_right a (⊕_left_comm b c d) ⨾ back (⊕_assoc a c (b ⊕ d))

  pub ⊗_left_comm : (a b c : Carrier) → a ⊗ (b ⊗ c) ~ b ⊗ (a ⊗ c)
  ⊗_left_comm a b c = back (⊗_assoc a b c) ⨾ ⊗_cong (⊗_comm a b) (same c) ⨾ ⊗_assoc b a c

  -- the middle two of four factors change places
  pub ⊗_swap : (a b c d : Carrier) → (a ⊗ b) ⊗ (c ⊗ d) ~ (a ⊗ c) ⊗ (b ⊗ d)
  ⊗_swap a b c d = ⊗_assoc a b (c ⊗ d) ⨾ ⊗_cong (same a) (⊗_left_comm b c d) ⨾ back (⊗_assoc a c (b ⊗ d))

  pub distrib_l : (a b c : Carrier) → a ⊗ (b ⊕ c) ~ (a ⊗ b) ⊕ (a ⊗ c)
  distrib_l a b c = ⊗_comm a (b ⊕ c) ⨾ distrib b c a ⨾ ⊕_cong (⊗_comm b a) (⊗_comm c a)

  pub ⊗_zero_r : (a : Carrier) → a ⊗ whole (pos 0) ~ whole (pos 0)
  ⊗_zero_r a = ⊗_comm a (whole (pos 0)) ⨾ ⊗_zero a

  -- a difference that is 0 has equal sides
  pub from_difference : (a b : Carrier) → a ⊕ (⊖ b) ~ whole (pos 0) → a ~ b
  from_difference a b p =
      back (⊕_zero_r a) ⨾ on_right a (back (⊗_zero b) ⨾ ⊗_cong (whole-⊕ (negsuc 0) (pos 1)) (same b) ⨾ distrib (whole (negsuc 0)) (whole (pos 1)) b ⨾ ⊕_cong (back (⊖_times b)) (⊗_one b)) ⨾ back (⊕_assoc a (⊖ b) b) ⨾ on_left b p ⨾ ⊕_zero b
