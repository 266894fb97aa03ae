-- Identities of fractions in one line: `ring (a ∷ b ∷ []) (search quote depth 40 fits 9999) tt : (a +ᶠ b) *ᶠ (a -ᶠ b) ≈ a *ᶠ a -ᶠ b *ᶠ b`.
-- The list names the terms that count as variables; `quote` reads both sides as expressions over them. A wrong identity fails at `tt`, and the error (or a hole there) shows the left-over polynomial.
use mathlib.Core.Path.{◌≡◌}
use mathlib.Core.List.{List, [], ◌∷◌}
use mathlib.Core.Bool.{true}
use Prim.Native.Nat.{ℕ, ◌+◌, ◌*◌}
use lib.Dec.{eqb}
use lib.IntN.{ℤ, pos, negsuc, neg_ℤ, ◌+ℤ◌, ◌*ℤ◌}
use Rattle.decay.specs.Fraction.{Fraction, ◌≈◌, of_ℤ, of_ℕ, ◌+ᶠ◌, -ᶠ◌, ◌-ᶠ◌, ◌*ᶠ◌}
use Rattle.decay.proofs.Algebra.Normal.{Quoted, q_var, q_con, q_sum, q_product, q_minus, q_as, Sides, sides, gap, Vanishes, by_normal_form, Known, known, known_none, QuotedAll, q_none, q_more, Given, given, rest, by_known_zeros}
use Rattle.decay.proofs.Algebra.Rational.{Fraction-ring, ≈_refl, ≈_sym, ≈_trans, +ᶠ_cong, *ᶠ_cong, of_ℤ-+, of_ℤ-*, of_ℤ_neg}

-- how a fraction is made of the variables of a list
abbrev pub Read : List Fraction → Fraction → Type 0
Read = Quoted Fraction-ring

-- the two sides of an equation
abbrev pub read_sides : {vs : List Fraction} {a b : Fraction} → Read vs a → Read vs b → Sides Fraction-ring vs a b
read_sides p q = sides p q

abbrev pub read_sum : {vs : List Fraction} {a b : Fraction} → Read vs a → Read vs b → Read vs (a +ᶠ b)
read_sum p q = q_sum p q

abbrev pub read_product : {vs : List Fraction} {a b : Fraction} → Read vs a → Read vs b → Read vs (a *ᶠ b)
read_product p q = q_product p q

abbrev pub read_minus : {vs : List Fraction} {a : Fraction} → Read vs a → Read vs (-ᶠ a)
read_minus p = q_minus p

-- a literal; the premise holds by computation, which keeps an embedded variable a variable
abbrev pub read_literal : {vs : List Fraction} (n : ℕ) → eqb n n ≡ true → Read vs (of_ℤ (pos n))
read_literal n h = q_con (pos n)

abbrev pub read_negative : {vs : List Fraction} (n : ℕ) → eqb n n ≡ true → Read vs (of_ℤ (negsuc n))
read_negative n h = q_con (negsuc n)

-- sums and products of embedded whole numbers
abbrev pub read_whole_sum : {vs : List Fraction} (m n : ℕ) → Read vs (of_ℤ (pos m)) → Read vs (of_ℤ (pos n)) → Read vs (of_ℤ (pos (m + n)))
read_whole_sum m n p q = q_as (≈_sym (of_ℤ-+ (pos m) (pos n))) (q_sum p q)

abbrev pub read_whole_product : {vs : List Fraction} (m n : ℕ) → Read vs (of_ℤ (pos m)) → Read vs (of_ℤ (pos n)) → Read vs (of_ℤ (pos (m * n)))
read_whole_product m n p q = q_as (≈_sym (of_ℤ-* (pos m) (pos n))) (q_product p q)

-- and of embedded signed numbers
abbrev pub read_signed_sum : {vs : List Fraction} (x y : ℤ) → Read vs (of_ℤ x) → Read vs (of_ℤ y) → Read vs (of_ℤ (x +ℤ y))
read_signed_sum x y p q = q_as (≈_sym (of_ℤ-+ x y)) (q_sum p q)

abbrev pub read_signed_product : {vs : List Fraction} (x y : ℤ) → Read vs (of_ℤ x) → Read vs (of_ℤ y) → Read vs (of_ℤ (x *ℤ y))
read_signed_product x y p q = q_as (≈_sym (of_ℤ-* x y)) (q_product p q)

abbrev pub read_signed_minus : {vs : List Fraction} (x : ℤ) → Read vs (of_ℤ x) → Read vs (of_ℤ (neg_ℤ x))
read_signed_minus x p = q_as (≈_sym (of_ℤ_neg x)) (q_minus p)

-- a term that is replaced by another: list `replaced e` beside `quote`, for e : a ≈ b, and a is read as b
abbrev pub replaced : {a b : Fraction} → a ≈ b → (vs : List Fraction) → Read vs b → Read vs a
replaced e vs p = q_as (≈_sym e) p

abbrev pub variable_0 : {x0 : Fraction} {vs : List Fraction} → Read (x0 ∷ vs) x0
variable_0 = q_var 0

abbrev pub variable_1 : {x0 x1 : Fraction} {vs : List Fraction} → Read (x0 ∷ x1 ∷ vs) x1
variable_1 = q_var 1

abbrev pub variable_2 : {x0 x1 x2 : Fraction} {vs : List Fraction} → Read (x0 ∷ x1 ∷ x2 ∷ vs) x2
variable_2 = q_var 2

abbrev pub variable_3 : {x0 x1 x2 x3 : Fraction} {vs : List Fraction} → Read (x0 ∷ x1 ∷ x2 ∷ x3 ∷ vs) x3
variable_3 = q_var 3

abbrev pub variable_4 : {x0 x1 x2 x3 x4 : Fraction} {vs : List Fraction} → Read (x0 ∷ x1 ∷ x2 ∷ x3 ∷ x4 ∷ vs) x4
variable_4 = q_var 4

abbrev pub variable_5 : {x0 x1 x2 x3 x4 x5 : Fraction} {vs : List Fraction} → Read (x0 ∷ x1 ∷ x2 ∷ x3 ∷ x4 ∷ x5 ∷ vs) x5
variable_5 = q_var 5

abbrev pub variable_6 : {x0 x1 x2 x3 x4 x5 x6 : Fraction} {vs : List Fraction} → Read (x0 ∷ x1 ∷ x2 ∷ x3 ∷ x4 ∷ x5 ∷ x6 ∷ vs) x6
variable_6 = q_var 6

abbrev pub variable_7 : {x0 x1 x2 x3 x4 x5 x6 x7 : Fraction} {vs : List Fraction} → Read (x0 ∷ x1 ∷ x2 ∷ x3 ∷ x4 ∷ x5 ∷ x6 ∷ x7 ∷ vs) x7
variable_7 = q_var 7

abbrev pub variable_8 : {x0 x1 x2 x3 x4 x5 x6 x7 x8 : Fraction} {vs : List Fraction} → Read (x0 ∷ x1 ∷ x2 ∷ x3 ∷ x4 ∷ x5 ∷ x6 ∷ x7 ∷ x8 ∷ vs) x8
variable_8 = q_var 8

abbrev pub variable_9 : {x0 x1 x2 x3 x4 x5 x6 x7 x8 x9 : Fraction} {vs : List Fraction} → Read (x0 ∷ x1 ∷ x2 ∷ x3 ∷ x4 ∷ x5 ∷ x6 ∷ x7 ∷ x8 ∷ x9 ∷ vs) x9
variable_9 = q_var 9

abbrev pub variable_10 : {x0 x1 x2 x3 x4 x5 x6 x7 x8 x9 x10 : Fraction} {vs : List Fraction} → Read (x0 ∷ x1 ∷ x2 ∷ x3 ∷ x4 ∷ x5 ∷ x6 ∷ x7 ∷ x8 ∷ x9 ∷ x10 ∷ vs) x10
variable_10 = q_var 10

abbrev pub variable_11 : {x0 x1 x2 x3 x4 x5 x6 x7 x8 x9 x10 x11 : Fraction} {vs : List Fraction} → Read (x0 ∷ x1 ∷ x2 ∷ x3 ∷ x4 ∷ x5 ∷ x6 ∷ x7 ∷ x8 ∷ x9 ∷ x10 ∷ x11 ∷ vs) x11
variable_11 = q_var 11

abbrev pub variable_12 : {x0 x1 x2 x3 x4 x5 x6 x7 x8 x9 x10 x11 x12 : Fraction} {vs : List Fraction} → Read (x0 ∷ x1 ∷ x2 ∷ x3 ∷ x4 ∷ x5 ∷ x6 ∷ x7 ∷ x8 ∷ x9 ∷ x10 ∷ x11 ∷ x12 ∷ vs) x12
variable_12 = q_var 12

abbrev pub variable_13 : {x0 x1 x2 x3 x4 x5 x6 x7 x8 x9 x10 x11 x12 x13 : Fraction} {vs : List Fraction} → Read (x0 ∷ x1 ∷ x2 ∷ x3 ∷ x4 ∷ x5 ∷ x6 ∷ x7 ∷ x8 ∷ x9 ∷ x10 ∷ x11 ∷ x12 ∷ x13 ∷ vs) x13
variable_13 = q_var 13

abbrev pub variable_14 : {x0 x1 x2 x3 x4 x5 x6 x7 x8 x9 x10 x11 x12 x13 x14 : Fraction} {vs : List Fraction} → Read (x0 ∷ x1 ∷ x2 ∷ x3 ∷ x4 ∷ x5 ∷ x6 ∷ x7 ∷ x8 ∷ x9 ∷ x10 ∷ x11 ∷ x12 ∷ x13 ∷ x14 ∷ vs) x14
variable_14 = q_var 14

abbrev pub variable_15 : {x0 x1 x2 x3 x4 x5 x6 x7 x8 x9 x10 x11 x12 x13 x14 x15 : Fraction} {vs : List Fraction} → Read (x0 ∷ x1 ∷ x2 ∷ x3 ∷ x4 ∷ x5 ∷ x6 ∷ x7 ∷ x8 ∷ x9 ∷ x10 ∷ x11 ∷ x12 ∷ x13 ∷ x14 ∷ x15 ∷ vs) x15
variable_15 = q_var 15

abbrev pub variable_16 : {x0 x1 x2 x3 x4 x5 x6 x7 x8 x9 x10 x11 x12 x13 x14 x15 x16 : Fraction} {vs : List Fraction} → Read (x0 ∷ x1 ∷ x2 ∷ x3 ∷ x4 ∷ x5 ∷ x6 ∷ x7 ∷ x8 ∷ x9 ∷ x10 ∷ x11 ∷ x12 ∷ x13 ∷ x14 ∷ x15 ∷ x16 ∷ vs) x16
variable_16 = q_var 16

abbrev pub variable_17 : {x0 x1 x2 x3 x4 x5 x6 x7 x8 x9 x10 x11 x12 x13 x14 x15 x16 x17 : Fraction} {vs : List Fraction} → Read (x0 ∷ x1 ∷ x2 ∷ x3 ∷ x4 ∷ x5 ∷ x6 ∷ x7 ∷ x8 ∷ x9 ∷ x10 ∷ x11 ∷ x12 ∷ x13 ∷ x14 ∷ x15 ∷ x16 ∷ x17 ∷ vs) x17
variable_17 = q_var 17

abbrev pub variable_18 : {x0 x1 x2 x3 x4 x5 x6 x7 x8 x9 x10 x11 x12 x13 x14 x15 x16 x17 x18 : Fraction} {vs : List Fraction} → Read (x0 ∷ x1 ∷ x2 ∷ x3 ∷ x4 ∷ x5 ∷ x6 ∷ x7 ∷ x8 ∷ x9 ∷ x10 ∷ x11 ∷ x12 ∷ x13 ∷ x14 ∷ x15 ∷ x16 ∷ x17 ∷ x18 ∷ vs) x18
variable_18 = q_var 18

abbrev pub variable_19 : {x0 x1 x2 x3 x4 x5 x6 x7 x8 x9 x10 x11 x12 x13 x14 x15 x16 x17 x18 x19 : Fraction} {vs : List Fraction} → Read (x0 ∷ x1 ∷ x2 ∷ x3 ∷ x4 ∷ x5 ∷ x6 ∷ x7 ∷ x8 ∷ x9 ∷ x10 ∷ x11 ∷ x12 ∷ x13 ∷ x14 ∷ x15 ∷ x16 ∷ x17 ∷ x18 ∷ x19 ∷ vs) x19
variable_19 = q_var 19

abbrev pub variable_20 : {x0 x1 x2 x3 x4 x5 x6 x7 x8 x9 x10 x11 x12 x13 x14 x15 x16 x17 x18 x19 x20 : Fraction} {vs : List Fraction} → Read (x0 ∷ x1 ∷ x2 ∷ x3 ∷ x4 ∷ x5 ∷ x6 ∷ x7 ∷ x8 ∷ x9 ∷ x10 ∷ x11 ∷ x12 ∷ x13 ∷ x14 ∷ x15 ∷ x16 ∷ x17 ∷ x18 ∷ x19 ∷ x20 ∷ vs) x20
variable_20 = q_var 20

abbrev pub variable_21 : {x0 x1 x2 x3 x4 x5 x6 x7 x8 x9 x10 x11 x12 x13 x14 x15 x16 x17 x18 x19 x20 x21 : Fraction} {vs : List Fraction} → Read (x0 ∷ x1 ∷ x2 ∷ x3 ∷ x4 ∷ x5 ∷ x6 ∷ x7 ∷ x8 ∷ x9 ∷ x10 ∷ x11 ∷ x12 ∷ x13 ∷ x14 ∷ x15 ∷ x16 ∷ x17 ∷ x18 ∷ x19 ∷ x20 ∷ x21 ∷ vs) x21
variable_21 = q_var 21

abbrev pub variable_22 : {x0 x1 x2 x3 x4 x5 x6 x7 x8 x9 x10 x11 x12 x13 x14 x15 x16 x17 x18 x19 x20 x21 x22 : Fraction} {vs : List Fraction} → Read (x0 ∷ x1 ∷ x2 ∷ x3 ∷ x4 ∷ x5 ∷ x6 ∷ x7 ∷ x8 ∷ x9 ∷ x10 ∷ x11 ∷ x12 ∷ x13 ∷ x14 ∷ x15 ∷ x16 ∷ x17 ∷ x18 ∷ x19 ∷ x20 ∷ x21 ∷ x22 ∷ vs) x22
variable_22 = q_var 22

abbrev pub variable_23 : {x0 x1 x2 x3 x4 x5 x6 x7 x8 x9 x10 x11 x12 x13 x14 x15 x16 x17 x18 x19 x20 x21 x22 x23 : Fraction} {vs : List Fraction} → Read (x0 ∷ x1 ∷ x2 ∷ x3 ∷ x4 ∷ x5 ∷ x6 ∷ x7 ∷ x8 ∷ x9 ∷ x10 ∷ x11 ∷ x12 ∷ x13 ∷ x14 ∷ x15 ∷ x16 ∷ x17 ∷ x18 ∷ x19 ∷ x20 ∷ x21 ∷ x22 ∷ x23 ∷ vs) x23
variable_23 = q_var 23

-- the same beside terms that are known to be 0
abbrev pub read_none : {vs : List Fraction} → QuotedAll Fraction-ring vs []
read_none = q_none

abbrev pub read_more : {vs zs : List Fraction} {z : Fraction} → Read vs z → QuotedAll Fraction-ring vs zs → QuotedAll Fraction-ring vs (z ∷ zs)
read_more p q = q_more p q

abbrev pub read_given : {vs zs : List Fraction} {a b : Fraction} → QuotedAll Fraction-ring vs zs → Read vs a → Read vs b
    → Given Fraction-ring vs zs a b
read_given zs p q = given zs p q

pub ruleset quote = (read_sides, read_given, read_none, read_more, read_sum, read_product, read_minus, read_literal, read_negative, read_whole_sum, read_whole_product, read_signed_sum, read_signed_product, read_signed_minus, variable_0, variable_1, variable_2, variable_3, variable_4, variable_5, variable_6, variable_7, variable_8, variable_9, variable_10, variable_11, variable_12, variable_13, variable_14, variable_15, variable_16, variable_17, variable_18, variable_19, variable_20, variable_21, variable_22, variable_23)

pub ring : (vs : List Fraction) {a b : Fraction} (q : Sides Fraction-ring vs a b) → Vanishes (gap Fraction-ring vs q) → a ≈ b
ring = by_normal_form Fraction-ring

-- ---- identities that follow from equations

-- Terms that are 0, made of equations: `c ⋅ e & d ⋅ f & none` for e : a ≈ b and f : a' ≈ b' has c × (b − a) and d × (b' − a').
abbrev pub Zeros : List Fraction → Type 0
Zeros = Known Fraction-ring

infixr 5 ◌&◌
infix 6 ◌⋅◌
pub ◌⋅◌ : (c : Fraction) {a b : Fraction} → a ≈ b → c *ᶠ (b -ᶠ a) ≈ of_ℕ 0
◌⋅◌ c {a} {b} e = ≈_trans (*ᶠ_cong (≈_refl c) (+ᶠ_cong (≈_sym e) (≈_refl (-ᶠ a)))) (vanish c a)
  where
    vanish : (c a : Fraction) → c *ᶠ (a -ᶠ a) ≈ of_ℕ 0
    vanish c a = ring (c ∷ a ∷ []) (search quote depth 40 fits 9999) tt

pub none : Zeros []
none = known_none

pub ◌&◌ : {z : Fraction} {zs : List Fraction} → z ≈ of_ℕ 0 → Zeros zs → Zeros (z ∷ zs)
h & k = known h k

-- an identity up to whole multiples of these terms: their signs and whole factors are found by elimination
pub ring_by : (vs : List Fraction) {zs : List Fraction} {a b : Fraction} → Zeros zs → (q : Given Fraction-ring vs zs a b)
    → Vanishes (rest Fraction-ring vs q) → a ≈ b
ring_by = by_known_zeros Fraction-ring
