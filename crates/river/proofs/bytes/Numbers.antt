-- Numbers and their bytes undo each other, and a list of bytes is its bytes written out.
-- Assumes nothing.
use Prim.Native.Nat.{ℕ, zero, suc, ◌+◌, ◌-◌, ◌*◌, ◌/◌, ◌%◌, ◌≤◌, ◌<◌}
use mathlib.Core.Path.{◌≡◌, ap, ap₂, sym, ◌∙◌}
use mathlib.Core.List.{List, [], ◌∷◌, ◌++◌, append_assoc}
use mathlib.Core.Bool.{true, false}
use native.Mathlib.Nat.{mod-eq_of_lt, suc-add, add-suc, zero-add}
use native.Mathlib.Omega.{arith}
use lib.Arith.{digits_div, digits_mod}
use lib.ListN.{length, take, drop, length-drop}
use lib.Seq.{drop-cons, drop-append_seam, get_or-drop, take_all}
use borrow.Author.Tests.{eqb-true, eq-eqb}
use Rattle.river.specs.Bytes.{AreBytes, two_bytes, narrow_bytes, four_bytes, byte_at, two_at, four_at, Mark, marked, mark_bytes}
use Rattle.river.proofs.Answers.{both, both_true}

-- a number of two digits to a base has these two digits
pub two_digits : (m a b : ℕ) → b < m → ◌≡◌ {A = List ℕ} ((a * m + b) / m ∷ (a * m + b) % m ∷ []) (a ∷ b ∷ [])
two_digits m a b h = rw (digits_div a h, digits_mod a h)

pub two_at_below : (s : List ℕ) (k : ℕ) → AreBytes s → two_at s k < 65536
two_at_below s k h = omega (arith, h.below k, h.below (k + 1))

pub four_at_below : (s : List ℕ) (k : ℕ) → AreBytes s → four_at s k < 4294967296
four_at_below s k h = omega (arith, two_at_below s k h, two_at_below s (k + 2) h)

pub two_bytes_two_at : (s : List ℕ) (k : ℕ) → AreBytes s → two_bytes (two_at s k) ≡ byte_at s k ∷ byte_at s (k + 1) ∷ []
two_bytes_two_at s k h = two_digits 256 (byte_at s k) (byte_at s (k + 1)) (h.below (k + 1))

pub narrow_bytes_two_at : (s : List ℕ) (k : ℕ) → AreBytes s → narrow_bytes (two_at s k) ≡ byte_at s k ∷ byte_at s (k + 1) ∷ []
narrow_bytes_two_at s k h = ap two_bytes (mod-eq_of_lt (two_at_below s k h)) ∙ two_bytes_two_at s k h

pub four_bytes_four_at : (s : List ℕ) (k : ℕ) → AreBytes s
    → four_bytes (four_at s k) ≡ byte_at s k ∷ byte_at s (k + 1) ∷ byte_at s (k + 2) ∷ byte_at s (k + 2 + 1) ∷ []
four_bytes_four_at s k h =
    let b = two_at_below s (k + 2) h in
    ap₂ (λ (x y : ℕ). two_bytes x ++ two_bytes y) (digits_div (two_at s k) b) (digits_mod (two_at s k) b) ∙
    ap₂ (λ (x y : List ℕ). x ++ y) (two_bytes_two_at s k h) (two_bytes_two_at s (k + 2) h)

-- what is left of bytes are bytes
pub are_bytes_drop : {s : List ℕ} (k : ℕ) → AreBytes s → AreBytes (drop k s)
are_bytes_drop {s} k h = record { below = λ j. rw get_or-drop (h.below (k + j)) }

-- the n bytes from k on, written out
abbrev pub bytes_from : List ℕ → ℕ → ℕ → List ℕ
bytes_from s zero k = []
bytes_from s (suc n) k = byte_at s k ∷ bytes_from s n (suc k)

pub spelled : (s : List ℕ) (n k : ℕ) → n + k ≤ length s → drop k s ≡ bytes_from s n k ++ drop (n + k) s
spelled s zero k h = rw zero-add
spelled s (suc n) k h =
    drop-cons s k 0 (omega arith) ∙
    ap (λ (l : List ℕ). byte_at s k ∷ l) (spelled s n (suc k) (omega arith) ∙ rw (add-suc, suc-add))

-- the part of a slice from k on, as the code takes it
pub whole_tail : (s : List ℕ) (k : ℕ) → take (length s - k) (drop k s) ≡ drop k s
whole_tail s k = take_all (length s - k) (drop k s) (omega (arith, length-drop k s))

-- bytes that begin with a mark
pub record HasMark (s : List ℕ) (m : Mark) : Type 0 where
  pub first : byte_at s 0 ≡ m.first
  pub second : byte_at s 1 ≡ m.second

pub true_marked : (s : List ℕ) (m : Mark) → marked s m ≡ true → HasMark s m
true_marked s m e = let t = both_true e in record { first = eqb-true _ _ t.left; second = eqb-true _ _ t.right }

pub marked_true : {s : List ℕ} {m : Mark} → HasMark s m → marked s m ≡ true
marked_true b = both (eq-eqb _ _ b.first) (eq-eqb _ _ b.second)

pub marked_other : {s : List ℕ} {m : Mark} (n : Mark) → HasMark s m → marked (mark_bytes m) n ≡ false → marked s n ≡ false
marked_other n b e = rw (b.first, b.second) e

-- bytes that stand at the start of others
abbrev pub Leads : List ℕ → List ℕ → Type 0
Leads e s = s ≡ e ++ drop (length e) s

leads : (e s t : List ℕ) → s ≡ e ++ t → Leads e s
leads e s t p = p ∙ ap (λ (x : List ℕ). e ++ x) (sym (ap (drop (length e)) p ∙ drop-append_seam e t))

pub leads_more : (a b s : List ℕ) → Leads a s → Leads b (drop (length a) s) → Leads (a ++ b) s
leads_more a b s p q = leads (a ++ b) s _ (p ∙ ap (λ (x : List ℕ). a ++ x) q ∙ sym (append_assoc a b _))

pub leads_spelled : (e s : List ℕ) {n : ℕ} → n ≤ length s → e ≡ bytes_from s n 0 → Leads e s
leads_spelled e s {n} h p = leads e s _ (spelled s n 0 (omega arith) ∙ ap (λ (x : List ℕ). x ++ drop (n + 0) s) (sym p))
