-- Fields, whatever their widths and ranges: their numbers are read from their bytes, the bytes of what is read are those that it was read
-- from, and the test of their ranges holds exactly where all numbers are in range.
-- Assumes nothing.
use Prim.Native.Nat.{ℕ, zero, suc, ◌+◌, ◌%◌, ◌≤◌}
use mathlib.Core.Path.{◌≡◌, refl, ap, ap₂, sym, ◌∙◌}
use mathlib.Core.Bool.{Bool, true, ◌&&◌}
use mathlib.Core.List.{List, [], ◌∷◌, ◌++◌, append_assoc}
use native.Mathlib.Nat.{le_trans, div-add-mod', mod-eq_of_lt, add_assoc, suc-add, add-zero, zero-add}
use native.Mathlib.Numerals.{add-one}
use native.Mathlib.Omega.{arith}
use lib.Arith.{digits_div, digits_mod}
use lib.Dec.{leb}
use lib.ListN.{length, drop, length-append}
use lib.Seq.{get_or-drop, drop-drop, drop_at}
use borrow.Author.Tests.{le-leb, leb-true}
use Rattle.river.specs.Bytes.{AreBytes, byte_at, four_at, four_bytes}
use Rattle.river.specs.Fields.{Width, one, two, four, eight, bytes_of, largest, number_at, number_bytes, Field, Within, within, Numbers, widths, numbers_at, numbers_bytes, AllWithin, all_within}
use Rattle.river.proofs.Answers.{both, both_true}
use Rattle.river.proofs.bytes.Numbers.{bytes_from, four_at_below, narrow_bytes_two_at, four_bytes_four_at}

-- Ranges.

pub within_true : (f : Field) (n : ℕ) → Within f n → within f n ≡ true
unfolding within
within_true f n h = both (le-leb _ _ h.least) (le-leb _ _ h.most)

pub true_within : (f : Field) (n : ℕ) → within f n ≡ true → Within f n
unfolding within
true_within f n e = let t = both_true e in record { least = leb-true _ _ t.left; most = leb-true _ _ t.right }

pub all_within_true : (fs : List Field) (ns : Numbers fs) → AllWithin fs ns → all_within fs ns ≡ true
unfolding all_within
all_within_true [] ns h = refl
all_within_true (f ∷ fs) ns h = both (within_true f ns.0 h.0) (all_within_true fs ns.1 h.1)

pub true_all_within : (fs : List Field) (ns : Numbers fs) → all_within fs ns ≡ true → AllWithin fs ns
unfolding all_within
true_all_within [] ns e = tt
true_all_within (f ∷ fs) ns e =
    let t = both_true {a = within f ns.0} e in (true_within f ns.0 t.left, true_all_within fs ns.1 t.right)

-- the widths hold the numbers in range; a test, which computes for fields that are given
abbrev pub fits : List Field → Bool
fits [] = true
fits (f ∷ fs) = leb f.most (largest f.width) && fits fs

-- Lengths.

length_number : (w : Width) (n : ℕ) → length (number_bytes w n) ≡ bytes_of w
length_number one n = refl
length_number two n = refl
length_number four n = refl
length_number eight n = refl

pub length-numbers : (fs : List Field) (ns : Numbers fs) → length (numbers_bytes fs ns) ≡ widths fs
length-numbers [] ns = refl
length-numbers (f ∷ fs) ns =
    length-append (number_bytes f.width ns.0) (numbers_bytes fs ns.1) ∙ ap₂ ◌+◌ (length_number f.width ns.0) (length-numbers fs ns.1)

-- Reading what was encoded.

number_back : (w : Width) (n : ℕ) (post : List ℕ) → n ≤ largest w → number_at w (number_bytes w n ++ post) 0 ≡ n
number_back one n post h = refl
number_back two n post h = div-add-mod' (n % 65536) 256 ∙ mod-eq_of_lt (omega arith)
number_back four n post h = simp div-add-mod'
number_back eight n post h = simp div-add-mod'

-- a number from a place on is that at the start of what stands there
number_here : (w : Width) (s : List ℕ) (k : ℕ) → number_at w s k ≡ number_at w (drop k s) 0
number_here one s k = simp (get_or-drop, add-zero)
number_here two s k = simp (get_or-drop, add-zero)
number_here four s k = simp (get_or-drop, add-zero, add_assoc)
number_here eight s k = simp (get_or-drop, add-zero, add_assoc)

-- a number whose bytes stand at a place is read there, and what follows it stands behind
record ReadHere (w : Width) (n : ℕ) (s : List ℕ) (k : ℕ) (rest : List ℕ) : Type 0 where
  number : number_at w s k ≡ n
  behind : drop (k + bytes_of w) s ≡ rest

read_here : (w : Width) (n : ℕ) (s : List ℕ) (k : ℕ) {rest : List ℕ} → n ≤ largest w → drop k s ≡ number_bytes w n ++ rest → ReadHere w n s k rest
read_here w n s k {rest} h e =
    record {
      number = number_here w s k ∙ ap (λ (l : List ℕ). number_at w l 0) e ∙ number_back w n rest h;
      behind = sym (drop-drop (bytes_of w) k s) ∙ ap (drop (bytes_of w)) e ∙ drop_at (number_bytes w n) rest (bytes_of w) (length_number w n);
    }

pub numbers_back : (fs : List Field) (ns : Numbers fs) (s : List ℕ) (k : ℕ) (post : List ℕ) → fits fs ≡ true → AllWithin fs ns
    → drop k s ≡ numbers_bytes fs ns ++ post → numbers_at fs s k ≡ ns
numbers_back [] ns s k post t h e = refl
numbers_back (f ∷ fs) ns s k post t h e =
    let fit = both_true {a = leb f.most (largest f.width)} t in
    let here = read_here f.width ns.0 s k (le_trans h.0.most (leb-true _ _ fit.left)) (e ∙ append_assoc (number_bytes f.width ns.0) (numbers_bytes fs ns.1) post) in
    let rest = numbers_back fs ns.1 s (k + bytes_of f.width) post fit.right h.1 here.behind in
    λ i. (here.number i, rest i)

-- What was read, encoded.

pub from_add : (s : List ℕ) (m n k : ℕ) → bytes_from s (m + n) k ≡ bytes_from s m k ++ bytes_from s n (k + m)
from_add s zero n k = rw (zero-add, add-zero)
from_add s (suc m) n k =
    let same : suc k + m ≡ k + suc m = omega arith in
    rw suc-add (ap (λ (l : List ℕ). byte_at s k ∷ l) (from_add s m n (suc k) ∙ ap (λ (j : ℕ). bytes_from s m (suc k) ++ bytes_from s n j) same))

four_spelled : (s : List ℕ) (k : ℕ) → AreBytes s → four_bytes (four_at s k) ≡ bytes_from s 4 k
four_spelled s k h = four_bytes_four_at s k h ∙ simp add-one (sym (from_add s 2 2 k))

number_spelled : (w : Width) (s : List ℕ) (k : ℕ) → AreBytes s → number_bytes w (number_at w s k) ≡ bytes_from s (bytes_of w) k
number_spelled one s k h = refl
number_spelled two s k h = narrow_bytes_two_at s k h ∙ rw add-one
number_spelled four s k h = four_spelled s k h
number_spelled eight s k h =
    let low = four_at_below s (k + 4) h in
    ap₂ (λ (x y : ℕ). four_bytes x ++ four_bytes y) (digits_div (four_at s k) low) (digits_mod (four_at s k) low) ∙
    ap₂ (λ (x y : List ℕ). x ++ y) (four_spelled s k h) (four_spelled s (k + 4) h) ∙
    sym (from_add s 4 4 k)

pub numbers_spelled : (fs : List Field) (s : List ℕ) (k : ℕ) → AreBytes s → numbers_bytes fs (numbers_at fs s k) ≡ bytes_from s (widths fs) k
numbers_spelled [] s k h = refl
numbers_spelled (f ∷ fs) s k h =
    let w = f.width in
    ap₂ ◌++◌ (number_spelled w s k h) (numbers_spelled fs s (k + bytes_of w) h) ∙ sym (from_add s (bytes_of w) (widths fs) k)
