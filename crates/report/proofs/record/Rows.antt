-- Rows of bytes of one size, one behind the other: row i stands at size × i, and one more row goes behind the others.
-- Assumes nothing.
use mathlib.Core.Path.{◌≡◌, refl, sym, ap, ap₂, ◌∙◌}
use mathlib.Core.List.{List, ◌++◌, append_assoc}
use Prim.Native.Nat.{ℕ, zero, suc, ◌+◌, ◌*◌, ◌≤◌, ◌<◌}
use native.Mathlib.Decide.{dec_le}
use native.Mathlib.Nat.{mul-zero, mul-suc, mul-le-mul_left, not-suc-le-zero, le_refl}
use native.Mathlib.Omega.{arith}
use lib.ListN.{length, take, drop, length-append}
use lib.Seq.{sets, length-sets, sets-eq, take_at, drop_at, drop-append-add, drop-drop}
use Rattle.report.specs.Report.{first_rows}

-- a list begins with another
pub record Begins (front whole : List ℕ) : Type 0 where
  pub rest : List ℕ
  pub is : whole ≡ front ++ rest

-- a buffer that holds the first n rows and then what stood there before
pub record Filled (row : ℕ → List ℕ) (size : ℕ) (before : List ℕ) (n : ℕ) (buffer : List ℕ) : Type 0 where
  pub is : buffer ≡ first_rows row n ++ drop (size * n) before
  pub same : length buffer ≡ length before

pub fill_start : (row : ℕ → List ℕ) (size : ℕ) (before : List ℕ) → Filled row size before 0 before
unfolding first_rows
fill_start row size before =
    record { is = ap (λ (k : ℕ). drop k before) (sym (mul-zero size)); same = refl }

-- a row has room where all of them have
pub row_fits : (size : ℕ) {i n room : ℕ} → i < n → size * n ≤ room → size * i + size ≤ room
row_fits size {i} l h = omega (arith, mul-le-mul_left size l, mul-suc size i)

module _ (row : ℕ → List ℕ) (size : ℕ) (long : (i : ℕ) → length (row i) ≡ size) where
  -- how many bytes the first rows have
  pub rows_length : (n : ℕ) → length (first_rows row n) ≡ size * n
  unfolding first_rows
  rows_length zero = sym (mul-zero size)
  rows_length (suc n) =
      length-append (first_rows row n) (row n) ∙ ap₂ ◌+◌ (rows_length n) (long n) ∙ sym (mul-suc size n)

  stands_last : (n i : ℕ) (post : List ℕ) → i ≡ n → Begins (row i) (drop (size * i) (first_rows row n ++ (row n ++ post)))
  stands_last n i post e =
      rw e (record { rest = post; is = drop_at (first_rows row n) (row n ++ post) (size * n) (rows_length n) })

  -- row i stands at its place
  pub stands : (n i : ℕ) (post : List ℕ) → i < n → Begins (row i) (drop (size * i) (first_rows row n ++ post))
  unfolding first_rows
  stands zero i post l = absurd (not-suc-le-zero l)
  stands (suc n) i post l =
      rw (append_assoc (first_rows row n) (row n) post)
      (elim (dec_le n i) [ yes h ↦ stands_last n i post (omega arith) | no h ↦ stands n i (row n ++ post) (omega arith) ])

  -- one more row
  pub fill_more :
      {before buffer after : List ℕ} {n : ℕ} →
      Filled row size before n buffer →
      size * n + size ≤ length buffer →
      after ≡ sets buffer (size * n) (row n) →
      Filled row size before (suc n) after
  unfolding first_rows
  fill_more {before} {buffer} {after} {n} h room e =
      record {
        is =
            e
            ∙ sets-eq (row n) buffer (size * n) (rw (long n) room)
            ∙ ap₂ (λ (front rest : List ℕ). front ++ row n ++ rest) front rest;
        same = ap length e ∙ length-sets buffer (size * n) (row n) ∙ h.same;
      }
    where
      front : take (size * n) buffer ≡ first_rows row n
      front = ap (take (size * n)) h.is ∙ take_at (first_rows row n) (drop (size * n) before) (size * n) (rows_length n)

      rest : drop (size * n + length (row n)) buffer ≡ drop (size * suc n) before
      rest =
          ap₂ drop (ap₂ ◌+◌ (sym (rows_length n)) (long n)) h.is
          ∙ drop-append-add (first_rows row n) (drop (size * n) before) size
          ∙ drop-drop size (size * n) before
          ∙ ap (λ (k : ℕ). drop k before) (sym (mul-suc size n))

-- rows that agree place by place make the same bytes
pub same_rows : {row other : ℕ → List ℕ} (n : ℕ) → ((i : ℕ) → i < n → row i ≡ other i) → first_rows row n ≡ first_rows other n
unfolding first_rows
same_rows zero h = refl
same_rows (suc n) h = ap₂ ◌++◌ (same_rows n (λ i l. h i (omega arith))) (h n (le_refl (suc n)))
