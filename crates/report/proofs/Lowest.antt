-- The critical point is the lowest of the values, at the first instant that has it.
use mathlib.Core.Path.{◌≡◌, refl, subst, sym}
use mathlib.Core.Bool.{Bool, true, false, not, cond}
use mathlib.Core.Logic.{◌⊎◌, inl, inr}
use Prim.Native.Nat.{ℕ, zero, suc, ◌≤◌, ◌<◌}
use native.Mathlib.Nat.{le_refl}
use native.Mathlib.Omega.{arith}
use lib.Dec.{T, leb, leb→le, nleb→lt, ltb→lt, le→leb}
use lib.IntN.{ℤ, pos, negsuc}
use lib.Signed.{lt_z, ◌≤ℤ◌, ◌<ℤ◌, lt_z_yes, lt_z_no, ≤ℤ_refl, <ℤ_irrefl, <ℤ-≤ℤ_trans}
use Rattle.report.specs.Program.{Critical, lower, lowest}
use Rattle.report.specs.Ties.{FirstLowest}

-- a critical point is the first lowest of the values at instants 0 to n
abbrev pub Lowest : (ℕ → ℤ) → ℕ → Critical → Type 0
Lowest at n c = FirstLowest at n c.instant c.oxygen

pub <ℤ_weak : {a b : ℤ} → a <ℤ b → a ≤ℤ b
<ℤ_weak {a = pos a} {b = pos b} h = record { le = le→leb a b (weak (ltb→lt a b h.lt)) }
  where
    weak : a < b → a ≤ b
    weak k = omega arith
<ℤ_weak {a = pos a} {b = negsuc b} h = absurd h.lt
<ℤ_weak {a = negsuc a} {b = pos b} h = record { le = tt }
<ℤ_weak {a = negsuc a} {b = negsuc b} h = record { le = le→leb b a (weak (ltb→lt b a h.lt)) }
  where
    weak : b < a → b ≤ a
    weak k = omega arith

-- an instant up to the next one is the next one, or no later than this one
last_or_before : (k m : ℕ) → k ≤ suc m → (k ≤ m) ⊎ (suc m ≡ k)
last_or_before k m h = go (leb k m) refl
  where
    go : (t : Bool) → leb k m ≡ t → (k ≤ m) ⊎ (suc m ≡ k)
    go true e = inl (leb→le k m (subst T (sym e) tt))
    go false e = inr (here (nleb→lt k m (subst (λ (x : Bool). T (not x)) (sym e) tt)))
      where
        here : m < k → suc m ≡ k
        here l = omega arith

lower_first : (at : ℕ → ℤ) (m : ℕ) (c : Critical) → Lowest at m c → (t : Bool) → (T t → at (suc m) <ℤ c.oxygen) → (T (not t) → c.oxygen ≤ℤ at (suc m)) → Lowest at (suc m) (cond t (record { instant = suc m; oxygen = at (suc m) }) c)
lower_first at m c h true below above =
    record {
      within = le_refl (suc m);
      value = refl;
      least = λ k l. pick k (last_or_before k m l);
      first = λ k l. <ℤ-≤ℤ_trans (below tt) (h.least k (omega arith));
    }
  where
    pick : (k : ℕ) → (k ≤ m) ⊎ (suc m ≡ k) → at (suc m) ≤ℤ at k
    pick k (inl l) = <ℤ_weak (<ℤ-≤ℤ_trans (below tt) (h.least k l))
    pick k (inr e) = subst (λ (x : ℕ). at (suc m) ≤ℤ at x) e (≤ℤ_refl (at (suc m)))
lower_first at m c h false below above =
    record {
      within = omega (arith, h.within);
      value = h.value;
      least = λ k l. pick k (last_or_before k m l);
      first = h.first;
    }
  where
    pick : (k : ℕ) → (k ≤ m) ⊎ (suc m ≡ k) → c.oxygen ≤ℤ at k
    pick k (inl l) = h.least k l
    pick k (inr e) = subst (λ (x : ℕ). c.oxygen ≤ℤ at x) e (above tt)

-- the definition's critical point is the first lowest
pub lowest_first : (at : ℕ → ℤ) (n : ℕ) → Lowest at n (lowest at n)
unfolding lowest lower
lowest_first at zero =
    record {
      within = le_refl zero;
      value = refl;
      least = λ m l. subst (λ (x : ℕ). at 0 ≤ℤ at x) (zero_of m l) (≤ℤ_refl (at 0));
      first = λ m l. absurd (none_below m l);
    }
  where
    zero_of : (m : ℕ) → m ≤ 0 → 0 ≡ m
    zero_of m l = omega arith

    none_below : (m : ℕ) → m < 0 → ⊥
    none_below m l = omega arith
lowest_first at (suc m) =
    lower_first at m (lowest at m) (lowest_first at m) (lt_z (at (suc m)) (lowest at m).oxygen) lt_z_yes lt_z_no

-- no value is below itself
not_below : (v : ℤ) → lt_z v v ≡ false
not_below v = go (lt_z v v) refl
  where
    go : (t : Bool) → lt_z v v ≡ t → t ≡ false
    go true e = absurd (<ℤ_irrefl (lt_z_yes {a = v} (subst T (sym e) tt)))
    go false e = refl

-- where all values are the same, the head is the critical point
pub lowest_constant : (at : ℕ → ℤ) (v : ℤ) (n : ℕ) → ((m : ℕ) → m ≤ n → at m ≡ v) → lowest at n ≡ record { instant = 0; oxygen = v }
unfolding lowest lower
lowest_constant at v zero h = rw (h 0 (le_refl 0))
lowest_constant at v (suc m) h =
    rw (lowest_constant at v m (λ k l. h k (omega arith)), h (suc m) (le_refl (suc m)), not_below v)
