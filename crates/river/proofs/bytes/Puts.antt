-- Bytes put into a buffer one after the other.
-- Assumes nothing.
use Prim.Native.Nat.{ℕ, suc, ◌+◌, ◌≤◌, ◌<◌}
use mathlib.Core.Path.{◌≡◌, refl, ap, sym, ◌∙◌}
use mathlib.Core.List.{List, [], ◌∷◌, ◌++◌}
use native.Mathlib.Nat.{mod-eq_of_lt, add-zero, add-suc, suc-add}
use native.Mathlib.Numerals.{add-one}
use native.Mathlib.Omega.{arith}
use lib.ListN.{length, drop, set, length-append}
use lib.Seq.{sets, sets-eq, length-sets}
use Rattle.river.specs.Bytes.{Put, two_bytes, narrow_bytes}
use Rattle.river.specs.declared.bytes.Cursor.{Cursor}
use Rattle.river.specs.held.Cursors.{Puts}

sets_append : (b : List ℕ) (at : ℕ) (x y : List ℕ) → sets b at (x ++ y) ≡ sets (sets b at x) (at + length x) y
sets_append b at [] y = rw add-zero
sets_append b at (v ∷ x) y =
    sets_append (set b at v) (suc at) x y ∙
    ap (λ (k : ℕ). sets (sets (set b at v) (suc at) x) k y) (suc-add at (length x) ∙ sym (add-suc at (length x)))

-- two runs of bytes, one behind the other
pub chain : {b m l x y : List ℕ} {at k r : ℕ} → Put b at x m k → Put m k y l r → Put b at (x ++ y) l r
chain {b} {m} {l} {x} {y} {at} {k} {r} p q =
    record {
      buffer =
          q.buffer ∙
          (λ i. sets (p.buffer i) (p.place i) y) ∙
          sym (sets_append b at x y);
      place = omega (arith, p.place, q.place, length-append x y);
    }

-- two bytes hold a number below 65,536 as it is
pub held : (x : ℕ) {b l : List ℕ} {at k : ℕ} → x < 65536 → Put b at (two_bytes x) l k → Put b at (narrow_bytes x) l k
held x h p = rw (mod-eq_of_lt h) p

-- no bytes put
pub put_none : (b : List ℕ) (at : ℕ) → Put b at [] b at
put_none b at = record { buffer = refl; place = rw add-zero }

pub put_pair : (b : List ℕ) (at x y : ℕ) → Put b at (x ∷ y ∷ []) (set (set b at x) (at + 1) y) (at + 2)
put_pair b at x y = record { buffer = rw add-one; place = refl }

-- bytes put at the start
pub put_at_start : {b x l : List ℕ} {r : ℕ} → Put b 0 x l r → length x ≤ length b → l ≡ x ++ drop (length x) b
put_at_start {b} {x} p h = p.buffer ∙ sets-eq x b 0 (omega arith) ∙ ap (λ (k : ℕ). x ++ drop k b) (let e : 0 + length x ≡ length x = omega arith in e)

-- a buffer keeps its length
pub put_long : {b x l : List ℕ} {at k : ℕ} → Put b at x l k → length l ≡ length b
put_long {b} {x} {at = at} p = ap length p.buffer ∙ length-sets b at x

-- two runs of bytes at a cursor, one behind the other
pub puts : {a b c : Cursor} {x y : List ℕ} → Puts a x b → Puts b y c → Puts a (x ++ y) c
puts p q = record { same = q.same ∙ p.same; put = chain p.put q.put }
