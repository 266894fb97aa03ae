-- Words put one behind the other, and what is still to be put. Assumes nothing.
use mathlib.Core.Path.{◌≡◌, refl, subst, ◌∙◌}
use mathlib.Core.List.{List, [], ◌++◌}
use Prim.Native.Nat.{ℕ, ◌+◌, ◌≤◌}
use native.Mathlib.Nat.{add-zero}
use native.Mathlib.Omega.{arith}
use Rattle.river.specs.declared.bytes.Cursor.{Cursor}
use Rattle.river.specs.held.Cursors.{Puts}
use Rattle.river.proofs.bytes.Puts.{puts}
use Rattle.text.specs.held.Words.{PutsWithin}

-- two words, one behind the other
pub both : {before now exit : Cursor} {x y : List ℕ} {m n : ℕ} → PutsWithin m x before now → PutsWithin n y now exit → PutsWithin (m + n) (x ++ y) before exit
both p q = record { put = puts p.put q.put; within = omega (arith, p.within, q.within); long = q.long ∙ p.long }

-- a word by another name, of at most as many bytes as a word may have
pub reworded : {before exit : Cursor} {x y : List ℕ} {n : ℕ} → x ≡ y → PutsWithin n x before exit → PutsWithin n y before exit
reworded {before} {exit} {x} {y} {n} e p = subst (λ (word : List ℕ). PutsWithin n word before exit) e p

pub widened : {before exit : Cursor} {x : List ℕ} {m n : ℕ} → m ≤ n → PutsWithin m x before exit → PutsWithin n x before exit
widened l p = record { put = p.put; within = omega (arith, p.within); long = p.long }

-- nothing is put
nothing_put : (c : Cursor) → Puts c [] c
nothing_put c = record { same = refl; put = record { buffer = refl; place = rw add-zero } }

pub nothing : (c : Cursor) → PutsWithin 0 [] c c
nothing c = record { put = nothing_put c; within = omega arith; long = refl }

-- to put all at a cursor comes to putting the rest at the cursor as it is by now
pub record Remains (before : Cursor) (all : List ℕ) (now : Cursor) (rest : List ℕ) : Type 0 where
  pub comes : {exit : Cursor} → Puts now rest exit → Puts before all exit

-- one more word
pub goes_on :
    {before now exit : Cursor} {all rest word further : List ℕ} →
    Remains before all now rest →
    rest ≡ word ++ further →
    Puts now word exit →
    Remains before all exit further
goes_on h e p = record { comes = λ q. h.comes (rw e (puts p q)) }

-- nothing remains
pub ends : {before exit : Cursor} {all : List ℕ} → Remains before all exit [] → Puts before all exit
ends {exit = exit} h = h.comes (nothing_put exit)
