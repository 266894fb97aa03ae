-- The optional records of a card as the program reads them, one behind the other.
use Rattle.std.specs.Prelude.{◌≡◌, Result, IfOk, Option, Some, None, cond, List, ℕ, ◌+◌, length, drop, leb}
use Rattle.river.specs.declared.read.Taken.{Taken}
use Rattle.river.specs.declared.refusal.Refusal.{Refusal}
use Rattle.river.specs.declared.refusal.Rule.TheVariants.{CutShort, FieldRange}
use Rattle.std.specs.Borrow.{Bor}
use Rattle.std.specs.Fn.{Once}
use Rattle.river.specs.Described.{Described, value_at}
use Rattle.river.specs.Fields.{numbers_at, all_within}
use Rattle.river.specs.Bytes.{Mark, marked}
use Rattle.river.specs.Optional.{Kind, read_optional}
use Rattle.river.specs.Refusal.{Answer, accepted, refused, refuse, need, choose, after}

-- a decoder of records gives what a function of their bytes does
abbrev pub Decodes : {F A : Type 0} → Once F (Bor (List ℕ) × Unit {0}) (Option A) → F → (List ℕ → Option A) → Type 0
Decodes g f decoded = (b : Bor (List ℕ)) (v : _) → g.post f (b, tt) v → v ≡ decoded b.now

-- the value in the bytes of a described record, if its numbers are in range
abbrev pub decoded : (d : Described) → List ℕ → Option d.Value
decoded d s = cond (all_within d.fields (numbers_at d.fields s 2)) (Some (value_at d s)) None

module _ {A : Type 0} where
  -- a value that was decoded is accepted, and a record without one is out of range at reach i
  abbrev pub in_range_at : ℕ → Option A → Answer (Option A)
  in_range_at i None = refused (refuse FieldRange i)
  in_range_at i (Some v) = accepted (Some v)

  -- the answer for the record with a mark and a length at the start of the bytes, by a decoder: cut short at reach i where they end within it
  unfoldable pub found_in : Mark → ℕ → ℕ → List ℕ → (List ℕ → Option A) → Answer (Option A)
  found_in m size i s decode =
      choose (marked s m) (need (leb size (length s)) CutShort i (in_range_at i (decode s))) (accepted None)

  -- the length of a record, if there is one
  abbrev pub length_if : ℕ → Option A → ℕ
  length_if size None = 0
  length_if size (Some v) = size

-- what was taken, without the place behind it
abbrev pub value_of : {A : Type 0} → Result (Taken A) Refusal → Answer A
value_of r = after r (λ taken. accepted taken.value)

-- a record with a mark and a length is taken at a place, by a decoder: its refusal, or its value, and the place behind it
pub record Takes {F A : Type 0} (g : Once F (Bor (List ℕ) × Unit {0}) (Option A)) (f : F) (m : Mark) (size i : ℕ) (s : List ℕ) (at : ℕ) (r : Result (Taken (Option A)) Refusal) : Type 0 where
  pub answer : (decode : List ℕ → Option A) → Decodes g f decode → value_of r ≡ found_in m size i (drop at s) decode
  pub next : IfOk r (λ taken. taken.next ≡ at + length_if size taken.value)

-- a record is read at a place: its refusal, or its value, and the place behind it
pub record ReadsOn (k : Kind) (i : ℕ) (s : List ℕ) (at : ℕ) (r : Result (Taken k.Value) Refusal) : Type 0 where
  pub answer : value_of r ≡ read_optional k i (drop at s)
  pub next : IfOk r (λ taken. taken.next ≡ at + length (k.encode taken.value))
