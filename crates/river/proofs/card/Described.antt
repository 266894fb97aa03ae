-- Described records: every one whose widths hold its ranges, and whose values and numbers make each other, is sound.
-- Assumes nothing.
use Prim.Native.Nat.{ℕ, ◌+◌}
use Rattle.std.specs.Prelude.{Option, Some, None}
use mathlib.Core.Logic.{◌⊎◌, inl, inr}
use mathlib.Core.Path.{◌≡◌, refl, ap, sym, ◌∙◌}
use mathlib.Core.Bool.{true}
use mathlib.Core.List.{List, ◌∷◌, ◌++◌}
use native.Mathlib.Omega.{arith}
use lib.ListN.{length}
use Rattle.river.specs.Bytes.{AreBytes, mark_bytes}
use Rattle.river.specs.Fields.{Numbers, applied, widths, numbers_at, numbers_bytes, AllWithin, all_within}
use Rattle.river.specs.Described.{Described, value_at, InRange, kind_of}
use Rattle.river.proofs.bytes.Numbers.{HasMark, bytes_from}
use Rattle.river.proofs.card.Fields.{fits, all_within_true, true_all_within, length-numbers, numbers_back, from_add, numbers_spelled}
use Rattle.river.proofs.card.Optional.{Present, Sound}

-- what a description must satisfy: its widths hold its ranges, and values and numbers in range make each other
pub record Lawful (d : Described) : Type 0 where
  pub fits : fits d.fields ≡ true
  pub value : (v : d.Value) → applied d.fields d.make (d.numbers v) ≡ v
  pub numbers : (ns : Numbers d.fields) → AllWithin d.fields ns → d.numbers (applied d.fields d.make ns) ≡ ns

module _ (d : Described) where
  -- a value is in range exactly where its test holds
  pub in_range_true_lem : (v : Option d.Value) → InRange d v → (kind_of d).in_range v ≡ true
  in_range_true_lem None h = refl
  in_range_true_lem (Some v) h = all_within_true d.fields (d.numbers v) h

  pub true_in_range_lem : (v : Option d.Value) → (kind_of d).in_range v ≡ true → InRange d v
  true_in_range_lem None e = tt
  true_in_range_lem (Some v) e = true_all_within d.fields (d.numbers v) e

  -- a record has its kind's length
  pub record_long : (ns : Numbers d.fields) → length (mark_bytes d.mark ++ numbers_bytes d.fields ns) ≡ (kind_of d).size
  record_long ns = omega (arith, length-numbers d.fields ns)

module _ (d : Described) (law : Lawful d) where
  -- the numbers of a record are read from it
  made_back : (ns : Numbers d.fields) (post : List ℕ) → all_within d.fields ns ≡ true → numbers_at d.fields (mark_bytes d.mark ++ numbers_bytes d.fields ns ++ post) 2 ≡ ns
  made_back ns post r = numbers_back d.fields ns (mark_bytes d.mark ++ numbers_bytes d.fields ns ++ post) 2 post law.fits (true_all_within d.fields ns r) refl

  -- a value has a record
  made_present : (v : d.Value) → Present (kind_of d) (Some v)
  made_present v =
      record {
        marks = λ post. record { first = refl; second = refl };
        long = record_long d (d.numbers v);
        passes = λ post r. rw (made_back (d.numbers v) post r) r;
        back = λ post r. ap Some (rw (made_back (d.numbers v) post r) (law.value v));
      }

  -- the bytes of a mark and of the numbers behind it are those that they were read from
  record_spelled : (s : List ℕ) → AreBytes s → HasMark s d.mark → mark_bytes d.mark ++ numbers_bytes d.fields (numbers_at d.fields s 2) ≡ bytes_from s (2 + widths d.fields) 0
  record_spelled s h m =
      (λ i. sym m.first i ∷ sym m.second i ∷ numbers_spelled d.fields s 2 h i) ∙ sym (from_add s 2 (widths d.fields) 0)

  -- the numbers of the value in a record are those in its bytes
  numbers_value : (s : List ℕ) → all_within d.fields (numbers_at d.fields s 2) ≡ true → d.numbers (value_at d s) ≡ numbers_at d.fields s 2
  numbers_value s r = law.numbers (numbers_at d.fields s 2) (true_all_within _ _ r)

  -- THEOREM: a described record is sound
  pub sound : Sound (kind_of d)
  sound =
      record {
        none_empty = refl;
        none_in_range = refl;
        cases = cases;
        in_range = λ s r. rw (numbers_value s r) r;
        spells = λ s h m r. rw (numbers_value s r) (record_spelled s h m);
      }
    where
      cases : (v : Option d.Value) → (v ≡ None) ⊎ Present (kind_of d) v
      cases None = inl refl
      cases (Some v) = inr (made_present v)
