-- Records that are read one behind the other: what is read at a place, and what the records that are still due then answer.
-- Assumes nothing.
use Prim.Native.Nat.{ℕ, ◌+◌}
use mathlib.Core.Path.{◌≡◌, refl, sym, ◌∙◌}
use mathlib.Core.List.{List, [], ◌∷◌}
use mathlib.Core.Bool.{Bool, true, false, cond}
use native.Mathlib.Nat.{add-zero}
use native.Mathlib.Omega.{arith}
use lib.Dec.{leb}
use lib.ListN.{length, drop, length-append}
use lib.Seq.{drop-drop}
use Rattle.std.specs.Prelude.{Option, Some, None, Result, Ok, Err, IfOk}
use Rattle.std.specs.Borrow.{Bor}
use Rattle.std.specs.Fn.{Once}
use Rattle.river.specs.Bytes.{Mark, marked}
use Rattle.river.specs.Described.{Described, value_at, kind_of}
use Rattle.river.specs.Fields.{numbers_at, all_within}
use Rattle.river.specs.Optional.{Kind, Values, read_optional, read_optionals, encode_optionals}
use Rattle.river.specs.Refusal.{Answer, accepted, refused, need, choose, after}
use Rattle.river.specs.declared.read.Taken.{Taken}
use Rattle.river.specs.declared.refusal.Refusal.{Refusal}
use Rattle.river.specs.declared.refusal.Rule.TheVariants.{CutShort, FieldRange}
use Rattle.river.specs.held.Optionals.{Decodes, Takes, ReadsOn, decoded, in_range_at, found_in, length_if}
use Rattle.river.proofs.Answers.{after_after}
use Rattle.river.proofs.card.Described.{record_long}

-- What is read at a place.

module _ (d : Described) where
  -- what its decoder finds is what its kind reads
  pub found_is : (i : ℕ) (s : List ℕ) → found_in d.mark (kind_of d).size i s (decoded d) ≡ read_optional (kind_of d) i s
  unfolding found_in read_optional choose need
  found_is i s = go (marked s d.mark) (leb (kind_of d).size (length s)) (all_within d.fields (numbers_at d.fields s 2))
    where
      go : (a b t : Bool) → choose a (need b CutShort i (in_range_at i (cond t (Some (value_at d s)) None))) (accepted None)
          ≡ choose a (need b CutShort i (need t FieldRange i (accepted (Some (value_at d s))))) (accepted None)
      go true true true = refl
      go true true false = refl
      go true false t = refl
      go false b t = refl

  -- its record has its length
  length_is : (v : Option d.Value) → length_if (kind_of d).size v ≡ length ((kind_of d).encode v)
  length_is None = refl
  length_is (Some v) = sym (record_long d (d.numbers v))

  -- a record that is taken by a decoder of the description is read
  pub reads_on : {F : Type 0} {g : Once F (Bor (List ℕ) × Unit {0}) (Option d.Value)} {f : F} {size i : ℕ} {s : List ℕ} {at : ℕ} {r : Result (Taken (Option d.Value)) Refusal}
      → size ≡ (kind_of d).size → Decodes g f (decoded d) → Takes g f d.mark size i s at r → ReadsOn (kind_of d) i s at r
  reads_on {size = size} {i} {s} {at} {r} e decodes takes =
      record { answer = takes.answer (decoded d) decodes ∙ rw e (found_is i (drop at s)); next = go r takes.next }
    where
      go : (r : Result (Taken (Option d.Value)) Refusal) → IfOk r (λ taken. taken.next ≡ at + length_if size taken.value) → IfOk r (λ taken. taken.next ≡ at + length ((kind_of d).encode taken.value))
      go (Ok taken) h = h ∙ rw (e, length_is)
      go (Err x) h = h

-- What a record with a mark and a length is taken as.

module _ {F A : Type 0} {g : Once F (Bor (List ℕ) × Unit {0}) (Option A)} {f : F} {m : Mark} {size i at : ℕ} {s rest : List ℕ} {r : Answer (Option A)}
    (behind : rest ≡ drop at s) (answer : (decode : List ℕ → Option A) → Decodes g f decode → r ≡ found_in m size i rest decode) where
  pub taken : {v : Option A} {next : ℕ} → r ≡ accepted v → next ≡ at + length_if size v → Takes g f m size i s at (Ok (record { value = v; next = next }))
  unfolding after
  taken e n = record { answer = λ decode d. sym e ∙ rw behind at (answer decode d); next = n }

  pub not_taken : {x : Refusal} {y : Result (Taken (Option A)) Refusal} → r ≡ refused x → y ≡ Err x → Takes g f m size i s at y
  unfolding after
  not_taken e n = rw n (record { answer = λ decode d. sym e ∙ rw behind at (answer decode d); next = tt })

-- Records that are due.

-- an answer is that of the kinds which are still due at a place; behind all of them is the place that their lengths lead to
pub record Due {A : Type 0} (x : Answer A) (ks : List Kind) (i : ℕ) (s : List ℕ) (at : ℕ) (f : Values ks → Answer A) (behind : Values ks → ℕ) : Type 0 where
  pub is : x ≡ after (read_optionals ks i (drop at s)) f
  pub leads : (vs : Values ks) → at + length (encode_optionals ks vs) ≡ behind vs

-- all of them
pub all_due : {A : Type 0} (ks : List Kind) (i : ℕ) (s : List ℕ) (at : ℕ) (f : Values ks → Answer A) → Due (after (read_optionals ks i (drop at s)) f) ks i s at f (λ vs. at + length (encode_optionals ks vs))
all_due ks i s at f = record { is = refl; leads = λ vs. refl }

-- what is read of the first of them decides what comes next: a refusal, or the records behind
module _ {A : Type 0} {x : Answer A} {k : Kind} {ks : List Kind} {i : ℕ} {s : List ℕ} {at : ℕ} {f : Values (k ∷ ks) → Answer A} {behind : Values (k ∷ ks) → ℕ} {r : Result (Taken k.Value) Refusal}
    (read : ReadsOn k i s at r) where
  pub next_due : {taken : Taken k.Value} → r ≡ Ok taken → Due x (k ∷ ks) i s at f behind → Due x ks i s taken.next (λ vs. f (taken.value, vs)) (λ vs. behind (taken.value, vs))
  unfolding read_optionals after
  next_due {taken} e due =
      let h = rw e at read in
      record {
        is = due.is ∙ rw (← h.answer, h.next, ← drop-drop (length (k.encode taken.value)) at s) (after_after (read_optionals ks i _) _ f);
        leads = λ vs. let before = due.leads (taken.value, vs) in omega (arith, h.next, length-append (k.encode taken.value) (encode_optionals ks vs), before);
      }

  pub stops : {e : Refusal} → r ≡ Err e → Due x (k ∷ ks) i s at f behind → x ≡ refused e
  unfolding read_optionals after
  stops e due = let h = rw e at read in due.is ∙ rw (← h.answer)

-- none of them
pub none_due : {A : Type 0} {x : Answer A} {i : ℕ} {s : List ℕ} {at : ℕ} {f : Values [] → Answer A} {behind : Values [] → ℕ} → Due x [] i s at f behind → (x ≡ f tt) × (at ≡ behind tt)
unfolding read_optionals after
none_due due = (due.is, sym (add-zero _) ∙ due.leads tt)
