-- Optional records: what a kind must satisfy, and what follows from it for the records of a list of kinds whose marks differ. They are read
-- from their bytes, whatever is read is their bytes, and no list of kinds needs a proof of its own.
-- Assumes nothing.
use Prim.Native.Nat.{ℕ, ◌≤◌}
use mathlib.Core.Logic.{◌⊎◌, inl, inr}
use mathlib.Core.Path.{◌≡◌, refl, ap, sym, subst, ◌∙◌}
use mathlib.Core.List.{List, [], ◌∷◌, ◌++◌, append_assoc}
use mathlib.Core.Bool.{Bool, true, false, not, ◌&&◌}
use native.Mathlib.Omega.{arith}
use lib.ListN.{length, drop, length-append}
use lib.Seq.{drop-append_seam}
use borrow.Author.Tests.{le-leb, leb-true, not-true}
use Rattle.river.specs.Bytes.{AreBytes, Mark, marked, mark_bytes}
use Rattle.river.specs.Optional.{Kind, Values, read_optional, read_optionals, encode_optionals, AllInRange, optionals_in_range, sizes}
use Rattle.river.specs.Refusal.{accepted}
use Rattle.river.proofs.Answers.{need_true, choose_true, choose_false, after_accepted, passed, went, both, both_true}
use Rattle.river.proofs.bytes.Numbers.{HasMark, true_marked, marked_true, marked_other, bytes_from, Leads, leads_spelled, leads_more, are_bytes_drop}

-- a value that has a record: the record begins with the mark and has the kind's length; where the value is in range, it passes the test and holds the value
pub record Present (k : Kind) (v : k.Value) : Type 0 where
  pub marks : (post : List ℕ) → HasMark (k.encode v ++ post) k.mark
  pub long : length (k.encode v) ≡ k.size
  pub passes : (post : List ℕ) → k.in_range v ≡ true → k.test (k.encode v ++ post) ≡ true
  pub back : (post : List ℕ) → k.in_range v ≡ true → k.decode (k.encode v ++ post) ≡ v

-- what a kind must satisfy
pub record Sound (k : Kind) : Type 0 where
  pub none_empty : k.encode k.none ≡ []
  pub none_in_range : k.in_range k.none ≡ true
  pub cases : (v : k.Value) → (v ≡ k.none) ⊎ Present k v
  pub in_range : (s : List ℕ) → k.test s ≡ true → k.in_range (k.decode s) ≡ true
  pub spells : (s : List ℕ) → AreBytes s → HasMark s k.mark → k.test s ≡ true → k.encode (k.decode s) ≡ bytes_from s k.size 0

-- what is read as a value: it is in range, and its bytes lead
pub record IsOptional (k : Kind) (s : List ℕ) (v : k.Value) : Type 0 where
  pub in_range : k.in_range v ≡ true
  pub bytes : Leads (k.encode v) s

module _ (k : Kind) (law : Sound k) (i : ℕ) where
  pub read_optional_encode : (v : k.Value) (post : List ℕ) → k.in_range v ≡ true → marked post k.mark ≡ false
      → read_optional k i (k.encode v ++ post) ≡ accepted v
  unfolding read_optional
  read_optional_encode v post r e = go (law.cases v)
    where
      room : Present k v → k.size ≤ length (k.encode v ++ post)
      room p = omega (arith, p.long, length-append (k.encode v) post)

      go : (v ≡ k.none) ⊎ Present k v → read_optional k i (k.encode v ++ post) ≡ accepted v
      go (inl p) = rw (p, law.none_empty) (choose_false _ _ _ e)
      go (inr p) =
          choose_true _ _ _ (marked_true (p.marks post)) ∙
          need_true _ _ _ _ (le-leb _ _ (room p)) ∙
          need_true _ _ _ _ (p.passes post r) ∙
          ap accepted (p.back post r)

  pub read_optional_is : (s : List ℕ) (v : k.Value) → AreBytes s → read_optional k i s ≡ accepted v → IsOptional k s v
  unfolding read_optional
  read_optional_is s v h e = go (marked s k.mark) refl
    where
      go : (b : Bool) → marked s k.mark ≡ b → IsOptional k s v
      go true m =
          let p = passed _ _ _ _ (sym (choose_true _ _ _ m) ∙ e) in
          let q = passed _ _ _ _ p.rest in
          let same : k.decode s ≡ v = cc q.rest in
          subst (IsOptional k s) same
          (record {
            in_range = law.in_range s q.test;
            bytes = leads_spelled _ s (leb-true _ _ p.test) (law.spells s h (true_marked s k.mark m) q.test);
          })
      go false m =
          let same : k.none ≡ v = cc (sym (choose_false _ _ _ m) ∙ e) in
          subst (IsOptional k s) same (record { in_range = law.none_in_range; bytes = rw law.none_empty })

-- Lists of kinds.

abbrev pub AllSound : List Kind → Type 0
AllSound [] = Unit
AllSound (k ∷ ks) = Sound k × AllSound ks

-- tests of marks, which compute for a list that is given: no kind has the mark; all marks differ; no kind's mark is at the start of the bytes
abbrev unused : Mark → List Kind → Bool
unused m [] = true
unused m (k ∷ ks) = not (marked (mark_bytes k.mark) m) && unused m ks

abbrev pub different : List Kind → Bool
different [] = true
different (k ∷ ks) = unused k.mark ks && different ks

abbrev pub unmarked : List Kind → List ℕ → Bool
unmarked [] s = true
unmarked (k ∷ ks) s = not (marked s k.mark) && unmarked ks s

-- a mark that no kind has is not at the start of the kinds' records
other_mark : (ks : List Kind) → AllSound ks → (m : Mark) (vs : Values ks) (post : List ℕ) → unused m ks ≡ true → marked post m ≡ false
    → marked (encode_optionals ks vs ++ post) m ≡ false
other_mark [] laws m vs post u e = e
other_mark (k ∷ ks) laws m vs post u e =
    let t = both_true {a = not (marked (mark_bytes k.mark) m)} u in
    rw append_assoc (go (other_mark ks laws.1 m vs.1 post t.right e) (laws.0.cases vs.0))
  where
    rest : List ℕ
    rest = encode_optionals ks vs.1 ++ post

    go : marked rest m ≡ false → (vs.0 ≡ k.none) ⊎ Present k vs.0 → marked (k.encode vs.0 ++ rest) m ≡ false
    go f (inl p) = rw (p, laws.0.none_empty) f
    go f (inr p) = marked_other m (p.marks rest) (not-true _ (both_true u).left)

-- the records are read from their bytes, where they are not followed by a record of these kinds
pub read_optionals_encode : (ks : List Kind) → AllSound ks → different ks ≡ true → (i : ℕ) (vs : Values ks) (post : List ℕ)
    → optionals_in_range ks vs ≡ true → unmarked ks post ≡ true → read_optionals ks i (encode_optionals ks vs ++ post) ≡ accepted vs
unfolding read_optionals optionals_in_range
read_optionals_encode [] laws d i vs post r u = refl
read_optionals_encode (k ∷ ks) laws d i vs post r u =
    let rest = encode_optionals ks vs.1 ++ post in
    let differ = both_true d in
    let in_range = both_true r in
    let free = both_true {a = not (marked post k.mark)} u in
    let clear = other_mark ks laws.1 k.mark vs.1 post differ.left (not-true _ free.left) in
    rw append_assoc
    (after_accepted _ _ (read_optional_encode k laws.0 i vs.0 rest in_range.left clear) ∙
    after_accepted _ _
    (rw drop-append_seam (read_optionals_encode ks laws.1 differ.right i vs.1 post in_range.right free.right)))

-- values are in range exactly where the test of it holds
pub all_in_range_true : (ks : List Kind) (vs : Values ks) → AllInRange ks vs → optionals_in_range ks vs ≡ true
unfolding optionals_in_range
all_in_range_true [] vs h = refl
all_in_range_true (k ∷ ks) vs h = both h.0 (all_in_range_true ks vs.1 h.1)

pub true_all_in_range : (ks : List Kind) (vs : Values ks) → optionals_in_range ks vs ≡ true → AllInRange ks vs
unfolding optionals_in_range
true_all_in_range [] vs e = tt
true_all_in_range (k ∷ ks) vs e = let t = both_true {a = k.in_range vs.0} e in (t.left, true_all_in_range ks vs.1 t.right)

-- what is read as values: they are in range, and their bytes lead
pub record AreOptionals (ks : List Kind) (s : List ℕ) (vs : Values ks) : Type 0 where
  pub in_range : optionals_in_range ks vs ≡ true
  pub bytes : Leads (encode_optionals ks vs) s

are_more : (k : Kind) (ks : List Kind) {s : List ℕ} {v : k.Value} {vs : Values ks} → IsOptional k s v → AreOptionals ks (drop (length (k.encode v)) s) vs
    → AreOptionals (k ∷ ks) s (v, vs)
unfolding optionals_in_range
are_more k ks {s} {v} {vs} p q =
    record {
      in_range = both p.in_range q.in_range;
      bytes = leads_more (k.encode v) (encode_optionals ks vs) s p.bytes q.bytes;
    }

pub read_optionals_are : (ks : List Kind) → AllSound ks → (i : ℕ) (s : List ℕ) (vs : Values ks) → AreBytes s
    → read_optionals ks i s ≡ accepted vs → AreOptionals ks s vs
unfolding read_optionals optionals_in_range
read_optionals_are [] laws i s vs h e = record { in_range = refl; bytes = refl }
read_optionals_are (k ∷ ks) laws i s vs h e =
    let p = went _ _ e in
    let q = went _ _ p.then in
    let n = length (k.encode p.value) in
    let same : ◌≡◌ {A = Values (k ∷ ks)} (p.value, q.value) vs = cc q.then in
    subst (AreOptionals (k ∷ ks) s) same
    (are_more k ks (read_optional_is k laws.0 i s p.value h p.first)
    (read_optionals_are ks laws.1 i (drop n s) q.value (are_bytes_drop n h) q.first))

-- a record is at most as long as its kind says, and records are at most as long as those of all their kinds
pub optional_small : (k : Kind) → Sound k → (v : k.Value) → length (k.encode v) ≤ k.size
optional_small k law v = go (law.cases v)
  where
    go : (v ≡ k.none) ⊎ Present k v → length (k.encode v) ≤ k.size
    go (inl p) = rw (p, law.none_empty) (omega arith)
    go (inr p) = omega (arith, p.long)

pub optionals_small : (ks : List Kind) → AllSound ks → (vs : Values ks) → length (encode_optionals ks vs) ≤ sizes ks
optionals_small [] laws vs = omega arith
optionals_small (k ∷ ks) laws vs =
    omega (arith, length-append (k.encode vs.0) (encode_optionals ks vs.1), optional_small k laws.0 vs.0, optionals_small ks laws.1 vs.1)
