-- Reading yields a river exactly for the files of lawful rivers; so each river has one file, of at most so many bytes.
-- Assumes nothing.
use Prim.Native.Nat.{ℕ, zero, suc, ◌*◌, ◌≤◌}
use mathlib.Core.Logic.{◌↔◌}
use mathlib.Core.Path.{◌≡◌, refl, ap, sym, subst, ◌∙◌}
use mathlib.Core.List.{List, [], ◌∷◌, ◌++◌}
use mathlib.Core.Bool.{true, false}
use native.Mathlib.Nat.{div-add-mod'}
use native.Mathlib.Omega.{arith}
use lib.ListN.{length, drop, length-append}
use lib.Seq.{drop-append_seam}
use borrow.Author.Tests.{le-leb, leb-true, eqb-true}
use Rattle.std.specs.Prelude.{Option, Some, None}
use Rattle.river.specs.Bytes.{AreBytes, two_at, marked}
use Rattle.river.specs.Card.{LawfulCard, EachFrom, RV, optional, size_of, longest_card}
use Rattle.river.specs.Described.{InRange}
use Rattle.river.specs.File.{IsFile}
use Rattle.river.specs.Read.{read_header, read_reaches, read_rest, read_file}
use Rattle.river.specs.Refusal.{accepted}
use Rattle.river.specs.River.{River, river_of, LawfulRiver, longest_file}
use Rattle.river.specs.Records.{Th, factors_record}
use Rattle.river.specs.Write.{encode, encode_card, encode_cards, encode_header}
use Rattle.river.specs.declared.card.RateFactors.{RateFactors}
use Rattle.river.specs.declared.card.Nitrification.{Nitrification}
use Rattle.river.specs.declared.card.Dam.{Dam}
use Rattle.river.specs.declared.card.Card.{Card}
use Rattle.river.proofs.Answers.{need_true, after_accepted, passed, went}
use Rattle.river.proofs.bytes.Numbers.{are_bytes_drop, true_marked, two_bytes_two_at, leads_spelled}
use Rattle.river.proofs.range.Ranges.{count_ok_true, true_count_ok}
use Rattle.river.proofs.card.Described.{in_range_true_lem, true_in_range_lem}
use Rattle.river.proofs.card.Optional.{unmarked, read_optional_encode, read_optional_is, optional_small}
use Rattle.river.proofs.card.Rows.{sound_factors, length_encode_card, size_small}
use Rattle.river.proofs.read.Records.{read_reach_encode, drop_encode_card, read_reach_is}

-- Reading what was encoded.

-- no cards' records begin with the record of rate factors or with one that may follow an `RE` record
no_factors_first : (cs : List Card) → marked (encode_cards cs) Th.mark ≡ false
no_factors_first [] = refl
no_factors_first (c ∷ cs) = refl

none_first : (cs : List Card) → unmarked optional (encode_cards cs) ≡ true
none_first [] = refl
none_first (c ∷ cs) = refl

read_reaches_encode : (n i : ℕ) (cs : List Card) → EachFrom LawfulCard n i cs → read_reaches n i (length cs) (encode_cards cs) ≡ accepted cs
unfolding read_reaches
read_reaches_encode n i [] h = need_true _ _ _ _ refl
read_reaches_encode n i (c ∷ cs) h =
    after_accepted _ _ (read_reach_encode n i c (encode_cards cs) h.0 (none_first cs)) ∙
    after_accepted _ _ (rw drop_encode_card (read_reaches_encode n (suc i) cs h.1))

read_header_encode : (n : ℕ) (rest : List ℕ) → 1 ≤ n → n ≤ 128 → read_header (encode_header n ++ rest) ≡ accepted n
unfolding read_header
read_header_encode n rest p q =
    need_true _ _ _ _ (le-leb 4 (length (encode_header n ++ rest)) (omega arith)) ∙
    need_true _ _ _ _ refl ∙
    need_true _ _ _ _ (rw div-add-mod' (count_ok_true n p q)) ∙
    ap accepted (div-add-mod' n 256)

read_rest_encode : (r : River) → LawfulRiver r → read_rest (length r.cards) (factors_record.encode r.factors ++ encode_cards r.cards) ≡ accepted r
unfolding read_rest
read_rest_encode r h =
    let cs = r.cards in
    after_accepted _ _ (read_optional_encode factors_record sound_factors 0 r.factors (encode_cards cs) (in_range_true_lem Th r.factors h.factors) (no_factors_first cs)) ∙
    after_accepted _ _ (rw drop-append_seam (read_reaches_encode (length cs) 1 cs h.cards.each))

-- THEOREM: the file of a lawful river is read as this river
pub reads_lawful : (r : River) → LawfulRiver r → read_file (encode r) ≡ accepted r
unfolding read_file encode
reads_lawful r h =
    after_accepted _ _ (read_header_encode (length r.cards) (factors_record.encode r.factors ++ encode_cards r.cards) h.cards.some h.cards.few) ∙
    read_rest_encode r h

-- What was read, encoded.

record AreReaches (n i m : ℕ) (s : List ℕ) (cs : List Card) : Type 0 where
  lawful : EachFrom LawfulCard n i cs
  count : length cs ≡ m
  bytes : s ≡ encode_cards cs

empty : (s : List ℕ) → length s ≡ 0 → s ≡ []
empty [] e = refl
empty (x ∷ s) e = absurd (let h : ⊥ = omega arith in h)

read_reaches_is : (n i m : ℕ) (s : List ℕ) (cs : List Card) → AreBytes s → read_reaches n i m s ≡ accepted cs → AreReaches n i m s cs
unfolding read_reaches
read_reaches_is n i zero s cs h e =
    let p = passed _ _ _ _ e in
    let same : [] ≡ cs = cc p.rest in
    subst (AreReaches n i 0 s) same
    (record { lawful = tt; count = refl; bytes = empty s (eqb-true _ _ p.test) })
read_reaches_is n i (suc m) s cs h e =
    let p = went _ _ e in
    let q = went _ _ p.then in
    let r = read_reach_is n i s p.value h p.first in
    let t = drop (size_of p.value) s in
    let rest = read_reaches_is n (suc i) m t q.value (are_bytes_drop (size_of p.value) h) q.first in
    let same : p.value ∷ q.value ≡ cs = cc q.then in
    subst (AreReaches n i (suc m) s) same
    (record {
      lawful = (r.lawful, rest.lawful);
      count = ap suc rest.count;
      bytes = r.bytes ∙ ap (λ (x : List ℕ). encode_card p.value ++ x) rest.bytes;
    })

record IsHeader (s : List ℕ) (n : ℕ) : Type 0 where
  some : 1 ≤ n
  few : n ≤ 128
  bytes : s ≡ encode_header n ++ drop 4 s

read_header_is : (s : List ℕ) (n : ℕ) → AreBytes s → read_header s ≡ accepted n → IsHeader s n
unfolding read_header
read_header_is s n h e =
    let p = passed _ _ _ _ e in
    let q = passed _ _ _ _ p.rest in
    let r = passed _ _ _ _ q.rest in
    let m = true_marked s RV q.test in
    let ok = true_count_ok (two_at s 2) r.test in
    let same : two_at s 2 ≡ n = cc r.rest in
    subst (IsHeader s) same
    (record {
      some = ok.0;
      few = ok.1;
      bytes = leads_spelled _ s (leb-true _ _ p.test) (λ j. sym m.first j ∷ sym m.second j ∷ two_bytes_two_at s 2 h j);
    })

record IsRest (n : ℕ) (s : List ℕ) (r : River) : Type 0 where
  factors : InRange Th r.factors
  cards : EachFrom LawfulCard n 1 r.cards
  count : length r.cards ≡ n
  bytes : s ≡ factors_record.encode r.factors ++ encode_cards r.cards

read_rest_is : (n : ℕ) (s : List ℕ) (r : River) → AreBytes s → read_rest n s ≡ accepted r → IsRest n s r
unfolding read_rest
read_rest_is n s r h e =
    let p = went _ _ e in
    let q = went _ _ p.then in
    let f = p.value in
    let k = length (factors_record.encode f) in
    let a = read_optional_is factors_record sound_factors 0 s f h p.first in
    let b = read_reaches_is n 1 n (drop k s) q.value (are_bytes_drop k h) q.first in
    let same : river_of f q.value ≡ r = cc q.then in
    subst (IsRest n s) same
    (record {
      factors = true_in_range_lem Th f a.in_range;
      cards = b.lawful;
      count = b.count;
      bytes = a.bytes ∙ ap (λ (x : List ℕ). factors_record.encode f ++ x) b.bytes;
    })

-- THEOREM: whatever is read as a river is the file of this river, and it is lawful
pub reads_only_lawful : (s : List ℕ) (r : River) → AreBytes s → read_file s ≡ accepted r → IsFile s r
unfolding read_file encode
reads_only_lawful s r h e =
    let p = went _ _ e in
    let n = p.value in
    let a = read_header_is s n h p.first in
    let b = read_rest_is n (drop 4 s) r (are_bytes_drop 4 h) p.then in
    let same : n ≡ length r.cards = sym b.count in
    record {
      lawful =
          record {
            factors = b.factors;
            cards =
                record {
                  some = rw same at a.some;
                  few = rw same at a.few;
                  each = rw same at b.cards;
                };
          };
      bytes =
          a.bytes ∙
          ap (λ (x : List ℕ). encode_header n ++ x) b.bytes ∙
          ap (λ (x : ℕ). encode_header x ++ factors_record.encode r.factors ++ encode_cards r.cards) same;
    }

-- THEOREM: reading yields a river exactly for the files of lawful rivers
pub reads_exactly : (s : List ℕ) (r : River) → AreBytes s → (read_file s ≡ accepted r) ↔ IsFile s r
reads_exactly s r h = (reads_only_lawful s r h, λ f. rw f.bytes (reads_lawful r f.lawful))

-- THEOREM: each river has one file
pub one_file : (s t : List ℕ) (r : River) → AreBytes s → AreBytes t → read_file s ≡ accepted r → read_file t ≡ accepted r → s ≡ t
one_file s t r h k p q = (reads_only_lawful s r h p).bytes ∙ sym (reads_only_lawful t r k q).bytes

-- THEOREM: each file has one river
pub one_river : (x y : River) → LawfulRiver x → LawfulRiver y → encode x ≡ encode y → x ≡ y
one_river x y p q e =
    let a = reads_lawful x p in
    let b = reads_lawful y q in
    let c = ap read_file e in
    cc

-- a value and none are not equal
some_or_none : {A B : Type 0} {v : B} (f : A → Option B) (x y : A) → f x ≡ None → f y ≡ Some v → x ≡ y → ⊥
some_or_none f x y p q e = let z : ◌≡◌ {A = ℕ} 0 1 = cc (ap f e) in omega arith

-- THEOREM: rate factors make another river than none, whatever their numbers, 1,000 too
pub factors_or_none : {factors : RateFactors} (x y : River) → x.factors ≡ None → y.factors ≡ Some factors → x ≡ y → ⊥
factors_or_none = some_or_none (λ r. r.factors)

-- THEOREM: and another file
pub factors_in_file : {factors : RateFactors} (x y : River) → LawfulRiver x → LawfulRiver y → x.factors ≡ None → y.factors ≡ Some factors → encode x ≡ encode y → ⊥
factors_in_file x y l k p q e = factors_or_none x y p q (one_river x y l k e)

-- THEOREM: a dam makes another card than no dam, whatever its numbers
pub dam_or_none : {dam : Dam} (c d : Card) → c.dam ≡ None → d.dam ≡ Some dam → c ≡ d → ⊥
dam_or_none = some_or_none (λ c. c.dam)

-- THEOREM: a take makes another card than no take, whatever its number, 0 too; and so, by `one_river`, another file
pub take_or_none : {n : ℕ} (c d : Card) → c.optionals.take ≡ None → d.optionals.take ≡ Some n → c ≡ d → ⊥
take_or_none = some_or_none (λ c. c.optionals.take)

-- THEOREM: a pressure likewise, 760 too
pub pressure_or_none : {n : ℕ} (c d : Card) → c.optionals.pressure ≡ None → d.optionals.pressure ≡ Some n → c ≡ d → ⊥
pressure_or_none = some_or_none (λ c. c.optionals.pressure)

-- THEOREM: a sludge bed likewise, one of demand 0 too
pub sludge_or_none : {n : ℕ} (c d : Card) → c.optionals.sludge ≡ None → d.optionals.sludge ≡ Some n → c ≡ d → ⊥
sludge_or_none = some_or_none (λ c. c.optionals.sludge)

-- THEOREM: a nitrification likewise, one of zeros too
pub nitrification_or_none : {nitrification : Nitrification} (c d : Card) → c.optionals.nitrification ≡ None → d.optionals.nitrification ≡ Some nitrification → c ≡ d → ⊥
nitrification_or_none = some_or_none (λ c. c.optionals.nitrification)

-- each card's records are at most as long as the longest card's
cards_length : (cs : List Card) → length (encode_cards cs) ≤ longest_card * length cs
cards_length [] = omega arith
cards_length (c ∷ cs) =
    omega (arith, length-append (encode_card c) (encode_cards cs), length_encode_card c, size_small c, cards_length cs)

-- THEOREM: the file of a lawful river is at most as long as the longest file
pub file_length : (r : River) → LawfulRiver r → length (encode r) ≤ longest_file
unfolding encode
file_length r h =
    omega (arith, length-append (factors_record.encode r.factors) (encode_cards r.cards), optional_small factors_record sound_factors r.factors, cards_length r.cards, h.cards.few)
