-- A reach is read from its card's records, and whatever is read as a reach is a lawful card's records.
-- Assumes nothing.
use Prim.Native.Nat.{ℕ, ◌%◌, ◌≤◌}
use mathlib.Core.Path.{◌≡◌, refl, ap, sym, subst, ◌∙◌}
use mathlib.Core.List.{List, [], ◌∷◌, ◌++◌}
use mathlib.Core.Bool.{true}
use native.Mathlib.Nat.{div-add-mod', mod-eq_of_lt}
use native.Mathlib.Omega.{arith}
use lib.ListN.{length, drop}
use lib.Seq.{drop_at}
use borrow.Author.Tests.{le-leb, leb-true}
use Rattle.river.specs.Bytes.{AreBytes, byte_at}
use Rattle.river.specs.Card.{RatesInRange, LawfulCard, RE, optional, optional_of, blank, in_range, outlet_ok, size_of}
use Rattle.river.specs.Optional.{Values, absent, read_optional, read_optionals, encode_optionals}
use Rattle.river.specs.Read.{card_at, read_reach}
use Rattle.river.specs.Records.{rate_most}
use Rattle.river.specs.Refusal.{accepted, choose, after}
use Rattle.river.specs.Write.{encode_reach, encode_card}
use Rattle.river.specs.declared.card.Card.{Card}
use Rattle.river.proofs.Answers.{need_true, after_accepted, passed, went}
use Rattle.river.proofs.bytes.Numbers.{HasMark, true_marked, two_bytes_two_at, narrow_bytes_two_at, four_bytes_four_at, four_at_below, bytes_from, leads_spelled, leads_more, are_bytes_drop}
use Rattle.river.proofs.range.Ranges.{in_range_true, lawful_card, lawful_optionals}
use Rattle.river.proofs.card.Optional.{unmarked, AreOptionals, read_optionals_encode, read_optionals_are}
use Rattle.river.proofs.card.Rows.{sound_optional, length_encode_card}

-- the fields of an `RE` record do not depend on the records that follow
pub in_range_card_at : (s : List ℕ) (vs ws : Values optional) → in_range (card_at s vs) ≡ in_range (card_at s ws)
unfolding in_range card_at
in_range_card_at s vs ws = refl

-- where no byte is, no record is found and every number is zero
pub blank_is : {vs : Values optional} {c : Card} → read_optionals optional 0 [] ≡ accepted vs → c ≡ card_at (0 ∷ []) vs → c ≡ blank
unfolding card_at read_optionals read_optional choose after
blank_is {vs} e f = let same : vs ≡ absent optional = cc in f ∙ ap (card_at (0 ∷ [])) same

-- Reading what was encoded.

-- two bytes hold a rate in range
rate_held : {k : ℕ} → k ≤ rate_most → k % 65536 ≡ k
rate_held h = mod-eq_of_lt (omega arith)

card_at_encode : (c : Card) (post : List ℕ) → RatesInRange c → card_at (encode_card c ++ post) (optional_of c) ≡ c
unfolding card_at
card_at_encode c post h = simp (div-add-mod', rate_held h.k1, rate_held h.k2)

room_for_reach : (c : Card) (post : List ℕ) → 26 ≤ length (encode_card c ++ post)
room_for_reach c post = omega arith

-- a lawful card is read from its records, where they are not followed by one that may follow an `RE` record
pub read_reach_encode : (n i : ℕ) (c : Card) (post : List ℕ) → LawfulCard n i c → unmarked optional post ≡ true
    → read_reach n i (encode_card c ++ post) ≡ accepted c
unfolding read_reach card_at
read_reach_encode n i c post h u =
    let s = encode_card c ++ post in
    need_true _ _ _ _ (le-leb _ _ (room_for_reach c post)) ∙
    need_true _ _ _ _ refl ∙
    need_true _ _ _ _ (in_range_card_at s (absent optional) (optional_of c) ∙ rw (card_at_encode c post h.rates) (in_range_true c h.regular.in_range h.rates)) ∙
    need_true _ _ _ _ h.regular.outlet ∙
    after_accepted _ _ (read_optionals_encode optional sound_optional refl i (optional_of c) post (lawful_optionals h) u) ∙
    ap accepted (card_at_encode c post h.rates)

pub drop_encode_card : (c : Card) (post : List ℕ) → drop (size_of c) (encode_card c ++ post) ≡ post
drop_encode_card c post = drop_at (encode_card c) post (size_of c) (length_encode_card c)

-- What was read, encoded.

-- the bytes of an `RE` record are those of the card in it
encode_reach_card_at : (s : List ℕ) (vs : Values optional) → AreBytes s → HasMark s RE → encode_reach (card_at s vs) ≡ bytes_from s 26 0
unfolding card_at
encode_reach_card_at s vs h m i =
    sym m.first i ∷
    sym m.second i ∷
    byte_at s 2 ∷
    byte_at s 3 ∷
    narrow_bytes_two_at s 4 h i ++
    narrow_bytes_two_at s 6 h i ++
    four_bytes_four_at s 8 h i ++
    four_bytes_four_at s 12 h i ++
    four_bytes_four_at s 16 h i ++ two_bytes_two_at s 20 h i ++ four_bytes_four_at s 22 h i

-- what is read as reach i of n: a lawful card, from its records
pub record IsReach (n i : ℕ) (s : List ℕ) (c : Card) : Type 0 where
  pub lawful : LawfulCard n i c
  pub bytes : s ≡ encode_card c ++ drop (size_of c) s

card_at_is : (n i : ℕ) (s : List ℕ) (vs : Values optional) → AreBytes s → 26 ≤ length s → HasMark s RE → in_range (card_at s (absent optional)) ≡ true
    → outlet_ok n i (byte_at s 2) ≡ true → AreOptionals optional (drop 26 s) vs → IsReach n i s (card_at s vs)
unfolding card_at
card_at_is n i s vs h l m r o p =
    let c = card_at s vs in
    record {
      lawful = lawful_card n i c (in_range_card_at s vs (absent optional) ∙ r) (four_at_below s 22 h) o p.in_range;
      bytes =
          leads_more (encode_reach c) (encode_optionals optional vs) s (leads_spelled _ s l (encode_reach_card_at s vs h m)) p.bytes ∙
          ap (λ (k : ℕ). encode_card c ++ drop k s) (length_encode_card c);
    }

pub read_reach_is : (n i : ℕ) (s : List ℕ) (c : Card) → AreBytes s → read_reach n i s ≡ accepted c → IsReach n i s c
unfolding read_reach card_at
read_reach_is n i s c h e =
    let p = passed _ _ _ _ e in
    let q = passed _ _ _ _ p.rest in
    let r = passed _ _ _ _ q.rest in
    let o = passed _ _ _ _ r.rest in
    let w = went _ _ o.rest in
    let same : card_at s w.value ≡ c = cc w.then in
    subst (IsReach n i s) same
    (card_at_is n i s w.value h (leb-true _ _ p.test) (true_marked s RE q.test) r.test o.test
    (read_optionals_are optional sound_optional i (drop 26 s) w.value (are_bytes_drop 26 h) w.first))
