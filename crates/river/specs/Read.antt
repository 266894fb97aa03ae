-- Reading: the river of a river file, or the first refusal in file order.
use Rattle.std.specs.Prelude.{List, [], ◌∷◌, ℕ, zero, suc, length, drop, leb, eqb}
use Rattle.river.specs.declared.card.Card.{Card}
use Rattle.river.specs.Bytes.{byte_at, two_at, four_at, marked}
use Rattle.river.specs.Card.{RV, RE, header_bytes, reach_bytes, optional, optionals_of, count_ok, in_range, outlet_ok, size_of}
use Rattle.river.specs.Optional.{Values, absent, read_optional, read_optionals}
use Rattle.river.specs.Refusal.{Answer, accepted, need, after}
use Rattle.river.specs.River.{River, river_of}
use Rattle.river.specs.Records.{factors_record}
use Rattle.river.specs.declared.refusal.Rule.TheVariants.{CutShort, WrongMark, ReachCount, FieldRange, WrongOutlet, BytesLeft}

-- the header of a file: 1, 2, 3, with reach 0, or the reach count
unfoldable pub read_header : List ℕ → Answer ℕ
read_header s =
    need (leb header_bytes (length s)) CutShort 0
    (need (marked s RV) WrongMark 0 (need (count_ok (two_at s 2)) ReachCount 0 (accepted (two_at s 2))))

-- the card in an `RE` record, with what it holds of the records that follow
unfoldable pub card_at : List ℕ → Values optional → Card
card_at s vs =
    record {
      outlet = byte_at s 2;
      temperature = byte_at s 3;
      k1 = two_at s 4;
      k2 = two_at s 6;
      volume = four_at s 8;
      inflow = four_at s 12;
      inflow_bod = four_at s 16;
      inflow_oxygen = two_at s 20;
      load = four_at s 22;
      dam = vs.0;
      optionals = optionals_of vs.1;
    }

-- reach i of n at the start of the bytes: 1, 2, 4, 5, then the records that follow its `RE` record, or its card
unfoldable pub read_reach : ℕ → ℕ → List ℕ → Answer Card
read_reach n i s =
    need (leb reach_bytes (length s)) CutShort i
    (need (marked s RE) WrongMark i
    (need (in_range (card_at s (absent optional))) FieldRange i
    (need (outlet_ok n i (card_at s (absent optional)).outlet) WrongOutlet i
    (after (read_optionals optional i (drop reach_bytes s)) (λ vs. accepted (card_at s vs))))))

-- the reaches from i on, of n, where m are due; 6, with reach 0, if bytes remain after the last record
unfoldable pub read_reaches : ℕ → ℕ → ℕ → List ℕ → Answer (List Card)
read_reaches n i zero s = need (eqb (length s) 0) BytesLeft 0 (accepted [])
read_reaches n i (suc m) s =
    after (read_reach n i s)
    (λ c. after (read_reaches n (suc i) m (drop (size_of c) s)) (λ cs. accepted (c ∷ cs)))

-- the rate factors, with reach 0, where `Th` is the mark behind the header, and then card after card, of n
unfoldable pub read_rest : ℕ → List ℕ → Answer River
read_rest n s =
    after (read_optional factors_record 0 s)
    (λ f. after (read_reaches n 1 n (drop (length (factors_record.encode f)) s)) (λ cs. accepted (river_of f cs)))

-- a river file: the header, and what follows it
unfoldable pub read_file : List ℕ → Answer River
read_file s = after (read_header s) (λ n. read_rest n (drop header_bytes s))
