-- Optional records: each may follow or not, and is read at the start of the bytes that remain.
use Rattle.std.specs.Prelude.{Bool, true, ◌&&◌, ◌≡◌, List, [], ◌∷◌, ◌++◌, ℕ, ◌+◌, length, drop, leb}
use Rattle.river.specs.Bytes.{Mark, marked}
use Rattle.river.specs.Refusal.{Answer, accepted, need, choose, after}
use Rattle.river.specs.declared.refusal.Rule.TheVariants.{CutShort, FieldRange}

-- a kind of optional record
pub record Kind : Type 1 where
  -- its values, and the one that stands for no record
  pub Value : Type 0
  pub none : Value
  -- its mark, and its length with the mark
  pub mark : Mark
  pub size : ℕ
  -- the value in a record's bytes, and whether the fields in them are in range
  pub decode : List ℕ → Value
  pub test : List ℕ → Bool
  -- the record of a value, no byte for none, and whether the value's fields are in range
  pub encode : Value → List ℕ
  pub in_range : Value → Bool

-- if the next two bytes are the mark, that record follows, with 1 then 4 at reach i
unfoldable pub read_optional : (k : Kind) → ℕ → List ℕ → Answer k.Value
read_optional k i s =
    choose (marked s k.mark)
    (need (leb k.size (length s)) CutShort i (need (k.test s) FieldRange i (accepted (k.decode s))))
    (accepted k.none)

-- a value for each of some kinds
abbrev pub Values : List Kind → Type 0
Values [] = Unit
Values (k ∷ ks) = k.Value × Values ks

-- a type whose fields are what is held of some records: their kinds in file order, and both ways between a value of it and theirs
pub record Fielded (A : Type 0) : Type 1 where
  pub records : List Kind
  pub values : A → Values records
  pub make : Values records → A

-- none of the records
abbrev pub absent : (ks : List Kind) → Values ks
absent [] = tt
absent (k ∷ ks) = (k.none, absent ks)

-- the records of the kinds in this order, at most one of each, every one behind those before it
unfoldable pub read_optionals : (ks : List Kind) → ℕ → List ℕ → Answer (Values ks)
read_optionals [] i s = accepted tt
read_optionals (k ∷ ks) i s =
    after (read_optional k i s)
    (λ v. after (read_optionals ks i (drop (length (k.encode v)) s)) (λ vs. accepted (v, vs)))

abbrev pub encode_optionals : (ks : List Kind) → Values ks → List ℕ
encode_optionals [] vs = []
encode_optionals (k ∷ ks) vs = k.encode vs.0 ++ encode_optionals ks vs.1

-- all values are in range, and the test of it
abbrev pub AllInRange : (ks : List Kind) → Values ks → Type 0
AllInRange [] vs = Unit
AllInRange (k ∷ ks) vs = (k.in_range vs.0 ≡ true) × AllInRange ks vs.1

unfoldable pub optionals_in_range : (ks : List Kind) → Values ks → Bool
optionals_in_range [] vs = true
optionals_in_range (k ∷ ks) vs = k.in_range vs.0 && optionals_in_range ks vs.1

-- the length of the records where all of them follow
abbrev pub sizes : List Kind → ℕ
sizes [] = 0
sizes (k ∷ ks) = k.size + sizes ks
