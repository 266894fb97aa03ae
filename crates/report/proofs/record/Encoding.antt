-- Records as bytes: two's complement, the size of a record, and its figures read back from its bytes.
-- Assumes nothing.
use mathlib.Core.Path.{◌≡◌, refl, sym, ap, ◌∙◌}
use mathlib.Core.Bool.{Bool, true, false}
use mathlib.Core.List.{List, ◌++◌}
use Prim.Native.Nat.{ℕ, ◌+◌, ◌%◌, ◌-◌, ◌≤◌, ◌<◌}
use native.Mathlib.Nat.{div-add-mod'}
use native.Mathlib.Omega.{arith}
use native.Mathlib.Decide.{dec_le}
use borrow.Author.Tests.{lt-ltb, le-ltb}
use lib.IntN.{pos, negsuc}
use lib.ListN.{length, take}
use Rattle.flows.proofs.head.Offset.{sub_pos, sub_neg}
use Rattle.flows.specs.held.Stored.{stored_zero, oxygen_of}
use Rattle.report.specs.Record.{complement, from_complement, plain_bytes, nitrogenous_bytes, encode_plain, encode_nitrogenous, encode_record, record_bytes, nitrogenous_at, read_record, Figures}

-- stored oxygen in two's complement and back, below zero and from zero on
pub complement_below : (n : ℕ) → n < stored_zero → (n + stored_zero ≡ complement (oxygen_of n)) × (oxygen_of (n + stored_zero) ≡ from_complement n)
unfolding complement from_complement oxygen_of
complement_below n h =
    (sym (ap complement (sub_neg n stored_zero h) ∙ omega arith), sub_pos (n + stored_zero) stored_zero (omega arith) ∙ rw (lt-ltb n stored_zero h) (ap pos (omega arith)))

pub complement_above : (n : ℕ) → stored_zero ≤ n → n < 4_294_967_296 → (n - stored_zero ≡ complement (oxygen_of n)) × (oxygen_of (n - stored_zero) ≡ from_complement n)
unfolding complement from_complement oxygen_of
complement_above n h k =
    (sym (ap complement (sub_pos n stored_zero h)), sub_neg (n - stored_zero) stored_zero (omega arith) ∙ rw (le-ltb n stored_zero h) (ap negsuc (omega arith)))

-- which is 2^31 added around
pub complement_is : (n : ℕ) → n < 4_294_967_296 → (n + stored_zero) % 4_294_967_296 ≡ complement (oxygen_of n)
complement_is n h = by_order (dec_le stored_zero n)
  where
    by_order : Dec (stored_zero ≤ n) → (n + stored_zero) % 4_294_967_296 ≡ complement (oxygen_of n)
    by_order (yes k) = (let e : (n + stored_zero) % 4_294_967_296 ≡ n - stored_zero = omega arith in e) ∙ (complement_above n k h).0
    by_order (no k) = (let e : (n + stored_zero) % 4_294_967_296 ≡ n + stored_zero = omega arith in e) ∙ (complement_below n (omega arith)).0

pub complement_back : (n : ℕ) → n < 4_294_967_296 → oxygen_of ((n + stored_zero) % 4_294_967_296) ≡ from_complement n
complement_back n h = by_order (dec_le stored_zero n)
  where
    by_order : Dec (stored_zero ≤ n) → oxygen_of ((n + stored_zero) % 4_294_967_296) ≡ from_complement n
    by_order (yes k) = ap oxygen_of (let e : (n + stored_zero) % 4_294_967_296 ≡ n - stored_zero = omega arith in e) ∙ (complement_above n k h).1
    by_order (no k) = ap oxygen_of (let e : (n + stored_zero) % 4_294_967_296 ≡ n + stored_zero = omega arith in e) ∙ (complement_below n (omega arith)).1

-- two's complement in four bytes can hold the oxygen figures, and without nitrification there is no nitrogenous BOD
pub record Writable (nitrified : Bool) (f : Figures) : Type 0 where
  pub head : from_complement (complement f.head_oxygen) ≡ f.head_oxygen
  pub critical : from_complement (complement f.critical_oxygen) ≡ f.critical_oxygen
  pub foot : from_complement (complement f.foot_oxygen) ≡ f.foot_oxygen
  pub plain : nitrified ≡ false → (f.head_nitrogenous ≡ 0) × (f.foot_nitrogenous ≡ 0)

-- a record has its size, which is that of an `RP` record at least and with an `RN` record at most
pub record_length : (nitrified : Bool) (f : Figures) → length (encode_record nitrified f) ≡ record_bytes nitrified
unfolding encode_record encode_plain encode_nitrogenous
record_length true f = refl
record_length false f = refl

pub record_bounds : (nitrified : Bool) → (plain_bytes ≤ record_bytes nitrified) × (record_bytes nitrified ≤ plain_bytes + nitrogenous_bytes)
record_bounds true = omega arith
record_bounds false = omega arith

-- a record begins with the `RP` record
pub plain_first : (nitrified : Bool) (f : Figures) → take plain_bytes (encode_record nitrified f) ≡ encode_plain f
unfolding encode_record encode_plain
plain_first nitrified f = refl

-- the figures of a record are read back from its bytes
pub read_back : (nitrified : Bool) (f : Figures) (post : List ℕ) → Writable nitrified f → read_record nitrified (encode_record nitrified f ++ post) ≡ f
unfolding read_record encode_record encode_plain encode_nitrogenous nitrogenous_at
read_back true f post w = simp (div-add-mod', w.head, w.critical, w.foot)
read_back false f post w =
    let z = w.plain refl in
    simp (div-add-mod', w.head, w.critical, w.foot)
    (λ i.
    record {
      depth = f.depth;
      flow = f.flow;
      head_bod = f.head_bod;
      foot_bod = f.foot_bod;
      head_oxygen = f.head_oxygen;
      critical_instant = f.critical_instant;
      critical_oxygen = f.critical_oxygen;
      foot_oxygen = f.foot_oxygen;
      status = f.status;
      head_nitrogenous = sym z.0 i;
      foot_nitrogenous = sym z.1 i;
    })
