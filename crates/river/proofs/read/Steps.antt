-- Reading a file step by step: what follows from the answer for the header, for the rate factors and for a reach.
-- Assumes nothing.
use Prim.Native.Nat.{ℕ, ◌≤◌}
use mathlib.Core.Path.{◌≡◌, ap, sym, ◌∙◌}
use mathlib.Core.List.{List}
use lib.ListN.{length, drop}
use Rattle.std.specs.Prelude.{Option, Result, Err}
use Rattle.river.specs.Bytes.{two_at}
use Rattle.river.specs.Card.{header_bytes}
use Rattle.river.specs.Optional.{read_optional}
use Rattle.river.specs.Read.{read_header, read_reaches, read_rest, read_file}
use Rattle.river.specs.held.Reader.{YieldsReach}
use Rattle.river.specs.Refusal.{Answer, accepted, refused, after}
use Rattle.river.specs.River.{river_of}
use Rattle.river.specs.Records.{factors_record}
use Rattle.river.specs.declared.card.Card.{Card}
use Rattle.river.specs.declared.card.RateFactors.{RateFactors}
use Rattle.river.specs.declared.read.Taken.{Taken}
use Rattle.river.specs.declared.refusal.Refusal.{Refusal}
use Rattle.river.proofs.Answers.{after_accepted, after_refused, passed}
use Rattle.river.proofs.range.Ranges.{true_count_ok}

-- a file by its header
pub header_few : (s : List ℕ) {n : ℕ} → read_header s ≡ accepted n → n ≤ 128
unfolding read_header
header_few s {n} e =
    let p = passed _ _ _ _ (passed _ _ _ _ (passed _ _ _ _ e).rest).rest in
    let same : two_at s 2 ≡ n = cc p.rest in
    rw same at (true_count_ok (two_at s 2) p.test).1

pub file_rest : (s : List ℕ) {n : ℕ} {rest : List ℕ} → read_header s ≡ accepted n → rest ≡ drop header_bytes s → read_file s ≡ read_rest n rest
unfolding read_file
file_rest s {n} e f = after_accepted _ _ e ∙ ap (read_rest n) (sym f)

pub header_refuses : (s : List ℕ) {r : Refusal} → read_header s ≡ refused r → read_file s ≡ refused r
unfolding read_file
header_refuses s e = after_refused _ _ e

-- what follows the header by the rate factors
pub rest_reaches : (n : ℕ) (s : List ℕ) {f : Option RateFactors} → read_optional factors_record 0 s ≡ accepted f
    → read_rest n s ≡ after (read_reaches n 1 n (drop (length (factors_record.encode f)) s)) (λ cs. accepted (river_of f cs))
unfolding read_rest
rest_reaches n s e = after_accepted _ _ e

pub factors_refuse : (n : ℕ) (s : List ℕ) {r : Refusal} → read_optional factors_record 0 s ≡ refused r → read_rest n s ≡ refused r
unfolding read_rest
factors_refuse n s e = after_refused _ _ e

-- a reach that is refused, at any position
pub refuses : {at : ℕ} {a : Answer Card} {x : Result (Taken Card) Refusal} {r : Refusal} → a ≡ refused r → x ≡ Err r → YieldsReach at a x
unfolding after
refuses e f = rw f (record { answer = sym e; place = tt })
