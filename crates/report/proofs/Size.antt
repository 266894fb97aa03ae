-- The contract of the entry that tells the size of a file's records follows from the outcome of reading.
-- Assumes nothing.
use mathlib.Core.Path.{◌≡◌, refl, sym, ap, ap₂, ◌∙◌}
use mathlib.Core.Bool.{Bool, ◌||◌}
use mathlib.Core.List.{List, [], ◌∷◌, map}
use Prim.Native.Nat.{ℕ}
use native.Mathlib.Omega.{arith}
use Rattle.std.specs.Prelude.{Option, Some, None, is_some}
use Rattle.river.specs.declared.card.Card.{Card}
use Rattle.river.specs.declared.card.Nitrification.{Nitrification}
use Rattle.river.specs.declared.card.RateFactors.{RateFactors}
use Rattle.river.specs.declared.file.Reading.{Reading}
use Rattle.river.specs.File.{answer_of, Reads}
use Rattle.river.specs.River.{River}
use Rattle.flows.specs.Rates.{decay_in_force, with_rate, card_in_force}
use Rattle.river.specs.Read.{read_file}
use Rattle.river.specs.Refusal.{Answer, accepted, refused}
use Rattle.river.proofs.Answers.{never}
use Rattle.report.specs.Record.{is_nitrified, has_nitrification, record_size}
use Rattle.report.specs.Report.{size_answer, TellsSize}
use Rattle.report.proofs.record.Encoding.{record_bounds}

-- rates in force leave it whether there is nitrification
nitrifies_in_force : (change : ℕ → ℕ) (n : Option Nitrification) → is_some (with_rate change n) ≡ is_some n
nitrifies_in_force change None = refl
nitrifies_in_force change (Some n) = refl

pub nitrification_in_force : (f : Option RateFactors) (cs : List Card) → has_nitrification (map (card_in_force f) cs) ≡ has_nitrification cs
unfolding has_nitrification is_nitrified
nitrification_in_force f [] = refl
nitrification_in_force f (c ∷ cs) = ap₂ (λ (a b : Bool). a || b) (nitrifies_in_force (decay_in_force f c.temperature) c.optionals.nitrification) (nitrification_in_force f cs)

tells_of : {file : List ℕ} {result : ℕ} (x : Answer River) → read_file file ≡ x → result ≡ size_answer x → TellsSize file result
unfolding size_answer
tells_of (accepted river) e r =
    record {
      answer = r ∙ sym (ap size_answer e);
      size = λ other h. let same : river ≡ other = cc (e, h) in r ∙ ap (λ (x : River). record_size x.cards) same;
      zero = ((λ z. absurd (omega (arith, (record_bounds (has_nitrification river.cards)).0))), λ h. never (sym h.is ∙ e));
    }
tells_of (refused x) e r =
    record {
      answer = r ∙ sym (ap size_answer e);
      size = λ other h. never (sym e ∙ h);
      zero = ((λ z. record { refusal = x; is = e }), λ h. r);
    }

-- the contract, by what reading answers
pub tells : {file : List ℕ} {r : Answer Reading} {result : ℕ} → Reads file r → result ≡ size_answer (answer_of r) → TellsSize file result
tells {r = r} h e = tells_of (answer_of r) (sym h.answer) e
