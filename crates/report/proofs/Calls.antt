-- What every call on a river file promises follows from its answer, what it leaves behind and when it is accepted: 0 is no refusal's result.
-- The rows of calls are named here so that they are checked first.
-- Assumes nothing.
pub mod Numbers
use mathlib.Core.Path.{◌≡◌, refl, sym, ap, ◌∙◌}
use mathlib.Core.Logic.{◌↔◌}
use Prim.Native.Nat.{ℕ}
use native.Mathlib.Omega.{arith}
use Rattle.river.specs.declared.refusal.Refusal.{Refusal}
use Rattle.river.specs.Refusal.{Answer, accepted, refused, after as then}
use Rattle.river.proofs.Answers.{never, after_accepted, after_refused}
use Rattle.report.specs.held.Answers.{Answers}
use Rattle.report.specs.Call.{result_of, lent_after, Called}
use Rattle.report.proofs.CallRows
use Rattle.report.proofs.Calls.Numbers.{numbered, read_refusal}

-- an answer is accepted
pub record IsAccepted {A : Type 0} (answer : Answer A) : Type 0 where
  pub value : A
  pub is : answer ≡ accepted value

-- THEOREM: the promise of a call
pub called :
    {A Lent : Type 0} (write : A → Lent → Lent) {Exactly : Type 0} {before after : Lent} {result : ℕ} (answer : Answer A) →
    (IsAccepted answer ↔ Exactly) →
    result ≡ result_of answer →
    after ≡ lent_after write answer before →
    Called answer write Exactly before after result
unfolding result_of lent_after
called write (accepted a) when e leaves =
    record {
      returns = e;
      refuses = λ h. absurd (h e);
      exactly = ((λ _. when.0 (record { value = a; is = refl })), λ _. e);
      leaves = leaves;
      writes = λ _. record { value = a; is = refl; written = leaves };
      untouched = λ h. absurd (h e);
    }
called write {result = result} (refused r) when e leaves =
    let some : result ≡ 0 → ⊥ = λ z. omega (arith, (numbered r.rule).some, z, e) in
    record {
      returns = e;
      refuses = λ h. read_refusal r e;
      exactly = ((λ z. absurd (some z)), λ h. never (when.1 h).is);
      leaves = leaves;
      writes = λ z. absurd (some z);
      untouched = λ _. leaves;
    }

-- ---- the program's own calls, below the entries

-- what an accepted call tells: what there is to tell of the answer's value
pub record Told {A B : Type 0} (answer : Answer A) (tell : A → B) (told : B) : Type 0 where
  pub value : A
  pub is : answer ≡ accepted value
  pub told_is : told ≡ tell value

module _ {A B Lent : Type 0} {answer : Answer A} {tell : A → B} {write : A → Lent → Lent} {told : Answer B} {before : Lent} where
  -- a refusal, which leaves what was lent as it was
  pub answers_refusal : {r : Refusal} → answer ≡ refused r → told ≡ refused r → Answers answer tell write told before before
  unfolding lent_after
  answers_refusal e t =
      record {
        told_is = t ∙ sym (after_refused answer _ e);
        leaves = sym (ap (λ (x : Answer A). lent_after write x before) e);
      }

  -- what was asked for
  pub answers_value :
      {after : Lent} {a : A} {b : B} →
      answer ≡ accepted a →
      told ≡ accepted b →
      b ≡ tell a →
      after ≡ write a before →
      Answers answer tell write told before after
  unfolding lent_after
  answers_value e t b w =
      record {
        told_is = t ∙ ap accepted b ∙ sym (after_accepted answer _ e);
        leaves = w ∙ sym (ap (λ (x : Answer A). lent_after write x before) e);
      }

-- what is told of an accepted value leaves the result as it is
pub told_result : {A B : Type 0} (x : Answer A) (tell : A → B) → result_of (then x (λ a. accepted (tell a))) ≡ result_of x
unfolding result_of then
told_result (accepted a) tell = refl
told_result (refused r) tell = refl

pub result_is : {A B Lent : Type 0} {x : Answer A} {tell : A → B} {write : A → Lent → Lent} (told : Answer B) {before after : Lent} → Answers x tell write told before after → result_of told ≡ result_of x
result_is {x = x} {tell} told h = ap result_of h.told_is ∙ told_result x tell

module _ {A B Lent : Type 0} {tell : A → B} {write : A → Lent → Lent} {before after : Lent} where
  -- the answer, by what is told
  pub refusal_told : (x : Answer A) {r : Refusal} → Answers x tell write (refused r) before after → x ≡ refused r
  unfolding then
  refusal_told (accepted a) h = never h.told_is
  refusal_told (refused s) h = cc (sym h.told_is)

  pub value_told : (x : Answer A) {told : B} → Answers x tell write (accepted told) before after → Told x tell told
  unfolding then
  value_told (accepted a) h = record { value = a; is = refl; told_is = same h.told_is }
    where
      same : {x y : B} → ◌≡◌ {A = Answer B} (accepted x) (accepted y) → x ≡ y
      same e = cc
  value_told (refused s) h = never (sym h.told_is)
