-- What every call promises, at small answers: its result, and what it leaves. Computed from the definitions, and named by the law of every call, so that
-- these rows are checked first.
use mathlib.Core.Path.{◌≡◌, refl, ap}
use native.Mathlib.Omega.{arith}
use Prim.Native.Nat.{ℕ, ◌+◌}
use Rattle.river.specs.Refusal.{Answer, accepted, refused, refuse}
use Rattle.report.specs.Call.{result_of, lent_after, IsRefused}
use Rattle.river.specs.declared.refusal.Rule.TheVariants.{FieldRange}

-- an accepted 3, and a refusal with number 4 at reach 2
abbrev three : Answer ℕ
three = accepted 3

abbrev refusal : Answer ℕ
refusal = refused (refuse FieldRange 2)

pub record CallRows : Type 0 where
  -- 0, and number + 256 × reach
  pub accepted_result : result_of three ≡ 0
  pub refused_result : result_of refusal ≡ 516
  -- what is accepted is written, and a refusal leaves what was there
  pub written : lent_after ◌+◌ three 4 ≡ 7
  pub untouched : lent_after ◌+◌ refusal 4 ≡ 4
  -- the rule's number and the reach of a refusal, and no others
  pub told : IsRefused refusal 4 2
  pub other_number : IsRefused refusal 5 2 → ⊥
  pub other_reach : IsRefused refusal 4 3 → ⊥

pub call_rows : CallRows
unfolding result_of lent_after
call_rows =
    record {
      accepted_result = refl;
      refused_result = refl;
      written = refl;
      untouched = refl;
      told = record { rule = FieldRange; numbered = refl; is = refl };
      other_number = λ h. omega (arith, h.numbered, ap result_of h.is);
      other_reach = λ h. omega (arith, h.numbered, ap result_of h.is);
    }
