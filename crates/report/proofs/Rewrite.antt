-- The contract of the rewriting entry follows from that of `river::rewrite`. Assumes nothing.
use mathlib.Core.Path.{◌≡◌, refl, sym, ap, ◌∙◌}
use mathlib.Core.Logic.{◌↔◌}
use mathlib.Core.List.{List}
use Prim.Native.Nat.{ℕ}
use lib.ListN.{length}
use Rattle.river.specs.Refusal.{Answer, accepted, refused}
use Rattle.river.specs.Rewrite.{rewrite_answer, buffer_rewritten, Rewritable, WritesBack}
use Rattle.river.proofs.Answers.{never}
use Rattle.std.proofs.lemmas.Bool.{false≢true}
use Rattle.report.specs.Call.{result_of, lent_after}
use Rattle.report.specs.Rewrite.{file_written, Rewrites}
use Rattle.report.proofs.Calls.{IsAccepted, called}

lent_rewritten : (x : Answer Unit) (file before : List ℕ) → buffer_rewritten x file before ≡ lent_after (λ _. file_written file) x before
unfolding buffer_rewritten lent_after
lent_rewritten (accepted u) file before = refl
lent_rewritten (refused r) file before = refl

module _ {file before after : List ℕ} where
  -- rewriting is accepted exactly where the file can be rewritten
  rewritable : (r : Answer Unit) → WritesBack file before r after → IsAccepted (rewrite_answer file (length before)) ↔ Rewritable file (length before)
  rewritable (accepted u) w = ((λ _. w.exactly.0 refl), λ _. record { value = u; is = sym w.answer })
  rewritable (refused r) w = ((λ a. never (w.answer ∙ a.is)), λ h. absurd (false≢true (w.exactly.1 h)))

  -- the entry's contract, by what rewriting answers
  pub rewrites : {result : ℕ} (r : Answer Unit) → WritesBack file before r after → result ≡ result_of r → Rewrites file before after result
  rewrites r w e =
      called (λ _. file_written file) (rewrite_answer file (length before)) (rewritable r w)
      (e ∙ ap result_of w.answer) (w.buffer ∙ lent_rewritten (rewrite_answer file (length before)) file before)
