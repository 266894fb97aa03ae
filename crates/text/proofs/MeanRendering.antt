-- What `render_means` puts is the text of the means for its file, by what the call for means answers. Assumes nothing.
use mathlib.Core.Path.{◌≡◌, sym, ap, ap₂, ◌∙◌}
use mathlib.Core.List.{List, ◌++◌}
use Prim.Native.Nat.{ℕ, suc, ◌*◌, ◌≤◌}
use native.Mathlib.Omega.{arith}
use lib.ListN.{length}
use Rattle.river.specs.Bytes.{AreBytes}
use Rattle.river.specs.declared.refusal.Refusal.{Refusal}
use Rattle.river.specs.Refusal.{refused, number_of}
use Rattle.report.proofs.Means.{averaged, MeansGiven}
use Rattle.report.specs.declared.mean.RiverMean.{RiverMean}
use Rattle.report.specs.Mean.{mean_at, mean_bytes, mean_answer}
use Rattle.text.specs.Text.{refusal_line}
use Rattle.text.specs.MeanText.{mean_line, mean_lines, river_line, means_room, mean_text_of, mean_text}
use Rattle.text.specs.held.Words.{mean_held, mean_told}
use Rattle.text.proofs.Rendering.{few}
use Rattle.text.proofs.put.Lines.{same_lines}

-- the means that the call gives stand in its buffer
pub means_fit :
    {file before after : List ℕ} →
    AreBytes file →
    (r : RiverMean) →
    MeansGiven file before after r →
    length after ≡ length before →
    (r.count ≤ 128) × (mean_bytes * r.count ≤ length after)
means_fit bytes r given same = rw given.count (few bytes given.river.passes, omega (arith, given.river.holds))

module _ (file : List ℕ) where
  -- the text is by a call with this room
  by_room : {room : ℕ} → room ≡ means_room → mean_text_of (mean_answer file room) ≡ mean_text file
  by_room long = ap (λ (room : ℕ). mean_text_of (mean_answer file room)) long

  -- the lines of the means that the call gives, and of the mean that it tells, are those of the river
  pub means_are :
      {before after : List ℕ} (r : RiverMean) →
      length before ≡ means_room →
      MeansGiven file before after r →
      mean_lines (mean_held after) r.count ++ river_line (mean_told r) ≡ mean_text file
  unfolding mean_text_of
  means_are {after = after} r long given =
      let cards = given.river.cards in
      rw given.count
      (ap₂ ◌++◌
      (same_lines (λ i. mean_line i (mean_held after i)) (λ i. mean_line i (mean_at cards i)) (length cards) (λ i l. ap (mean_line (suc i)) (given.each i l).mean))
      (ap river_line given.mean)
      ∙ sym (ap mean_text_of (averaged file given.river))
      ∙ by_room long)

  -- a refusal is the call's
  pub refusal_is : {room : ℕ} {r : Refusal} → room ≡ means_room → mean_answer file room ≡ refused r → refusal_line (number_of r.rule) r.reach ≡ mean_text file
  unfolding mean_text_of
  refusal_is long h = sym (ap mean_text_of h) ∙ by_room long
