-- The walk down a reach: its start, and one step that finds lower oxygen or none.
-- Assumes nothing.
use mathlib.Core.Path.{◌≡◌, refl, sym, ap, ap₂, ◌∙◌, subst}
use mathlib.Core.Bool.{Bool, true, false, cond}
use Prim.Native.Nat.{ℕ, zero, suc, ◌+◌, ◌≤◌, ◌<◌}
use native.Mathlib.Omega.{arith}
use lib.IntN.{ℤ}
use lib.Signed.{lt_z}
use lib.Dec.{ltb}
use borrow.Author.Tests.{lt-ltb, le-ltb, ltb-true, ltb-false}
use Rattle.decay.specs.Fixed.{one}
use Rattle.decay.specs.held.Factors.{AreShares, next_demand, demand_from, head_factors, next_factors, factors_at}
use Rattle.decay.specs.declared.factors.DemandFactors.{DemandFactors}
use Rattle.decay.specs.declared.factors.Factors.{Factors}
use Rattle.decay.proofs.factors.Instants.{range, demand_range, demand_kept}
use Rattle.report.specs.Program.{Critical, lower, lowest, foot}
use Rattle.report.specs.held.Bed.{LossInRange}
use Rattle.report.specs.held.Profile.{Begun, start_parts, whole_demand, oxygen_over, parts_at, oxygen_after, Covers, CoversAt, WalkedTo, seen_at}
use Rattle.report.specs.declared.course.Course.{Course}
use Rattle.report.specs.declared.profile.Walk.{Walk}
use Rattle.report.proofs.bed.Loss.{head_loss, loss_in_range}
use Rattle.report.proofs.profile.Offset.{sub_order}
use Rattle.report.proofs.profile.Oxygen.{nothing_less, no_parts}
use Rattle.flows.specs.held.Stored.{stored_zero, oxygen_of, Stores}

module _ (at : ℕ → ℤ) (m o w : ℕ) (here : Stores o (at (suc m))) (so_far : Stores w (lowest at m).oxygen) where
  pub lower_here : o < w → lowest at (suc m) ≡ record { instant = suc m; oxygen = at (suc m) }
  unfolding lowest lower oxygen_of
  lower_here l =
      rw (ap₂ lt_z (sym here.is) (sym so_far.is) ∙ sub_order o w stored_zero ∙ lt-ltb o w l)

  pub not_lower_here : w ≤ o → lowest at (suc m) ≡ lowest at m
  unfolding lowest lower oxygen_of
  not_lower_here l =
      rw (ap₂ lt_z (sym here.is) (sym so_far.is) ∙ sub_order o w stored_zero ∙ le-ltb o w l)

-- the lowest of values that are the same at every instant is the same
pub lowest_same : (at bt : ℕ → ℤ) → ((m : ℕ) → at m ≡ bt m) → (n : ℕ) → lowest at n ≡ lowest bt n
unfolding lowest
lowest_same at bt h zero = rw (h 0)
lowest_same at bt h (suc n) = rw (h (suc n), lowest_same at bt h n)

module _ (course : Course) where
  -- at the head nothing has turned to deficit, and no bed has taken any oxygen
  pub walk_begins : {walk : Walk} → Begun course.start walk → WalkedTo course 0 walk
  unfolding factors_at lowest head_factors demand_from
  walk_begins {walk} h =
      record {
        factors = h.factors;
        nitrogenous = h.nitrogenous;
        instant = h.instant;
        oxygen =
            subst (λ (g : Factors). Stores walk.lowest (oxygen_over course.start course.bed g (whole_demand course.start) 0)) h.factors
            (nothing_less (head_loss walk.factors course.bed (ap (λ (g : Factors). g.kept) h.factors)) (nothing_less no_parts h.oxygen));
      }

  -- the parts of nitrogenous BOD at an instant are together at most those at the head, which are at most one; where nothing is lost, all are left
  pub parts_within : (m : ℕ) → (parts_at course m).left + (parts_at course m).turned ≤ start_parts course.start
  parts_within m = demand_range course.nitrogenous.sound (start_parts course.start) m

  pub parts_shares : (m : ℕ) → (parts_at course m).left + (parts_at course m).turned ≤ one
  parts_shares m = omega (arith, parts_within m, course.start.range.demands)

  pub parts_kept : course.nitrogenous.step.lost ≡ 0 → (m : ℕ) → parts_at course m ≡ whole_demand course.start
  parts_kept l m =
      demand_kept course.nitrogenous.step l (omega (arith, course.nitrogenous.sound.spent_lost, l)) (start_parts course.start) m

  -- a walk that covers a course covers each of its instants
  pub covers_next : {over_bed both : Bool} (m : ℕ) {d : DemandFactors} → Covers over_bed both course → d ≡ parts_at course m → CoversAt over_bed both course.bed d
  covers_next m c e = record { bed = c.bed; nitrogenous = λ off. rw (e, parts_kept (c.nitrogenous off) m) refl }

  -- what a walk holds is in range
  module _ {m : ℕ} {walk : Walk} (here : WalkedTo course m walk) where
    pub walk_shares : AreShares walk.factors
    walk_shares = rw here.factors (range course.bod.sound m)

    pub walk_parts : walk.nitrogenous.left + walk.nitrogenous.turned ≤ start_parts course.start
    walk_parts = rw here.nitrogenous (parts_within m)

    pub walk_parts_shares : walk.nitrogenous.left + walk.nitrogenous.turned ≤ one
    walk_parts_shares = rw here.nitrogenous (parts_shares m)

    pub walk_loss : m ≤ foot → LossInRange walk.factors course.bed m
    walk_loss l = rw here.factors (loss_in_range course.bod.sound course.bed_range m l)

    -- the factors of the next instant, and its parts, also where they are kept
    pub factors_next : {f : Factors} → f ≡ next_factors course.bod.step walk.factors → f ≡ factors_at course.bod.step (suc m)
    unfolding factors_at
    factors_next next = next ∙ ap (next_factors course.bod.step) here.factors

    pub parts_next : {d : DemandFactors} → d ≡ next_demand course.nitrogenous.step walk.nitrogenous → d ≡ parts_at course (suc m)
    unfolding demand_from
    parts_next next = next ∙ ap (next_demand course.nitrogenous.step) here.nitrogenous

    pub parts_stay : course.nitrogenous.step.lost ≡ 0 → walk.nitrogenous ≡ parts_at course (suc m)
    parts_stay l = here.nitrogenous ∙ parts_kept l m ∙ sym (parts_kept l (suc m))

    pub next_in_range : m < foot → {f : Factors} {d : DemandFactors} → f ≡ factors_at course.bod.step (suc m) → d ≡ parts_at course (suc m) → AreShares f × (d.left + d.turned ≤ start_parts course.start) × LossInRange f course.bed (suc m)
    next_in_range l ef ed =
        (rw ef (range course.bod.sound (suc m)), rw ed (parts_within (suc m)), rw ef (loss_in_range course.bod.sound course.bed_range (suc m) l))

    -- with the next instant seen, a walk stands there
    module _ {f : Factors} (ef : f ≡ factors_at course.bod.step (suc m)) {d : DemandFactors} (ed : d ≡ parts_at course (suc m)) (o : ℕ) (s : Stores o (oxygen_over course.start course.bed f d (suc m))) where
      next_oxygen : Stores o (oxygen_after course (suc m))
      next_oxygen = rw (ef, ed) at s

      walk_lower : o < walk.lowest → WalkedTo course (suc m) (record { factors = f; nitrogenous = d; instant = suc m; lowest = o })
      walk_lower l =
          let e = lower_here (oxygen_after course) m o walk.lowest next_oxygen here.oxygen l in
          record {
            factors = ef;
            nitrogenous = ed;
            instant = sym (ap (λ (c : Critical). c.instant) e);
            oxygen = subst (λ (c : Critical). Stores o c.oxygen) (sym e) next_oxygen;
          }

      walk_kept : walk.lowest ≤ o → WalkedTo course (suc m) (record { factors = f; nitrogenous = d; instant = walk.instant; lowest = walk.lowest })
      walk_kept l =
          let e = not_lower_here (oxygen_after course) m o walk.lowest next_oxygen here.oxygen l in
          record {
            factors = ef;
            nitrogenous = ed;
            instant = here.instant ∙ sym (ap (λ (c : Critical). c.instant) e);
            oxygen = subst (λ (c : Critical). Stores walk.lowest c.oxygen) (sym e) here.oxygen;
          }

      walk_by : (t : Bool) → ltb o walk.lowest ≡ t → WalkedTo course (suc m) (record { factors = f; nitrogenous = d; instant = cond t (suc m) walk.instant; lowest = cond t o walk.lowest })
      walk_by true e = walk_lower (ltb-true _ _ e)
      walk_by false e = walk_kept (ltb-false _ _ e)

      pub walk_seen : WalkedTo course (suc m) (seen_at walk f d (suc m) o)
      walk_seen = walk_by (ltb o walk.lowest) refl
