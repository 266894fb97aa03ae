-- A check that descriptions are general enough: a record of six numbers, one of eight bytes and one of a single byte, where the most that
-- one number may be depends on another. No file has this record yet.
-- Assumes nothing.
use Prim.Native.Nat.{ℕ, ◌*◌}
use Prim.Native.Char.{code}
use mathlib.Core.Logic.{◌⊎◌, inl, inr}
use Rattle.std.specs.Prelude.{Option, Some, None}
use mathlib.Core.Path.{◌≡◌, refl, ap, ◌∙◌}
use mathlib.Core.Bool.{Bool, true, ◌&&◌}
use mathlib.Core.List.{[], ◌∷◌}
use lib.Dec.{leb}
use Rattle.river.specs.Bytes.{mark}
use Rattle.river.specs.Described.{Described, kind_of}
use Rattle.river.specs.Fields.{one, four, eight, up_to, any, between}
use Rattle.river.specs.Optional.{Kind}
use Rattle.river.proofs.Answers.{both, both_true}
use Rattle.river.proofs.card.Described.{Lawful, sound}
use Rattle.river.proofs.card.Optional.{Present, Sound}

-- a kind with one more rule on its values, for a range that depends on another number
abbrev pub ruled : (k : Kind) → (k.Value → Bool) → Kind
ruled k rule =
    record {
      Value = k.Value;
      none = k.none;
      mark = k.mark;
      size = k.size;
      decode = k.decode;
      test = λ s. k.test s && rule (k.decode s);
      encode = k.encode;
      in_range = λ v. k.in_range v && rule v;
    }

-- THEOREM: a sound kind with one more rule is sound
pub sound_ruled : (k : Kind) (rule : k.Value → Bool) → Sound k → rule k.none ≡ true → Sound (ruled k rule)
sound_ruled k rule law free =
    record {
      none_empty = law.none_empty;
      none_in_range = both law.none_in_range free;
      cases = λ v. go v (law.cases v);
      in_range = λ s r. let t = both_true r in both (law.in_range s t.left) t.right;
      spells = λ s h m r. law.spells s h m (both_true r).left;
    }
  where
    go : (v : k.Value) → (v ≡ k.none) ⊎ Present k v → (v ≡ k.none) ⊎ Present (ruled k rule) v
    go v (inl p) = inl p
    go v (inr p) =
        inr
        (record {
          marks = p.marks;
          long = p.long;
          passes = λ post r. let t = both_true r in both (p.passes post t.left) (ap rule (p.back post t.left) ∙ t.right);
          back = λ post r. p.back post (both_true r).left;
        })

-- the foot of a branch
pub record Foot : Type 0 where
  pub flow : ℕ
  pub bod : ℕ
  pub nitrogenous : ℕ
  pub oxygen : ℕ
  pub mass : ℕ
  pub depth : ℕ

-- the `FE` record
abbrev pub FE : Described
FE =
    record {
      Value = Foot;
      mark = mark (code "F") (code "E");
      fields = between four 1 100_000_000 ∷ up_to four 1_000_000_000 ∷ up_to four 1_000_000_000 ∷ up_to four 20_000_000 ∷ any eight ∷ between one 1 127 ∷ [];
      make = λ f b n o m d. record { flow = f; bod = b; nitrogenous = n; oxygen = o; mass = m; depth = d };
      numbers = λ v. (v.flow, (v.bod, (v.nitrogenous, (v.oxygen, (v.mass, (v.depth, tt))))));
    }

lawful_foot : Lawful FE
lawful_foot = record { fits = refl; value = λ v. refl; numbers = λ ns h. refl }

-- M is at most 1,000,000 × flow
unfoldable pub mass_rule : Option Foot → Bool
mass_rule None = true
mass_rule (Some foot) = leb foot.mass (1_000_000 * foot.flow)

-- THEOREM: `FE` records have 27 bytes and are sound
pub size_foot : (kind_of FE).size ≡ 27
size_foot = refl

pub sound_foot : Sound (ruled (kind_of FE) mass_rule)
unfolding mass_rule
sound_foot = sound_ruled (kind_of FE) mass_rule (sound FE lawful_foot) refl
