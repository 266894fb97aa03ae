-- The kinds of records that may follow the header or an `RE` record satisfy what a kind must.
-- Assumes nothing.
use Prim.Native.Nat.{◌≤◌}
use mathlib.Core.Path.{◌≡◌, refl}
use mathlib.Core.Bool.{true}
use mathlib.Core.List.{[], ◌∷◌}
use native.Mathlib.Omega.{arith}
use lib.ListN.{length}
use Rattle.river.specs.Bytes.{Mark}
use Rattle.river.specs.Card.{optional, optional_of, size_of, longest_card}
use Rattle.river.specs.Write.{encode_card}
use Rattle.river.specs.declared.card.Card.{Card}
use Rattle.river.specs.Fields.{Field}
use Rattle.river.specs.Records.{Th, factors_record, DM, dam_record, NT, nitrification_record, amount}
use Rattle.river.proofs.card.Described.{sound}
use Rattle.river.proofs.card.Fields.{fits}
use Rattle.river.specs.Described.{kind_of}
use Rattle.river.proofs.card.Optional.{Sound, AllSound, optionals_small}

-- Dams.

sound_dam : Sound dam_record
sound_dam = sound DM (record { fits = refl; value = λ v. refl; numbers = λ ns h. refl })

-- Rate factors.

pub sound_factors : Sound factors_record
sound_factors = sound Th (record { fits = refl; value = λ v. refl; numbers = λ ns h. refl })

-- Records of one number.

sound_amount : (m : Mark) (f : Field) → fits (f ∷ []) ≡ true → Sound (kind_of (amount m f))
sound_amount m f fit = sound (amount m f) (record { fits = fit; value = λ v. refl; numbers = λ ns h. refl })

-- Nitrifications.

sound_nitrification : Sound nitrification_record
sound_nitrification =
    sound NT
    (record {
      fits = refl;
      value = λ v. refl;
      numbers = λ ns h. let zeros : 0 ≡ ns.1.1.1.0 = omega (arith, h.1.1.1.0.most) in λ i. (ns.0, (ns.1.0, (ns.1.1.0, (zeros i, tt))));
    })

-- The records of a card.

pub sound_optional : AllSound optional
sound_optional = (sound_dam, (sound_amount _ _ refl, (sound_amount _ _ refl, (sound_amount _ _ refl, (sound_nitrification, tt)))))

pub length_encode_card : (c : Card) → length (encode_card c) ≡ size_of c
length_encode_card c = omega arith

pub size_small : (c : Card) → size_of c ≤ longest_card
size_small c = omega (arith, optionals_small optional sound_optional (optional_of c))
