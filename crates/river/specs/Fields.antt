-- Fields: whole numbers, each with a width and a range, one behind the other in bytes.
use Rattle.std.specs.Prelude.{Bool, true, ◌&&◌, List, [], ◌∷◌, ◌++◌, ℕ, ◌+◌, ◌*◌, ◌/◌, ◌%◌, ◌≤◌, leb}
use Rattle.river.specs.Bytes.{byte_at, two_at, four_at, narrow_bytes, four_bytes}

-- a width: one, two, four or eight bytes
pub data Width : Type 0 where
  one : Width
  two : Width
  four : Width
  eight : Width

-- how many bytes a width has
abbrev pub bytes_of : Width → ℕ
bytes_of one = 1
bytes_of two = 2
bytes_of four = 4
bytes_of eight = 8

-- the largest number that a width holds
abbrev pub largest : Width → ℕ
largest one = 255
largest two = 65_535
largest four = 4_294_967_295
largest eight = 18_446_744_073_709_551_615

-- the number of a width in the bytes from a place on
abbrev pub number_at : Width → List ℕ → ℕ → ℕ
number_at one s k = byte_at s k
number_at two s k = two_at s k
number_at four s k = four_at s k
number_at eight s k = four_at s k * 4_294_967_296 + four_at s (k + 4)

-- a number as the bytes of a width; two bytes take it modulo 65,536, since a number of two bytes may have four in memory
abbrev pub number_bytes : Width → ℕ → List ℕ
number_bytes one n = n ∷ []
number_bytes two n = narrow_bytes n
number_bytes four n = four_bytes n
number_bytes eight n = four_bytes (n / 4_294_967_296) ++ four_bytes (n % 4_294_967_296)

-- a field: its width, and the range of its number
pub record Field : Type 0 where
  pub width : Width
  pub least : ℕ
  pub most : ℕ

-- a field with a range, one up to a most, and one of any number that its width holds
abbrev pub between : Width → ℕ → ℕ → Field
between w least most = record { width = w; least = least; most = most }

abbrev pub up_to : Width → ℕ → Field
up_to w most = between w 0 most

abbrev pub any : Width → Field
any w = up_to w (largest w)

-- a number is in a field's range, and the test of it
pub record Within (f : Field) (n : ℕ) : Type 0 where
  pub least : f.least ≤ n
  pub most : n ≤ f.most

unfoldable pub within : Field → ℕ → Bool
within f n = leb f.least n && leb n f.most

-- a number for each of some fields
abbrev pub Numbers : List Field → Type 0
Numbers [] = Unit
Numbers (f ∷ fs) = ℕ × Numbers fs

-- a function of a number for each field, and its value
abbrev pub OfNumbers : List Field → Type 0 → Type 0
OfNumbers [] A = A
OfNumbers (f ∷ fs) A = ℕ → OfNumbers fs A

abbrev pub applied : {A : Type 0} (fs : List Field) → OfNumbers fs A → Numbers fs → A
applied [] make ns = make
applied (f ∷ fs) make ns = applied fs (make ns.0) ns.1

-- how many bytes fields have together
abbrev pub widths : List Field → ℕ
widths [] = 0
widths (f ∷ fs) = bytes_of f.width + widths fs

-- the numbers in the bytes from a place on
abbrev pub numbers_at : (fs : List Field) → List ℕ → ℕ → Numbers fs
numbers_at [] s k = tt
numbers_at (f ∷ fs) s k = (number_at f.width s k, numbers_at fs s (k + bytes_of f.width))

-- numbers as bytes
abbrev pub numbers_bytes : (fs : List Field) → Numbers fs → List ℕ
numbers_bytes [] ns = []
numbers_bytes (f ∷ fs) ns = number_bytes f.width ns.0 ++ numbers_bytes fs ns.1

-- all numbers are in range, and the test of it
abbrev pub AllWithin : (fs : List Field) → Numbers fs → Type 0
AllWithin [] ns = Unit
AllWithin (f ∷ fs) ns = Within f ns.0 × AllWithin fs ns.1

unfoldable pub all_within : (fs : List Field) → Numbers fs → Bool
all_within [] ns = true
all_within (f ∷ fs) ns = within f ns.0 && all_within fs ns.1
