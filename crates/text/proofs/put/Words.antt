-- The words of a line of stored numbers, one by one. Assumes nothing.
use mathlib.Core.Path.{◌≡◌, ap, ◌∙◌}
use mathlib.Core.List.{List, [], ◌∷◌, ◌++◌, map, append_assoc}
use Prim.Native.Nat.{ℕ, suc, ◌+◌, ◌≤◌, ◌<◌}
use native.Mathlib.Numerals.{add-one}
use native.Mathlib.Omega.{arith}
use lib.ListN.{length, drop, length-map, get_or-map, drop_of_length-le}
use lib.Seq.{drop-cons}
use Rattle.flows.specs.held.Stored.{oxygen_of}
use Rattle.text.specs.Text.{ascii, signed, after_word, line}
use Rattle.text.specs.held.Words.{word_at, words_of}

module _ (numbers : List ℕ) where
  words_length : length (words_of numbers) ≡ length numbers
  words_length = simp length-map

  words_from : (i : ℕ) → i < length numbers → drop i (words_of numbers) ≡ word_at numbers i ∷ drop (suc i) (words_of numbers)
  words_from i h =
      drop-cons (words_of numbers) i (signed (oxygen_of 0)) (omega (arith, words_length)) ∙
      ap (λ (w : List ℕ). w ∷ drop (suc i) (words_of numbers)) (get_or-map signed (map oxygen_of numbers) i (oxygen_of 0) ∙ ap signed (get_or-map oxygen_of numbers i 0))

  -- after number i: a space, or the end of the line
  pub space_after : (i : ℕ) → i + 1 < length numbers → ascii " " ≡ after_word (drop (suc i) (words_of numbers))
  unfolding after_word
  space_after i h = rw (words_from (suc i) (omega arith))

  pub end_after : (i : ℕ) → length numbers ≤ i + 1 → ascii "\n" ≡ after_word (drop (suc i) (words_of numbers))
  unfolding after_word
  end_after i h = rw (drop_of_length-le (words_of numbers) {i = suc i} (omega (arith, words_length)))

  -- the line from number i on
  pub line_from : (i : ℕ) → i < length numbers → line (drop i (words_of numbers)) ≡ word_at numbers i ++ after_word (drop (suc i) (words_of numbers)) ++ line (drop (i + 1) (words_of numbers))
  unfolding line
  line_from i h = rw (add-one, words_from i h) (rw append_assoc)

  -- and past the last
  pub line_ends : (i : ℕ) → length numbers ≤ i → line (drop i (words_of numbers)) ≡ []
  unfolding line
  line_ends i h = rw (drop_of_length-le (words_of numbers) {i = i} (omega (arith, words_length)))
