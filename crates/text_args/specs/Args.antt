-- What a row of numbers holds at a place.
use Rattle.std.specs.Prelude.{ℕ, ◌+◌, ◌-◌, Bool, List, eqb, ltb, ℤ, pos, ◌-ℤ◌, get_or}
use Rattle.time.specs.Pick.{pick}
use Rattle.time.specs.Time.{least}
use Rattle.time.specs.declared.When.{When}
use Rattle.epoch.specs.declared.Index.{Index}

-- the largest number of 8 bits
abbrev pub largest_byte : ℕ
largest_byte = 255

-- the largest number of 32 bits
abbrev pub largest_word : ℕ
largest_word = 4294967295

-- what 0 is where a number has a sign
abbrev pub zero_at : ℕ
zero_at = 2147483648

-- the number; 0 past the end
unfoldable pub number_at : List ℕ → ℕ → ℕ
number_at a i = get_or a i 0

-- a flag is on where its number is 1
unfoldable pub flag_at : List ℕ → ℕ → Bool
flag_at a i = eqb (number_at a i) 1

-- in 8 bits; a number that does not fit is the largest that does
unfoldable pub byte_at : List ℕ → ℕ → ℕ
byte_at a i = least (number_at a i) largest_byte

-- in 32 bits, likewise
unfoldable pub word_at : List ℕ → ℕ → ℕ
word_at a i = least (number_at a i) largest_word

-- the row holds it 2^31 above itself, in 32 bits
unfoldable pub signed_at : List ℕ → ℕ → ℤ
signed_at a i = pos (word_at a i) -ℤ pos zero_at

-- its flag, and its number one place behind
unfoldable pub index_at : List ℕ → ℕ → Index
index_at a i = record { some = flag_at a i; index = word_at a (i + 1) }

-- likewise, of a number that may be absent
unfoldable pub when_at : List ℕ → ℕ → When
when_at a i = record { some = flag_at a i; at = number_at a (i + 1) }

-- 2^31 above itself too, and of 32 bits without a sign; below 0 it is the largest
unfoldable pub extra_at : List ℕ → ℕ → ℕ
extra_at a i = pick (ltb (number_at a i) zero_at) largest_word (least (number_at a i - zero_at) largest_word)
