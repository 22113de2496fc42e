-- What is known of a buffer that a reader fills: which bytes are read is not.
use Rattle.std.specs.Prelude.{ℕ, ◌+◌, ◌-◌, ◌≤◌, ◌<◌, min, Bool, true, false, cond, eqb, ◌≡◌, List, length, get_or, take, drop}
use Rattle.text.specs.Bytes.{index_of, slice}
use Rattle.text_lines.specs.declared.input.Rest.{Rest}
use Rattle.text_lines.specs.declared.input.Rest.TheVariants.{More, Ended, Failed}

abbrev pub more_comes : Rest → Bool
more_comes More = true
more_comes Ended = false
more_comes Failed = false

-- the bytes from start to end stand at the front of the buffer, with what was read behind them, up to `filled`
pub record Filled (before after : List ℕ) (start end filled : ℕ) (rest : Rest) : Type 0 where
  pub within : filled ≤ length after
  pub kept : take (end - start) after ≡ take (end - start) (drop start before)
  pub grown : end - start ≤ filled
  pub more : more_comes rest ≡ true → end - start < filled

-- a line ends at the first newline (10), or at the end of the bytes that are held, and the next one starts behind it
pub record Found (buf : List ℕ) (start end next filled : ℕ) : Type 0 where
  pub ends : end ≡ start + index_of 10 (slice start filled buf)
  pub follows : next ≡ min (end + 1) filled

-- where the bytes that are held start and end, within the buffer
abbrev pub end_in : List ℕ → ℕ → ℕ
end_in buf filled = min filled (length buf)

abbrev pub start_in : List ℕ → ℕ → ℕ → ℕ
start_in buf next filled = min next (end_in buf filled)

-- more may come, and no newline stands among the bytes that are held
unfoldable pub waiting : List ℕ → ℕ → ℕ → Rest → Bool
waiting buf next filled rest =
    cond (more_comes rest) (eqb (start_in buf next filled + index_of 10 (slice (start_in buf next filled) (end_in buf filled) buf)) (end_in buf filled)) false

-- the length without a carriage return (13) at the end
unfoldable pub line_end : List ℕ → ℕ
line_end line = cond (eqb (length line) 0) 0 (cond (eqb (get_or line (length line - 1) 0) 13) (length line - 1) (length line))
