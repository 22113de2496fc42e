-- Document 01's own examples of the trigger and of the silence interval, by computing.
use Rattle.std.specs.Prelude.{◌-◌, ◌^◌, ◌≡◌, pos, negsuc}
use Rattle.time.specs.Time.{factor_of, backoff_of, later_of}
use Rattle.start.specs.Start.{trigger_of}

pub record Examples : Type 0 where
  -- "After 120 s: jitter 15 gives start + 135 s; −200 gives the start itself."
  pub fifteen : trigger_of 120000 (pos 15) ≡ 135000
  pub far-below : trigger_of 120000 (negsuc 199) ≡ 0
  pub start_itself : later_of 5000 (trigger_of 120000 (negsuc 199)) ≡ 5000
  pub fifteen-less : trigger_of 120000 (negsuc 14) ≡ 105000
  -- the least jitter of 32 bits
  pub least-jitter : trigger_of (2 ^ 64 - 1) (negsuc (2 ^ 31 - 1)) ≡ 2 ^ 64 - 1 - 2147483648000
  -- "The sum stops at 2^64 − 1."
  pub stops : trigger_of (2 ^ 64 - 1000) (pos 1) ≡ 2 ^ 64 - 1
  -- "With 30 s and 120 s, counts 0, 1, 2, 3 give 30, 60, 120, 120 s."
  pub count_0 : backoff_of 0 30000 120000 ≡ 30000
  pub count_1 : backoff_of 1 30000 120000 ≡ 60000
  pub count_2 : backoff_of 2 30000 120000 ≡ 120000
  pub count_3 : backoff_of 3 30000 120000 ≡ 120000
  -- "A count of 32 or more uses the factor 4,294,967,295."
  pub count_31 : factor_of 31 ≡ 2147483648
  pub count_32 : factor_of 32 ≡ 4294967295
  pub count_255 : factor_of 255 ≡ 4294967295
