-- The calls by number.
use Rattle.std.specs.Prelude.{ℕ, cond, ltb}
use Rattle.text_words.specs.declared.Call.{Call}
use Rattle.text_words.specs.declared.Call.TheVariants.{Open, Poll, Frame, Reply, Sent, Worker, Delegated, Undelegated, DataSent, Path, Wake, Status}

abbrev pub call_no : Call → ℕ
call_no Open = 0
call_no Poll = 1
call_no Frame = 2
call_no Reply = 3
call_no Sent = 4
call_no Worker = 5
call_no Delegated = 6
call_no Undelegated = 7
call_no DataSent = 8
call_no Path = 9
call_no Wake = 10
call_no Status = 11

-- the number of the call that a number stands for: its own, and that of `Path` past the list
abbrev pub call_told : ℕ → ℕ
call_told n = cond (ltb n 12) n (call_no Path)
