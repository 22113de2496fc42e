-- Where each argument of a call stands in its row; an index takes two places. src/place.rt has the same
-- names for code.
use Rattle.std.specs.Prelude.{ℕ}

-- ---- `open`

abbrev pub open_now : ℕ
open_now = 0

abbrev pub open_role : ℕ
open_role = 1

abbrev pub open_transport : ℕ
open_transport = 2

abbrev pub open_lease : ℕ
open_lease = 3

abbrev pub open_workers : ℕ
open_workers = 5

abbrev pub open_spread : ℕ
open_spread = 6

-- ---- `poll`

abbrev pub poll_now : ℕ
poll_now = 0

abbrev pub poll_workers : ℕ
poll_workers = 1

abbrev pub poll_spread : ℕ
poll_spread = 2

abbrev pub poll_extra : ℕ
poll_extra = 3

-- ---- `frame`

abbrev pub frame_now : ℕ
frame_now = 0

abbrev pub frame_slot : ℕ
frame_slot = 1

abbrev pub frame_tag : ℕ
frame_tag = 2

abbrev pub frame_counter : ℕ
frame_counter = 3

abbrev pub frame_k : ℕ
frame_k = 4

abbrev pub frame_len : ℕ
frame_len = 5

abbrev pub frame_probe : ℕ
frame_probe = 6

abbrev pub frame_body : ℕ
frame_body = 7

abbrev pub frame_workers : ℕ
frame_workers = 8

abbrev pub frame_spread : ℕ
frame_spread = 9

-- ---- `reply`

abbrev pub reply_now : ℕ
reply_now = 0

abbrev pub reply_opened : ℕ
reply_opened = 1

abbrev pub reply_hs : ℕ
reply_hs = 2

abbrev pub reply_msg : ℕ
reply_msg = 3

abbrev pub reply_transport : ℕ
reply_transport = 4

abbrev pub reply_lease : ℕ
reply_lease = 5

-- ---- `sent`

abbrev pub sent_now : ℕ
sent_now = 0

abbrev pub sent_count : ℕ
sent_count = 1

-- ---- `status`

abbrev pub status_now : ℕ
status_now = 0
