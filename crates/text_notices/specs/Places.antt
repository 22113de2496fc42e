-- Where each argument of a notice stands in its row; a number that may be absent takes two places.
-- src/place.rt has the same names for code.
use Rattle.std.specs.Prelude.{ℕ}

-- ---- every notice

abbrev pub at_now : ℕ
at_now = 0

abbrev pub at_workers : ℕ
at_workers = 1

abbrev pub at_spread : ℕ
at_spread = 2

-- ---- `worker`, `delegated` and `undelegated`

abbrev pub at_tag : ℕ
at_tag = 3

-- ---- `worker`

abbrev pub worker_k : ℕ
worker_k = 4

abbrev pub worker_counter : ℕ
worker_counter = 5

-- ---- `path`

abbrev pub path_reachable : ℕ
path_reachable = 3

abbrev pub path_srtt : ℕ
path_srtt = 4
