-- The defaults are accepted, and the checks at their edges.
use Rattle.std.specs.Prelude.{ℕ, ◌-◌, ◌^◌, false, ◌≡◌, refl}
use Rattle.settings.specs.Settings.{fmp, fsp, failing, first_at, place_of}

pub fmp-accepted : place_of fmp ≡ 0
unfolding place_of failing first_at
fmp-accepted = refl

pub fsp-accepted : place_of fsp ≡ 0
unfolding place_of failing first_at
fsp-accepted = refl

-- the place that is given for the link's defaults with other numbers in nine fields
abbrev Edge : (place messages after age check handshake drain retention hold soft : ℕ) → Type 0
Edge place messages after age check handshake drain retention hold soft =
    place_of
    (record {
      after = after;
      jitter = 15;
      messages = messages;
      handshake = handshake;
      check = check;
      drain = drain;
      retention = retention;
      hold = hold;
      revert = 10000;
      dampening = 30000;
      ttl = 40000;
      young = 5000;
      link_age = age;
      session_age = 10000;
      floor_link = 31000;
      floor_session = 31000;
      floor_cutover = 0;
      silence = 30000;
      resends = 5;
      soft = soft;
      hard = 2 ^ 64 - 2 ^ 20;
      delay = 2000;
      arrival = false;
    })
    ≡ place

edges :
    Edge 0 65536 120000 30000 1000 30000 10000 120000 120000 (2 ^ 62)
    × Edge 1 0 120000 30000 1000 30000 10000 120000 120000 (2 ^ 62)
    × Edge 2 65536 120000 30000 1000 30000 10000 120000 120000 65535
    × Edge 0 65536 120000 30000 1000 30000 10000 120000 120000 65536
    × Edge 3 65536 15000 0 1000 30000 10000 120000 120000 (2 ^ 62)
    × Edge 4 65536 44999 30000 1000 30000 10000 120000 120000 (2 ^ 62)
    × Edge 0 65536 45000 30000 1000 30000 10000 120000 120000 (2 ^ 62)
    -- a sum cut at 2^64 - 1 would give 5 here
    × Edge 4 65536 (2 ^ 64 - 1) (2 ^ 64 - 1) 1000 30000 10000 120000 120000 (2 ^ 62)
    × Edge 5 65536 4294967295001 30000 1000 30000 10000 120000 120000 (2 ^ 62)
    × Edge 0 65536 4294967295000 30000 1000 30000 10000 120000 120000 (2 ^ 62)
    × Edge 6 65536 120000 30000 0 30000 10000 120000 0 (2 ^ 62)
    × Edge 7 65536 120000 30000 1000 30000 10000 120000 0 (2 ^ 62)
    × Edge 11 65536 120000 30000 1000 3999 10000 120000 120000 (2 ^ 62)
    × Edge 0 65536 120000 30000 1000 4000 10000 120000 120000 (2 ^ 62)
    -- and 14 here
    × Edge 11 65536 120000 30000 (2 ^ 64 - 1001) (2 ^ 64 - 1) 10000 120000 120000 (2 ^ 62)
    × Edge 12 65536 120000 30000 1000 30000 2000 120000 120000 (2 ^ 62)
    × Edge 0 65536 120000 30000 1000 30000 2001 2001 120000 (2 ^ 62)
    × Edge 13 65536 120000 30000 1000 30000 2001 2000 120000 (2 ^ 62)
    × Edge 14 65536 120000 30000 1000 30000 10000 120000 31000 (2 ^ 62)
    × Edge 0 65536 120000 30000 1000 30000 10000 120000 31001 (2 ^ 62)
    × Edge 15 65536 120000 30000 1000 30000 10000 120000 120000 (2 ^ 64 - 2 ^ 20)
unfolding place_of failing first_at
edges =
    (refl, refl, refl, refl, refl, refl, refl, refl, refl, refl, refl, refl, refl, refl, refl, refl, refl, refl, refl, refl, refl)
