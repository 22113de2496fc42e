-- The settings' defaults and the checks of params.rs, in exact arithmetic: no sum is cut at 2^64 - 1.
use Rattle.std.specs.Prelude.{ℕ, suc, ◌+◌, ◌-◌, ◌*◌, ◌^◌, Bool, true, false, List, [], ◌∷◌, leb, ltb, eqb}
use Rattle.settings.specs.declared.Config.{Config}

-- the defaults that links and sessions share, with the three floors: link, session, cutover
abbrev pub defaults : ℕ → ℕ → ℕ → Config
defaults link session cutover =
    record {
      after = 120000;
      jitter = 15;
      messages = 65536;
      handshake = 30000;
      check = 1000;
      drain = 10000;
      retention = 120000;
      hold = 120000;
      revert = 10000;
      dampening = 30000;
      ttl = 40000;
      young = 5000;
      link_age = 30000;
      session_age = 10000;
      floor_link = link;
      floor_session = session;
      floor_cutover = cutover;
      silence = 30000;
      resends = 5;
      soft = 2 ^ 62;
      hard = 2 ^ 64 - 2 ^ 20;
      delay = 2000;
      arrival = false;
    }

-- `Config::fmp`: the defaults for a link
abbrev pub fmp : Config
fmp = defaults 31000 31000 0

-- `Config::fsp`: the defaults for an end-to-end session
abbrev pub fsp : Config
fsp = defaults 0 0 10000

-- the checks of `Params::check` that refuse a setting, in file order
unfoldable pub failing : Config → List Bool
failing cfg =
    -- 1: the message trigger is 0
    eqb cfg.messages 0 ∷
    -- 2: the message trigger is past the soft limit
    ltb cfg.soft cfg.messages ∷
    -- 3: the time trigger is not above the jitter
    leb cfg.after (cfg.jitter * 1000) ∷
    -- 4: it is below the jitter plus the link-age floor
    ltb cfg.after (cfg.jitter * 1000 + cfg.link_age) ∷
    -- 5: it is longer than 2^32 - 1 seconds
    ltb 4294967295000 cfg.after ∷
    -- 6 to 10: a duration that must not be 0 is 0
    eqb cfg.check 0 ∷
    eqb cfg.hold 0 ∷
    eqb cfg.revert 0 ∷
    eqb cfg.ttl 0 ∷
    eqb cfg.silence 0 ∷
    -- 11: the handshake does not exceed one check by at least 3 seconds
    ltb cfg.handshake (cfg.check + 3000) ∷
    -- 12: the drain window is not above 2 seconds
    leb cfg.drain 2000 ∷
    -- 13: the drain's ceiling is below the drain window
    ltb cfg.retention cfg.drain ∷
    -- 14: the pending hold is not above the handshake plus one check
    leb cfg.hold (cfg.handshake + cfg.check) ∷
    -- 15: the soft limit is not below the hard one
    leb cfg.hard cfg.soft ∷ []

-- the place of the first that holds, where the list's own first stands at place n; 0 where none holds
unfoldable pub first_at : ℕ → List Bool → ℕ
first_at n [] = 0
first_at n (true ∷ l) = n
first_at n (false ∷ l) = first_at (suc n) l

-- "the first such check's place in file order, from 1"
unfoldable pub place_of : Config → ℕ
place_of cfg = first_at 1 (failing cfg)
