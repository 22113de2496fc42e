-- What holds of settings that no check refuses: one fact for each check, and nothing else.
use Rattle.std.specs.Prelude.{◌≤◌, ◌<◌, ◌+◌, ◌*◌}
use Rattle.settings.specs.declared.Config.{Config}

pub record Accepted (cfg : Config) : Type 0 where
  pub some-messages : 1 ≤ cfg.messages
  pub messages-by-soft : cfg.messages ≤ cfg.soft
  pub after-past-jitter : cfg.jitter * 1000 < cfg.after
  pub after-past-floor : cfg.jitter * 1000 + cfg.link_age ≤ cfg.after
  pub after_in_range : cfg.after ≤ 4294967295000
  pub some-check : 1 ≤ cfg.check
  pub some-hold : 1 ≤ cfg.hold
  pub some-revert : 1 ≤ cfg.revert
  pub some-ttl : 1 ≤ cfg.ttl
  pub some-silence : 1 ≤ cfg.silence
  pub handshake-room : cfg.check + 3000 ≤ cfg.handshake
  pub drain-room : 2000 < cfg.drain
  pub retention-room : cfg.drain ≤ cfg.retention
  pub hold-room : cfg.handshake + cfg.check < cfg.hold
  pub soft-below-hard : cfg.soft < cfg.hard
