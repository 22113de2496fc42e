-- Laws of schedules and ladders.
use Rattle.std.specs.Prelude.{◌<◌, ◌^◌}
use Rattle.ladder.specs.declared.Made.{Made}

-- no bit of the map stands past the rungs
unfoldable pub Fresh : Made → Type 0
Fresh m = m.sched.keepalive < 2 ^ m.sched.len
