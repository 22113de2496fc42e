-- Document 01's own examples of the trigger and of the silence interval, by computing.
use Rattle.std.specs.Prelude.{refl}
use Rattle.time.specs.Time.{factor_of, backoff_of, least, sat_add, later_of}
use Rattle.start.specs.Start.{trigger_of}
use Rattle.start.specs.Worked.{Examples}

pub examples : Examples
unfolding trigger_of sat_add later_of factor_of backoff_of least
examples =
    record {
      fifteen = refl;
      far-below = refl;
      start_itself = refl;
      fifteen-less = refl;
      least-jitter = refl;
      stops = refl;
      count_0 = refl;
      count_1 = refl;
      count_2 = refl;
      count_3 = refl;
      count_31 = refl;
      count_32 = refl;
      count_255 = refl;
    }
