-- P1 to P11 of document 01, one table, against the definitions; P8 to P10 with the number taken, of which
-- request 2 says "P9 then gives 1 and P10 gives 3".
use Rattle.std.specs.Prelude.{refl}
use Rattle.time.specs.Lists.{fold, range, kept, take_while}
use Rattle.time.specs.Time.{later_of, sat_mul, least, most}
use Rattle.ladder.specs.Schedule.{cut, doubled, doubling_of, keepalives, filled, probes_of, bits_of, laid, rung_at, held_of, rungs_of}
use Rattle.ladder.specs.Ladder.{remaining, next_at_of, due_of, due_rungs, taking, take_of}
use Rattle.ladder.specs.Worked.{Table}

pub table : Table
unfolding fold range kept take_while later_of sat_mul least most cut doubled doubling_of keepalives filled probes_of bits_of laid rung_at held_of rungs_of remaining next_at_of due_of due_rungs taking take_of
table = record { p1 = refl; p2 = refl; p3 = refl; p4 = refl; p5 = refl; p6 = refl; p7-plan = refl; p8 = refl; p9 = refl; p10 = refl; p11 = (refl, refl, refl) }
