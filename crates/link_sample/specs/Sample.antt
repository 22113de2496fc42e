-- The samples, by record.
use Rattle.std.specs.Prelude.{true, false, ℤ, replicate}
use Rattle.time.specs.Time.{at}
use Rattle.ladder.specs.declared.Ladder.{Ladder}
use Rattle.ladder.specs.Schedule.{max_rungs}
use Rattle.numbers.specs.Numbers.{slot_previous, cycle_init, wait_evidence}
use Rattle.epoch.specs.declared.Final.{Final}
use Rattle.epoch.specs.declared.MayLadder.{MayLadder}
use Rattle.epoch.specs.declared.Epoch.{Epoch}
use Rattle.epoch.specs.declared.MayEpoch.{MayEpoch}
use Rattle.epoch.specs.declared.Drain.{Drain}
use Rattle.cycle.specs.declared.Attempt.{Attempt}
use Rattle.cycle.specs.declared.PendI.{PendI}
use Rattle.cycle.specs.declared.PendR.{PendR}
use Rattle.cycle.specs.declared.Cycle.{Cycle}
use Rattle.candidates.specs.declared.Candidates.{Candidates}
use Rattle.state.specs.declared.Memory.{Memory}
use Rattle.state.specs.declared.State.{State}
use Rattle.settings.specs.declared.Config.{Config}
use Rattle.state.specs.declared.Profile.{Profile}
use Rattle.state.specs.declared.Given.{Given}
use Rattle.frame_slots.specs.declared.FrameProof.{FrameProof}
use Rattle.call_reply.specs.declared.StartReply.{StartReply}

unfoldable pub rungs_of : Ladder
rungs_of = record { origin = 1; sched = record { at = replicate max_rungs 2; keepalive = 3; len = 4 }; next = 5 }

unfoldable pub last_of : Final
last_of = record { some = true; msg = 1; ladder = rungs_of }

unfoldable pub repeats_of : MayLadder
repeats_of = record { some = true; ladder = rungs_of }

unfoldable pub keys_of : Epoch
keys_of = record { tag = 1; session = 2; sent = 3; ids = record { lease = record { some = true; index = 4 }; theirs = record { some = true; index = 5 }; transport = 6 }; k = true; responder = false; base = at 7; started = 8; route = at 9; ext = 10; delegated = true; floor = at 11; heard = at 12; moved = at 13; assumed = false; fin = last_of; elicit = repeats_of; prompted = at 14 }

unfoldable pub held_of : MayEpoch
held_of = record { some = true; ep = keys_of }

unfoldable pub kept_of : Drain
kept_of = record { some = true; ep = keys_of; deadline = 1; evidenced = false }

unfoldable pub own_of : Attempt
own_of = record { hs = 1; out = 2; lease = record { some = true; index = 3 }; transport = 4; first = 5; ladder = rungs_of; deadline = 6; resent = true }

unfoldable pub ready_of : PendI
ready_of = record { ep = keys_of; wait = wait_evidence; deadline = 2; restart = true; fin = last_of; probes = repeats_of; probed = at 3; stayed = false; reverted = true }

unfoldable pub theirs_of : PendR
theirs_of = record { ep = keys_of; deadline = 1; restart = true; answer = at 2 }

unfoldable pub turn_of : Cycle
turn_of = record { kind = cycle_init; init = own_of; pendi = ready_of; pendr = theirs_of }

unfoldable pub waiting_of : Candidates
waiting_of = record { hs = replicate 32 1; msg1 = replicate 32 2; ack = replicate 32 3; carrier = replicate 32 4; route = replicate 32 5; born = replicate 32 6; deadline = replicate 32 7; bounded = replicate 32 8; bound = replicate 32 9; seq = replicate 32 10; len = 11; next = 12 }

unfoldable pub facts_of : ℤ → Memory
facts_of spread = record { peer_epoch = at 1; peer_k = record { some = true; on = false }; jitter = spread; damp = at 2; backoff = at 3; abandons = 4; last_rx = at 5; rx_cur = at 6; sent_data = true; silence = 7; link_since = 8; last_cutover = at 9; hs_rtt = at 10; srtt = at 11; setup_rto = at 12; reachable = false; due = true }

unfoldable pub whole_of : ℤ → State
whole_of spread = record { mem = facts_of spread; cur = held_of; drain = kept_of; cycle = turn_of; cands = waiting_of }

unfoldable pub values_of : Config
values_of = record { after = 1; jitter = 2; messages = 3; handshake = 4; check = 5; drain = 6; retention = 7; hold = 8; revert = 9; dampening = 10; ttl = 11; young = 12; link_age = 13; session_age = 14; floor_link = 15; floor_session = 16; floor_cutover = 17; silence = 18; resends = 19; soft = 20; hard = 21; delay = 22; arrival = true }

unfoldable pub flags_of : Profile
flags_of = record { messages = 1; at_proof = true; silence = false; smaller = true; floor = 2 }

unfoldable pub beside_of : Given
beside_of = record { cfg = values_of; profile = flags_of; now = 1; workers = true; extra = 2 }

unfoldable pub proof_of : FrameProof
proof_of = record { tag = 1; slot = slot_previous; counter = 3; k = true; len = 4; probe = false }

unfoldable pub answer_of : StartReply
answer_of = record { opened = true; hs = 1; msg = 2; transport = 3; lease = record { some = true; index = 4 } }
