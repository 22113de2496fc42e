-- A run of the passes in which the second one has work: the deadline of a delayed cutover at 1 s hands the
-- final message over to the new current epoch, whose rung at 2 s the second pass finds due at 3 s. Passes
-- whose later ones are empty, or a poll that leaves the state, do not give this.
use Rattle.std.specs.Prelude.{ℕ, ◌-◌, true, false, ◌≡◌, List, [], ◌∷◌, replicate, pos}
use Rattle.time.specs.Time.{none}
use Rattle.settings.specs.Settings.{fmp}
use Rattle.ladder.specs.declared.Ladder.{Ladder}
use Rattle.ladder.specs.Schedule.{max_rungs}
use Rattle.numbers.specs.Numbers.{kind_msg3, evidence_delay, cycle_pend_i, wait_delay}
use Rattle.epoch.specs.declared.Epoch.{Epoch}
use Rattle.epoch.specs.declared.Index.{Index}
use Rattle.state.specs.declared.State.{State}
use Rattle.state.specs.declared.Given.{Given}
use Rattle.events.specs.Events.{Installed, Prompt, Rekeyed, Send, no_rungs}
use Rattle.poll_loop.specs.Passes.{three_passes}

abbrev zeros : ℕ → List ℕ
zeros n = replicate n 0

abbrev no_index : Index
no_index = record { some = false; index = 0 }

abbrev ladder_of : ℕ → List ℕ → Ladder
ladder_of len offsets = record { origin = 0; sched = record { at = offsets; keepalive = 0; len = len }; next = 0 }

abbrev no_ladder : Ladder
no_ladder = ladder_of 0 (zeros max_rungs)

abbrev epoch : ℕ → Epoch
epoch tag =
    record {
      tag = tag;
      session = tag;
      sent = 0;
      ids = record { lease = no_index; theirs = no_index; transport = 0 };
      k = false;
      responder = false;
      base = none;
      started = 0;
      route = none;
      ext = 0;
      delegated = false;
      floor = none;
      heard = none;
      moved = none;
      assumed = false;
      fin = record { some = false; msg = 0; ladder = no_ladder };
      elicit = record { some = false; ladder = no_ladder };
      prompted = none;
    }

-- a current epoch of tag 1, and an own completed attempt of tag 2 that waits out its delay until 1 s, with
-- message 5 to be sent again at 2 s
abbrev delayed : State
delayed =
    record {
      mem = record {
        peer_epoch = none;
        peer_k = record { some = false; on = false };
        jitter = pos 0;
        damp = none;
        backoff = none;
        abandons = 0;
        last_rx = none;
        rx_cur = none;
        sent_data = false;
        silence = 0;
        link_since = 0;
        last_cutover = none;
        hs_rtt = none;
        srtt = none;
        setup_rto = none;
        reachable = true;
        due = false;
      };
      cur = record { some = true; ep = epoch 1 };
      drain = record { some = false; ep = epoch 0; deadline = 0; evidenced = false };
      cycle = record {
        kind = cycle_pend_i;
        init = record { hs = 0; out = 0; lease = no_index; transport = 0; first = 0; ladder = no_ladder; deadline = 0; resent = false };
        pendi = record {
          ep = epoch 2;
          wait = wait_delay;
          deadline = 1000;
          restart = false;
          fin = record { some = true; msg = 5; ladder = ladder_of 1 (2000 ∷ zeros (max_rungs - 1)) };
          probes = record { some = false; ladder = no_ladder };
          probed = none;
          stayed = false;
          reverted = false;
        };
        pendr = record { ep = epoch 0; deadline = 0; restart = false; answer = none };
      };
      cands = record {
        hs = zeros 32;
        msg1 = zeros 32;
        ack = zeros 32;
        carrier = zeros 32;
        route = zeros 32;
        born = zeros 32;
        deadline = zeros 32;
        bounded = zeros 32;
        bound = zeros 32;
        seq = zeros 32;
        len = 0;
        next = 0;
      };
    }

abbrev at3s : Given
at3s = record { cfg = fmp; profile = record { messages = 3; at_proof = false; silence = false; smaller = false; floor = 0 }; now = 3000; workers = false; extra = 0 }

pub record SecondPass : Type 0 where
  -- the cutover in the first pass, the final message in the second
  pub tells : (three_passes delayed at3s (pos 0)).work.out ≡ Installed 2 false evidence_delay ∷ Prompt 2 no_rungs ∷ Rekeyed false ∷ Send 5 kind_msg3 1 ∷ []
  -- two items and then one
  pub lists : (three_passes delayed at3s (pos 0)).count ≡ 3
  -- the state moves: the pending epoch is current, and its final message was its last
  pub moves : (three_passes delayed at3s (pos 0)).work.state.cur.ep.tag ≡ 2
  pub spends : (three_passes delayed at3s (pos 0)).work.state.cur.ep.fin.some ≡ false
