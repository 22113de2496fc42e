-- What a list that gives no others begins with.
use Rattle.std.specs.Prelude.{◌≡◌, false, pos}
use Rattle.time.specs.Time.{none}
use Rattle.numbers.specs.Numbers.{cycle_idle}
use Rattle.state.specs.declared.Bit.{Bit}
use Rattle.state.specs.declared.Memory.{Memory}
use Rattle.state.specs.declared.Profile.{Profile}
use Rattle.state.specs.declared.State.{State}

-- two messages, and all else off or 0
abbrev pub plain : Profile
plain = record { messages = 2; at_proof = false; silence = false; smaller = false; floor = 0 }

abbrev pub no_bit : Bit
no_bit = record { some = false; on = false }

-- nothing was heard, sent, drawn or measured
abbrev pub no_memory : Memory
no_memory =
    record {
      peer_epoch = none;
      peer_k = no_bit;
      jitter = pos 0;
      damp = none;
      backoff = none;
      abandons = 0;
      last_rx = none;
      rx_cur = none;
      sent_data = false;
      silence = 0;
      link_since = 0;
      last_cutover = none;
      hs_rtt = none;
      srtt = none;
      setup_rto = none;
      reachable = false;
      due = false;
    }

-- no epoch, no cycle in progress, no candidate, and memory of nothing
pub record Blank (s : State) : Type 0 where
  pub memory : s.mem ≡ no_memory
  pub current : s.cur.some ≡ false
  pub drained : s.drain.some ≡ false
  pub cycle : s.cycle.kind ≡ cycle_idle
  pub candidates : s.cands.len ≡ 0
  pub next : s.cands.next ≡ 0
