-- The calls on a row of arguments: each is the call's own definition, with every argument read at its place.
use Rattle.std.specs.Prelude.{ℕ, List, eqb}
use Rattle.time.specs.Pick.{pick}
use Rattle.answer.specs.Outcome.{Outcome}
use Rattle.frame_slots.specs.declared.FrameProof.{FrameProof}
use Rattle.poll.specs.Poll.{poll_of}
use Rattle.frame.specs.Frames.{frame_answer, frame_target}
use Rattle.call_open.specs.Open.{open_of}
use Rattle.call_sent.specs.Told.{told_of}
use Rattle.call_reply.specs.declared.StartReply.{StartReply}
use Rattle.call_reply.specs.Reply.{reply_of}
use Rattle.call_read.specs.declared.Woke.{Woke}
use Rattle.call_read.specs.declared.Shown.{Shown}
use Rattle.call_read.specs.Read.{woke_of, status_of}
use Rattle.text_args.specs.Args.{number_at, flag_at, byte_at, signed_at, index_at, extra_at}
use Rattle.text_notices.specs.Notices.{notice_on}
use Rattle.text_calls.specs.declared.Link.{Link}
use Rattle.text_calls.specs.Places.{open_now, open_role, open_transport, open_lease, open_workers, open_spread}
use Rattle.text_calls.specs.Places.{poll_now, poll_workers, poll_spread, poll_extra}
use Rattle.text_calls.specs.Places.{frame_now, frame_slot, frame_tag, frame_counter, frame_k, frame_len, frame_probe, frame_body, frame_workers, frame_spread}
use Rattle.text_calls.specs.Places.{reply_now, reply_opened, reply_hs, reply_msg, reply_transport, reply_lease}
use Rattle.text_calls.specs.Places.{sent_count, status_now}

-- a fresh link; the state at hand is not read
unfoldable pub open_on : Link → List ℕ → Outcome
open_on l a =
    open_of l.cfg l.profile (flag_at a open_role) (number_at a open_transport) (index_at a open_lease) (flag_at a open_workers)
    (signed_at a open_spread)
    (number_at a open_now)

-- a poll
unfoldable pub poll_on : Link → List ℕ → Outcome
poll_on l a =
    poll_of l.state l.cfg l.profile (number_at a poll_now) (flag_at a poll_workers) (signed_at a poll_spread) (extra_at a poll_extra)

-- what is known of a frame that authenticated
unfoldable pub proof_at : List ℕ → FrameProof
proof_at a =
    record {
      tag = number_at a frame_tag;
      slot = byte_at a frame_slot;
      counter = number_at a frame_counter;
      k = flag_at a frame_k;
      len = number_at a frame_len;
      probe = flag_at a frame_probe;
    }

-- a frame, with the source's bytes and the target's
unfoldable pub frame_on : Link → List ℕ → List ℕ → List ℕ → Outcome
frame_on l a source target =
    frame_answer l.state l.cfg l.profile (number_at a frame_now) (flag_at a frame_workers) (signed_at a frame_spread) (proof_at a)
    (number_at a frame_body)
    source
    target

-- the target's bytes after a frame
unfoldable pub target_on : Link → List ℕ → List ℕ → List ℕ → List ℕ
target_on l a source target =
    frame_target l.state l.cfg l.profile (number_at a frame_now) (flag_at a frame_workers) (signed_at a frame_spread) (proof_at a)
    (number_at a frame_body)
    source
    target

-- whether a start opened an attempt, and its numbers
unfoldable pub start_at : List ℕ → StartReply
start_at a =
    record {
      opened = flag_at a reply_opened;
      hs = number_at a reply_hs;
      msg = number_at a reply_msg;
      transport = number_at a reply_transport;
      lease = index_at a reply_lease;
    }

-- a start reply
unfoldable pub reply_on : Link → List ℕ → Outcome
reply_on l a = reply_of l.state l.cfg l.profile (number_at a reply_now) (start_at a)

-- a told sent count; the answer does not depend on the instant
unfoldable pub sent_on : Link → List ℕ → Outcome
sent_on l a = told_of l.state (number_at a sent_count)

-- the wake
unfoldable pub wake_on : Link → Woke
wake_on l = woke_of l.state l.cfg l.profile

-- the link line
unfoldable pub status_on : Link → List ℕ → Shown
status_on l a = status_of l.state l.cfg l.profile (number_at a status_now)

-- ---- the calls that hand a state back, by number; crate `text_words` has the same names for code

abbrev pub call_open : ℕ
call_open = 0

abbrev pub call_poll : ℕ
call_poll = 1

abbrev pub call_frame : ℕ
call_frame = 2

abbrev pub call_reply : ℕ
call_reply = 3

abbrev pub call_sent : ℕ
call_sent = 4

-- any other number is a notice's
unfoldable pub answer_on : ℕ → Link → List ℕ → List ℕ → List ℕ → Outcome
answer_on call l a source target =
    pick (eqb call call_open) (open_on l a)
    (pick (eqb call call_poll) (poll_on l a)
    (pick (eqb call call_frame) (frame_on l a source target)
    (pick (eqb call call_reply) (reply_on l a)
    (pick (eqb call call_sent) (sent_on l a) (notice_on call l.state l.cfg l.profile a)))))

-- only a frame writes to the target
unfoldable pub left_on : ℕ → Link → List ℕ → List ℕ → List ℕ → List ℕ
left_on call l a source target = pick (eqb call call_frame) (target_on l a source target) target
