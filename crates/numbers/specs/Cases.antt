-- The numbers of the cases of the lists that are enums in code (reason.rs's stand in Reason.antt).
use Rattle.std.specs.Prelude.{ℕ, Bool, true, false, Some, None, Option}
use Rattle.numbers.specs.Numbers.{kind_msg1, kind_msg2, kind_setup, kind_ack, kind_msg3, purpose_attempt, purpose_pending, purpose_current, purpose_previous, evidence_proof, evidence_frame, evidence_restart, evidence_assumed, evidence_delay, evidence_first, start_scheduled, start_silence, slot_current, slot_pending, slot_previous, cycle_idle, cycle_init, cycle_pend_i, cycle_pend_r, wait_held, wait_evidence, wait_delay, item_drain, item_candidate, item_unadopted, item_held, item_probe, item_delayed, item_fin, item_elicit, item_confirm, item_delay_end, item_resend, item_expire}
use Rattle.numbers.specs.declared.message.Message.{Message}
use Rattle.numbers.specs.declared.message.Message.TheVariants as message
use Rattle.numbers.specs.declared.purpose.Purpose.{Purpose}
use Rattle.numbers.specs.declared.purpose.Purpose.TheVariants as purpose
use Rattle.numbers.specs.declared.evidence.Evidence.{Evidence}
use Rattle.numbers.specs.declared.evidence.Evidence.TheVariants as evidence
use Rattle.numbers.specs.declared.start.Start.{Start}
use Rattle.numbers.specs.declared.start.Start.TheVariants as start
use Rattle.numbers.specs.declared.slot.Slot.{Slot}
use Rattle.numbers.specs.declared.slot.Slot.TheVariants as slot
use Rattle.numbers.specs.declared.cycle.Stage.{Stage}
use Rattle.numbers.specs.declared.cycle.Stage.TheVariants as cycle
use Rattle.numbers.specs.declared.wait.Wait.{Wait}
use Rattle.numbers.specs.declared.wait.Wait.TheVariants as wait
use Rattle.numbers.specs.declared.item.Kind.{Kind}
use Rattle.numbers.specs.declared.item.Kind.TheVariants as item

-- `Message`
abbrev pub message_no : Message → ℕ
message_no message.Msg1 = kind_msg1
message_no message.Msg2 = kind_msg2
message_no message.Setup = kind_setup
message_no message.Ack = kind_ack
message_no message.Msg3 = kind_msg3

-- `Purpose`
abbrev pub purpose_no : Purpose → ℕ
purpose_no purpose.Attempt = purpose_attempt
purpose_no purpose.Pending = purpose_pending
purpose_no purpose.Current = purpose_current
purpose_no purpose.Previous = purpose_previous

-- `Evidence`
abbrev pub evidence_no : Evidence → ℕ
evidence_no evidence.Proof = evidence_proof
evidence_no evidence.Frame = evidence_frame
evidence_no evidence.Restart = evidence_restart
evidence_no evidence.Assumed = evidence_assumed
evidence_no evidence.Delay = evidence_delay
evidence_no evidence.First = evidence_first

-- `Start`
abbrev pub start_no : Start → ℕ
start_no start.Scheduled = start_scheduled
start_no start.Silence = start_silence

-- `Slot`
abbrev pub slot_no : Slot → ℕ
slot_no slot.Current = slot_current
slot_no slot.Pending = slot_pending
slot_no slot.Previous = slot_previous

-- `Stage`
abbrev pub stage_no : Stage → ℕ
stage_no cycle.Idle = cycle_idle
stage_no cycle.Init = cycle_init
stage_no cycle.PendI = cycle_pend_i
stage_no cycle.PendR = cycle_pend_r

-- `Wait`
abbrev pub wait_no : Wait → ℕ
wait_no wait.Held = wait_held
wait_no wait.Evidence = wait_evidence
wait_no wait.Delay = wait_delay

-- `Kind`
abbrev pub kind_no : Kind → ℕ
kind_no item.Drain = item_drain
kind_no item.Candidate = item_candidate
kind_no item.Unadopted = item_unadopted
kind_no item.Held = item_held
kind_no item.Probe = item_probe
kind_no item.Delayed = item_delayed
kind_no item.Fin = item_fin
kind_no item.Elicit = item_elicit
kind_no item.Confirm = item_confirm
kind_no item.DelayEnd = item_delay_end
kind_no item.Resend = item_resend
kind_no item.Expire = item_expire

-- ---- the case that a number stands for: each test of the number by itself

-- each stage of a cycle; every number of none of the other three is `Idle`
abbrev pub at_idle : Stage → Bool
at_idle cycle.Idle = true
at_idle cycle.Init = false
at_idle cycle.PendI = false
at_idle cycle.PendR = false

abbrev pub at_init : Stage → Bool
at_init cycle.Idle = false
at_init cycle.Init = true
at_init cycle.PendI = false
at_init cycle.PendR = false

abbrev pub at_pend_i : Stage → Bool
at_pend_i cycle.Idle = false
at_pend_i cycle.Init = false
at_pend_i cycle.PendI = true
at_pend_i cycle.PendR = false

abbrev pub at_pend_r : Stage → Bool
at_pend_r cycle.Idle = false
at_pend_r cycle.Init = false
at_pend_r cycle.PendI = false
at_pend_r cycle.PendR = true

-- each wait; every number of neither of the other two is `Delay`
abbrev pub at_delay : Wait → Bool
at_delay wait.Held = false
at_delay wait.Evidence = false
at_delay wait.Delay = true

abbrev pub at_held : Wait → Bool
at_held wait.Held = true
at_held wait.Evidence = false
at_held wait.Delay = false

abbrev pub at_evidence : Wait → Bool
at_evidence wait.Held = false
at_evidence wait.Evidence = true
at_evidence wait.Delay = false

-- each slot; no other number is a slot
abbrev pub gives_current : Option Slot → Bool
gives_current None = false
gives_current (Some slot.Current) = true
gives_current (Some slot.Pending) = false
gives_current (Some slot.Previous) = false

abbrev pub gives_pending : Option Slot → Bool
gives_pending None = false
gives_pending (Some slot.Current) = false
gives_pending (Some slot.Pending) = true
gives_pending (Some slot.Previous) = false

abbrev pub gives_previous : Option Slot → Bool
gives_previous None = false
gives_previous (Some slot.Current) = false
gives_previous (Some slot.Pending) = false
gives_previous (Some slot.Previous) = true
