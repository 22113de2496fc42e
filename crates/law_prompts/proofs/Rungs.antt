-- The number on the send of a final message: it stands in specs/ as a record, and is proved here.
use Rattle.std.specs.Prelude.{ℕ}
use Rattle.time.specs.Pick.{and, of_choice}
use Rattle.ladder.specs.Ladder.{take_of}
use Rattle.epoch.specs.declared.MayEpoch.{MayEpoch}
use Rattle.epoch.specs.Held.{is_tag}
use Rattle.poll_epoch.specs.EpochRows.{CurStep, fin_taken, fin_due}
use Rattle.law_prompts.specs.Every.{every-none, every_one}
use Rattle.law_prompts.specs.Rungs.{Carry, FinCarries, same}

module _ (cur : MayEpoch) (tag now : ℕ) where
  -- the current epoch's final message
  pub fin-carries : Carry (take_of cur.ep.fin.ladder now).taken (fin_due cur tag now).out
  unfolding fin_due fin_taken
  fin-carries =
      of_choice (λ (t : CurStep). Carry (take_of cur.ep.fin.ladder now).taken t.out) (and (and (is_tag cur.some cur.ep.tag tag) cur.ep.fin.some) (take_of cur.ep.fin.ladder now).any) _ _
      (every_one _ _ (same (take_of cur.ep.fin.ladder now).taken)) (every-none _)

  pub fin_told : FinCarries cur tag now
  fin_told = record { fin-carries = fin-carries }
