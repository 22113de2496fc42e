-- A run of the passes in which the second one has work: the deadline of a delayed cutover at 1 s hands the
-- final message over to the new current epoch, whose rung at 2 s the second pass finds due at 3 s. Passes
-- whose later ones are empty, or a poll that leaves the state, do not give this.
use Rattle.std.specs.Prelude.{refl}
use Rattle.time.specs.Lists.{fold, range, kept, take_while}
use Rattle.time.specs.Time.{later_of, sat_mul, least, most}
use Rattle.ladder.specs.Ladder.{remaining, next_at_of, due_rungs, taking, take_of}
use Rattle.ladder.specs.Schedule.{cut, doubled, doubling_of, laid, made_of, rung_at, held_of, rungs_of}
use Rattle.params.specs.Params.{elicit_made}
use Rattle.candidates.specs.Held.{held_of as cands_of, held_by}
use Rattle.items.specs.Items.{before, insert, sorted, listed_in}
use Rattle.wake.specs.Due.{ladder_instants, may_instants, fin_instants, elicit_instants, drain_items, candidate_items, pending_items, cycle_items, current_items, named, due_items}
use Rattle.poll_listing.specs.Listing.{fresh, pass_items}
use Rattle.retire.specs.Retire.{delegate_out}
use Rattle.epoch.specs.Held.{is_tag}
use Rattle.cycle.specs.Held.{is_own}
use Rattle.poll_cycle.specs.CycleRows.{delayed_due}
use Rattle.poll_epoch.specs.EpochRows.{fin_taken, fin_due}
use Rattle.cutover.specs.Cutover.{prunes, pruned, demoted, given_up, spent, kept_fin, heard_now, adopted, heard_frame, cut_memory, remembered, announced, cutover_of}
use Rattle.poll_cut.specs.Cut.{candidate_due, cut_by, held_due, delay_end}
use Rattle.poll_item.specs.Item.{alone, low_step, high_step, other_step, item_step}
use Rattle.poll_pass.specs.Pass.{run_item, pass_of}
use Rattle.poll_loop.specs.Passes.{passes_of, three_passes}
use Rattle.poll_loop.specs.Worked.{SecondPass}

pub second_pass : SecondPass
unfolding fold range kept take_while later_of sat_mul least most remaining next_at_of due_rungs taking take_of cut doubled doubling_of laid made_of rung_at held_of cands_of rungs_of elicit_made held_by before insert sorted listed_in ladder_instants may_instants fin_instants elicit_instants drain_items candidate_items pending_items cycle_items current_items named due_items fresh pass_items delegate_out is_tag is_own delayed_due fin_taken fin_due prunes pruned demoted given_up spent kept_fin heard_now adopted heard_frame cut_memory remembered announced cutover_of candidate_due cut_by held_due delay_end alone low_step high_step other_step item_step run_item pass_of passes_of three_passes
second_pass = record { tells = refl; lists = refl; moves = refl; spends = refl }
