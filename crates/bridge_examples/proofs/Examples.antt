-- Document 01's marked examples, its limits, and what each operator leaves, computed from the definitions.
use mathlib.Core.Path.{◌≡◌, refl}
use mathlib.Core.Bool.{true}
use mathlib.Core.List.{zip_with}
use Rattle.sequences.specs.Loops.{fold, loop}
use Rattle.sequences.specs.Marks.{marked, unmarked, padded}
use Rattle.sequences.specs.Range.{numbers_from}
use Rattle.sequences.specs.Select.{filter, some_passes, each_passes}
use Rattle.timestamps.specs.Comparison.{all_before, all_concurrent, order_number, order_of, relation_of, same_order, says, stamps_weakly_before}
use Rattle.timestamps.specs.Composite.{members, tick_of, composite_of}
use Rattle.timestamps.specs.Examples as stamps
use Rattle.timestamps.specs.Join.{join_of, group_join}
use Rattle.timestamps.specs.Maxima.{maxima}
use Rattle.timestamps.specs.Order.{before, concurrent, clearly_earlier, global_of}
use Rattle.event_sets.specs.Sets.{is_set, has, elements, marked_with, union_of}
use Rattle.occurrences.specs.Combination.{combination_of, combined_of, events_of, stamps_of}
use Rattle.occurrences.specs.Occurrences.{is_before, is_weakly_before, occurrence_order, of_event}
use Rattle.waiting_lists.specs.Waiting.{appended_to, is_full}
use Rattle.contexts.specs.Choice.{absence_candidates, and_candidates, blocks, chosen, removed_of, removes, seq_candidates, taken_of, takes}
use Rattle.contexts.specs.Made.{accumulated_of, accumulation_of, groups_of, is_between, made_of}
use Rattle.contexts.specs.Table.{row_of}
use Rattle.forms.specs.Bytes.{big_endian, value_of}
use Rattle.forms.specs.Forms.{each, section_bytes, values}
use Rattle.forms.specs.Sections.{entries, piece, section}
use Rattle.plans.specs.Reader.{plan_at, read_plan}
use Rattle.passages.specs.Events.{events_in, passage_events, place_in}
use Rattle.passages.specs.Reader.{read_passage}
use Rattle.detections.specs.Findings.{finding_bytes}
use Rattle.detections.specs.Views.{finding_of}
use Rattle.emissions.specs.Emissions.{emitted, emitted_all, number_of}
use Rattle.arrivals.specs.Meetings.{appended, candidates_of, carried_out, cleared_by, joins_by, made_by, meeting_of, removed_by, waits_by}
use Rattle.operators.specs.Table.{action_of, operator_of}
use Rattle.operators.specs.Turns.{arrives, in_order, input_turn, meeting_at, node_turn, sides_of, turned_of}
use Rattle.progress.specs.Progress.{arrivals_of, closed, event_step, node_step, numbers_by_place, run_of, start, turn_at, turned}
use Rattle.working.specs.Working.{worked}
use Rattle.bridge_examples.specs.Examples.{each_with, holds, intervals, limits, operators, same_numbers, same_work, sevens, table}

-- every row of the table: J1 to J8, D1 to D4
pub table-holds : each_passes holds table ≡ true
unfolding table holds same_work same_numbers stamps.table stamps.holds stamps.same_stamps group_join concurrent all_concurrent stamps_weakly_before relation_of worked read_plan plan_at read_passage passage_events events_in place_in section entries piece values value_of run_of numbers_by_place start event_step closed node_step turned turn_at arrivals_of node_turn input_turn in_order arrives turned_of meeting_at sides_of action_of operator_of carried_out appended appended_to meeting_of candidates_of made_by removed_by cleared_by waits_by emitted emitted_all number_of finding_bytes finding_of section_bytes each big_endian row_of made_of seq_candidates chosen taken_of takes removed_of removes is_full is_before occurrence_order order_of says same_order order_number of_event combination_of combined_of events_of stamps_of is_set has elements marked_with union_of before clearly_earlier global_of maxima join_of members tick_of composite_of all_before filter some_passes each_passes numbers_from marked unmarked padded zip_with fold loop
table-holds = refl

-- every limit
pub limits_hold : each_passes holds limits ≡ true
unfolding limits sevens each_with holds same_work same_numbers worked read_plan plan_at read_passage passage_events events_in place_in section entries piece values value_of run_of numbers_by_place start event_step closed node_step turned turn_at arrivals_of node_turn input_turn in_order arrives turned_of meeting_at sides_of action_of operator_of carried_out appended appended_to meeting_of candidates_of made_by removed_by cleared_by waits_by emitted emitted_all number_of finding_bytes finding_of section_bytes each big_endian row_of made_of seq_candidates chosen taken_of takes removed_of removes is_full is_before occurrence_order order_of says same_order order_number of_event combination_of combined_of events_of stamps_of is_set has elements marked_with union_of before clearly_earlier global_of maxima join_of members tick_of composite_of all_before all_concurrent concurrent filter some_passes each_passes numbers_from marked unmarked padded zip_with fold loop
limits_hold = refl

-- what stays and what goes, by operator and context
pub operators_hold : each_passes holds operators ≡ true
unfolding operators holds same_work same_numbers joins_by and_candidates worked read_plan plan_at read_passage passage_events events_in place_in section entries piece values value_of run_of numbers_by_place start event_step closed node_step turned turn_at arrivals_of node_turn input_turn in_order arrives turned_of meeting_at sides_of action_of operator_of carried_out appended appended_to meeting_of candidates_of made_by removed_by cleared_by waits_by emitted emitted_all number_of finding_bytes finding_of section_bytes each big_endian row_of made_of seq_candidates chosen taken_of takes removed_of removes is_full is_before occurrence_order order_of says same_order order_number of_event combination_of combined_of events_of stamps_of is_set has elements marked_with union_of before clearly_earlier global_of maxima join_of members tick_of composite_of all_before all_concurrent concurrent filter some_passes each_passes numbers_from marked unmarked padded zip_with fold loop
operators_hold = refl

-- the operators with a third input, and 41
pub intervals_hold : each_passes holds intervals ≡ true
unfolding intervals holds same_work same_numbers absence_candidates blocks is_weakly_before stamps_weakly_before accumulated_of accumulation_of groups_of is_between worked read_plan plan_at read_passage passage_events events_in place_in section entries piece values value_of run_of numbers_by_place start event_step closed node_step turned turn_at arrivals_of node_turn input_turn in_order arrives turned_of meeting_at sides_of action_of operator_of carried_out appended appended_to meeting_of candidates_of made_by removed_by cleared_by waits_by emitted emitted_all number_of finding_bytes finding_of section_bytes each big_endian row_of made_of seq_candidates chosen taken_of takes removed_of removes is_full is_before occurrence_order order_of says same_order order_number of_event combination_of combined_of events_of stamps_of is_set has elements marked_with union_of before clearly_earlier global_of maxima join_of members tick_of composite_of all_before all_concurrent concurrent filter some_passes each_passes numbers_from marked unmarked padded zip_with fold loop
intervals_hold = refl
