-- Every lettered bench example holds, because the definitions compute it.
use mathlib.Core.Path.{◌≡◌, refl}
use mathlib.Core.Bool.{true}
use mathlib.Core.List.{flat_map}
use Rattle.rules.specs.strings.Strings.{same, begins, suffixes, any, ends, keep, first_or, count_to, longest, longest_behind}
use Rattle.rules.specs.sets.Sets.{keyword_of, keywords_from, keywords, shortest, keywords_that_are, is_keyword}
use Rattle.rules.specs.rows.Rows.{read_by, starts, prefixes, meet, meet_words, rows_of, place_from, row_of, child_of, parent, sibling_after, key_of, failure_cell, dictionary_cell, cells_at, cells_from, cells}
use Rattle.rules.specs.scans.Hits.{ending_at, hits_at, hits_after, hits, energy, pairs, over, hit_buffer}
use Rattle.rules.specs.scans.Questions.{questions_at, questions_after, questions}
use Rattle.rules.specs.skips.Skips.{least_from, least, holds_before, ends_within, inner, edge, far, suffix_rows, count, named, record_of, row_file, byte_file}
use Rattle.rules.specs.skips.Runs.{window_from, window_at, asked_of, asked, move_by, move, visits_from, visits, asked_all, run_questions, entered, window_hits, run_hits}
use Rattle.rules.specs.answers.Refusals.{refuse_if, or_else, record_verdict, record_verdicts, file_verdict, trace_verdict, workspace_verdict, faulty, row_verdicts, far_verdicts, table_verdict}
use Rattle.rules.specs.answers.Answers.{low_first}
use Rattle.rules.specs.answers.Promises.{on_pass, kept, answer_or, forward_verdict, forward_told, backward_entry, backward_told, table_entry, rows_told}
use Rattle.rules.specs.Cases.{same_all, same_told, room_for, holds, all_hold, keyword_record, W, AA, AB-BA, trace, largest_rows, largest_bytes, one_rows, one_bytes, found, hits_of_t, cases}

pub cases_hold : all_hold cases ≡ true
unfolding flat_map same begins suffixes any ends keep first_or count_to longest longest_behind keyword_of keywords_from keywords shortest keywords_that_are is_keyword read_by starts prefixes meet meet_words rows_of place_from row_of child_of parent sibling_after key_of failure_cell dictionary_cell cells_at cells_from cells ending_at hits_at hits_after hits energy pairs over hit_buffer questions_at questions_after questions least_from least holds_before ends_within inner edge far suffix_rows count named record_of row_file byte_file window_from window_at asked_of asked move_by move visits_from visits asked_all run_questions entered window_hits run_hits refuse_if or_else record_verdict record_verdicts file_verdict trace_verdict workspace_verdict faulty row_verdicts far_verdicts table_verdict low_first on_pass kept answer_or forward_verdict forward_told backward_entry backward_told table_entry rows_told same_all same_told room_for holds all_hold keyword_record W AA AB-BA trace largest_rows largest_bytes one_rows one_bytes found hits_of_t cases
cases_hold = refl
