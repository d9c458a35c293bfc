-- The tests 8 and 9 in the order of the table: the first that shows a fault is the verdict, and where none does, trace
-- and workspace are within the limits. Where there is room for 961 rows 9 never speaks: no set has more.
use Prim.Native.Nat.{ℕ, ◌*◌, ◌≤◌, ◌<◌}
use native.Mathlib.Omega.{arith}
use mathlib.Core.Path.{◌≡◌, ◌∙◌, ap}
use mathlib.Core.List.{List, Memᴰ}
use lib.ListN.{length}
use borrow.Author.Tests.{lt-ltb, le-ltb, ltb-false}
use Rattle.rules.specs.sets.Limits.{longest_word, most_keywords, most_rows, longest_trace, row_cells}
use Rattle.rules.specs.sets.Sets.{Keyword, keywords}
use Rattle.rules.specs.rows.Rows.{Way, forward, rows_of}
use Rattle.rules.specs.answers.Refusals.{pass, refuse, refuse_if, or_else, file_verdict, trace_verdict, workspace_verdict, entry_verdict}
use Rattle.rules.specs.answers.Promises.{forward_verdict, host_verdict}
use Rattle.rules.specs.Beside.{Sound}
use Rattle.rules.proofs.sets.Sets.{file_few, file_short}
use Rattle.rules.proofs.rows.Most.{rows_most}
use Rattle.rules.proofs.answers.Verdicts.{or_else_pass, or_else_behind, or_else_right, refuse_if_false, refuse_if_pass}

-- what the tests let in: a trace of n bytes, and a workspace of m numbers with room for the rows
pub record Entry (way : Way) (ks : List Keyword) (n m : ℕ) : Type 0 where
  pub near : n ≤ longest_trace
  pub room : row_cells * length (rows_of way ks) ≤ m

pub trace_passed : (n : ℕ) → trace_verdict n ≡ pass → n ≤ longest_trace
unfolding trace_verdict
trace_passed n p = ltb-false longest_trace n (refuse_if_pass 8 0 p)

pub entry_passed : (way : Way) (ks : List Keyword) (n m : ℕ) → entry_verdict way ks n m ≡ pass → Entry way ks n m
unfolding workspace_verdict
entry_passed way ks n m p =
    let rows = length (rows_of way ks) in
    let both = or_else_pass _ _ p in
    record { near = trace_passed n both.0; room = ltb-false m (row_cells * rows) (refuse_if_pass 9 rows both.1) }

-- each test's refusal, behind the test before it
module _ (way : Way) (ks : List Keyword) (n room : ℕ) where
  pub entry-trace : longest_trace < n → entry_verdict way ks n room ≡ refuse 8 0
  unfolding trace_verdict or_else refuse_if
  entry-trace h = rw (lt-ltb longest_trace n h)

  module _ (near : n ≤ longest_trace) where
    -- behind 8 the verdict is 9's
    entry_near : entry_verdict way ks n room ≡ workspace_verdict way ks room
    unfolding trace_verdict or_else refuse_if
    entry_near = rw (le-ltb longest_trace n near)

    module _ {rows : ℕ} (counted : rows ≡ length (rows_of way ks)) where
      pub entry_room : room < row_cells * rows → entry_verdict way ks n room ≡ refuse 9 rows
      unfolding workspace_verdict refuse_if
      entry_room h = entry_near ∙ (rw (← counted, lt-ltb room (row_cells * rows) h))

      pub entry_pass : row_cells * rows ≤ room → entry_verdict way ks n room ≡ pass
      unfolding workspace_verdict refuse_if
      entry_pass h = entry_near ∙ (rw (← counted, le-ltb room (row_cells * rows) h))

-- with no trace 8 passes
pub entry_untraced : (way : Way) (ks : List Keyword) (room : ℕ) → entry_verdict way ks 0 room ≡ workspace_verdict way ks room
entry_untraced way ks room = entry_near way ks 0 room (omega arith)

-- Room for the most rows that a set has is enough: of the two tests 8 is left.
pub entry_ample : (way : Way) (ks : List Keyword) (n room : ℕ)
    → length ks ≤ most_keywords
    → ((k : Keyword) → Memᴰ k ks → length k.word ≤ longest_word)
    → row_cells * most_rows ≤ room
    → entry_verdict way ks n room ≡ trace_verdict n
unfolding workspace_verdict
entry_ample way ks n room few short ample =
    let rows = length (rows_of way ks) in
    let fits : row_cells * rows ≤ room = omega (arith, rows_most way ks few short) in
    ap (or_else (trace_verdict n)) (refuse_if_false 9 rows (le-ltb room (row_cells * rows) fits))
    ∙ or_else_right (trace_verdict n)

-- so they pass with no count of the rows, and the forward scan's tests are the host call's
pub entry_uncounted : (way : Way) (ks : List Keyword) (n room : ℕ) → Sound ks → n ≤ longest_trace → row_cells * most_rows ≤ room
    → entry_verdict way ks n room ≡ pass
unfolding trace_verdict
entry_uncounted way ks n room sound near ample =
    entry_ample way ks n room sound.few sound.short ample
    ∙ refuse_if_false 8 0 (le-ltb longest_trace n near)

pub forward_ample : (s t : List ℕ) (room : ℕ) → row_cells * most_rows ≤ room → forward_verdict s t room ≡ host_verdict s t
unfolding forward_verdict host_verdict
forward_ample s t room ample =
    or_else_behind (file_verdict s)
    (λ passed. entry_ample forward (keywords s) (length t) room (file_few s passed) (file_short s passed) ample)
