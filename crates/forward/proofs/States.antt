-- The scan's row stands for the longest suffix read that begins a keyword, and a string begins a keyword exactly where
-- it is a row: so a step over the rows is the definition's.
use Prim.Native.Nat.{ℕ, ◌+◌, ◌-◌, ◌*◌, ◌≤◌, ◌<◌}
use native.Mathlib.Omega.{arith}
use mathlib.Core.Path.{◌≡◌, refl, sym, ◌∙◌, ap}
use mathlib.Core.Bool.{Bool, true}
use mathlib.Core.List.{List, [], ◌∷◌, ◌++◌}
use lib.ListN.{length, take, get_or}
use Rattle.std.proofs.lemmas.List.{take_more, length-take-le}
use Rattle.rules.specs.sets.Limits.{longest_word, longest_trace}
use Rattle.rules.specs.strings.Strings.{same, any, longest, longest_behind}
use Rattle.rules.specs.sets.Sets.{Keyword}
use Rattle.rules.specs.rows.Rows.{forward, starts, rows_of, row_of, failure_cell, is_row}
use Rattle.rules.specs.scans.Hits.{hits, hits_after}
use Rattle.rules.specs.scans.Questions.{questions_at, questions_after, questions}
use Rattle.rules.specs.Beside.{Sound}
use Rattle.rules.proofs.rows.Rows.{root_row, rowed_rows, row_at, row_of_is, row_of-nil, starts_closed}
use Rattle.rules.proofs.rows.PrefixRows.{filled_rows, row_short}
use Rattle.rules.proofs.scans.State.{asked_by, asked_state, longest-nil, longest_passes, longest_state}
use Rattle.rules.proofs.scans.Questions.{questions_more, questions_bound}
use Rattle.rows.specs.Laid.{Laid}
use Rattle.rows.specs.Falls.{Ready, Moved}
use Rattle.rows.specs.declared.failures.Advanced.{Advanced}
use Rattle.forward.specs.declared.Running.{Running}
use Rattle.hits.specs.declared.Tally.{Tally}
use Rattle.hits.specs.Tallies.{Tallied}
use Rattle.forward.specs.Progress.{state_of, AllFound, Scanning, Course, Ending, Going}

-- the rows of the keywords
abbrev pub rows_for : List Keyword → List (List ℕ)
rows_for ks = rows_of forward ks

pub row-starts : {ks : List Keyword} → Sound ks → is_row (rows_for ks) ≡ starts forward ks
row-starts {ks} sound = λ i r. filled_rows forward ks sound.some r i

module _ {ks : List Keyword} (sound : Sound ks) (u : List ℕ) where
  -- the state is a row
  state_is : any (same (longest (starts forward ks) u)) (rows_for ks) ≡ true
  state_is =
      let same_tests = filled_rows forward ks sound.some in
      same_tests (longest (starts forward ks) u)
      ∙ longest_passes (starts forward ks) (sym (same_tests []) ∙ root_row (rowed_rows forward ks)) u

  module _ (row : ℕ) (state : row ≡ state_of ks u) where
    pub state_within : row < length (rows_for ks)
    state_within = rw state (row_of_is (rows_for ks) (longest (starts forward ks) u) state_is).0

    pub state_reads : get_or (rows_for ks) row [] ≡ longest (starts forward ks) u
    state_reads = rw state (row_of_is (rows_for ks) (longest (starts forward ks) u) state_is).1

    -- a step may be taken from it
    pub state_ready : {ws : List ℕ} → Laid forward ks ws → Ready (rows_for ks) longest_word row ws
    unfolding failure_cell
    state_ready laid =
        record {
          tree = laid.tree;
          short = omega arith;
          falls = λ i q h.
              laid.failures i q
              ∙ ap (λ (p : List ℕ → Bool). row_of (rows_for ks) (longest_behind p (get_or (rows_for ks) i [])))
              (sym (row-starts sound));
          within = state_within;
          shallow = row_short forward sound _ (row_at (rows_for ks) row _ state_within refl);
        }

    -- where it leads, and what it asks
    module _ {c : ℕ} {r : Advanced} (moved : Moved (rows_for ks) (get_or (rows_for ks) row []) c r) where
      pub moved_state : r.row ≡ row_of (rows_for ks) (longest (starts forward ks) (u ++ (c ∷ [])))
      moved_state =
          moved.row
          ∙ rw (row-starts sound, state_reads)
          (ap (row_of (rows_for ks))
          (sym (longest_state (starts forward ks) (λ r c. starts_closed forward ks r (c ∷ [])) u c)))

      pub moved_asked : r.asked ≡ questions_at ks u c
      unfolding asked_by questions_at
      moved_asked =
          moved.asked
          ∙ ap (λ (p : List ℕ → Bool). asked_by p (get_or (rows_for ks) row []) c) (row-starts sound)
          ∙ rw state_reads (sym (asked_state (starts forward ks) u c))

-- nothing read
pub scanning_none : (ks : List Keyword) (old : List ℕ) {tally : Tally}
    → Tallied [] old tally old
    → Scanning ks [] old (record { row = 0; end = 0; questions = 0; tally = tally }) old
unfolding hits hits_after questions questions_after
scanning_none ks old nothing =
    record {
      state = rw (longest-nil (starts forward ks)) (sym (row_of-nil (rowed_rows forward ks)));
      end = refl;
      asked = refl;
      found = nothing;
    }

-- one byte more: a step may be taken, its questions are few, the hits behind it may be listed, and then it is read
pub going_ready : {ks : List Keyword} {course : Course} {ws hs : List ℕ} {run : Running}
    → Sound ks
    → Laid forward ks ws
    → Going ks course run hs
    → Ready (rows_for ks) longest_word run.row ws
going_ready {course = course} {run = run} sound laid going =
    state_ready sound (take run.end course.whole) run.row going.scanning.state laid

module _ {ks : List Keyword} {course : Course} {hs : List ℕ} {run : Running} (sound : Sound ks)
    (going : Going ks course run hs)
    {c : ℕ} (next : (run.end < length course.whole) × (c ≡ get_or course.whole run.end 0))
    {r : Advanced} (moved : Moved (rows_for ks) (get_or (rows_for ks) run.row []) c r) where
  read : take (run.end + 1) course.whole ≡ take run.end course.whole ++ (c ∷ [])
  read = take_more course.whole run.end 0 next.0 ∙ ap (λ (b : ℕ). take run.end course.whole ++ (b ∷ [])) (sym next.1)

  more : run.questions + r.asked ≡ questions ks (take (run.end + 1) course.whole)
  more =
      rw read
      (omega (
        arith,
        going.scanning.asked,
        moved_asked sound (take run.end course.whole) run.row going.scanning.state moved,
        questions_more ks (take run.end course.whole) c,
      ))

  pub step_few : run.questions + r.asked ≤ 2 * longest_trace
  step_few =
      omega (
        arith,
        more,
        questions_bound ks (take (run.end + 1) course.whole),
        length-take-le (run.end + 1) course.whole,
        going.near,
        next.0,
      )

  pub step_ending : Ending ks course r.row (run.end + 1) run.tally hs
  step_ending =
      record {
        near = going.near;
        some = omega arith;
        within = omega (arith, next.0);
        state = rw read (moved_state sound (take run.end course.whole) run.row going.scanning.state moved);
        found = let e : run.end + 1 - 1 ≡ run.end = omega arith in rw e going.scanning.found;
      }

  pub step_read : {tally : Tally} {hs' : List ℕ}
      → AllFound ks (take (run.end + 1) course.whole) course.old tally hs'
      → Going ks course
      (record { row = r.row; end = run.end + 1; questions = run.questions + r.asked; tally = tally })
      hs'
  step_read found =
      record {
        near = going.near;
        scanning =
            record {
              state = step_ending.state;
              end = sym (length-take-le (run.end + 1) course.whole (omega (arith, next.0)));
              asked = more;
              found = found;
            };
      }
