-- The windows one after another: what is found and what the windows ahead will find are all the hits, and the questions
-- asked and those ahead are the run's, because an accepted table's run misses no hit.
use Prim.Native.Nat.{ℕ, suc, ◌+◌, ◌-◌, ◌*◌, ◌≤◌, ◌<◌}
use native.Mathlib.Omega.{arith}
use mathlib.Core.Path.{◌≡◌, sym, ◌∙◌, ap}
use mathlib.Core.List.Memᴰ
use mathlib.Core.List.{List, [], ◌++◌, map, map-map, flat_map, reverse, append_assoc, append-nil}
use lib.ListN.{length, length-append, length-map, length-reverse}
use Rattle.rules.specs.sets.Limits.{longest_word, longest_trace, row_record}
use Rattle.rules.specs.sets.Sets.{Keyword}
use Rattle.rules.specs.rows.Rows.{backward}
use Rattle.rules.specs.scans.Hits.{Hit, hits}
use Rattle.rules.specs.skips.Runs.{edge_in, window_at, move, entered, window_hits, visits, run_hits, asked, asked_all, run_questions}
use Rattle.rules.specs.scans.Audit.{Accepted}
use Rattle.rules.specs.Beside.{numbered}
use Rattle.rules.proofs.scans.Hits.{hits_few, hits_occur, energy_most}
use Rattle.rules.proofs.rows.Rows.{row_of_is, rowed_rows}
use Rattle.rules.proofs.skips.Windows.{window_reading, window_short}
use Rattle.rules.proofs.skips.Tables.{accepted_exactly}
use Rattle.rules.proofs.skips.Runs.{Sure, accepted_sure, move_allowed, run-hits, run_asks}
use Rattle.rules.proofs.skips.Ahead.{ahead, ahead_none, ahead_more}
use Rattle.words.specs.Items.{keywords_in}
use Rattle.hits.specs.declared.Tally.{Tally}
use Rattle.hits.specs.Tallies.{Tallied, hit_of}
use Rattle.backward.specs.Windowed.{move_in, window_of, Moving, Closing, Ran}
use Rattle.backward.proofs.Reached.{rows_in, Known, last_of, Stopped}

-- how far the window at `end` moves on
abbrev pub step_at : List ℕ → List ℕ → List ℕ → List ℕ → ℕ → ℕ
step_at l t rowf bytef end = move (rows_in l) rowf bytef (window_at (rows_in l) t end)

-- the hits and the questions of the windows ahead of `end`
abbrev pub hits_ahead : List ℕ → List ℕ → List ℕ → List ℕ → ℕ → List Hit
hits_ahead l t rowf bytef end = flat_map (window_hits (keywords_in l) (rows_in l) t) (ahead (rows_in l) rowf bytef t end)

abbrev pub asked_ahead : List ℕ → List ℕ → List ℕ → List ℕ → ℕ → ℕ
asked_ahead l t rowf bytef end = asked_all (rows_in l) t (ahead (rows_in l) rowf bytef t end)

-- before the window at `end`, in a run that began with the hit buffer `old`
pub record Underway (l t rowf bytef old hs : List ℕ) (tally : Tally) (questions end : ℕ) : Type 0 where
  pub some : 1 ≤ end
  pub done : List Hit
  pub tallied : Tallied done old tally hs
  pub joined : done ++ hits_ahead l t rowf bytef end ≡ hits (keywords_in l) t
  pub counted : questions + asked_ahead l t rowf bytef end ≡ run_questions (keywords_in l) rowf bytef t

module _ {l t rowf bytef ws : List ℕ} (known : Known l t rowf bytef ws) where
  accepted : Accepted (keywords_in l) rowf bytef
  accepted = (accepted_exactly (keywords_in l) rowf bytef).0 known.safe.safe

  sure : Sure (keywords_in l) (rows_in l) rowf bytef t
  sure = accepted_sure known.sound accepted t known.bytes

  -- row 0's record is there
  pub first_room : row_record ≤ length rowf
  first_room = omega (arith, accepted.row_size, (rowed_rows backward (keywords_in l)).some)

  -- before the first window
  pub underway_none : (old : List ℕ) (tally : Tally) (end : ℕ)
      → Tallied [] old tally old
      → end ≡ edge_in rowf 0
      → Underway l t rowf bytef old old tally 0 end
  unfolding run_hits run_questions visits
  underway_none old tally end tallied first =
      record {
        some = rw first (accepted.edges 0 (rowed_rows backward (keywords_in l)).some).some;
        done = [];
        tallied = tallied;
        joined = rw first (run-hits known.sound accepted t known.bytes);
        counted = rw first (omega arith);
      }

  module _ {old hs : List ℕ} {tally : Tally} {questions end : ℕ}
      (running : Underway l t rowf bytef old hs tally questions end) where
    -- the counters have room
    pub underway_few : questions ≤ suc longest_word * longest_trace
    underway_few = omega (arith, running.counted, run_asks known.sound rowf bytef t, known.safe.near)

    -- beyond the trace: all is found
    pub underway_all : length t < end
        → Ran (keywords_in l) t rowf bytef old (record { tally = tally; questions = questions }) hs
    unfolding flat_map asked_all
    underway_all beyond =
        let none : ahead (rows_in l) rowf bytef t end ≡ [] = ahead_none (rows_in l) rowf bytef t end beyond in
        let all : running.done ≡ hits (keywords_in l) t =
        sym (append-nil running.done) ∙ (rw none at running.joined) in
        let over : questions + 0 ≡ run_questions (keywords_in l) rowf bytef t = (rw none at running.counted) in
        record { tallied = rw all at running.tallied; asked = omega (arith, over) }

    -- the window at `end` has stopped
    module _ {questions' : ℕ} {met unread : List ℕ} {row : ℕ} (inside : end ≤ length t)
        (stopped : Stopped l t end questions questions' met unread row) where
      -- what it met are its hits
      window_is : window_of (keywords_in l) end met ≡ window_hits (keywords_in l) (rows_in l) t end
      unfolding window_of window_hits entered hit_of
      window_is =
          sym (map-map (λ k. record { end = end; keyword = k }) (numbered (keywords_in l)) (reverse met))
          ∙ ap (map (λ (k : Keyword). record { end = end; keyword = k })) (sym stopped.kept.are)

      met-length : length (window_of (keywords_in l) end met) ≡ length met
      unfolding window_of
      met-length = simp (length-map, length-reverse)

      -- they are the next of all
      next-hits : running.done ++ window_of (keywords_in l) end met
          ++ hits_ahead l t rowf bytef (end + step_at l t rowf bytef end)
          ≡ hits (keywords_in l) t
      unfolding flat_map
      next-hits =
          let more = ahead_more (rows_in l) rowf bytef t sure.moves end running.some inside in
          append_assoc running.done (window_of (keywords_in l) end met)
          (hits_ahead l t rowf bytef (end + step_at l t rowf bytef end))
          ∙ rw window_is (rw more at running.joined)

      pub window_closing : Closing l end met running.done old tally hs
      window_closing =
          let left_over : List Hit = hits_ahead l t rowf bytef end in
          let behind : List Hit = hits_ahead l t rowf bytef (end + step_at l t rowf bytef end) in
          record {
            near = omega (arith, known.safe.near);
            known = stopped.kept.known;
            few =
                omega (
                  arith,
                  known.safe.near,
                  hits_few known.sound t,
                  ap length next-hits,
                  length-append (running.done ++ window_of (keywords_in l) end met) behind,
                  length-append running.done (window_of (keywords_in l) end met),
                  met-length,
                );
            little =
                energy_most running.done
                (λ h m.
                let here = rw running.joined at (Memᴰ.append_left left_over m) in
                known.sound.figures h.keyword (hits_occur (keywords_in l) t h here).listed);
            tallied = running.tallied;
          }

      -- its row's numbers are in the files
      pub window_moving : Moving rowf bytef row (end - length unread)
      window_moving =
          let is = (window_reading (keywords_in l) t end).row in
          let at : row < length (rows_in l) =
          rw stopped.number (row_of_is (rows_in l) (window_at (rows_in l) t end).read is).0 in
          record {
            rows = omega (arith, accepted.row_size);
            bytes = accepted.byte_size;
            shallow = omega (arith, stopped.depth, window_short known.sound t end);
          }

      window-move : move_in rowf bytef row (end - length unread) (last_of unread) ≡ step_at l t rowf bytef end
      unfolding move
      window-move =
          let depth : end - length unread ≡ length (window_at (rows_in l) t end).read = omega (arith, stopped.depth) in
          rw (stopped.number, depth, stopped.stops)

      -- it moves on
      pub window_some : 1 ≤ move_in rowf bytef row (end - length unread) (last_of unread)
      window_some = rw window-move (move_allowed known.sound accepted t known.bytes end).some

      pub underway_more : {tally' : Tally} {hs' : List ℕ} (n : ℕ)
          → n ≡ move_in rowf bytef row (end - length unread) (last_of unread)
          → Tallied (running.done ++ window_of (keywords_in l) end met) old tally' hs'
          → Underway l t rowf bytef old hs' tally' questions' (end + n)
      unfolding asked_all
      underway_more n moved tallied =
          let here : n ≡ step_at l t rowf bytef end = moved ∙ window-move in
          let all : asked_ahead l t rowf bytef end
          ≡ asked (window_at (rows_in l) t end) + asked_ahead l t rowf bytef (end + step_at l t rowf bytef end) =
          ap (asked_all (rows_in l) t) (ahead_more (rows_in l) rowf bytef t sure.moves end running.some inside) in
          record {
            some = omega (arith, running.some);
            done = running.done ++ window_of (keywords_in l) end met;
            tallied = tallied;
            joined = rw here next-hits;
            counted = rw here (omega (arith, running.counted, stopped.counted));
          }
