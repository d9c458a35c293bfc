-- The run finds every hit: at each end visited it lists the keywords that end there, and between two such ends none
-- does, because no number of an accepted table is above the largest.
use Prim.Native.Nat.{ℕ, zero, suc, ◌+◌, ◌-◌, ◌*◌, ◌≤◌, ◌<◌}
use native.Mathlib.Omega.{arith}
use mathlib.Core.Path.{◌≡◌, refl, sym, ◌∙◌, ap}
use mathlib.Core.Bool.{true}
use mathlib.Core.List.{List, [], ◌∷◌, ◌++◌, flat_map, reverse, reverse-cons, Memᴰ}
use lib.ListN.{length, take, drop, get_or, length-reverse, length-take, length-drop, take-append-drop, drop_of_length-le}
use lib.Seq.{take-add, take-suc, drop-cons, length-take-le}
use lib.Dec.{leb}
use borrow.Author.Tests.{leb-true, leb-false, le-leb, lt-leb}
use Rattle.rules.specs.sets.Limits.{longest_word, opcodes}
use Rattle.rules.specs.strings.Strings.{ends}
use Rattle.rules.specs.sets.Sets.{Keyword}
use Rattle.rules.specs.rows.Rows.{backward, rows_of, row_of}
use Rattle.rules.specs.scans.Hits.{Hit, ending_at, hits_at, hits_after, hits}
use Rattle.rules.specs.skips.Skips.{inner, edge, far, suffix_rows}
use Rattle.rules.specs.skips.Runs.{inner_in, edge_in, far_in, missing, Window, window_from, window_at, move_by, move, visits_from, visits, asked_all, run_questions, window_hits, run_hits}
use Rattle.rules.specs.scans.Audit.{Allowed, Accepted}
use Rattle.rules.specs.Beside.{Sound}
use Rattle.rules.proofs.strings.Strings.{either}
use Rattle.rules.proofs.rows.Rows.{row_of_is, row_of-nil, rowed_rows}
use Rattle.rules.proofs.skips.Skips.{stop_of, largest, skip_safe, move_by_le, move_by_pos}
use Rattle.rules.proofs.skips.Windows.{reading_stands, window_reading, window_short, asked_few, ending_none, entered_all}
use Rattle.rules.proofs.skips.Tables.{suffix_rows_at}

-- the end that a window at the end e moves on to
abbrev pub next_end : List (List ℕ) → List ℕ → List ℕ → List ℕ → ℕ → ℕ
next_end rows rowf bytef t e = e + move rows rowf bytef (window_at rows t e)

-- one step of a run
module _ (rows : List (List ℕ)) (rowf bytef t : List ℕ) where
  pub visits_none : (left e : ℕ) → length t < e → visits_from left rows rowf bytef t e ≡ []
  unfolding visits_from
  visits_none zero e h = refl
  visits_none (suc left) e h = rw (lt-leb e (length t) h)

  pub visits_more : (left e : ℕ) → e ≤ length t
      → visits_from (suc left) rows rowf bytef t e ≡ e ∷ visits_from left rows rowf bytef t (next_end rows rowf bytef t e)
  unfolding visits_from
  visits_more left e h = rw (le-leb e (length t) h)

  pub visits-count : (left e : ℕ) → length (visits_from left rows rowf bytef t e) ≤ left
  unfolding visits_from
  visits-count zero e = omega arith
  visits-count (suc left) e =
      let rest : length (visits_from left rows rowf bytef t (next_end rows rowf bytef t e)) ≤ left =
      visits-count left (next_end rows rowf bytef t e) in
      either (leb e (length t)) (λ y. rw y (omega arith)) (λ n. rw n (omega arith))

  -- any bound that is large enough is as good
  pub visits_fuel : ((e : ℕ) → e ≤ length t → e < next_end rows rowf bytef t e)
      → (left more e : ℕ)
      → length t < left + e
      → length t < more + e
      → visits_from left rows rowf bytef t e ≡ visits_from more rows rowf bytef t e
  visits_fuel moves zero more e h k = visits_none zero e (omega arith) ∙ sym (visits_none more e (omega arith))
  visits_fuel moves (suc left) zero e h k = visits_none (suc left) e (omega arith) ∙ sym (visits_none zero e (omega arith))
  visits_fuel moves (suc left) (suc more) e h k =
      either (leb e (length t))
      (λ y.
      let inside : e ≤ length t = leb-true e (length t) y in
      let further : ℕ = next_end rows rowf bytef t e in
      let low : length t < left + further = omega (arith, moves e inside) in
      let high : length t < more + further = omega (arith, moves e inside) in
      visits_more left e inside
      ∙ ap (λ (es : List ℕ). e ∷ es) (visits_fuel moves left more further low high)
      ∙ sym (visits_more more e inside))
      (λ n.
      let beyond : length t < e = leb-false e (length t) n in
      visits_none (suc left) e beyond ∙ sym (visits_none (suc more) e beyond))

-- the hits behind an end e: those at the next end, then those behind it; none where no keyword ends
module _ (ks : List Keyword) (t : List ℕ) where
  pub hits_more : (e : ℕ) → e < length t
      → hits_after ks (take e t) (drop e t) ≡ hits_at ks (take (suc e) t) ++ hits_after ks (take (suc e) t) (drop (suc e) t)
  unfolding hits_after
  hits_more e h = rw (drop-cons t e 0 h, take-suc t e 0 h)

  pub hits_done : (e : ℕ) → length t ≤ e → hits_after ks (take e t) (drop e t) ≡ []
  unfolding hits_after
  hits_done e h = rw (drop_of_length-le t h)

  pub hits_skip : (d e : ℕ)
      → ((f : ℕ) → e < f → f ≤ e + d → f ≤ length t → ending_at ks (take f t) ≡ [])
      → hits_after ks (take e t) (drop e t) ≡ hits_after ks (take (e + d) t) (drop (e + d) t)
  unfolding hits_at
  hits_skip zero e quiet = let at : e + 0 ≡ e = omega arith in rw at
  hits_skip (suc d) e quiet =
      let at : e + suc d ≡ suc e + d = omega arith in
      either (leb (length t) e)
      (λ y. hits_done e (leb-true (length t) e y) ∙ sym (hits_done (e + suc d) (omega (arith, leb-true))))
      (λ n.
      let inside : e < length t = leb-false (length t) e n in
      let behind : hits_after ks (take (suc e) t) (drop (suc e) t) ≡ hits_after ks (take (suc e + d) t) (drop (suc e + d) t) =
      hits_skip d (suc e) (λ f p q r. quiet f (omega arith) (omega arith) r) in
      hits_more e inside ∙ rw (quiet (suc e) (omega arith) (omega arith) inside, at) behind)

-- A run that is sure: every window moves, and no keyword ends before the end that it moves to.
pub record Sure (ks : List Keyword) (rows : List (List ℕ)) (rowf bytef t : List ℕ) : Type 0 where
  pub moves : (e : ℕ) → e ≤ length t → e < next_end rows rowf bytef t e
  pub misses : (e f : ℕ) → e < f → f ≤ length t → (k : Keyword) → Memᴰ k ks → ends k.word (take f t) ≡ true
      → next_end rows rowf bytef t e ≤ f

-- Then the hits behind an end e are those at the end moved to and those behind it, and none where that is beyond the
-- trace.
module _ {ks : List Keyword} {rows : List (List ℕ)} {rowf bytef t : List ℕ} (sure : Sure ks rows rowf bytef t) (e : ℕ) (inside : e ≤ length t) where
  sure_skip : (d : ℕ) → suc (e + d) ≡ next_end rows rowf bytef t e
      → hits_after ks (take e t) (drop e t) ≡ hits_after ks (take (e + d) t) (drop (e + d) t)
  sure_skip d last =
      hits_skip ks t d e
      (λ f p q r. ending_none ks (take f t) (λ k m h. omega (arith, sure.misses e f p r k m h)))

  last_of : suc (e + (next_end rows rowf bytef t e - suc e)) ≡ next_end rows rowf bytef t e
  last_of = omega (arith, sure.moves e inside)

  pub sure_done : length t < next_end rows rowf bytef t e → hits_after ks (take e t) (drop e t) ≡ []
  sure_done beyond =
      let d : ℕ = next_end rows rowf bytef t e - suc e in
      sure_skip d last_of ∙ hits_done ks t (e + d) (omega (arith, last_of))

  pub sure_more : next_end rows rowf bytef t e ≤ length t
      → hits_after ks (take e t) (drop e t)
      ≡ hits_at ks (take (next_end rows rowf bytef t e) t) ++ hits_after ks (take (next_end rows rowf bytef t e) t) (drop (next_end rows rowf bytef t e) t)
  sure_more within =
      let d : ℕ = next_end rows rowf bytef t e - suc e in
      sure_skip d last_of ∙ rw last_of at (hits_more ks t (e + d) (omega (arith, last_of)))

-- So the ends visited behind e have all the hits behind it, if each has its own.
pub sure-hits : {ks : List Keyword} {rows : List (List ℕ)} {rowf bytef t : List ℕ}
    → Sure ks rows rowf bytef t
    → (own : ℕ → List Hit)
    → ((e : ℕ) → e ≤ length t → own e ≡ hits_at ks (take e t))
    → (left e : ℕ)
    → e ≤ length t
    → length t < left + next_end rows rowf bytef t e
    → flat_map own (visits_from left rows rowf bytef t (next_end rows rowf bytef t e)) ≡ hits_after ks (take e t) (drop e t)
unfolding flat_map
sure-hits {ks} {rows} {rowf} {bytef} {t} sure own whole zero e inside fuel =
    rw (visits_none rows rowf bytef t zero (next_end rows rowf bytef t e) (omega arith)) (sym (sure_done sure e inside (omega arith)))
sure-hits {ks} {rows} {rowf} {bytef} {t} sure own whole (suc left) e inside fuel =
    let f : ℕ = next_end rows rowf bytef t e in
    either (leb f (length t))
    (λ y.
    let within : f ≤ length t = leb-true f (length t) y in
    let behind : flat_map own (visits_from left rows rowf bytef t (next_end rows rowf bytef t f)) ≡ hits_after ks (take f t) (drop f t) =
    sure-hits sure own whole left f within (omega (arith, sure.moves f within)) in
    rw (visits_more rows rowf bytef t left f within, whole f within, behind) (sym (sure_more sure e inside within)))
    (λ n.
    let beyond : length t < f = leb-false f (length t) n in
    rw (visits_none rows rowf bytef t (suc left) f beyond) (sym (sure_done sure e inside beyond)))

-- a byte at which a window stops is a byte of the trace
stop_byte : (ks : List Keyword) (t : List ℕ) (e c : ℕ) → (window_at (rows_of backward ks) t e).stop ≡ missing c → Memᴰ c t
unfolding stop_of
stop_byte ks t e c stopped =
    let r = window_reading ks t e in
    go r.left (sym r.stops ∙ stopped) (reading_stands (take e t) r)
  where
    go : (left : List ℕ) → stop_of left ≡ missing c → take e t ≡ reverse left ++ reverse (window_at (rows_of backward ks) t e).read → Memᴰ c t
    go [] q stands = let z : ◌≡◌ {A = ℕ} 0 1 = cc in absurd (omega arith)
    go (b ∷ left) q stands =
        let same_byte : b ≡ c = cc in
        let within : Memᴰ c (take e t) =
        rw (stands, reverse-cons b left)
        (mathlib.Core.List.Memᴰ.append_left (reverse (window_at (rows_of backward ks) t e).read) (mathlib.Core.List.Memᴰ.append_right (reverse left) (mathlib.Core.List.Memᴰ.head (sym same_byte)))) in
        rw (take-append-drop e t) at (mathlib.Core.List.Memᴰ.append_left (drop e t) within)

-- the scan starts as a window at end 0 moves on: by row 0's edge number
pub first-move : (ks : List Keyword) (rowf bytef t : List ℕ) → move (rows_of backward ks) rowf bytef (window_at (rows_of backward ks) t 0) ≡ edge_in rowf 0
unfolding window_at window_from move move_by
first-move ks rowf bytef t = rw (row_of-nil (rowed_rows backward ks))

-- a window's own hits are those at its end
pub window-hits : {ks : List Keyword} → Sound ks → (t : List ℕ) (e : ℕ) → e ≤ length t → window_hits ks (rows_of backward ks) t e ≡ hits_at ks (take e t)
unfolding window_hits hits_at
window-hits sound t e h = rw (entered_all sound t e, length-take-le e t h)

-- An accepted table's run over bytes is sure.
module _ {ks : List Keyword} {rowf bytef : List ℕ} (sound : Sound ks) (accepted : Accepted ks rowf bytef) (t : List ℕ)
    (bytes : (b : ℕ) → Memᴰ b t → b < opcodes) where
  pub move_allowed : (e : ℕ)
      → Allowed (largest ks (reverse (window_at (rows_of backward ks) t e).read) (window_at (rows_of backward ks) t e).stop)
      (move (rows_of backward ks) rowf bytef (window_at (rows_of backward ks) t e))
  unfolding move
  move_allowed e =
      let rows : List (List ℕ) = rows_of backward ks in
      let w : Window = window_at rows t e in
      let row : ℕ = row_of rows w.read in
      let at = row_of_is rows w.read (window_reading ks t e).row in
      let v : get_or (suffix_rows ks) row [] ≡ reverse w.read = suffix_rows_at ks row ∙ ap reverse at.1 in
      let i : Allowed (inner ks (reverse w.read)) (inner_in rowf row) = rw v at (accepted.inners row at.0) in
      let o : Allowed (edge ks (reverse w.read)) (edge_in rowf row) = rw v at (accepted.edges row at.0) in
      let f : (c : ℕ) → w.stop ≡ missing c → far_in bytef c (length w.read) ≤ far ks c (length (reverse w.read)) =
      λ c h. rw (length-reverse w.read) (accepted.fars c (length w.read) (bytes c (stop_byte ks t e c h)) (omega (arith, window_short sound t e))).fits in
      record {
        some = move_by_pos (inner_in rowf row) (edge_in rowf row) (λ c. far_in bytef c (length w.read)) w.stop i.some o.some;
        fits =
            move_by_le (inner_in rowf row) (inner ks (reverse w.read)) (edge_in rowf row) (edge ks (reverse w.read))
            (λ c. far_in bytef c (length w.read)) (λ c. far ks c (length (reverse w.read))) w.stop i.fits o.fits f;
      }

  pub accepted_sure : Sure ks (rows_of backward ks) rowf bytef t
  accepted_sure = record { moves = λ e h. omega (arith, (move_allowed e).some); misses = misses_by }
    where
      misses_by : (e f : ℕ) → e < f → f ≤ length t → (k : Keyword) → Memᴰ k ks → ends k.word (take f t) ≡ true
          → next_end (rows_of backward ks) rowf bytef t e ≤ f
      misses_by e f p q k m h =
          let w : Window = window_at (rows_of backward ks) t e in
          let r = window_reading ks t e in
          let y : List ℕ = take (f - e) (drop e t) in
          let end : f ≡ e + (f - e) = omega arith in
          let stands : take f t ≡ reverse r.left ++ reverse w.read ++ y =
          ap (λ (n : ℕ). take n t) end ∙ take-add e (f - e) t ∙ ap (λ (s : List ℕ). s ++ y) (reading_stands (take e t) r) in
          let long : length y ≡ f - e = omega (arith, length-take (f - e) (drop e t), length-drop e t) in
          let room : largest ks (reverse w.read) w.stop ≤ length y =
          rw r.stops (skip_safe m r.left (reverse w.read) y (omega arith) (rw stands at h)) in
          omega (arith, (move_allowed e).fits)

  -- Its hits are the hit list.
  pub run-hits : run_hits ks rowf bytef t ≡ hits ks t
  unfolding run_hits hits visits
  run-hits =
      let rows : List (List ℕ) = rows_of backward ks in
      let begun : next_end rows rowf bytef t 0 ≡ edge_in rowf 0 = omega (arith, first-move ks rowf bytef t) in
      let all : flat_map (window_hits ks rows t) (visits_from (length t) rows rowf bytef t (next_end rows rowf bytef t 0)) ≡ hits ks t =
      sure-hits accepted_sure (window_hits ks rows t) (window-hits sound t) (length t) 0 (omega arith) (omega (arith, (move_allowed 0).some)) in
      rw begun at all

-- The run's questions: at most sixteen for each byte of the trace.
asked-all : {ks : List Keyword} → Sound ks → (t : List ℕ) (es : List ℕ) → asked_all (rows_of backward ks) t es ≤ suc longest_word * length es
unfolding asked_all
asked-all sound t [] = omega arith
asked-all sound t (e ∷ es) = omega (arith, asked_few sound t e, asked-all sound t es)

pub run_asks : {ks : List Keyword} → Sound ks → (rowf bytef t : List ℕ) → run_questions ks rowf bytef t ≤ suc longest_word * length t
unfolding run_questions visits
run_asks {ks} sound rowf bytef t =
    omega (arith, asked-all sound t (visits ks rowf bytef t), visits-count (rows_of backward ks) rowf bytef t (length t) (edge_in rowf 0))
