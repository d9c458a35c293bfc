-- Each refusal has a number of the table, 1 to 17 without 7, and a place within a bound: each test's has, and so has the
-- first's. So an answer with the number 0 says that there is no refusal, and none has the number 7.
use Prim.Native.Nat.{ℕ, zero, suc, ◌+◌, ◌≤◌, ◌/◌}
use mathlib.Core.Path.{◌≡◌, refl, sym, ◌∙◌, ap, subst}
use mathlib.Core.Bool.{Bool, true, false, ◌&&◌, not}
use mathlib.Core.List.{List, [], ◌++◌, ◌∷◌}
use lib.ListN.{length, take, drop}
use native.Mathlib.Omega.{arith}
use lib.Dec.{eqb, leb}
use borrow.Author.Tests.{eqb-false, leb-true, ltb-false, not-true}
use Rattle.rules.specs.sets.Limits.{record_size, most_keywords, row_record, byte_file_size}
use Rattle.rules.specs.sets.Sets.{Keyword, keyword_of, keywords}
use Rattle.rules.specs.rows.Rows.{Way, forward, backward, rows_of}
use Rattle.rules.specs.skips.Skips.{suffix_rows}
use Rattle.rules.specs.answers.Refusals.{Verdict, pass, refuse, refuse_if, or_else, record_verdict, record_verdicts, file_verdict, trace_verdict, workspace_verdict, entry_verdict, row_verdicts, far_verdicts, table_verdict, buffer_verdict}
use Rattle.rules.specs.answers.Answers.{Told}
use Rattle.rules.specs.answers.Promises.{on_pass, answer_or, forward_verdict, backward_entry, table_entry, make_verdict, host_verdict}
use Rattle.rules.proofs.strings.Strings.{and_left, and_right}
use Rattle.rules.proofs.answers.Verdicts.{or_else_pass, refuse_if_pass}
use Rattle.rules.proofs.sets.Sets.{file_few, file_short}
use Rattle.rules.proofs.rows.Most.{rows_most}
use Rattle.rules.proofs.skips.Tables.{suffix_rows-length}

-- the table's numbers
abbrev pub in_table : ℕ → Bool
in_table n = leb 1 n && (leb n 17 && not (eqb n 7))

pub record Given (n : ℕ) : Type 0 where
  pub some : 1 ≤ n
  pub known : n ≤ 17
  pub not_seven : n ≡ 7 → ⊥

pub given : (n : ℕ) → in_table n ≡ true → Given n
given n listed =
    let rest : (leb n 17 && not (eqb n 7)) ≡ true = and_right (leb 1 n) (leb n 17 && not (eqb n 7)) listed in
    record {
      some = leb-true 1 n (and_left (leb 1 n) (leb n 17 && not (eqb n 7)) listed);
      known = leb-true n 17 (and_left (leb n 17) (not (eqb n 7)) rest);
      not_seven = eqb-false n 7 (not-true (eqb n 7) (and_right (leb n 17) (not (eqb n 7)) rest));
    }

-- a number of the table, and a place of at most `most`
pub record Line (most n p : ℕ) : Type 0 where
  pub number : Given n
  pub near : p ≤ most

abbrev pub Tabled : ℕ → Verdict → Type 0
Tabled most v = (n p : ℕ) → v ≡ refuse n p → Line most n p

module _ {most : ℕ} where
  tabled_pass : Tabled most pass
  tabled_pass n p e = let z : ◌≡◌ {A = ℕ} 0 1 = cc in absurd (omega arith)

  tabled_if : (b : Bool) (n p : ℕ) → in_table n ≡ true → p ≤ most → Tabled most (refuse_if b n p)
  unfolding refuse_if
  tabled_if true n p listed near m q e =
      let number : n ≡ m = cc in
      let place : p ≡ q = cc in
      record { number = subst Given number (given n listed); near = omega arith }
  tabled_if false n p listed near m q e = tabled_pass m q e

  -- a later test speaks only where the earlier ones passed
  tabled_both : (v w : Verdict) → Tabled most v → (v ≡ pass → Tabled most w) → Tabled most (or_else v w)
  unfolding or_else
  tabled_both pass w f g = g refl
  tabled_both (refuse n p) w f g = f

  -- the tests of a set, a trace and a workspace
  tabled_record : (i : ℕ) (ks : List Keyword) (r : List ℕ) → i ≤ most → Tabled most (record_verdict i ks r)
  unfolding record_verdict
  tabled_record i ks r near =
      tabled_both _ _ (tabled_if _ 4 i refl near)
      (λ _. tabled_both _ _ (tabled_if _ 5 i refl near)
      (λ _. tabled_if _ 6 i refl near))

  tabled-records : (n i : ℕ) (ks : List Keyword) (s : List ℕ) → i + n ≤ most → Tabled most (record_verdicts n i ks s)
  unfolding record_verdicts
  tabled-records zero i ks s near = tabled_pass
  tabled-records (suc n) i ks s near =
      let r : List ℕ = take record_size s in
      tabled_both _ _ (tabled_record i ks r (omega arith))
      (λ _. tabled-records n (suc i) (ks ++ (keyword_of i r ∷ [])) (drop record_size s) (omega arith))

  tabled_file : (s : List ℕ) → most_keywords ≤ most → Tabled most (file_verdict s)
  unfolding file_verdict
  tabled_file s wide =
      tabled_both _ _ (tabled_if _ 1 0 refl (omega arith))
      (λ _. tabled_both _ _ (tabled_if _ 2 0 refl (omega arith))
      (λ _. tabled_both _ _ (tabled_if _ 3 0 refl (omega arith))
      (λ few.
      let bound : length s / record_size ≤ most_keywords =
      ltb-false most_keywords (length s / record_size) (refuse_if_pass 3 0 few) in
      tabled-records (length s / record_size) 0 [] s (omega arith))))

  tabled-trace : (n : ℕ) → Tabled most (trace_verdict n)
  unfolding trace_verdict
  tabled-trace n = tabled_if _ 8 0 refl (omega arith)

  tabled-workspace : (way : Way) (ks : List Keyword) (room : ℕ)
      → length (rows_of way ks) ≤ most
      → Tabled most (workspace_verdict way ks room)
  unfolding workspace_verdict
  tabled-workspace way ks room near = tabled_if _ 9 _ refl near

  tabled_entry : (way : Way) (ks : List Keyword) (n room : ℕ)
      → length (rows_of way ks) ≤ most
      → Tabled most (entry_verdict way ks n room)
  tabled_entry way ks n room near = tabled_both _ _ (tabled-trace n) (λ _. tabled-workspace way ks room near)

  -- the tests of a table, and of the buffers for one
  tabled_rows : (ks : List Keyword) (i : ℕ) (vs : List (List ℕ)) (f : List ℕ)
      → i + length vs ≤ most
      → Tabled most (row_verdicts ks i vs f)
  unfolding row_verdicts
  tabled_rows ks i [] f near = tabled_pass
  tabled_rows ks i (v ∷ vs) f near =
      tabled_both _ _ (tabled_if _ 11 i refl (omega arith))
      (λ _. tabled_both _ _ (tabled_if _ 12 i refl (omega arith))
      (λ _. tabled_rows ks (suc i) vs (drop row_record f) (omega arith)))

  tabled_fars : (ks : List Keyword) (n p : ℕ) (f : List ℕ) → p + n ≤ most → Tabled most (far_verdicts ks n p f)
  unfolding far_verdicts
  tabled_fars ks zero p f near = tabled_pass
  tabled_fars ks (suc n) p f near =
      tabled_both _ _ (tabled_if _ 14 p refl (omega arith))
      (λ _. tabled_fars ks n (suc p) (drop 1 f) (omega arith))

  tabled_table : (ks : List Keyword) (rowf bytef : List ℕ)
      → length (rows_of backward ks) ≤ most
      → byte_file_size ≤ most
      → Tabled most (table_verdict ks rowf bytef)
  unfolding table_verdict
  tabled_table ks rowf bytef near wide =
      let all : length (suffix_rows ks) ≤ most = omega (arith, suffix_rows-length ks) in
      tabled_both _ _ (tabled_if _ 10 _ refl all)
      (λ _. tabled_both _ _ (tabled_rows ks 0 (suffix_rows ks) rowf (omega arith))
      (λ _. tabled_both _ _ (tabled_if _ 13 0 refl (omega arith))
      (λ _. tabled_fars ks byte_file_size 0 bytef wide)))

  tabled_buffers : (ks : List Keyword) (row_room byte_room : ℕ)
      → length (rows_of backward ks) ≤ most
      → Tabled most (buffer_verdict ks row_room byte_room)
  unfolding buffer_verdict
  tabled_buffers ks row_room byte_room near =
      tabled_both _ _ (tabled_if _ 15 _ refl near)
      (λ _. tabled_if _ 16 0 refl (omega arith))

-- The tests of each job over the whole: the rows that a place tells of are few, since the set passed before.
pub file_rows : (way : Way) (s : List ℕ) → file_verdict s ≡ pass → length (rows_of way (keywords s)) ≤ byte_file_size
file_rows way s passed = omega (arith, rows_most way (keywords s) (file_few s passed) (file_short s passed))

module _ (s : List ℕ) where
  tabled-set : (w : Verdict)
      → (file_verdict s ≡ pass → Tabled byte_file_size w)
      → Tabled byte_file_size (or_else (file_verdict s) w)
  tabled-set w f = tabled_both _ _ (tabled_file s (omega arith)) f

  -- what the tests of a table ask, behind those that a job begins with
  tabled_behind : (v w : Verdict)
      → Tabled byte_file_size (or_else (file_verdict s) v)
      → (length (rows_of backward (keywords s)) ≤ byte_file_size → Tabled byte_file_size w)
      → Tabled byte_file_size (or_else (or_else (file_verdict s) v) w)
  tabled_behind v w f g =
      tabled_both _ _ f (λ passed. g (file_rows backward s (or_else_pass (file_verdict s) v passed).0))

  tabled_room : (room : ℕ) → Tabled byte_file_size (table_entry s room)
  unfolding table_entry
  tabled_room room =
      tabled-set _ (λ passed. tabled-workspace backward (keywords s) room (file_rows backward s passed))

  pub tabled_forward : (t : List ℕ) (room : ℕ) → Tabled byte_file_size (forward_verdict s t room)
  unfolding forward_verdict
  tabled_forward t room =
      tabled-set _ (λ passed. tabled_entry forward (keywords s) (length t) room (file_rows forward s passed))

  pub tabled_backward : (t rowf bytef : List ℕ) (room : ℕ)
      → Tabled byte_file_size (or_else (backward_entry s t room) (table_verdict (keywords s) rowf bytef))
  unfolding backward_entry
  tabled_backward t rowf bytef room =
      tabled_behind _ _
      (tabled-set _ (λ passed. tabled_entry backward (keywords s) (length t) room (file_rows backward s passed)))
      (λ few. tabled_table (keywords s) rowf bytef few (omega arith))

  pub tabled_make : (room row_room byte_room : ℕ)
      → Tabled byte_file_size (make_verdict (table_entry s room) (keywords s) row_room byte_room)
  unfolding make_verdict table_entry
  tabled_make room row_room byte_room =
      tabled_behind _ _ (tabled_room room) (λ few. tabled_buffers (keywords s) row_room byte_room few)

  pub tabled_check : (rowf bytef : List ℕ) (room : ℕ)
      → Tabled byte_file_size (or_else (table_entry s room) (table_verdict (keywords s) rowf bytef))
  unfolding table_entry
  tabled_check rowf bytef room =
      tabled_behind _ _ (tabled_room room) (λ few. tabled_table (keywords s) rowf bytef few (omega arith))

  pub tabled_host : (t : List ℕ) → Tabled byte_file_size (host_verdict s t)
  unfolding host_verdict
  tabled_host t = tabled-set _ (λ _. tabled-trace (length t))

-- No refusal has the number 0.
abbrev pub Numbered : Verdict → Type 0
Numbered v = (p : ℕ) → v ≡ refuse 0 p → ⊥

pub numbered : {most : ℕ} {v : Verdict} → Tabled most v → Numbered v
numbered tabled p e = omega (arith, (tabled 0 p e).number.some)

pub numbered_if : (b : Bool) (n p : ℕ) → 1 ≤ n → Numbered (refuse_if b n p)
unfolding refuse_if
numbered_if true n p some q e = let z : n ≡ 0 = cc in omega arith
numbered_if false n p some q e = let z : ◌≡◌ {A = ℕ} 0 1 = cc in omega arith

pub numbered_both : (v w : Verdict) → Numbered v → Numbered w → Numbered (or_else v w)
unfolding or_else
numbered_both pass w f g = g
numbered_both (refuse n p) w f g = f

pub numbered_record : (i : ℕ) (ks : List Keyword) (r : List ℕ) → Numbered (record_verdict i ks r)
numbered_record i ks r = numbered (tabled_record {most = i} i ks r (omega arith))

pub numbered_file : (s : List ℕ) → Numbered (file_verdict s)
numbered_file s = numbered (tabled_file {most = most_keywords} s (omega arith))

pub numbered-workspace : (way : Way) (ks : List Keyword) (room : ℕ) → Numbered (workspace_verdict way ks room)
numbered-workspace way ks room = numbered (tabled-workspace {most = length (rows_of way ks)} way ks room (omega arith))

pub numbered_entry : (way : Way) (ks : List Keyword) (n room : ℕ) → Numbered (entry_verdict way ks n room)
numbered_entry way ks n room = numbered (tabled_entry {most = length (rows_of way ks)} way ks n room (omega arith))

pub numbered_table : (ks : List Keyword) (rowf bytef : List ℕ) → Numbered (table_verdict ks rowf bytef)
numbered_table ks rowf bytef =
    numbered (tabled_table {most = length (rows_of backward ks) + byte_file_size} ks rowf bytef (omega arith) (omega arith))

pub numbered_forward : (s t : List ℕ) (room : ℕ) → Numbered (forward_verdict s t room)
numbered_forward s t room = numbered (tabled_forward s t room)

pub numbered_backward : (s t rowf bytef : List ℕ) (room : ℕ)
    → Numbered (or_else (backward_entry s t room) (table_verdict (keywords s) rowf bytef))
numbered_backward s t rowf bytef room = numbered (tabled_backward s t rowf bytef room)

pub numbered_host : (s t : List ℕ) → Numbered (host_verdict s t)
numbered_host s t = numbered (tabled_host s t)

-- So an answer with the number 0 is no refusal: its tests passed.
pub answered_passed : (a : Told) {b : Told} (v : Verdict) → Numbered v → b ≡ answer_or a v → b.number ≡ 0 → v ≡ pass
unfolding answer_or on_pass
answered_passed a pass numbered e z = refl
answered_passed a (refuse n p) numbered e z =
    absurd (numbered p (ap (λ (m : ℕ). refuse m p) (sym (ap (λ (t : Told). t.number) e) ∙ z)))
