-- What a job that began has: the tests refused, and the workspace is as it was; or they passed, and it holds the rows.
use Prim.Native.Nat.{ℕ}
use mathlib.Core.Path.{◌≡◌, refl, ◌∙◌, ap}
use mathlib.Core.List.{List}
use lib.ListN.{length}
use Rattle.std.specs.Prelude.{Ok, Err}
use Rattle.rules.specs.declared.Refusal.{Refusal}
use Rattle.rules.specs.sets.Sets.{Keyword}
use Rattle.rules.specs.rows.Rows.{Way, rows_of, cells}
use Rattle.rules.specs.scans.Hits.{over}
use Rattle.rules.specs.answers.Refusals.{pass, refuse, entry_verdict}
use Rattle.rules.specs.answers.Answers.{number_of, place_of, told_count}
use Rattle.rules.specs.answers.Promises.{on_pass, kept, with_rows}
use Rattle.rules.proofs.answers.Refused.{numbered_entry}
use Rattle.rules.proofs.answers.Counts.{answer_refused, answer_passed, counted_number, counted_refused}
use Rattle.rows.specs.Beginning.{Begun}

module _ {way : Way} {ks : List Keyword} {n : ℕ} {ws : List ℕ} where
  pub begin_refused : (fault : Refusal)
      → entry_verdict way ks n (length ws) ≡ refuse (number_of fault) (place_of fault)
      → Begun way ks n ws (Err fault) ws
  unfolding kept on_pass
  begin_refused fault said = record { told = answer_refused _ said; rows = rw said }

  pub begin_laid : {rows : ℕ} {ws' : List ℕ}
      → entry_verdict way ks n (length ws) ≡ pass
      → rows ≡ length (rows_of way ks)
      → ws' ≡ over (cells way ks) ws
      → Begun way ks n ws (Ok rows) ws'
  unfolding kept on_pass with_rows
  begin_laid fine counted laid = record { told = ap told_count counted ∙ answer_passed _ fine; rows = rw fine laid }

  module _ {ws' : List ℕ} where
    pub begun_refused : (fault : Refusal) → Begun way ks n ws (Err fault) ws'
        → (entry_verdict way ks n (length ws) ≡ refuse (number_of fault) (place_of fault)) × (ws' ≡ ws)
    unfolding kept on_pass
    begun_refused fault so =
        let said = counted_refused fault (told_count (length (rows_of way ks))) (entry_verdict way ks n (length ws)) refl so.told in
        (said, rw said at so.rows)

    pub begun_laid : {rows : ℕ} → Begun way ks n ws (Ok rows) ws'
        → (entry_verdict way ks n (length ws) ≡ pass) × (rows ≡ length (rows_of way ks)) × (ws' ≡ over (cells way ks) ws)
    unfolding kept on_pass with_rows
    begun_laid so =
        let fine = counted_number (length (rows_of way ks)) (entry_verdict way ks n (length ws)) (numbered_entry way ks n (length ws)) so.told in
        (fine.0, fine.1, rw fine.0 at so.rows)
