-- The tests of a table in their order: the first that shows a fault decides.
use Prim.Native.Nat.{ℕ, ◌*◌}
use mathlib.Core.Path.{◌≡◌, sym, ◌∙◌}
use mathlib.Core.List.{List}
use lib.ListN.{length}
use borrow.Author.Tests.{eq-eqb, ne_eqb}
use Rattle.rules.specs.sets.Limits.{row_record, byte_file_size}
use Rattle.rules.specs.sets.Sets.{Keyword}
use Rattle.rules.specs.rows.Rows.{backward, rows_of}
use Rattle.rules.specs.skips.Skips.{suffix_rows}
use Rattle.rules.specs.answers.Refusals.{pass, refuse, refuse_if, or_else, row_verdicts, far_verdicts, table_verdict}
use Rattle.rules.proofs.skips.Tables.{suffix_rows-length}

module _ (ks : List Keyword) (rowf bytef : List ℕ) (rows : ℕ) (counted : rows ≡ length (rows_of backward ks)) where
  count : length (suffix_rows ks) ≡ rows
  count = suffix_rows-length ks ∙ sym counted

  pub table_size : (length rowf ≡ row_record * rows → ⊥) → table_verdict ks rowf bytef ≡ refuse 10 rows
  unfolding table_verdict or_else refuse_if
  table_size h = rw (count, ne_eqb (length rowf) (row_record * rows) h)

  module _ (sized : length rowf ≡ row_record * rows) where
    pub table_rows : {n p : ℕ} → row_verdicts ks 0 (suffix_rows ks) rowf ≡ refuse n p → table_verdict ks rowf bytef ≡ refuse n p
    unfolding table_verdict or_else refuse_if
    table_rows h = rw (count, eq-eqb (length rowf) (row_record * rows) sized, h)

    module _ (passed : row_verdicts ks 0 (suffix_rows ks) rowf ≡ pass) where
      pub table_bytes : (length bytef ≡ byte_file_size → ⊥) → table_verdict ks rowf bytef ≡ refuse 13 0
      unfolding table_verdict or_else refuse_if
      table_bytes h = rw (count, eq-eqb (length rowf) (row_record * rows) sized, passed, ne_eqb (length bytef) byte_file_size h)

      pub table_fars : length bytef ≡ byte_file_size → far_verdicts ks byte_file_size 0 bytef ≡ table_verdict ks rowf bytef
      unfolding table_verdict or_else refuse_if
      table_fars h = rw (count, eq-eqb (length rowf) (row_record * rows) sized, passed, eq-eqb (length bytef) byte_file_size h)
