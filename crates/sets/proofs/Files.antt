-- A file's verdict is the first of its tests that shows a fault: its size decides, or the first record that does not
-- pass.
use Prim.Native.Nat.{ℕ, ◌+◌, ◌*◌, ◌/◌, ◌%◌, ◌≤◌, ◌<◌}
use native.Mathlib.Omega.{arith}
use native.Mathlib.Numerals.{add-one}
use mathlib.Core.Path.{◌≡◌, refl, sym, ◌∙◌}
use mathlib.Core.List.{List, []}
use lib.ListN.{length}
use borrow.Author.Tests.{eq-eqb, ne_eqb, lt-ltb, le-ltb}
use Rattle.std.specs.Prelude.{Result, Ok, Err}
use Rattle.rules.specs.declared.Refusal.{Refusal}
use Rattle.rules.specs.sets.Limits.{record_size, most_keywords}
use Rattle.rules.specs.sets.Sets.{keywords, keywords_from}
use Rattle.rules.specs.answers.Refusals.{pass, refuse, refuse_if, or_else, record_verdict, record_verdicts, file_verdict}
use Rattle.rules.specs.answers.Answers.{number_of, place_of}
use Rattle.rules.specs.Beside.{record_at}
use Rattle.rules.proofs.answers.Verdicts.{refuse_no_pass}
use Rattle.rules.proofs.sets.Sets.{records_next, records_refused, length-keywords}
use Rattle.words.specs.Items.{item_size, Begins}
use Rattle.words.proofs.Storing.{begins_none}
use Rattle.sets.specs.Reading.{RecordRead}

pub record_refused : {s : List ℕ} {i : ℕ} {l : List ℕ} (fault : Refusal)
    → refuse (number_of fault) (place_of fault) ≡ record_verdict i (keywords_from 0 i s) (record_at s i)
    → RecordRead s i (Err fault) l
record_refused fault e = record { told = e; begins = λ p. absurd (refuse_no_pass (e ∙ p)) }

pub record-kept : {s : List ℕ} {i : ℕ} {l : List ℕ}
    → pass ≡ record_verdict i (keywords_from 0 i s) (record_at s i)
    → Begins l (keywords_from 0 (i + 1) s)
    → RecordRead s i (Ok tt) l
record-kept e begins = record { told = e; begins = λ p. begins }

-- the records that are read, from the first on
pub record Records (s : List ℕ) (i : ℕ) (l : List ℕ) : Type 0 where
  pub room : item_size * most_keywords ≤ length l
  pub passed : record_verdicts i 0 [] s ≡ pass
  pub begins : Begins l (keywords_from 0 i s)

pub records_none : (s : List ℕ) {l : List ℕ} → item_size * most_keywords ≤ length l → Records s 0 l
unfolding record_verdicts keywords_from
records_none s {l} room = record { room = room; passed = refl; begins = begins_none l }

pub records_more : {s : List ℕ} {i : ℕ} {l l' : List ℕ} {r : Result (Unit {0}) Refusal}
    → Records s i l
    → length l' ≡ length l
    → record_verdict i (keywords_from 0 i s) (record_at s i) ≡ pass
    → RecordRead s i r l'
    → Records s (i + 1) l'
records_more {s} {i} so long p read =
    record {
      room = omega (arith, so.room);
      passed = rw (add-one i) (records_next i s so.passed p);
      begins = read.begins p;
    }

module _ (s : List ℕ) where
  pub read_empty : length s ≡ 0 → file_verdict s ≡ refuse 1 0
  unfolding file_verdict or_else refuse_if
  read_empty e = rw (eq-eqb (length s) 0 e)

  module _ (filled : length s ≡ 0 → ⊥) where
    pub read_size : (length s % record_size ≡ 0 → ⊥) → file_verdict s ≡ refuse 2 0
    unfolding file_verdict or_else refuse_if
    read_size f = rw (ne_eqb (length s) 0 filled, ne_eqb (length s % record_size) 0 f)

    module _ (whole : length s % record_size ≡ 0) where
      pub read_many : most_keywords < length s / record_size → file_verdict s ≡ refuse 3 0
      unfolding file_verdict or_else refuse_if
      read_many h =
          rw (ne_eqb (length s) 0 filled, eq-eqb (length s % record_size) 0 whole, lt-ltb most_keywords (length s / record_size) h)

      module _ (few : length s / record_size ≤ most_keywords) where
        -- the records decide
        records : file_verdict s ≡ record_verdicts (length s / record_size) 0 [] s
        unfolding file_verdict or_else refuse_if
        records =
            rw (ne_eqb (length s) 0 filled, eq-eqb (length s % record_size) 0 whole, le-ltb most_keywords (length s / record_size) few)

        pub read_fault : {i : ℕ} {l : List ℕ} (fault : Refusal)
            → Records s i l
            → i < length s / record_size
            → refuse (number_of fault) (place_of fault) ≡ record_verdict i (keywords_from 0 i s) (record_at s i)
            → file_verdict s ≡ refuse (number_of fault) (place_of fault)
        read_fault {i} fault so h e =
            records ∙ records_refused i (length s / record_size) s h so.passed (sym e)

        pub read_all : {l : List ℕ}
            → Records s (length s / record_size) l
            → (file_verdict s ≡ pass) × (length s / record_size ≡ length (keywords s)) × Begins l (keywords s)
        unfolding keywords
        read_all so = (records ∙ so.passed, sym (length-keywords s), so.begins)
