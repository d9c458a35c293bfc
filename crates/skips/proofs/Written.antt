-- The byte file is written byte by byte: each byte's sixteen numbers are the table's.
use Prim.Native.Nat.{ℕ, ◌+◌, ◌*◌, ◌/◌, ◌%◌, ◌≤◌, ◌<◌}
use native.Mathlib.Omega.{arith}
use native.Mathlib.Nat.{zero-add}
use mathlib.Core.Path.{◌≡◌, ◌∙◌}
use mathlib.Core.List.{List, [], map}
use lib.ListN.{length, get_or, length-map}
use Rattle.rules.specs.sets.Limits.{byte_file_size, depths, opcodes}
use Rattle.rules.specs.sets.Sets.{Keyword}
use Rattle.rules.specs.scans.Hits.{over}
use Rattle.rules.specs.skips.Skips.{far, count, byte_file}
use Rattle.rules.proofs.skips.Tables.{count-length, count_at}
use Rattle.skips.specs.Fars.{far_table}
use Rattle.skips.specs.Records.{put_at}
use Rattle.skips.proofs.Buffers.{Laid, laid_none, laid_more, laid_all}
use Rattle.skips.proofs.FarTable.{far_table_row, far_table_at}

-- the number at a place
pub table_place : (ks : List Keyword) (p : ℕ) → p < byte_file_size → get_or (get_or (far_table ks) (p / depths) []) (p % depths) 0 ≡ far ks (p / depths) (p % depths)
table_place ks p h = far_table_at ks (p / depths) (p % depths) (omega arith) (omega arith)

-- a byte's numbers, and those of the bytes before a over the front of a buffer
abbrev pub numbers_of : List Keyword → ℕ → List ℕ
numbers_of ks a = map (far ks a) (count 0 depths)

abbrev pub BytesLaid : List Keyword → List ℕ → List ℕ → ℕ → Type 0
BytesLaid ks = Laid (numbers_of ks) (count 0 opcodes) depths

pub bytes_laid_none : (ks : List Keyword) (old : List ℕ) → byte_file_size ≤ length old → BytesLaid ks old old 0
bytes_laid_none ks old h = laid_none (numbers_of ks) (count 0 opcodes) depths old (omega (arith, count-length 0 opcodes))

pub bytes_laid_more : (ks : List Keyword) {old before buffer : List ℕ} (a : ℕ) → a < opcodes
    → buffer ≡ put_at before (depths * a) (get_or (far_table ks) a [])
    → BytesLaid ks old before a
    → BytesLaid ks old buffer (a + 1)
bytes_laid_more ks a h put so =
    rw (put, far_table_row ks a h)
    (laid_more so 0 a (omega (arith, count-length 0 opcodes)) (count_at 0 opcodes a 0 h ∙ zero-add a) (length-map (count 0 depths) (far ks a) ∙ count-length 0 depths))

pub bytes_laid_all : (ks : List Keyword) {old buffer : List ℕ} {n : ℕ} → BytesLaid ks old buffer n
    → opcodes ≤ n
    → buffer ≡ over (byte_file ks) old
unfolding byte_file
bytes_laid_all ks so h = laid_all so (omega (arith, count-length 0 opcodes))
