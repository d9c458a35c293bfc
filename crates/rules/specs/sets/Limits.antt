-- Document 01's fixed numbers, as the definitions have them. The code has its own (rules/src/lib.rt), and the proofs
-- hold those to these.
use Rattle.std.specs.Prelude.{ℕ}

-- bytes of a keyword record, and of them the most for the keyword
abbrev pub record_size : ℕ
record_size = 20

abbrev pub longest_word : ℕ
longest_word = 15

-- the most energy of a keyword
abbrev pub most_energy : ℕ
most_energy = 4294967295

-- the most keywords of a set
abbrev pub most_keywords : ℕ
most_keywords = 64

-- the most rows of a set: `rows_most` in proofs/rows/Most.antt says that no set has more
abbrev pub most_rows : ℕ
most_rows = 961

-- the most bytes of a trace
abbrev pub longest_trace : ℕ
longest_trace = 1048576

-- the most hits of a trace, and the most energy of all of them: `hits_most` and `total_most` in
-- proofs/scans/Totals.antt say that no set and trace have more, and `totals_reached` in proofs/scans/Nested.antt that
-- some have as many
abbrev pub most_hits : ℕ
most_hits = 15728535

abbrev pub most_total : ℕ
most_total = 67553543423262825

-- numbers of a row in the workspace
abbrev pub row_cells : ℕ
row_cells = 6

-- bytes of a row file's record; depths of a byte file's record, opcodes that it speaks of, and bytes of the file
abbrev pub row_record : ℕ
row_record = 18

abbrev pub depths : ℕ
depths = 16

abbrev pub opcodes : ℕ
opcodes = 256

abbrev pub byte_file_size : ℕ
byte_file_size = 4096

-- bytes of the host call's answer
abbrev pub answer_size : ℕ
answer_size = 20
