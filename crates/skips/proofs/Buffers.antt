-- Records of one size, put into a buffer one behind another, are their file laid over its front: each is a run of stores
-- behind those before it.
use Prim.Native.Nat.{ℕ, ◌+◌, ◌*◌, ◌≤◌, ◌<◌}
use native.Mathlib.Omega.{arith}
use native.Mathlib.Nat.{mul-le-mul_left}
use native.Mathlib.Numerals.{add-one}
use mathlib.Core.Path.{◌≡◌, refl, sym, ◌∙◌, ap}
use mathlib.Core.List.{List, [], ◌∷◌, ◌++◌, flat_map, append_assoc, append-nil}
use lib.ListN.{length, take, get_or, length-append}
use lib.Seq.{take-suc, take_all, sets-eq}
use Rattle.rules.specs.sets.Limits.{row_record, longest_word}
use Rattle.rules.specs.sets.Sets.{Keyword}
use Rattle.rules.specs.rows.Rows.{backward, rows_of}
use Rattle.rules.specs.scans.Hits.{over}
use Rattle.rules.specs.skips.Skips.{named, inner, edge, suffix_rows, row_file, record_of}
use Rattle.rules.proofs.scans.Buffers.{over_sets, over-length}
use Rattle.rules.proofs.skips.Tables.{suffix_rows-length, named-length}
use Rattle.skips.specs.Records.{put_at}
use Rattle.skips.specs.Suffixes.{Suffix, At, suffix_at}
use Rattle.skips.proofs.Keywords.{suffix-length, suffix_short}

-- a record behind the numbers that lie over the front already
over_put : (new more old : List ℕ) → length new + length more ≤ length old → put_at (over new old) (length new) more ≡ over (new ++ more) old
unfolding put_at
over_put new more old h =
    let size : length (over new old) ≡ length old = over-length new old (omega arith) in
    sym (over_sets new more old h ∙ sets-eq more (over new old) (length new) (omega arith))

flat_map_snoc {ℓ κ} : {A : Type ℓ} {B : Type κ} (f : A → List B) (l : List A) (x : A) → flat_map f (l ++ (x ∷ [])) ≡ flat_map f l ++ f x
unfolding flat_map
flat_map_snoc f [] x = append-nil (f x)
flat_map_snoc f (a ∷ l) x = rw (flat_map_snoc f l x) (sym (append_assoc (f a) (flat_map f l) (f x)))

-- The first n records lie over the front of a buffer that has room for all: f x is the record of x, one for each x of l.
module _ {A : Type 0} (f : A → List ℕ) (l : List A) (size : ℕ) (old : List ℕ) where
  pub record Laid (buffer : List ℕ) (n : ℕ) : Type 0 where
    pub room : size * length l ≤ length old
    pub sized : length (flat_map f (take n l)) ≡ size * n
    pub known : buffer ≡ over (flat_map f (take n l)) old

  pub laid_none : size * length l ≤ length old → Laid old 0
  unfolding flat_map over
  laid_none h = record { room = h; sized = omega arith; known = refl }

module _ {A : Type 0} {f : A → List ℕ} {l : List A} {size : ℕ} {old buffer : List ℕ} {n : ℕ} (so : Laid f l size old buffer n) where
  pub laid_more : (d x : A) → n < length l → get_or l n d ≡ x → length (f x) ≡ size → Laid f l size old (put_at buffer (size * n) (f x)) (n + 1)
  laid_more d x within here long =
      let more : flat_map f (take (n + 1) l) ≡ flat_map f (take n l) ++ f x =
      rw (add-one n, take-suc l n d within, flat_map_snoc f (take n l) (get_or l n d), here) in
      let behind : size * (n + 1) ≤ size * length l = mul-le-mul_left size (omega arith) in
      let fits : length (flat_map f (take n l)) + length (f x) ≤ length old = omega (arith, so.sized, so.room, behind) in
      record {
        room = so.room;
        sized = omega (arith, ap length more, length-append (flat_map f (take n l)) (f x), so.sized);
        known = rw (more, ← so.sized, so.known) (over_put (flat_map f (take n l)) (f x) old fits);
      }

  pub laid_all : length l ≤ n → buffer ≡ over (flat_map f l) old
  laid_all h = so.known ∙ ap (λ (k : List A). over (flat_map f k) old) (take_all n l h)

-- the record of a suffix fills a row's part of the file
record-size : {ks : List Keyword} {i z : ℕ} → Suffix ks i z → length (record_of ks (suffix_at ks i z)) ≡ row_record
unfolding record_of
record-size {ks} {i} {z} ok =
    let v : List ℕ = suffix_at ks i z in
    let short : length v ≤ longest_word = omega (arith, suffix-length ok, suffix_short ok) in
    omega (arith, length-append (named v) (inner ks v ∷ edge ks v ∷ []), named-length v short)

-- the records of the rows before n
abbrev pub RowsLaid : List Keyword → List ℕ → List ℕ → ℕ → Type 0
RowsLaid ks = Laid (record_of ks) (suffix_rows ks) row_record

pub rows_laid_none : (ks : List Keyword) (old : List ℕ) → row_record * length (rows_of backward ks) ≤ length old → RowsLaid ks old old 0
rows_laid_none ks old h = laid_none (record_of ks) (suffix_rows ks) row_record old (rw (suffix_rows-length ks) h)

-- and that of row n, put behind them
pub rows_laid_more : {ks at : List Keyword} {old before buffer new : List ℕ} {n i z : ℕ}
    → at ≡ ks
    → At at n i z
    → new ≡ record_of at (suffix_at at i z)
    → buffer ≡ put_at before (row_record * n) new
    → RowsLaid ks old before n
    → RowsLaid ks old buffer (n + 1)
rows_laid_more {ks} {i = i} {z = z} same there made put so =
    let here = rw same at there in
    rw (put, made, same) (laid_more so [] (suffix_at ks i z) (omega (arith, here.within, suffix_rows-length ks)) here.names (record-size here.walked.suffix))

pub rows_laid_all : (ks : List Keyword) {old buffer : List ℕ} {n : ℕ} → RowsLaid ks old buffer n
    → length (rows_of backward ks) ≤ n
    → buffer ≡ over (row_file ks) old
unfolding row_file
rows_laid_all ks so h = laid_all so (omega (arith, suffix_rows-length ks))
