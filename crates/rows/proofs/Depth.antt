-- A level is filled keyword by keyword: each row one byte longer is the beginning of some keyword, and what is filled
-- stays.
use Prim.Native.Nat.{ℕ, ◌+◌, ◌≤◌, ◌<◌}
use native.Mathlib.Omega.{arith}
use native.Mathlib.Numerals.{add-one}
use mathlib.Core.Path.{◌≡◌, refl, sym, ◌∙◌, ap}
use mathlib.Core.Bool.{true}
use mathlib.Core.List.{List, [], ◌∷◌, ◌++◌}
use lib.ListN.{length, get_or, set, take, length-set, length-take}
use lib.Seq.{take_all, take-suc, take-append_seam, get_or-set_same, get_or-set_other}
use lib.Dec.{leb}
use borrow.Author.Count.{below_more}
use borrow.Author.Tests.{leb-true, leb-false}
use Rattle.rules.specs.sets.Limits.{most_keywords}
use Rattle.rules.specs.strings.Strings.{same, any, longest_behind}
use Rattle.rules.specs.sets.Sets.{Keyword}
use Rattle.rules.specs.rows.Rows.{forward, read_by, rows_of, row_of, failure_cell, dictionary_cell}
use Rattle.rules.specs.Beside.{Sound, no_keyword, nth}
use Rattle.rules.proofs.strings.Strings.{either}
use Rattle.rules.proofs.strings.Orders.{get_or_mem, mem_at}
use Rattle.rules.proofs.rows.Rows.{row_at, row_of_is, row_of_at, row_of-nil}
use Rattle.rules.proofs.rows.PrefixRows.{prefix_row, row_prefix}
use Rattle.rows.specs.Tree.{Held, Beyond}
use Rattle.rows.specs.Falls.{Filling, Fillable, Filled}
use Rattle.rows.specs.Levels.{Levelled}
use Rattle.rows.proofs.Written.{Right, filling_right, right_new, right_kept, filling-kept, beyond-kept}

-- the beginning of the keyword at place k with at most d bytes, and its row
abbrev front : List Keyword → ℕ → ℕ → List ℕ
front ks d k = take d (nth ks k).word

abbrev front_row : List Keyword → ℕ → ℕ → ℕ
front_row ks d k = row_of (rows_of forward ks) (front ks d k)

-- the keyword at place k stands a byte further, at a row that is filled
abbrev Further : List Keyword → ℕ → List ℕ → List ℕ → ℕ → Type 0
Further ks d standing ws k = (get_or standing k 0 ≡ front_row ks (d + 1) k) × Right ks ws (front_row ks (d + 1) k)

-- before the keyword at place i: the keywords before it stand further, the others not yet
pub record Halfway (ks : List Keyword) (d : ℕ) (before : List ℕ) (i : ℕ) (standing ws : List ℕ) : Type 0 where
  pub full : length standing ≡ most_keywords
  pub filling : Filling ks d ws
  pub passed : (k : ℕ) → k < i → Further ks d standing ws k
  pub left : (k : ℕ) → i ≤ k → k < length ks → get_or standing k 0 ≡ front_row ks d k
  pub beyond : Beyond (length (rows_of forward ks)) before ws

-- each beginning is a row
front-row : (ks : List Keyword) (d k : ℕ) → k < length ks → any (same (front ks d k)) (rows_of forward ks) ≡ true
unfolding read_by
front-row ks d k q = prefix_row forward ks (nth ks k) (get_or_mem ks no_keyword k q) d

-- each row is a beginning
row-front : (ks : List Keyword)
    → Sound ks
    → (r : List ℕ)
    → any (same r) (rows_of forward ks) ≡ true
    → (n : ℕ) × (n < length ks) × (front ks (length r) n ≡ r)
unfolding read_by
row-front ks sound r row =
    let (k, mem, rest, word) = row_prefix forward sound r row in
    let (n, below, is) = mem_at mem in (
      n,
      below,
      ap (λ (l : Keyword). take (length r) l.word) (is no_keyword) ∙ ap (take (length r)) word ∙ take-append_seam r rest,
    )

module _ {ks : List Keyword} {d : ℕ} {before : List ℕ} {i : ℕ} {standing ws : List ℕ} (sound : Sound ks) (h : Halfway ks d before i standing ws) where
  -- the keyword at place i is not longer: its beginning is the whole word, whose row is filled
  pub halfway_skip : i < length ks → length (nth ks i).word ≤ d → Halfway ks d before (i + 1) standing ws
  halfway_skip q short =
      let w = (nth ks i).word in
      let whole : front ks (d + 1) i ≡ front ks d i = take_all (d + 1) w (omega arith) ∙ sym (take_all d w short) in
      let (within, reads) = row_of_is (rows_of forward ks) (front ks d i) (front-row ks d i q) in
      let shallow : length (get_or (rows_of forward ks) (front_row ks d i) []) ≤ d = omega (arith, ap length reads, length-take d w) in
      record {
        full = h.full;
        filling = h.filling;
        passed = below_more _ i h.passed (rw whole (h.left i (omega arith) q, filling_right h.filling (front_row ks d i) within shallow));
        left = λ k p r. h.left k (omega arith) r;
        beyond = h.beyond;
      }

  -- the keyword at place i is longer: its next byte leads to its next row
  module _ (q : i < length ks) (long : d < length (nth ks i).word) {c : ℕ} (byte : c ≡ get_or (nth ks i).word d 0) where
    stood : get_or (rows_of forward ks) (get_or standing i 0) [] ≡ front ks d i
    stood = rw (h.left i (omega arith) q) (row_of_is (rows_of forward ks) (front ks d i) (front-row ks d i q)).1

    leads : get_or (rows_of forward ks) (get_or standing i 0) [] ++ (c ∷ []) ≡ front ks (d + 1) i
    leads = rw (stood, byte, add-one d) (sym (take-suc (nth ks i).word d 0 long))

    pub halfway_fillable : Fillable ks d (get_or standing i 0) c ws
    halfway_fillable =
        record {
          sound = sound;
          filling = h.filling;
          within = rw (h.left i (omega arith) q) (row_of_is (rows_of forward ks) (front ks d i) (front-row ks d i q)).0;
          level = omega (arith, ap length stood, length-take d (nth ks i).word);
          row = rw leads (front-row ks (d + 1) i q);
        }

    pub halfway_more : {row : ℕ} {ws' : List ℕ}
        → Filled ks (get_or standing i 0) c row ws ws'
        → Halfway ks d before (i + 1) (set standing i row) ws'
    halfway_more {row} {ws'} w =
        let room : i < length standing = omega (arith, h.full, sound.few) in
        let at : row ≡ front_row ks (d + 1) i = w.child ∙ rw leads in
        let rest = beyond-kept h.filling w in
        record {
          full = length-set standing i row ∙ h.full;
          filling = filling-kept h.filling w;
          passed =
              below_more _ i
              (λ k r. (
                get_or-set_other standing i k row 0 (λ e. omega arith) ∙ (h.passed k r).0,
                right_kept h.filling w (front_row ks (d + 1) k) (h.passed k r).1,
              ))
              (get_or-set_same standing i row 0 room ∙ at, rw at at (right_new h.filling w));
          left = λ k p r. get_or-set_other standing i k row 0 (λ e. omega arith) ∙ h.left k (omega arith) r;
          beyond = (rest.0 ∙ h.beyond.0, rest.1 ∙ h.beyond.1);
        }

  -- all keywords stand further: each row of the level is where one of them stands
  module _ (all : length ks ≤ i) where
    right_all : (j : ℕ)
        → j < length (rows_of forward ks)
        → length (get_or (rows_of forward ks) j []) ≤ d + 1
        → Right ks ws j
    right_all j q shallow =
        let r = get_or (rows_of forward ks) j [] in
        either (leb (length r) d)
        (λ t. filling_right h.filling j q (leb-true (length r) d t))
        (λ f.
        let size : length (get_or (rows_of forward ks) j []) ≡ d + 1 = omega (arith, leb-false (length r) d f) in
        let (n, below, reads) = row-front ks sound r (row_at (rows_of forward ks) j r q refl) in
        let at : front_row ks (d + 1) n ≡ j = rw (← size, reads) (row_of_at h.filling.tree.rowed j q) in
        rw at at (h.passed n (omega arith)).1)

    pub halfway_all : Levelled ks (d + 1) standing before ws
    halfway_all =
        record {
          filling =
              record {
                tree = h.filling.tree;
                keys = h.filling.keys;
                failures = λ j q shallow. (right_all j q shallow).0;
                dictionaries = λ j q shallow. (right_all j q shallow).1;
              };
          stands = λ k q. (h.passed k (omega arith)).0;
          beyond = h.beyond;
        }

-- rows with neither failures nor dictionary rows: only row 0 has no byte, and nothing is behind it
empty : (r : List ℕ) → length r ≤ 0 → r ≡ []
empty [] h = refl
empty (x ∷ r) h = absurd (omega arith)

pub levelled_none : {ks : List Keyword} {ws : List ℕ}
    → Held forward ks (rows_of forward ks) ws
    → (standing : List ℕ)
    → ((k : ℕ) → k < length ks → get_or standing k 0 ≡ 0)
    → Levelled ks 0 standing ws ws
unfolding failure_cell dictionary_cell longest_behind
levelled_none {ks} held standing zeros =
    let root = row_of-nil held.tree.rowed in
    record {
      filling =
          record {
            tree = held.tree;
            keys = held.keys;
            failures = λ j q h. held.failures j q ∙ rw (empty (get_or (rows_of forward ks) j []) h) (sym root);
            dictionaries = λ j q h. held.dictionaries j q ∙ rw (empty (get_or (rows_of forward ks) j []) h) (sym root);
          };
      stands = λ k q. zeros k q ∙ sym root;
      beyond = (refl, refl);
    }
