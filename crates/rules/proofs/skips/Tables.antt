-- The tests of a table pass exactly where each record names its row and each number is from 1 to the largest: test by
-- test.
use Prim.Native.Nat.{ℕ, zero, suc, ◌+◌, ◌-◌, ◌*◌, ◌/◌, ◌%◌, ◌≤◌, ◌<◌}
use native.Mathlib.Omega.{arith}
use mathlib.Core.Path.{◌≡◌, refl, sym, ◌∙◌, ap}
use mathlib.Core.Logic.{◌↔◌}
use mathlib.Core.Bool.{Bool, true, false, ◌||◌, not}
use mathlib.Core.List.{List, [], ◌∷◌, ◌++◌, map, flat_map, reverse}
use lib.ListN.{length, take, drop, get_or, replicate, length-append, length-map, length-replicate, length-reverse, get_or-append, get_or-map}
use lib.Seq.{drop-drop, drop-append-add, get_or-drop, get_or-take, get_or-append-add, take-take, take_at}
use lib.Dec.{eqb, ltb}
use borrow.Author.Tests.{eqb-true, eqb-false, ltb-false, eq-eqb, ne_eqb, le-ltb, not-false}
use Rattle.rules.specs.sets.Limits.{longest_word, row_record, depths, opcodes, byte_file_size}
use Rattle.rules.specs.strings.Strings.{same}
use Rattle.rules.specs.sets.Sets.{Keyword}
use Rattle.rules.specs.rows.Rows.{backward, rows_of}
use Rattle.rules.specs.skips.Skips.{inner, edge, far, suffix_rows, count, named, record_of, row_file, byte_file}
use Rattle.rules.specs.skips.Runs.{inner_in, edge_in, far_in}
use Rattle.rules.specs.scans.Audit.{Allowed, Accepted}
use Rattle.rules.specs.answers.Refusals.{Verdict, pass, refuse_if, or_else, faulty, row_verdicts, far_verdicts, table_verdict}
use Rattle.rules.specs.Beside.{Sound}
use Rattle.rules.proofs.strings.Strings.{or_fails_left, or_fails_right, same_true, eq-same}
use Rattle.rules.proofs.strings.Parts.{get_or-map_within}
use Rattle.rules.proofs.answers.Verdicts.{or_else_exactly, test_exactly}
use Rattle.rules.proofs.rows.Rows.{row_at}
use Rattle.rules.proofs.skips.Skips.{inner_pos, edge_pos, far_pos}
use Rattle.rules.proofs.rows.PrefixRows.{row_short}

-- a number passes where a file may hold it
pub faulty_allowed : (largest n : ℕ) → (faulty largest n ≡ false) ↔ Allowed largest n
unfolding faulty
faulty_allowed largest n = (
  λ h.
      record {
        some = omega (arith, eqb-false n 0 (or_fails_left (eqb n 0) (ltb largest n) h));
        fits = ltb-false largest n (or_fails_right (eqb n 0) (ltb largest n) h);
      },
  λ h. rw (ne_eqb n 0 (λ e. omega (arith, h.some)), le-ltb largest n h.fits),
)

-- the record at the front of f is the row v's
pub record RowRecord (ks : List Keyword) (v f : List ℕ) : Type 0 where
  pub names : take 16 f ≡ named v
  pub inners : Allowed (inner ks v) (get_or f 16 0)
  pub edges : Allowed (edge ks v) (get_or f 17 0)

row_pass : (ks : List Keyword) (i : ℕ) (v f : List ℕ) (w : Verdict)
    → (or_else (refuse_if (not (same (take 16 f) (named v))) 11 i)
    (or_else (refuse_if (faulty (inner ks v) (get_or f 16 0) || faulty (edge ks v) (get_or f 17 0)) 12 i) w) ≡ pass)
    ↔ (RowRecord ks v f × (w ≡ pass))
unfolding or_else refuse_if
row_pass ks i v f w = (
  λ h.
      let first = (test_exactly (not right) 11 i (or_else (refuse_if (low || high) 12 i) w)).0 h in
      let second = (test_exactly (low || high) 12 i w).0 first.1 in
      let row : RowRecord ks v f =
      record {
        names = same_true (take 16 f) (named v) (not-false right first.0);
        inners = (faulty_allowed (inner ks v) (get_or f 16 0)).0 (or_fails_left low high second.0);
        edges = (faulty_allowed (edge ks v) (get_or f 17 0)).0 (or_fails_right low high second.0);
      } in
      (row, second.1),
  λ h.
      let row = h.0 in
      rw (eq-same (take 16 f) (named v) row.names, (faulty_allowed (inner ks v) (get_or f 16 0)).1 row.inners, (faulty_allowed (edge ks v) (get_or f 17 0)).1 row.edges) h.1,
)
  where
    right : Bool
    right = same (take 16 f) (named v)

    low : Bool
    low = faulty (inner ks v) (get_or f 16 0)

    high : Bool
    high = faulty (edge ks v) (get_or f 17 0)

-- what holds below n + 1 holds at 0 and, one further, below n
each : (P : ℕ → Type 0) (n : ℕ) → (P 0 × ((j : ℕ) → j < n → P (suc j))) ↔ ((j : ℕ) → j < suc n → P j)
each P n = (λ h. all h.0 h.1, λ h. (h 0 (omega arith), λ j q. h (suc j) (omega arith)))
  where
    all : P 0 → ((j : ℕ) → j < n → P (suc j)) → (j : ℕ) → j < suc n → P j
    all a b zero q = a
    all a b (suc j) q = b j (omega arith)

rows_pass : (ks : List Keyword) (i : ℕ) (vs : List (List ℕ)) (f : List ℕ)
    → (row_verdicts ks i vs f ≡ pass) ↔ ((j : ℕ) → j < length vs → RowRecord ks (get_or vs j []) (drop (row_record * j) f))
unfolding row_verdicts
rows_pass ks i [] f = (λ h j q. absurd (omega arith), λ h. refl)
rows_pass ks i (v ∷ vs) f =
    let one = row_pass ks i v f (row_verdicts ks (suc i) vs (drop row_record f)) in
    let below = rows_pass ks (suc i) vs (drop row_record f) in
    let all = each (λ (j : ℕ). RowRecord ks (get_or (v ∷ vs) j []) (drop (row_record * j) f)) (length vs) in (
      λ h. let first = one.0 h in all.0 (first.0, λ j q. rw (shift j) (below.0 first.1 j q)),
      λ h. let parts = all.1 h in one.1 (parts.0, below.1 (λ j q. rw (shift j) at (parts.1 j q))),
    )
  where
    shift : (j : ℕ) → drop (row_record * suc j) f ≡ drop (row_record * j) (drop row_record f)
    shift j =
        let at : row_record * suc j ≡ row_record + row_record * j = omega arith in
        ap (λ (n : ℕ). drop n f) at ∙ sym (drop-drop (row_record * j) row_record f)

far_pass : (ks : List Keyword) (n p : ℕ) (f : List ℕ)
    → (far_verdicts ks n p f ≡ pass) ↔ ((j : ℕ) → j < n → Allowed (far ks ((p + j) / depths) ((p + j) % depths)) (get_or f j 0))
unfolding far_verdicts
far_pass ks zero p f = (λ h j q. absurd (omega arith), λ h. refl)
far_pass ks (suc n) p f =
    let one = test_exactly (faulty (far ks (p / depths) (p % depths)) (get_or f 0 0)) 14 p (far_verdicts ks n (suc p) (drop 1 f)) in
    let here = faulty_allowed (far ks (p / depths) (p % depths)) (get_or f 0 0) in
    let below = far_pass ks n (suc p) (drop 1 f) in
    let all = each (λ (j : ℕ). Allowed (far ks ((p + j) / depths) ((p + j) % depths)) (get_or f j 0)) n in
    let root : p + 0 ≡ p = omega arith in (
      λ h. let first = one.0 h in all.0 (rw root (here.0 first.0), λ j q. rw (shift j, behind j) (below.0 first.1 j q)),
      λ h. let parts = all.1 h in one.1 (here.1 (rw root at parts.0), below.1 (λ j q. rw (shift j, behind j) at (parts.1 j q))),
    )
  where
    shift : (j : ℕ) → p + suc j ≡ suc p + j
    shift j = omega arith

    behind : (j : ℕ) → get_or f (suc j) 0 ≡ get_or (drop 1 f) j 0
    behind j = let at : suc j ≡ 1 + j = omega arith in ap (λ (n : ℕ). get_or f n 0) at ∙ sym (get_or-drop 1 f j 0)

-- a byte file's numbers by their places, or by byte and depth
far-places : (ks : List Keyword) (f : List ℕ)
    → ((j : ℕ) → j < byte_file_size → Allowed (far ks ((0 + j) / depths) ((0 + j) % depths)) (get_or f j 0))
    ↔ ((a z : ℕ) → a < opcodes → z < depths → Allowed (far ks a z) (far_in f a z))
far-places ks f = (
  λ h a z p q.
      let byte : (0 + (depths * a + z)) / depths ≡ a = omega arith in
      let depth : (0 + (depths * a + z)) % depths ≡ z = omega arith in
      rw (byte, depth) at (h (depths * a + z) (omega arith)),
  λ h j p.
      let place : depths * ((0 + j) / depths) + (0 + j) % depths ≡ j = omega arith in
      rw place at (h ((0 + j) / depths) ((0 + j) % depths) (omega arith) (omega arith)),
)

-- the suffixes, one a row
pub suffix_rows-length : (ks : List Keyword) → length (suffix_rows ks) ≡ length (rows_of backward ks)
unfolding suffix_rows
suffix_rows-length ks = length-map (rows_of backward ks) reverse

pub suffix_rows_at : (ks : List Keyword) (i : ℕ) → get_or (suffix_rows ks) i [] ≡ reverse (get_or (rows_of backward ks) i [])
unfolding suffix_rows
suffix_rows_at ks i = get_or-map reverse (rows_of backward ks) i []

-- The check accepts exactly the safe tables.
pub accepted_exactly : (ks : List Keyword) (rowf bytef : List ℕ) → (table_verdict ks rowf bytef ≡ pass) ↔ Accepted ks rowf bytef
unfolding table_verdict
accepted_exactly ks rowf bytef = (there, back)
  where
    vs : List (List ℕ)
    vs = suffix_rows ks

    row_test : Bool
    row_test = eqb (length rowf) (row_record * length vs)

    byte_test : Bool
    byte_test = eqb (length bytef) byte_file_size

    fars : Verdict
    fars = far_verdicts ks byte_file_size 0 bytef

    behind : Verdict
    behind = or_else (refuse_if (not byte_test) 13 0) fars

    there : or_else (refuse_if (not row_test) 10 (length vs)) (or_else (row_verdicts ks 0 vs rowf) behind) ≡ pass → Accepted ks rowf bytef
    there h =
        let sized = (test_exactly (not row_test) 10 (length vs) (or_else (row_verdicts ks 0 vs rowf) behind)).0 h in
        let row = (or_else_exactly (row_verdicts ks 0 vs rowf) behind).0 sized.1 in
        let byte = (test_exactly (not byte_test) 13 0 fars).0 row.1 in
        let records = (rows_pass ks 0 vs rowf).0 row.0 in
        record {
          row_size = rw (← (suffix_rows-length ks)) (eqb-true (length rowf) (row_record * length vs) (not-false row_test sized.0));
          byte_size = eqb-true (length bytef) byte_file_size (not-false byte_test byte.0);
          names = λ i l. (records i (rw (suffix_rows-length ks) l)).names;
          inners = λ i l. rw (get_or-drop (row_record * i) rowf 16 0) at (records i (rw (suffix_rows-length ks) l)).inners;
          edges = λ i l. rw (get_or-drop (row_record * i) rowf 17 0) at (records i (rw (suffix_rows-length ks) l)).edges;
          fars = (far-places ks bytef).0 ((far_pass ks byte_file_size 0 bytef).0 byte.1);
        }

    back : Accepted ks rowf bytef → or_else (refuse_if (not row_test) 10 (length vs)) (or_else (row_verdicts ks 0 vs rowf) behind) ≡ pass
    back h =
        let sized : row_test ≡ true = eq-eqb (length rowf) (row_record * length vs) (rw (suffix_rows-length ks) h.row_size) in
        let byte : byte_test ≡ true = eq-eqb (length bytef) byte_file_size h.byte_size in
        let records : (j : ℕ) → j < length vs → RowRecord ks (get_or vs j []) (drop (row_record * j) rowf) =
        λ i l.
        let inside : i < length (rows_of backward ks) = rw (← (suffix_rows-length ks)) l in
        record {
          names = h.names i inside;
          inners = rw (get_or-drop (row_record * i) rowf 16 0) (h.inners i inside);
          edges = rw (get_or-drop (row_record * i) rowf 17 0) (h.edges i inside);
        } in
        (test_exactly (not row_test) 10 (length vs) (or_else (row_verdicts ks 0 vs rowf) behind)).1 (
          ap not sized,
          (or_else_exactly (row_verdicts ks 0 vs rowf) behind).1 (
            (rows_pass ks 0 vs rowf).1 records,
            (test_exactly (not byte_test) 13 0 fars).1
                (ap not byte, (far_pass ks byte_file_size 0 bytef).1 ((far-places ks bytef).1 h.fars)),
          ),
        )

-- Lists joined from parts of one length: where each part lies.
module _ {A : Type 0} (f : A → List ℕ) (n : ℕ) (d : A) where
  parts-length : (vs : List A) → ((j : ℕ) → j < length vs → length (f (get_or vs j d)) ≡ n) → length (flat_map f vs) ≡ n * length vs
  unfolding flat_map
  parts-length [] h = omega arith
  parts-length (v ∷ vs) h =
      let rest : length (flat_map f vs) ≡ n * length vs = parts-length vs (λ j q. h (suc j) (omega arith)) in
      omega (arith, h 0 (omega arith), length-append (f v) (flat_map f vs))

  parts_at : (vs : List A) → ((j : ℕ) → j < length vs → length (f (get_or vs j d)) ≡ n) → (i : ℕ) → i < length vs
      → drop (n * i) (flat_map f vs) ≡ f (get_or vs i d) ++ flat_map f (drop (suc i) vs)
  unfolding flat_map
  parts_at [] h i q = absurd (omega arith)
  parts_at (v ∷ vs) h zero q = let at : n * 0 ≡ 0 = omega arith in rw at
  parts_at (v ∷ vs) h (suc i) q =
      let size : length (f v) ≡ n = h 0 (omega arith) in
      let at : n * suc i ≡ length (f v) + n * i = omega arith in
      rw (at, drop-append-add (f v) (flat_map f vs) (n * i)) (parts_at vs (λ j p. h (suc j) (omega arith)) i (omega arith))

-- n, n + 1, ..
pub count-length : (n k : ℕ) → length (count n k) ≡ k
unfolding count
count-length n zero = refl
count-length n (suc k) = ap suc (count-length (suc n) k)

pub count_at : (n k i d : ℕ) → i < k → get_or (count n k) i d ≡ n + i
unfolding count
count_at n zero i d h = absurd (omega arith)
count_at n (suc k) zero d h = omega arith
count_at n (suc k) (suc i) d h = omega (arith, count_at (suc n) k i d (omega arith))

-- a suffix's record
pub named-length : (v : List ℕ) → length v ≤ longest_word → length (named v) ≡ 16
unfolding named
named-length v h = omega (arith, length-append v (replicate (longest_word - length v) 0), length-replicate {A = ℕ} (longest_word - length v) 0)

pub suffix_short : {ks : List Keyword} → Sound ks → (i : ℕ) → i < length (rows_of backward ks) → length (get_or (suffix_rows ks) i []) ≤ longest_word
suffix_short {ks} sound i h =
    let row : List ℕ = get_or (rows_of backward ks) i [] in
    rw (suffix_rows_at ks i, length-reverse row) (row_short backward sound row (row_at (rows_of backward ks) i row h refl))

-- the made row file, record by record
module _ {ks : List Keyword} (sound : Sound ks) where
  record-length : (i : ℕ) → i < length (suffix_rows ks) → length (record_of ks (get_or (suffix_rows ks) i [])) ≡ row_record
  unfolding record_of
  record-length i h =
      let v : List ℕ = get_or (suffix_rows ks) i [] in
      let inside : i < length (rows_of backward ks) = rw (← (suffix_rows-length ks)) h in
      omega (arith, length-append (named v) (inner ks v ∷ edge ks v ∷ []), named-length v (suffix_short sound i inside))

  pub row_file-length : length (row_file ks) ≡ row_record * length (rows_of backward ks)
  unfolding row_file
  row_file-length = rw (← (suffix_rows-length ks)) (parts-length (record_of ks) row_record [] (suffix_rows ks) record-length)

  pub row_file_at : (i : ℕ) → i < length (rows_of backward ks) → take row_record (drop (row_record * i) (row_file ks)) ≡ record_of ks (get_or (suffix_rows ks) i [])
  unfolding row_file
  row_file_at i h =
      let v : List ℕ = get_or (suffix_rows ks) i [] in
      let inside : i < length (suffix_rows ks) = rw (suffix_rows-length ks) h in
      rw (parts_at (record_of ks) row_record [] (suffix_rows ks) record-length i inside)
      (take_at (record_of ks v) (flat_map (record_of ks) (drop (suc i) (suffix_rows ks))) row_record (record-length i inside))

  pub row_file_name : (i : ℕ) → i < length (rows_of backward ks) → take 16 (drop (row_record * i) (row_file ks)) ≡ named (get_or (suffix_rows ks) i [])
  unfolding record_of
  row_file_name i h =
      let v : List ℕ = get_or (suffix_rows ks) i [] in
      sym (take-take 16 row_record (drop (row_record * i) (row_file ks)) (omega arith))
      ∙ ap (take 16) (row_file_at i h)
      ∙ take_at (named v) (inner ks v ∷ edge ks v ∷ []) 16 (named-length v (suffix_short sound i h))

  -- the two numbers behind a name
  row_file_number : (i : ℕ) → i < length (rows_of backward ks) → (j : ℕ) → j < 2
      → get_or (row_file ks) (row_record * i + (16 + j)) 0 ≡ get_or (inner ks (get_or (suffix_rows ks) i []) ∷ edge ks (get_or (suffix_rows ks) i []) ∷ []) j 0
  unfolding record_of
  row_file_number i h j q =
      let v : List ℕ = get_or (suffix_rows ks) i [] in
      let behind : 16 + j ≡ length (named v) + j = omega (arith, named-length v (suffix_short sound i h)) in
      sym (get_or-drop (row_record * i) (row_file ks) (16 + j) 0)
      ∙ sym (get_or-take row_record (drop (row_record * i) (row_file ks)) (16 + j) 0 (omega arith))
      ∙ ap (λ (l : List ℕ). get_or l (16 + j) 0) (row_file_at i h)
      ∙ ap (λ (n : ℕ). get_or (record_of ks v) n 0) behind
      ∙ get_or-append-add (named v) (inner ks v ∷ edge ks v ∷ []) j 0

  pub row_file-inner : (i : ℕ) → i < length (rows_of backward ks) → inner_in (row_file ks) i ≡ inner ks (get_or (suffix_rows ks) i [])
  row_file-inner i h = row_file_number i h 0 (omega arith)

  pub row_file-edge : (i : ℕ) → i < length (rows_of backward ks) → edge_in (row_file ks) i ≡ edge ks (get_or (suffix_rows ks) i [])
  row_file-edge i h = row_file_number i h 1 (omega arith)

-- the made byte file, number by number
module _ (ks : List Keyword) where
  far-length : (a : ℕ) → length (map (far ks a) (count 0 depths)) ≡ depths
  far-length a = length-map (count 0 depths) (far ks a) ∙ count-length 0 depths

  pub byte_file-length : length (byte_file ks) ≡ byte_file_size
  unfolding byte_file
  byte_file-length =
      rw (count-length 0 opcodes) at (parts-length (λ a. map (far ks a) (count 0 depths)) depths 0 (count 0 opcodes) (λ j h. far-length (get_or (count 0 opcodes) j 0)))

  pub byte_file_at : (a z : ℕ) → a < opcodes → z < depths → far_in (byte_file ks) a z ≡ far ks a z
  unfolding byte_file
  byte_file_at a z p q =
      let numbers : ℕ → List ℕ = (λ b. map (far ks b) (count 0 depths)) in
      let b : ℕ = get_or (count 0 opcodes) a 0 in
      let byte : b ≡ a = omega (arith, count_at 0 opcodes a 0 p) in
      let depth : get_or (count 0 depths) z 0 ≡ z = omega (arith, count_at 0 depths z 0 q) in
      let inside : a < length (count 0 opcodes) = rw (count-length 0 opcodes) p in
      sym (get_or-drop (depths * a) (byte_file ks) z 0)
      ∙ ap (λ (l : List ℕ). get_or l z 0) (parts_at numbers depths 0 (count 0 opcodes) (λ j h. far-length (get_or (count 0 opcodes) j 0)) a inside)
      ∙ get_or-append (numbers b) (flat_map numbers (drop (suc a) (count 0 opcodes))) 0 z (omega (arith, far-length b))
      ∙ get_or-map_within (far ks b) (count 0 depths) z 0 0 (omega (arith, count-length 0 depths))
      ∙ rw (byte, depth)

-- What making writes, the check accepts.
largest_allowed : (n m : ℕ) → m ≡ n → 1 ≤ n → Allowed n m
largest_allowed n m e h = record { some = omega arith; fits = omega arith }

pub made-accepted : {ks : List Keyword} → Sound ks → Accepted ks (row_file ks) (byte_file ks)
made-accepted {ks} sound =
    record {
      row_size = row_file-length sound;
      byte_size = byte_file-length ks;
      names = row_file_name sound;
      inners = λ i h. let v : List ℕ = get_or (suffix_rows ks) i [] in largest_allowed (inner ks v) (inner_in (row_file ks) i) (row_file-inner sound i h) (inner_pos ks v);
      edges = λ i h. let v : List ℕ = get_or (suffix_rows ks) i [] in largest_allowed (edge ks v) (edge_in (row_file ks) i) (row_file-edge sound i h) (edge_pos ks v);
      fars = λ a z p q. largest_allowed (far ks a z) (far_in (byte_file ks) a z) (byte_file_at ks a z p q) (far_pos ks a z);
    }

pub made_passes : {ks : List Keyword} → Sound ks → table_verdict ks (row_file ks) (byte_file ks) ≡ pass
made_passes {ks} sound = (accepted_exactly ks (row_file ks) (byte_file ks)).1 (made-accepted sound)
