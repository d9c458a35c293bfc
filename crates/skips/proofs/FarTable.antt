-- The far numbers of the places passed, fifteen a keyword: each is the lowest distance met so far, or the shortest
-- keyword's length, so behind the last place it is the least at which some keyword holds the byte.
use Prim.Native.Nat.{ℕ, zero, suc, ◌+◌, ◌-◌, ◌*◌, ◌/◌, ◌%◌, ◌≤◌, ◌<◌, min}
use native.Mathlib.Omega.{arith}
use native.Mathlib.Nat.{eq-or-lt_of_le, zero-add, add-zero}
use mathlib.Core.Path.{◌≡◌, refl, sym, ◌∙◌, ap}
use mathlib.Core.Logic.{◌⊎◌, inl, inr, ⊎_elim}
use mathlib.Core.Bool.{true, false}
use mathlib.Core.List.{List, [], ◌∷◌, ◌++◌, append_assoc, map}
use lib.ListN.{length, get_or, set, replicate, length-map, length-append, length-set, length-replicate, get_or-replicate}
use lib.Seq.{get_or-append-add, get_or-set_same, get_or-set_other, ext_get_or}
use lib.Dec.{eqb, leb, ltb}
use borrow.Author.Tests.{eqb-true, eq-eqb, eqb-false, leb-true, leb-false, ltb-true, ltb-false}
use Rattle.rules.specs.sets.Limits.{longest_word, depths, opcodes}
use Rattle.rules.specs.strings.Strings.{any}
use Rattle.rules.specs.sets.Sets.{Keyword, shortest}
use Rattle.rules.specs.skips.Skips.{holds_before, far, count, far_test}
use Rattle.rules.specs.Beside.{Sound, no_keyword, nth}
use Rattle.rules.proofs.strings.Strings.{either, never, any_true}
use Rattle.rules.proofs.strings.Searched.{any_at}
use Rattle.rules.proofs.strings.Parts.{get_or-map_within}
use Rattle.rules.proofs.strings.Orders.{mem_at}
use Rattle.rules.proofs.skips.Distances.{holds_short}
use Rattle.rules.proofs.skips.Lowest.{least_is, holds_byte}
use Rattle.rules.proofs.skips.Tables.{count-length, count_at}
use Rattle.skips.specs.Fars.{Bytes, lowered, lowered_by, far_table}
use Rattle.skips.proofs.Lowering.{lowered-length, lowered_before, lowered_behind}

-- place p is that of a keyword's byte a with d bytes of the keyword after it; and so is one of the first q places
pub record Held (ks : List Keyword) (p a d : ℕ) : Type 0 where
  pub behind : suc (p % longest_word + d) ≡ length (nth ks (p / longest_word)).word
  pub byte : get_or (nth ks (p / longest_word)).word (p % longest_word) 0 ≡ a

pub record Met (ks : List Keyword) (q a d : ℕ) : Type 0 where
  pub place : ℕ
  pub before : place < q
  pub held : Held ks place a d

met_more : {ks : List Keyword} (q : ℕ) {a d : ℕ} → Met ks q a d → Met ks (q + 1) a d
met_more q m = record { place = m.place; before = omega arith; held = m.held }

met_last : {ks : List Keyword} (q : ℕ) {a d : ℕ} → Met ks (q + 1) a d → Met ks q a d ⊎ Held ks q a d
met_last {ks} q {a} {d} m =
    ⊎_elim
    (λ (e : m.place ≡ q). inr (rw (← e) m.held))
    (λ (h : suc m.place ≤ q). inl (record { place = m.place; before = h; held = m.held }))
    (eq-or-lt_of_le (omega arith))

-- e is the far number of a at depth z as far as the first q places tell
pub record Nearest (ks : List Keyword) (m q a z e : ℕ) : Type 0 where
  pub some : 1 ≤ e
  pub fits : e ≤ m
  pub below : (n : ℕ) → 1 ≤ n → Met ks q a (z + n) → e ≤ n
  pub met : (e ≡ m) ⊎ Met ks q a (z + e)

module _ (ks : List Keyword) (m a z : ℕ) where
  nearest_none : 1 ≤ m → Nearest ks m 0 a z m
  nearest_none h = record { some = h; fits = omega arith; below = λ n p t. absurd (omega (arith, t.before)); met = inl refl }

  module _ (q : ℕ) {e : ℕ} (old : Nearest ks m q a z e) where
    kept : (e ≡ m) ⊎ Met ks (q + 1) a (z + e)
    kept = ⊎_elim (λ h. inl h) (λ t. inr (met_more q t)) old.met

    -- the next place has another byte, or is not far enough from its keyword's end
    nearest_other : ((n : ℕ) → 1 ≤ n → Held ks q a (z + n) → ⊥) → Nearest ks m (q + 1) a z e
    nearest_other off =
        record {
          some = old.some;
          fits = old.fits;
          below = λ n h t. ⊎_elim (old.below n h) (λ u. absurd (off n h u)) (met_last q t);
          met = kept;
        }

    nearest-met : (d : ℕ) → Held ks q a d → z < d → Nearest ks m (q + 1) a z (min e (d - z))
    nearest-met d here h =
        record {
          some = omega (arith, old.some);
          fits = omega (arith, old.fits);
          below = λ n p t. ⊎_elim (λ u. omega (arith, old.below n p u)) (λ u. omega (arith, u.behind, here.behind)) (met_last q t);
          met =
              either (leb e (d - z))
              (λ t. let low : min e (d - z) ≡ e = omega (arith, leb-true e (d - z) t) in rw low kept)
              (λ f. let low : min e (d - z) ≡ d - z = omega (arith, leb-false e (d - z) f) in
              let sum : z + (d - z) ≡ d = omega arith in
              inr (rw (low, sum) (record { place = q; before = omega arith; held = here })));
        }

-- the whole table
pub record Table (ks : List Keyword) (m q : ℕ) (t : List (List ℕ)) : Type 0 where
  pub size : length t ≡ 256
  pub wide : (a : ℕ) → a < 256 → length (get_or t a []) ≡ 16
  pub nearest : (a z : ℕ) → a < 256 → z < 16 → Nearest ks m q a z (get_or (get_or t a []) z 0)

pub table_none : (ks : List Keyword) (m : ℕ) → 1 ≤ m → Table ks m 0 (replicate 256 (replicate 16 m))
table_none ks m h =
    record {
      size = length-replicate 256 (replicate 16 m);
      wide = λ a p. rw (get_or-replicate 256 a (replicate 16 m) [] p) (length-replicate 16 m);
      nearest = λ a z p q. rw (get_or-replicate 256 a (replicate 16 m) [] p, get_or-replicate 16 z m 0 q) (nearest_none ks m a z h);
    }

module _ {ks : List Keyword} {m : ℕ} (q : ℕ) {t : List (List ℕ)} (old : Table ks m q t) where
  -- the next place is behind its keyword's end
  pub table_other : ((a d : ℕ) → Held ks q a d → ⊥) → Table ks m (q + 1) t
  table_other off =
      record {
        size = old.size;
        wide = old.wide;
        nearest = λ a z p h. nearest_other ks m a z q (old.nearest a z p h) (λ n l u. off a (z + n) u);
      }

  pub table-met : (a d : ℕ) → a < 256 → Held ks q a d → Table ks m (q + 1) (set t a (lowered (get_or t a []) d))
  table-met a d small here =
      record {
        size = length-set t a (lowered (get_or t a []) d) ∙ old.size;
        wide = λ b p. either (eqb b a) (λ y. rw (row b y, lowered-length (get_or t a []) d) (old.wide a small)) (λ n. rw (other b n) (old.wide b p));
        nearest =
            λ b z p h.
            either (eqb b a)
            (λ y. let same : b ≡ a = eqb-true b a y in rw (row b y, same) (lower z h))
            (λ n. rw (other b n) (nearest_other ks m b z q (old.nearest b z p h) (λ k l u. eqb-false b a n (sym u.byte ∙ here.byte))));
      }
    where
      row : (b : ℕ) → eqb b a ≡ true → get_or (set t a (lowered (get_or t a []) d)) b [] ≡ lowered (get_or t a []) d
      row b y = let same : b ≡ a = eqb-true b a y in rw same (get_or-set_same t a (lowered (get_or t a []) d) [] (omega (arith, old.size)))

      other : (b : ℕ) → eqb b a ≡ false → get_or (set t a (lowered (get_or t a []) d)) b [] ≡ get_or t b []
      other b n = get_or-set_other t a b (lowered (get_or t a []) d) [] (eqb-false b a n)

      lower : (z : ℕ) → z < 16 → Nearest ks m (q + 1) a z (get_or (lowered (get_or t a []) d) z 0)
      lower z h =
          either (ltb z d)
          (λ y. rw (lowered_before (get_or t a []) d z (omega (arith, old.wide a small)) (ltb-true z d y)) (nearest-met ks m a z q (old.nearest a z small h) d here (ltb-true z d y)))
          (λ n.
          rw (lowered_behind (get_or t a []) d z (ltb-false z d n))
          (nearest_other ks m a z q (old.nearest a z small h) (λ k l u. omega (arith, ltb-false z d n, u.behind, here.behind))))

-- a keyword's bytes are met one after another from the front, p before w, and then the places behind its end
module _ {ks : List Keyword} {m : ℕ} (i : ℕ) (ok : Bytes (nth ks i).word) where
  table_behind : (left k : ℕ) {t : List (List ℕ)} → left + k ≡ longest_word → length (nth ks i).word ≤ k
      → Table ks m (longest_word * i + k) t
      → Table ks m (longest_word * i + longest_word) t
  table_behind zero k e h known = let all : longest_word * i + k ≡ longest_word * i + longest_word = omega arith in rw (← all) known
  table_behind (suc left) k e h known =
      let place : (longest_word * i + k) / longest_word ≡ i = omega arith in
      let depth : (longest_word * i + k) % longest_word ≡ k = omega arith in
      let more : longest_word * i + k + 1 ≡ longest_word * i + (k + 1) = omega arith in
      table_behind left (k + 1) (omega arith) (omega arith)
      (rw more at (table_other (longest_word * i + k) known (λ a d held. omega (arith, rw (place, depth) at held.behind))))

  table_rest : (p w : List ℕ) {t : List (List ℕ)} → (nth ks i).word ≡ p ++ w
      → Table ks m (longest_word * i + length p) t
      → Table ks m (longest_word * i + longest_word) (lowered_by w t)
  unfolding lowered_by
  table_rest p [] e known =
      let all : length (nth ks i).word ≡ length p = omega (arith, ap length e, length-append p []) in
      table_behind (longest_word - length p) (length p) (omega (arith, ok.short)) (omega arith) known
  table_rest p (a ∷ w) e known =
      let q : ℕ = longest_word * i + length p in
      let long : length (nth ks i).word ≡ length p + suc (length w) = ap length e ∙ length-append p (a ∷ w) in
      let place : (longest_word * i + length p) / longest_word ≡ i = omega (arith, ok.short) in
      let depth : (longest_word * i + length p) % longest_word ≡ length p = omega (arith, ok.short) in
      let byte : get_or (nth ks i).word (length p) 0 ≡ a = rw (e, ← (add-zero (length p))) (get_or-append-add p (a ∷ w) 0 0) in
      let here : Held ks q a (length w) = record { behind = rw (place, depth) (omega arith); byte = rw (place, depth) byte } in
      let small : a < opcodes = rw byte at (ok.small (length p) (omega arith)) in
      let more : longest_word * i + length p + 1 ≡ longest_word * i + length (p ++ (a ∷ [])) = omega (arith, length-append p (a ∷ [])) in
      table_rest (p ++ (a ∷ [])) w (e ∙ sym (append_assoc p (a ∷ []) w)) (rw more at (table-met q known a (length w) small here))

  pub table_keyword : {t : List (List ℕ)} → Table ks m (longest_word * i) t → Table ks m (longest_word * (i + 1)) (lowered_by (nth ks i).word t)
  table_keyword known =
      let more : longest_word * (i + 1) ≡ longest_word * i + longest_word = omega arith in
      let none : longest_word * i ≡ longest_word * i + 0 = omega arith in
      rw more (table_rest [] (nth ks i).word refl (rw none at known))

-- the table of the definition
far_table-length : (ks : List Keyword) → length (far_table ks) ≡ 256
unfolding far_table
far_table-length ks = length-map (count 0 opcodes) (λ a. map (far ks a) (count 0 depths)) ∙ count-length 0 opcodes

pub far_table_row : (ks : List Keyword) (a : ℕ) → a < 256 → get_or (far_table ks) a [] ≡ map (far ks a) (count 0 depths)
unfolding far_table
far_table_row ks a h =
    get_or-map_within (λ b. map (far ks b) (count 0 depths)) (count 0 opcodes) a 0 [] (omega (arith, count-length 0 opcodes))
    ∙ ap (λ (b : ℕ). map (far ks b) (count 0 depths)) (count_at 0 opcodes a 0 h ∙ zero-add a)

far_table_wide : (ks : List Keyword) (a : ℕ) → a < 256 → length (get_or (far_table ks) a []) ≡ 16
far_table_wide ks a h = rw (far_table_row ks a h) (length-map (count 0 depths) (far ks a) ∙ count-length 0 depths)

pub far_table_at : (ks : List Keyword) (a z : ℕ) → a < 256 → z < 16 → get_or (get_or (far_table ks) a []) z 0 ≡ far ks a z
far_table_at ks a z p q =
    rw (far_table_row ks a p)
    (get_or-map_within (far ks a) (count 0 depths) z 0 0 (omega (arith, count-length 0 depths))
    ∙ ap (far ks a) (count_at 0 depths z 0 q ∙ zero-add z))

module _ (ks : List Keyword) (sound : Sound ks) where
  -- a byte met in the keywords is one that a keyword holds, and the other way round
  met_holds : (a d : ℕ) → Met ks (longest_word * length ks) a d → any (λ (k : Keyword). holds_before (a ∷ []) d k.word) ks ≡ true
  met_holds a d m =
      let p : ℕ = m.place in
      let w : List ℕ = (nth ks (p / longest_word)).word in
      let place : length w - suc d ≡ p % longest_word = omega (arith, m.held.behind) in
      let byte : get_or w (length w - suc d) 0 ≡ a = rw place m.held.byte in
      let holds : holds_before (a ∷ []) d w ≡ true =
      holds_byte a d w (omega (arith, m.held.behind)) ∙ eq-eqb a (get_or w (length w - suc d) 0) (sym byte) in
      any_at (λ (k : Keyword). holds_before (a ∷ []) d k.word) ks (p / longest_word) no_keyword (omega (arith, m.before)) holds

  holds-met : (a d : ℕ) → any (λ (k : Keyword). holds_before (a ∷ []) d k.word) ks ≡ true → Met ks (longest_word * length ks) a d
  holds-met a d t =
      let found = any_true (λ (k : Keyword). holds_before (a ∷ []) d k.word) ks t in
      let where-is = mem_at found.1 in
      let i : ℕ = where-is.0 in
      let h : where-is.0 < length ks = where-is.1 in
      let w : List ℕ = found.0.word in
      let here : nth ks i ≡ found.0 = where-is.2 no_keyword in
      let short : length w ≤ longest_word = sound.short found.0 found.1 in
      let holds : holds_before (a ∷ []) d w ≡ true = found.2 in
      let fits : d < length w = either (ltb d (length w)) (ltb-true d (length w)) (λ f. never holds (holds_short (a ∷ []) w d (omega (arith, ltb-false d (length w) f)))) in
      let byte : a ≡ get_or w (length w - suc d) 0 = eqb-true a (get_or w (length w - suc d) 0) (sym (holds_byte a d w fits) ∙ holds) in
      let keyword-is : (longest_word * i + (length w - suc d)) / longest_word ≡ i = omega arith in
      let place_is : (longest_word * i + (length w - suc d)) % longest_word ≡ length w - suc d = omega arith in
      record {
        place = longest_word * i + (length w - suc d);
        before = omega arith;
        held =
            record {
              behind = rw (keyword-is, place_is, here) (omega arith);
              byte = rw (keyword-is, place_is, here) (sym byte);
            };
      }

  -- all places passed: a number is the definition's, and so is the table
  nearest-far : (a z : ℕ) {e : ℕ} → Nearest ks (shortest ks) (longest_word * length ks) a z e → e ≡ far ks a z
  unfolding far
  nearest-far a z {e} h =
      least_is (shortest ks) (far_test ks a z) e h.some h.fits
      (λ n p t. h.below n p (holds-met a (z + n) t))
      (⊎_elim (λ q. inl q) (λ m. inr (met_holds a (z + e) m)) h.met)

  pub table_all : {t : List (List ℕ)} → Table ks (shortest ks) (longest_word * length ks) t → t ≡ far_table ks
  table_all {t} known =
      ext_get_or [] t (far_table ks) (known.size ∙ sym (far_table-length ks))
      (λ a p.
      let small : a < 256 = omega (arith, known.size) in
      let rows : length (get_or t a []) ≡ length (get_or (far_table ks) a []) = known.wide a small ∙ sym (far_table_wide ks a small) in
      ext_get_or 0 (get_or t a []) (get_or (far_table ks) a []) rows
      (λ z q.
      let low : z < 16 = omega (arith, known.wide a small) in
      nearest-far a z (known.nearest a z small low) ∙ sym (far_table_at ks a z small low)))
