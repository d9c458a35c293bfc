-- The largest skips are safe: a keyword that ends behind a window lies within what was read and what follows, or it
-- has all that was read and the byte before it too; so a number up to what follows passes the test of which a skip is
-- the least.
use Prim.Native.Nat.{ℕ, ◌+◌, ◌-◌, ◌≤◌, ◌<◌, min, max}
use native.Mathlib.Omega.{arith}
use mathlib.Core.Path.{◌≡◌, refl, sym, ◌∙◌, ap}
use mathlib.Core.Logic.{◌⊎◌, inl, inr}
use mathlib.Core.Bool.{true, ◌&&◌, ◌||◌}
use mathlib.Core.List.{List, [], ◌∷◌, ◌++◌, reverse, reverse-cons, append_assoc, append-nil, Memᴰ}
use lib.ListN.{length, take, length-append, length-take}
use lib.Seq.{take_at}
use lib.Dec.{leb}
use borrow.Author.Tests.{leb-true, leb-false, le-leb}
use Rattle.rules.specs.strings.Strings.{ends}
use Rattle.rules.specs.sets.Sets.{Keyword, shortest}
use Rattle.rules.specs.skips.Skips.{holds_before, ends_within, inner_test, inner, edge_test, edge, far_test, far}
use Rattle.rules.specs.skips.Runs.{Stop, start, missing, move_by}
use Rattle.rules.specs.Beside.{Sound}
use Rattle.rules.proofs.strings.Strings.{either, and_both, or_cases, or_left, or_right, any_true, any_mem, Cut, within, beyond, cuts, ends_true, ends_by}
use Rattle.rules.proofs.skips.Least.{least_pos, least_cap, least_le, least_passes, shortest_le, shortest_pos, first_of}

-- the largest numbers are from 1 to the shortest keyword's length
pub inner_pos : (ks : List Keyword) (v : List ℕ) → 1 ≤ inner ks v
unfolding inner
inner_pos ks v = least_pos (shortest ks) (inner_test ks v)

pub edge_pos : (ks : List Keyword) (v : List ℕ) → 1 ≤ edge ks v
unfolding edge
edge_pos ks v = least_pos (shortest ks) (edge_test ks v)

pub far_pos : (ks : List Keyword) (a z : ℕ) → 1 ≤ far ks a z
unfolding far
far_pos ks a z = least_pos (shortest ks) (far_test ks a z)

pub inner_cap : (ks : List Keyword) (v : List ℕ) → 1 ≤ shortest ks → inner ks v ≤ shortest ks
unfolding inner
inner_cap ks v = least_cap (shortest ks) (inner_test ks v)

pub edge_cap : (ks : List Keyword) (v : List ℕ) → 1 ≤ shortest ks → edge ks v ≤ shortest ks
unfolding edge
edge_cap ks v = least_cap (shortest ks) (edge_test ks v)

pub far_cap : (ks : List Keyword) (a z : ℕ) → 1 ≤ shortest ks → far ks a z ≤ shortest ks
unfolding far
far_cap ks a z = least_cap (shortest ks) (far_test ks a z)

-- all but the last n
front_of : (m y : List ℕ) → take (length (m ++ y) - length y) (m ++ y) ≡ m
front_of m y = take_at m y (length (m ++ y) - length y) (omega (arith, length-append m y))

-- the tests of strings, from a string cut in three
holds_by : (v y m w : List ℕ) → m ++ v ++ y ≡ w → holds_before v (length y) w ≡ true
unfolding holds_before
holds_by v y m w e =
    rw (← e)
    (and_both
    (le-leb (length y) (length (m ++ v ++ y)) (omega (arith, length-append (m ++ v) y)))
    (ends_by v (take (length (m ++ v ++ y) - length y) (m ++ v ++ y)) m (front_of (m ++ v) y)))

within_by : (v y r w : List ℕ) → v ++ y ≡ r ++ w → ends_within v (length y) w ≡ true
unfolding ends_within
within_by v y r w e = go (cuts v y r w e)
  where
    go : Cut v y r w → (leb (length w) (length y) || ends (take (length w - length y) w) v) ≡ true
    go (within m p q) = or_left (ends (take (length w - length y) w) v) (le-leb (length w) (length y) (omega (arith, length-append m w, ap length q)))
    go (beyond m p q) = rw (← q) (or_right (leb (length (m ++ y)) (length y)) (ends_by (take (length (m ++ y) - length y) (m ++ y)) v r (rw (front_of m y) p)))

module _ {k : Keyword} {ks : List Keyword} (listed : Memᴰ k ks) where
  -- a keyword that lies within v and y
  pub edge_safe : (v y r : List ℕ) → 1 ≤ length y → v ++ y ≡ r ++ k.word → edge ks v ≤ length y
  unfolding edge
  edge_safe v y r more e =
      least_le (shortest ks) (edge_test ks v) (length y) more
      (any_mem (λ (l : Keyword). ends_within v (length y) l.word) listed (within_by v y r k.word e))

  -- a keyword that has all of v and y
  pub inner_safe : (v y m : List ℕ) → 1 ≤ length y → m ++ v ++ y ≡ k.word → inner ks v ≤ length y
  unfolding inner
  inner_safe v y m more e =
      least_le (shortest ks) (inner_test ks v) (length y) more
      (any_mem (λ (l : Keyword). holds_before v (length y) l.word) listed (holds_by v y m k.word e))

  -- and the byte before them
  pub far_safe : (c : ℕ) (v y m : List ℕ) → 1 ≤ length y → m ++ (c ∷ []) ++ (v ++ y) ≡ k.word → far ks c (length v) ≤ length y
  unfolding far
  far_safe c v y m more e =
      least_le (shortest ks) (far_test ks c (length v)) (length y) more
      (any_mem (λ (l : Keyword). holds_before (c ∷ []) (length v + length y) l.word) listed
      (rw (← (length-append v y)) (holds_by (c ∷ []) (v ++ y) m k.word e)))

  -- nothing stands before what was read
  pub start_safe : (v y : List ℕ) → 1 ≤ length y → ends k.word (v ++ y) ≡ true → edge ks v ≤ length y
  start_safe v y more h = let found = ends_true k.word (v ++ y) h in edge_safe v y found.0 more found.1

  -- the byte c stands before what was read
  pub byte_safe : (x : List ℕ) (c : ℕ) (v y : List ℕ) → 1 ≤ length y
      → ends k.word (x ++ (c ∷ []) ++ v ++ y) ≡ true
      → min (edge ks v) (max (inner ks v) (far ks c (length v))) ≤ length y
  byte_safe x c v y more h =
      let found = ends_true k.word (x ++ (c ∷ []) ++ v ++ y) h in
      let regroup : x ++ (c ∷ []) ++ v ++ y ≡ x ++ (c ∷ (v ++ y)) = simp append_assoc in
      let apart : x ++ (c ∷ (v ++ y)) ≡ found.0 ++ k.word = sym regroup ∙ found.1 in
      go found.0 (cuts x (c ∷ (v ++ y)) found.0 k.word apart)
    where
      bound : ℕ
      bound = min (edge ks v) (max (inner ks v) (far ks c (length v)))

      shorter : (r : List ℕ) → v ++ y ≡ r ++ k.word → bound ≤ length y
      shorter r e = let safe : edge ks v ≤ length y = edge_safe v y r more e in omega arith

      longer : (m : List ℕ) → m ++ (c ∷ (v ++ y)) ≡ k.word → bound ≤ length y
      longer m e =
          let safe : inner ks v ≤ length y = inner_safe v y (m ++ (c ∷ [])) more (simp append_assoc e) in
          let further : far ks c (length v) ≤ length y = far_safe c v y m more (simp append_assoc e) in
          omega arith

      go : (r : List ℕ) → Cut x (c ∷ (v ++ y)) r k.word → bound ≤ length y
      go r (within [] p q) = longer [] q
      go r (within (a ∷ m) p q) = let rest : v ++ y ≡ m ++ k.word = cc in shorter m rest
      go r (beyond m p q) = longer m q

-- where a reading stops: at the nearest of the bytes that are left
unfoldable pub stop_of : List ℕ → Stop
stop_of [] = start
stop_of (c ∷ left) = missing c

-- the largest move of a window that read v
abbrev pub largest : List Keyword → List ℕ → Stop → ℕ
largest ks v stop = move_by (inner ks v) (edge ks v) (λ c. far ks c (length v)) stop

-- No keyword ends nearer behind a window than its largest move.
pub skip_safe : {k : Keyword} {ks : List Keyword} → Memᴰ k ks → (left v y : List ℕ) → 1 ≤ length y
    → ends k.word (reverse left ++ v ++ y) ≡ true
    → largest ks v (stop_of left) ≤ length y
unfolding move_by stop_of
skip_safe listed [] v y more h = start_safe listed v y more h
skip_safe listed (c ∷ left) v y more h = byte_safe listed (reverse left) c v y more (rw (← (reverse-cons c left)) h)

-- smaller numbers move less, and numbers of at least 1 move
pub move_by_le : (i j e f : ℕ) (g h : ℕ → ℕ) (stop : Stop) → i ≤ j → e ≤ f → ((c : ℕ) → stop ≡ missing c → g c ≤ h c)
    → move_by i e g stop ≤ move_by j f h stop
unfolding move_by
move_by_le i j e f g h start p q r = q
move_by_le i j e f g h (missing c) p q r = omega (arith, r c refl)

pub move_by_pos : (i e : ℕ) (g : ℕ → ℕ) (stop : Stop) → 1 ≤ i → 1 ≤ e → 1 ≤ move_by i e g stop
unfolding move_by
move_by_pos i e g start p q = q
move_by_pos i e g (missing c) p q = omega arith

-- row 0: inner is 1 and edge is the shortest keyword's length
pub inner-root : {ks : List Keyword} → Sound ks → inner ks [] ≡ 1
unfolding inner holds_before
inner-root {ks} sound =
    let first : (k : Keyword) × Memᴰ k ks = first_of sound in
    let word : List ℕ = first.0.word in
    let front : List ℕ = take (length word - 1) word in
    let holds : (leb 1 (length word) && ends [] front) ≡ true =
    and_both (le-leb 1 (length word) (sound.filled first.0 first.1)) (ends_by [] front front (sym (append-nil front))) in
    let low : 1 ≤ inner ks [] = inner_pos ks [] in
    let high : inner ks [] ≤ 1 =
    least_le (shortest ks) (inner_test ks []) 1 (omega arith) (any_mem (λ (l : Keyword). holds_before [] 1 l.word) first.1 holds) in
    omega arith

within-nil : (n : ℕ) (w : List ℕ) → ends_within [] n w ≡ true → length w ≤ n
unfolding ends_within
within-nil n w h = go (or_cases (leb (length w) n) (ends (take (length w - n) w) []) h)
  where
    go : (leb (length w) n ≡ true) ⊎ (ends (take (length w - n) w) [] ≡ true) → length w ≤ n
    go (inl t) = leb-true (length w) n t
    go (inr t) =
        let found = ends_true (take (length w - n) w) [] t in
        omega (arith, ap length found.1, length-append found.0 (take (length w - n) w), length-take (length w - n) w)

pub edge-root : {ks : List Keyword} → Sound ks → edge ks [] ≡ shortest ks
unfolding edge
edge-root {ks} sound =
    let high : edge ks [] ≤ shortest ks = edge_cap ks [] (shortest_pos sound) in
    either (leb (shortest ks) (edge ks []))
    (λ t. omega (arith, leb-true))
    (λ f.
    let low : edge ks [] < shortest ks = leb-false (shortest ks) (edge ks []) f in
    let found = any_true (λ (l : Keyword). ends_within [] (edge ks []) l.word) ks (least_passes (shortest ks) (edge_test ks []) low) in
    let short : length found.0.word ≤ edge ks [] = within-nil (edge ks []) found.0.word found.2 in
    absurd (omega (arith, shortest_le ks found.1)))
