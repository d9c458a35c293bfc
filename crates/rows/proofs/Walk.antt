-- The walk along the children of a row: what is left of the question stands behind the row compared last, so each of
-- the three answers is what the walk has so far and what the rows behind still give.
use Prim.Native.Nat.{ℕ, zero, suc, ◌+◌, ◌*◌, ◌≤◌, ◌<◌}
use native.Mathlib.Omega.{arith}
use mathlib.Core.Path.{◌≡◌, refl, sym, ◌∙◌, ap}
use mathlib.Core.Bool.{Bool, true, false}
use mathlib.Core.List.{List, [], ◌∷◌, ◌++◌, Memᴰ}
use lib.ListN.{length, get_or, drop, length-append}
use Rattle.std.specs.Prelude.{Option, Some, None, unwrap_or, IfSome}
use Rattle.std.proofs.lemmas.Option.{none-some}
use Rattle.rules.specs.sets.Limits.{row_cells}
use Rattle.rules.specs.strings.Strings.{same, any, keep, count_to}
use Rattle.rules.specs.rows.Rows.{place_from, row_of, child_of, sibling_after}
use Rattle.rules.specs.Beside.{Rowed}
use Rattle.rules.proofs.strings.Strings.{either, passes, fails, same_true, eq-same}
use Rattle.rules.proofs.rows.Rows.{by_snoc, row_of_is, row_of_none, row_of_pos}
use Rattle.rules.proofs.rows.Children.{places, Next, Asking, places_end, places_mem, places_at, children_first, child_last, last_byte, last_byte_snoc, asking-start, asking_none, asking_at, asking-found, asking_on}
use Rattle.rules.proofs.rows.Listed.{keep_first, keep_next, keep_end}
use Rattle.rows.specs.declared.tree.Asked.{Asked}
use Rattle.rows.specs.Tree.{Tree, Answered, byte_of, siblings_of, last_from, link}
use Rattle.rows.proofs.Links.{link_some, linked, unlinked, unwrap_or-link}
use Rattle.rows.proofs.Columns.{tree_room}

-- the last of a list, or d
unfoldable pub last_or : ℕ → List ℕ → ℕ
last_or d [] = d
last_or d (i ∷ l) = last_or i l

pub last_from-places : (d n : ℕ) (p : List ℕ → Bool) (L : List (List ℕ)) → last_from d n p L ≡ last_or d (places n p L)
unfolding last_from places last_or
last_from-places d n p [] = refl
last_from-places d n p (r ∷ L) =
    either (p r)
    (λ t. rw t (last_from-places n (suc n) p L))
    (λ f. rw f (last_from-places d (suc n) p L))

-- the three of `Listed`, of the last place
last_first : {R : List (List ℕ)} → Rowed R → (s : List ℕ) → last_from 0 0 (child_of s) R ≡ last_from 0 1 (child_of s) (drop 1 R)
last_first {R} rowed s =
    rw (last_from-places 0 0 (child_of s) R, children_first rowed s, last_from-places 0 1 (child_of s) (drop 1 R))

last_next : (d m : ℕ) (p : List ℕ → Bool) (R : List (List ℕ)) (i : ℕ)
    → Next m p R i
    → last_from d m p (drop m R) ≡ last_from i (suc i) p (drop (suc i) R)
unfolding last_or
last_next d m p R i w = rw (last_from-places d m p (drop m R), w.left, last_from-places i (suc i) p (drop (suc i) R))

last_end : (d m : ℕ) (p : List ℕ → Bool) (R : List (List ℕ)) → 1 ≤ m → place_from m p (drop m R) ≡ 0 → last_from d m p (drop m R) ≡ d
unfolding last_or
last_end d m p R pos h = rw (last_from-places d m p (drop m R), places_end m p (drop m R) pos h)

-- the byte and the sibling of a row other than row 0
pub byte_of_pos : (R : List (List ℕ)) (i : ℕ) → 1 ≤ i → byte_of R i ≡ last_byte (get_or R i [])
unfolding byte_of
byte_of_pos R (suc i) pos = refl
byte_of_pos R zero pos = absurd (omega arith)

pub siblings_of_pos : (R : List (List ℕ)) (i : ℕ) → 1 ≤ i → siblings_of R i ≡ sibling_after R i (get_or R i [])
unfolding siblings_of
siblings_of_pos R (suc i) pos = refl
siblings_of_pos R zero pos = absurd (omega arith)

-- The walk behind the row `last`: `compared` rows are passed, and the next is `at`.
pub record Walk (R : List (List ℕ)) (s : List ℕ) (c last compared at : ℕ) : Type 0 where
  pub asking : Asking R s c last at
  pub few : compared ≤ last
  pub counted : count_to (same (s ++ (c ∷ []))) (keep (child_of s) R)
      ≡ compared + count_to (same (s ++ (c ∷ []))) (keep (child_of s) (drop (suc last) R))
  pub latest : last_from 0 0 (child_of s) R ≡ last_from last (suc last) (child_of s) (drop (suc last) R)

-- the next row of a walk, as the workspace holds it
pub record Turn (R : List (List ℕ)) (ws : List ℕ) (last compared at : ℕ) : Type 0 where
  pub few : compared < at
  pub behind : last < at
  pub room : row_cells * at + row_cells ≤ length ws
  pub byte : get_or ws (row_cells * at + 0) 0 ≡ last_byte (get_or R at [])
  pub sibling : get_or ws (row_cells * at + 2) 0 ≡ sibling_after R at (get_or R at [])

pub walk_start : {R : List (List ℕ)} → Rowed R → (s : List ℕ) (c : ℕ) → Walk R s c 0 0 (place_from 0 (child_of s) R)
walk_start {R} rowed s c =
    record {
      asking = asking-start rowed s c;
      few = omega arith;
      counted = rw (keep_first rowed s) (omega arith);
      latest = last_first rowed s;
    }

module _ {R : List (List ℕ)} {s : List ℕ} {c last compared at : ℕ} (walk : Walk R s c last compared at) where
  -- no row is left: all that pass are compared
  walk_none : at ≡ 0 → Answered R s c (record { child = None; last = link last; compared = compared })
  unfolding count_to link
  walk_none end =
      let w = s ++ (c ∷ []) in
      let over : place_from (suc last) (child_of s) (drop (suc last) R) ≡ 0 = sym walk.asking.cell ∙ end in
      let missing : any (same w) R ≡ false = asking_none (rw end at walk.asking) in
      let kept : keep (child_of s) (drop (suc last) R) ≡ [] = keep_end (child_of s) R (suc last) (omega arith) over in
      record {
        child = ap link (sym (row_of_none R w missing));
        compared = sym (walk.counted ∙ (rw kept (omega arith)));
        last = rw missing (ap link (sym (walk.latest ∙ last_end last (suc last) (child_of s) R (omega arith) over)));
      }

  module _ (pos : 1 ≤ at) where
    -- the next row is one of R, behind the last
    walk_next : Next (suc last) (child_of s) R at
    walk_next = asking_at walk.asking pos

    kept : keep (child_of s) (drop (suc last) R) ≡ get_or R at [] ∷ keep (child_of s) (drop (suc at) R)
    kept = keep_next (child_of s) R (suc last) at walk_next

    walk-found : Rowed R → last_byte (get_or R at []) ≡ c → Answered R s c (record { child = link at; last = link at; compared = compared + 1 })
    unfolding count_to
    walk-found rowed here =
        let w = s ++ (c ∷ []) in
        let (is, row) = asking-found rowed walk.asking pos here in
        let it : same w (get_or R at []) ≡ true = eq-same w (get_or R at []) (sym (rw row at (row_of_is R w is).1)) in
        record {
          child = ap link (sym row);
          compared = sym (walk.counted ∙ (rw (kept, it)));
          last = rw is;
        }

    walk_on : (last_byte (get_or R at []) ≡ c → ⊥) → Walk R s c at (compared + 1) (sibling_after R at (get_or R at []))
    unfolding count_to
    walk_on other =
        let w = s ++ (c ∷ []) in
        let another : same w (get_or R at []) ≡ false =
        fails (same w (get_or R at [])) (λ h. other (ap last_byte (sym (same_true w (get_or R at []) h)) ∙ last_byte_snoc s c)) in
        record {
          asking = asking_on walk.asking pos other;
          few = omega (arith, walk_next.beyond);
          counted = walk.counted ∙ (rw (kept, another) (omega arith));
          latest = walk.latest ∙ last_next last (suc last) (child_of s) R at walk_next;
        }

    -- what the workspace holds of it
    walk_turn : {ws : List ℕ} → Tree R ws → Turn R ws last compared at
    walk_turn tree =
        let w = walk_next in
        record {
          few = omega (arith, walk.few, w.beyond);
          behind = w.beyond;
          room = tree_room tree at w.within;
          byte = tree.bytes at w.within ∙ byte_of_pos R at pos;
          sibling = tree.siblings at w.within ∙ siblings_of_pos R at pos;
        }

-- The same walk as the code has it: the row compared last and the next are named, or there is none.
pub record Walking (R : List (List ℕ)) (s : List ℕ) (c : ℕ) (last : Option ℕ) (compared : ℕ) (next : Option ℕ) : Type 0 where
  pub named : last ≡ link (unwrap_or last 0)
  pub leads : next ≡ link (unwrap_or next 0)
  pub walk : Walk R s c (unwrap_or last 0) compared (unwrap_or next 0)

pub walking_start : {R : List (List ℕ)}
    → Rowed R
    → (s : List ℕ) (c : ℕ) {next : Option ℕ}
    → next ≡ link (place_from 0 (child_of s) R)
    → Walking R s c None 0 next
unfolding link
walking_start {R} rowed s c leads =
    let first = place_from 0 (child_of s) R in
    rw leads
    (record { named = refl; leads = rw (unwrap_or-link first); walk = rw (unwrap_or-link first) (walk_start rowed s c) })

module _ {R : List (List ℕ)} {s : List ℕ} {c : ℕ} {last : Option ℕ} {compared : ℕ} {next : Option ℕ}
    (walking : Walking R s c last compared next) where
  pub walking_none : next ≡ None → Answered R s c (record { child = None; last = last; compared = compared })
  walking_none end = rw walking.named (walk_none walking.walk (ap (λ (o : Option ℕ). unwrap_or o 0) end))

  module _ {at : ℕ} (is : next ≡ Some at) where
    there : Walk R s c (unwrap_or last 0) compared at
    there = rw is at walking.walk

    pos : 1 ≤ at
    pos = (linked at at (sym (rw is at walking.leads))).1

    named : Some at ≡ link at
    named = rw is at walking.leads

    pub walking_turn : {ws : List ℕ} → Tree R ws → Turn R ws (unwrap_or last 0) compared at
    walking_turn tree = walk_turn there pos tree

    pub walking-found : Rowed R → last_byte (get_or R at []) ≡ c → Answered R s c (record { child = Some at; last = Some at; compared = compared + 1 })
    walking-found rowed here = rw named (walk-found there pos rowed here)

    pub walking_on : {sibling : Option ℕ}
        → (last_byte (get_or R at []) ≡ c → ⊥)
        → sibling ≡ link (sibling_after R at (get_or R at []))
        → Walking R s c (Some at) (compared + 1) sibling
    walking_on other leads =
        let after = sibling_after R at (get_or R at []) in
        rw leads
        (record { named = named; leads = rw (unwrap_or-link after); walk = rw (unwrap_or-link after) (walk_on there pos other) })

-- The last child of s: there is none and no child at all, or it is the child that has no sibling.
pub data LastChild (R : List (List ℕ)) (s : List ℕ) (last : Option ℕ) : Type 0 where
  childless : last ≡ None → places 0 (child_of s) R ≡ [] → LastChild R s last
  youngest : (i : ℕ) → last ≡ Some i → 1 ≤ i → Memᴰ i (places 0 (child_of s) R) → sibling_after R i (get_or R i []) ≡ 0 → LastChild R s last

last_or_snoc : (d : ℕ) (l : List ℕ) (i : ℕ) → last_or d (l ++ (i ∷ [])) ≡ i
unfolding last_or
last_or_snoc d [] i = refl
last_or_snoc d (j ∷ l) i = last_or_snoc j l i

child_pos : {R : List (List ℕ)} → Rowed R → (s : List ℕ) (i : ℕ) → Memᴰ i (places 0 (child_of s) R) → 1 ≤ i
child_pos {R} rowed s i m = omega (arith, (places_mem 1 (child_of s) (drop 1 R) i (rw (children_first rowed s) at m)).placing)

pub last_is : {R : List (List ℕ)} → Rowed R → (s : List ℕ) → LastChild R s (link (last_from 0 0 (child_of s) R))
unfolding last_or link
last_is {R} rowed s =
    rw (last_from-places 0 0 (child_of s) R)
    (by_snoc (λ (l : List ℕ). places 0 (child_of s) R ≡ l → LastChild R s (link (last_or 0 l)))
    (λ e. childless refl e)
    (λ front i below e.
    let m : Memᴰ i (places 0 (child_of s) R) = rw e (mathlib.Core.List.Memᴰ.append_right front (mathlib.Core.List.Memᴰ.head refl)) in
    let pos = child_pos rowed s i m in
    rw (last_or_snoc 0 front i) (youngest i (link_some i (λ z. omega arith)) pos m (child_last R s front i e)))
    (places 0 (child_of s) R)
    refl)

pub last_within : {R : List (List ℕ)} {last : Option ℕ} → Rowed R → (s : List ℕ) → LastChild R s last → IfSome last (λ i. i < length R)
last_within {R} rowed s (childless e none_left) = rw e tt
last_within {R} rowed s (youngest i e pos m end) = rw e ((places_at (child_of s) R i m).0)

-- What an answer tells. A child that is found is a row, and where none is found the string is none; then the last row
-- compared is the last child.
module _ {R : List (List ℕ)} (rowed : Rowed R) {s : List ℕ} {c : ℕ} {r : Asked} (answered : Answered R s c r) where
  pub answered_none : r.child ≡ None → (any (same (s ++ (c ∷ []))) R ≡ false) × (r.last ≡ link (last_from 0 0 (child_of s) R))
  answered_none gone =
      let w = s ++ (c ∷ []) in
      let zero : row_of R (s ++ (c ∷ [])) ≡ 0 = unlinked (row_of R w) (sym answered.child ∙ gone) in
      let missing : any (same w) R ≡ false =
      fails (any (same w) R)
      (λ h. omega (arith, zero, row_of_pos rowed w (omega (arith, length-append s (c ∷ []))) h)) in
      (missing, answered.last ∙ (rw missing))

  pub answered_missing : any (same (s ++ (c ∷ []))) R ≡ false → r.child ≡ None
  unfolding link
  answered_missing missing = answered.child ∙ ap link (row_of_none R (s ++ (c ∷ [])) missing)

  module _ {i : ℕ} (found : r.child ≡ Some i) where
    pub answered_row : i ≡ row_of R (s ++ (c ∷ []))
    answered_row = sym (linked (row_of R (s ++ (c ∷ []))) i (sym answered.child ∙ found)).0

    pub answered_child : (i < length R) × (get_or R i [] ≡ s ++ (c ∷ [])) × (any (same (s ++ (c ∷ []))) R ≡ true)
    answered_child =
        let w = s ++ (c ∷ []) in
        let is : any (same w) R ≡ true =
        passes (any (same w) R) (λ missing. none-some i (sym (answered_missing missing) ∙ found)) in
        let (within, reads) = row_of_is R w is in
        (rw answered_row within, rw answered_row reads, is)
