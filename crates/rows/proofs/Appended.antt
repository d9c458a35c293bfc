-- A row more: of the rows before it only one number changes, the link that leads to it, and that is the one number
-- that the definitions change: the parent's child where it had none, else the last child's sibling.
use Prim.Native.Nat.{ℕ, zero, suc, ◌+◌, ◌*◌, ◌≤◌, ◌<◌}
use native.Mathlib.Omega.{arith}
use mathlib.Core.Path.{◌≡◌, refl, sym, ◌∙◌, ap}
use mathlib.Core.Bool.{false}
use mathlib.Core.List.Memᴰ
use mathlib.Core.List.{List, [], ◌∷◌, ◌++◌, Memᴰ}
use lib.ListN.{length, get_or, take, drop, set, length-append, length-set, get_or-replicate, get_or-append}
use lib.Seq.{sets, sets-eq, length-sets, length-take-le, get_or-append-add, get_or-append_seam, get_or-set_same, get_or-set_other, drop-set-lt}
use lib.Dec.{eqb, ltb}
use borrow.Author.Tests.{eqb-true, eqb-false, ltb-true, ltb-false}
use Rattle.std.specs.Prelude.{Option, Some, None, IfSome}
use Rattle.rules.specs.sets.Limits.{row_cells}
use Rattle.rules.specs.strings.Strings.{same, any}
use Rattle.rules.specs.sets.Sets.{Keyword}
use Rattle.rules.specs.rows.Rows.{Way, place_from, child_of, sibling_after, key_of}
use Rattle.rules.specs.Beside.{Rowed}
use Rattle.rules.proofs.strings.Strings.{either}
use Rattle.rules.proofs.rows.Rows.{Stands, old_place, new_place, at_snoc, row_at, rowed_more}
use Rattle.rules.proofs.rows.Children.{places, place_from-head, children_none, new_child, new_sibling, last_byte, last_byte_snoc, last-only, child_linked, child-kept, sibling_linked, sibling-kept}
use Rattle.rows.specs.declared.tree.Asked.{Asked}
use Rattle.rows.specs.Tree.{Column, Tree, Held, Answered, Beyond, byte_of, children_of, siblings_of, last_from, link, link_at, appended}
use Rattle.rows.proofs.Walk.{LastChild, childless, youngest, byte_of_pos, siblings_of_pos, last_is, last_within, answered_none}

-- a run of stores: what stands before it and behind it stays, and within it is what was stored
sets_before : (l : List ℕ) (i : ℕ) (vs : List ℕ) (k : ℕ) → k < i → get_or (sets l i vs) k 0 ≡ get_or l k 0
sets_before l i [] k q = refl
sets_before l i (v ∷ vs) k q = sets_before (set l i v) (suc i) vs k (omega arith) ∙ get_or-set_other l i k v 0 (λ e. omega arith)

sets_behind : (l : List ℕ) (i : ℕ) (vs : List ℕ) (n : ℕ) → i + length vs ≤ n → drop n (sets l i vs) ≡ drop n l
sets_behind l i [] n q = refl
sets_behind l i (v ∷ vs) n q = sets_behind (set l i v) (suc i) vs n (omega arith) ∙ drop-set-lt n l i v (omega arith)

sets_in : (l : List ℕ) (i : ℕ) (vs : List ℕ) (j : ℕ) → i + length vs ≤ length l → j < length vs → get_or (sets l i vs) (i + j) 0 ≡ get_or vs j 0
sets_in l i vs j room q =
    let before : length (take i l) ≡ i = length-take-le i l (omega arith) in
    let front : length (take i l ++ vs) ≡ i + length vs = omega (arith, length-append (take i l) vs) in
    ap (λ (m : List ℕ). get_or m (i + j) 0) (sets-eq vs l i room)
    ∙ get_or-append (take i l ++ vs) (drop (i + length vs) l) 0 (i + j) (omega arith)
    ∙ ap (λ (x : ℕ). get_or (take i l ++ vs) (x + j) 0) (sym before)
    ∙ get_or-append-add (take i l) vs j 0

-- the new row's own numbers
abbrev new_row : ℕ → List ℕ
new_row c = c ∷ 0 ∷ 0 ∷ 0 ∷ 0 ∷ 0 ∷ []

new_row_links : (c j : ℕ) → 1 ≤ j → j < row_cells → get_or (new_row c) j 0 ≡ 0
new_row_links c zero low high = absurd (omega arith)
new_row_links c (suc j) low high = get_or-replicate 5 j 0 0 (omega arith)

-- where the link stands
link_at_child : (parent : ℕ) {last : Option ℕ} → last ≡ None → link_at parent last ≡ row_cells * parent + 1
unfolding link_at
link_at_child parent e = rw e

link_at_sibling : (parent : ℕ) {last : Option ℕ} {i : ℕ} → last ≡ Some i → link_at parent last ≡ row_cells * i + 2
unfolding link_at
link_at_sibling parent e = rw e

-- a number of another kind is no link
link_at_other : (parent : ℕ) (last : Option ℕ) (i j : ℕ)
    → j < row_cells
    → (j ≡ 1 → ⊥)
    → (j ≡ 2 → ⊥)
    → row_cells * i + j ≡ link_at parent last
    → ⊥
unfolding link_at
link_at_other parent None i j q one two e = one (omega arith)
link_at_other parent (Some last) i j q one two e = two (omega arith)

link_at_within : (n parent : ℕ) (last : Option ℕ) → parent < n → IfSome last (λ i. i < n) → link_at parent last < row_cells * n
unfolding link_at
link_at_within n parent None p q = omega arith
link_at_within n parent (Some last) p q = omega (arith, q)

-- The numbers of a workspace with one row more: those of the rows before it but the link, the link, those of the new
-- row.
module _ (ws : List ℕ) (n parent : ℕ) (last : Option ℕ) (c : ℕ) where
  appended_sets : appended ws n parent last c ≡ sets (set ws (link_at parent last) n) (row_cells * n) (new_row c)
  unfolding appended
  appended_sets = refl

  pub appended-length : length (appended ws n parent last c) ≡ length ws
  appended-length =
      rw appended_sets
      (length-sets (set ws (link_at parent last) n) (row_cells * n) (new_row c) ∙ length-set ws (link_at parent last) n)

  cell-kept : (k : ℕ) → k < row_cells * n → (k ≡ link_at parent last → ⊥) → get_or (appended ws n parent last c) k 0 ≡ get_or ws k 0
  cell-kept k q other =
      rw appended_sets
      (sets_before (set ws (link_at parent last) n) (row_cells * n) (new_row c) k q ∙ get_or-set_other ws (link_at parent last) k n 0 other)

  module _ (room : row_cells * (n + 1) ≤ length ws) where
    cell-new : (j : ℕ) → j < row_cells → get_or (appended ws n parent last c) (row_cells * n + j) 0 ≡ get_or (new_row c) j 0
    cell-new j q =
        rw appended_sets
        (sets_in (set ws (link_at parent last) n) (row_cells * n) (new_row c) j (omega (arith, length-set ws (link_at parent last) n)) q)

    module _ (low : parent < n) (low' : IfSome last (λ i. i < n)) where
      cell_linked : get_or (appended ws n parent last c) (link_at parent last) 0 ≡ n
      cell_linked =
          let q : link_at parent last < row_cells * n = link_at_within n parent last low low' in
          rw appended_sets
          (sets_before (set ws (link_at parent last) n) (row_cells * n) (new_row c) (link_at parent last) q
          ∙ get_or-set_same ws (link_at parent last) n 0 (omega arith))

      pub appended_beyond : Beyond (n + 1) ws (appended ws n parent last c)
      appended_beyond = (
        appended-length,
        rw appended_sets
            (sets_behind (set ws (link_at parent last) n) (row_cells * n) (new_row c) (row_cells * (n + 1)) (omega arith)
            ∙ drop-set-lt (row_cells * (n + 1)) ws (link_at parent last) n (omega (arith, link_at_within n parent last low low'))),
      )

    -- failures, keywords and dictionary rows: none for the new row
    pub appended_column : (j : ℕ) (f : ℕ → ℕ)
        → 3 ≤ j
        → j < row_cells
        → Column j f n ws
        → f n ≡ 0
        → Column j f (n + 1) (appended ws n parent last c)
    appended_column j f low high held new i q =
        either (ltb i n)
        (λ t.
        let old : i < n = ltb-true i n t in
        cell-kept (row_cells * i + j) (omega arith) (link_at_other parent last i j high (λ e. omega arith) (λ e. omega arith)) ∙ held i old)
        (λ t.
        let at : i ≡ n = omega (arith, ltb-false i n t) in
        rw at (cell-new j high ∙ new_row_links c j (omega arith) high ∙ sym new))

-- the rows R and s with one byte behind
abbrev pub grown : List (List ℕ) → List ℕ → ℕ → List (List ℕ)
grown R s c = R ++ ((s ++ (c ∷ [])) ∷ [])

-- What is known before a row is appended: its parent is a row and it is none, and `last` is the parent's last child.
pub record Growing (R : List (List ℕ)) (parent : ℕ) (s : List ℕ) (c : ℕ) (last : Option ℕ) (ws : List ℕ) : Type 0 where
  pub tree : Tree R ws
  pub within : parent < length R
  pub reads : get_or R parent [] ≡ s
  pub new : any (same (s ++ (c ∷ []))) R ≡ false
  pub latest : last ≡ link (last_from 0 0 (child_of s) R)
  pub room : row_cells * (length R + 1) ≤ length ws

-- so it is where a question found no child
pub growing : {R : List (List ℕ)} {parent c : ℕ} {ws : List ℕ} {r : Asked}
    → Tree R ws
    → parent < length R
    → Answered R (get_or R parent []) c r
    → r.child ≡ None
    → row_cells * (length R + 1) ≤ length ws
    → Growing R parent (get_or R parent []) c r.last ws
growing tree within answered None-found room =
    let (missing, latest) = answered_none tree.rowed answered None-found in
    record { tree = tree; within = within; reads = refl; new = missing; latest = latest; room = room }

-- an old row keeps its byte, and its sibling where it is not the one that is linked
byte_of_old : (R M : List (List ℕ)) (i : ℕ) → get_or M i [] ≡ get_or R i [] → byte_of M i ≡ byte_of R i
unfolding byte_of
byte_of_old R M zero e = refl
byte_of_old R M (suc i) e = rw e

siblings_of_old : {R : List (List ℕ)} → Rowed R → (s : List ℕ) (c i : ℕ)
    → i < length R
    → (1 ≤ i → Memᴰ i (places 0 (child_of s) R) → sibling_after R i (get_or R i []) ≡ 0 → ⊥)
    → siblings_of (grown R s c) i ≡ siblings_of R i
unfolding siblings_of
siblings_of_old rowed s c zero q other = refl
siblings_of_old {R} rowed s c (suc i) q other =
    rw (get_or-append R ((s ++ (c ∷ [])) ∷ []) [] (suc i) q)
    (sibling-kept rowed s c (suc i) (omega arith) q (other (omega arith)))

module _ {R : List (List ℕ)} {parent : ℕ} {s : List ℕ} {c : ℕ} {last : Option ℕ} {ws : List ℕ} (g : Growing R parent s c last ws) where
  youngest_is : LastChild R s last
  youngest_is = rw g.latest (last_is g.tree.rowed s)

  pub growing_last : IfSome last (λ i. i < length R)
  growing_last = last_within g.tree.rowed s youngest_is

  -- the numbers of an old row: all but the link stay
  kept : (i j : ℕ)
      → i < length R
      → j < row_cells
      → (row_cells * i + j ≡ link_at parent last → ⊥)
      → get_or (appended ws (length R) parent last c) (row_cells * i + j) 0 ≡ get_or ws (row_cells * i + j) 0
  kept i j q small other = cell-kept ws (length R) parent last c (row_cells * i + j) (omega arith) other

  linked : (i j : ℕ) → row_cells * i + j ≡ link_at parent last → get_or (appended ws (length R) parent last c) (row_cells * i + j) 0 ≡ length R
  linked i j here = rw here (cell_linked ws (length R) parent last c g.room g.within growing_last)

  added : (i j : ℕ) → i ≡ length R → j < row_cells → get_or (appended ws (length R) parent last c) (row_cells * i + j) 0 ≡ get_or (new_row c) j 0
  added i j at small = rw at (cell-new ws (length R) parent last c g.room j small)

  -- each number of a row, old or new
  bytes-appended : Column 0 (byte_of (grown R s c)) (length (grown R s c)) (appended ws (length R) parent last c)
  bytes-appended i q = go (at_snoc R (s ++ (c ∷ [])) [] i q)
    where
      go : Stands R (s ++ (c ∷ [])) [] i → get_or (appended ws (length R) parent last c) (row_cells * i + 0) 0 ≡ byte_of (grown R s c) i
      go (old_place a e) =
          kept i 0 a (omega arith) (link_at_other parent last i 0 (omega arith) (λ z. omega arith) (λ z. omega arith))
          ∙ g.tree.bytes i a
          ∙ sym (byte_of_old R (grown R s c) i e)
      go (new_place a e) =
          added i 0 a (omega arith)
          ∙ sym (byte_of_pos (grown R s c) i (omega (arith, g.tree.rowed.some)) ∙ ap last_byte e ∙ last_byte_snoc s c)

  children-appended : Column 1 (children_of (grown R s c)) (length (grown R s c)) (appended ws (length R) parent last c)
  unfolding children_of
  children-appended i q = go (at_snoc R (s ++ (c ∷ [])) [] i q) youngest_is
    where
      unlinked : i < length R
          → get_or (grown R s c) i [] ≡ get_or R i []
          → (row_cells * i + 1 ≡ link_at parent last → ⊥)
          → (get_or R i [] ≡ s → place_from 0 (child_of (get_or R i [])) R ≡ 0 → ⊥)
          → get_or (appended ws (length R) parent last c) (row_cells * i + 1) 0 ≡ place_from 0 (child_of (get_or (grown R s c) i [])) (grown R s c)
      unlinked a e away other =
          kept i 1 a (omega arith) away
          ∙ g.tree.children i a
          ∙ sym (ap (λ (r : List ℕ). place_from 0 (child_of r) (grown R s c)) e ∙ child-kept g.tree.rowed s c (get_or R i []) other)

      go : Stands R (s ++ (c ∷ [])) [] i
          → LastChild R s last
          → get_or (appended ws (length R) parent last c) (row_cells * i + 1) 0 ≡ place_from 0 (child_of (get_or (grown R s c) i [])) (grown R s c)
      go (old_place a e) (childless z empty) =
          either (eqb i parent)
          (λ t.
          let here : i ≡ parent = eqb-true i parent t in
          let reads : get_or (grown R s c) i [] ≡ s = e ∙ ap (λ (x : ℕ). get_or R x []) here ∙ g.reads in
          linked i 1 (omega (arith, link_at_child parent z))
          ∙ sym
          (ap (λ (r : List ℕ). place_from 0 (child_of r) (grown R s c)) reads
          ∙ child_linked g.tree.rowed s c (place_from-head 0 (child_of s) R ∙ ap (λ (l : List ℕ). get_or l 0 0) empty)))
          (λ f.
          let other : i ≡ parent → ⊥ = eqb-false i parent f in
          unlinked a e (λ x. other (omega (arith, link_at_child parent z)))
          (λ r x. other (g.tree.rowed.distinct i parent a g.within (r ∙ sym g.reads))))
      go (old_place a e) (youngest k is pos m end) =
          unlinked a e (λ x. omega (arith, link_at_sibling parent is))
          (λ r x.
          let empty : places 0 (child_of s) R ≡ [] = children_none g.tree.rowed s (rw r at x) in
          Memᴰ.not-nil (rw empty at m))
      go (new_place a e) born =
          added i 1 a (omega arith)
          ∙ sym
          (ap (λ (r : List ℕ). place_from 0 (child_of r) (grown R s c)) e ∙ new_child g.tree.rowed (s ++ (c ∷ [])) g.new)

  siblings-appended : Column 2 (siblings_of (grown R s c)) (length (grown R s c)) (appended ws (length R) parent last c)
  siblings-appended i q = go (at_snoc R (s ++ (c ∷ [])) [] i q) youngest_is
    where
      unlinked : i < length R
          → (row_cells * i + 2 ≡ link_at parent last → ⊥)
          → (1 ≤ i → Memᴰ i (places 0 (child_of s) R) → sibling_after R i (get_or R i []) ≡ 0 → ⊥)
          → get_or (appended ws (length R) parent last c) (row_cells * i + 2) 0 ≡ siblings_of (grown R s c) i
      unlinked a away other =
          kept i 2 a (omega arith) away ∙ g.tree.siblings i a ∙ sym (siblings_of_old g.tree.rowed s c i a other)

      go : Stands R (s ++ (c ∷ [])) [] i
          → LastChild R s last
          → get_or (appended ws (length R) parent last c) (row_cells * i + 2) 0 ≡ siblings_of (grown R s c) i
      go (old_place a e) (childless z empty) =
          unlinked a (λ x. omega (arith, link_at_child parent z)) (λ pos m end. Memᴰ.not-nil (rw empty at m))
      go (old_place a e) (youngest k is pos m end) =
          either (eqb i k)
          (λ t.
          let here : i ≡ k = eqb-true i k t in
          let reads : get_or (grown R s c) i [] ≡ get_or R k [] = e ∙ ap (λ (x : ℕ). get_or R x []) here in
          linked i 2 (omega (arith, link_at_sibling parent is))
          ∙ sym (siblings_of_pos (grown R s c) i (omega arith) ∙ (rw (reads, here) (sibling_linked g.tree.rowed s c k m end))))
          (λ f.
          let other : i ≡ k → ⊥ = eqb-false i k f in
          unlinked a (λ x. other (omega (arith, link_at_sibling parent is)))
          (λ pos' m' end'. other (last-only R s i k m' m end' end)))
      go (new_place a e) born =
          added i 2 a (omega arith)
          ∙ sym
          (siblings_of_pos (grown R s c) i (omega (arith, g.tree.rowed.some))
          ∙ (rw a (new_sibling R (s ++ (c ∷ [])) (get_or (grown R s c) (length R) []))))

  pub tree-appended : Tree (grown R s c) (appended ws (length R) parent last c)
  tree-appended =
      record {
        rowed = rowed_more g.tree.rowed s c (row_at R parent s g.within g.reads) g.new;
        room = omega (arith, g.room, appended-length ws (length R) parent last c, length-append R ((s ++ (c ∷ [])) ∷ []));
        bytes = bytes-appended;
        children = children-appended;
        siblings = siblings-appended;
      }

  pub beyond-appended : Beyond (length (grown R s c)) ws (appended ws (length R) parent last c)
  beyond-appended =
      rw (length-append R ((s ++ (c ∷ [])) ∷ [])) (appended_beyond ws (length R) parent last c g.room g.within growing_last)

  pub column-appended : (j : ℕ) (f : ℕ → ℕ)
      → 3 ≤ j
      → j < row_cells
      → Column j f (length R) ws
      → f (length R) ≡ 0
      → Column j f (length (grown R s c)) (appended ws (length R) parent last c)
  column-appended j f low high held new =
      rw (length-append R ((s ++ (c ∷ [])) ∷ [])) (appended_column ws (length R) parent last c g.room j f low high held new)

-- the keywords and the empty columns of a workspace with a row more that is no keyword
pub held-appended : {way : Way} {ks : List Keyword} {R : List (List ℕ)} {parent : ℕ} {s : List ℕ} {c : ℕ} {last : Option ℕ} {ws : List ℕ}
    → Held way ks R ws
    → Growing R parent s c last ws
    → key_of way ks (s ++ (c ∷ [])) ≡ 0
    → Held way ks (grown R s c) (appended ws (length R) parent last c)
held-appended {way} {ks} {R} {parent} {s} {c} {last} {ws} held g no_key =
    let w = s ++ (c ∷ []) in
    record {
      tree = tree-appended g;
      failures = column-appended g 3 (λ i. 0) (omega arith) (omega arith) held.failures refl;
      keys =
          column-appended g 4 (λ i. key_of way ks (get_or (grown R s c) i [])) (omega arith) (omega arith)
          (λ i q. held.keys i q ∙ ap (key_of way ks) (sym (get_or-append R (w ∷ []) [] i q)))
          (ap (key_of way ks) (get_or-append_seam R w [] []) ∙ no_key);
      dictionaries = column-appended g 5 (λ i. 0) (omega arith) (omega arith) held.dictionaries refl;
    }
