-- Along a chain of failures the longest suffix that goes on stays the same, a question is added and a byte or more
-- goes.
use Prim.Native.Nat.{ℕ, ◌+◌, ◌*◌, ◌≤◌, ◌<◌}
use native.Mathlib.Omega.{arith}
use mathlib.Core.Path.{◌≡◌, refl, sym, ◌∙◌, ap}
use mathlib.Core.Bool.{true, false}
use mathlib.Core.List.{List, [], ◌∷◌, ◌++◌}
use lib.ListN.{length, get_or}
use Rattle.std.specs.Prelude.{Some, None}
use Rattle.rules.specs.sets.Limits.{row_cells}
use Rattle.rules.specs.strings.Strings.{same, any, longest, longest_behind}
use Rattle.rules.specs.rows.Rows.{is_row}
use Rattle.rules.specs.Beside.{Rowed}
use Rattle.rules.proofs.rows.Rows.{row_at, row_of_is, row_of-nil, root_row}
use Rattle.rules.proofs.rows.Children.{row_filled}
use Rattle.rules.proofs.scans.State.{Closed, asked_by, longest_of, longest_falls, longest_one, asked-nil, asked_extends, asked_falls, behind-length, behind_passes}
use Rattle.rows.specs.declared.tree.Asked.{Asked}
use Rattle.rows.specs.Tree.{Answered}
use Rattle.rows.specs.Falls.{Ready, Moved}
use Rattle.rows.proofs.Walk.{answered_none, answered_row, answered_child}

-- what is asked at `at` after some questions is what was asked at `row`
pub record Falling (R : List (List ℕ)) (row c at asked : ℕ) : Type 0 where
  pub within : at < length R
  pub shorter : asked + length (get_or R at []) ≤ length (get_or R row [])
  pub leads : longest (is_row R) (get_or R row [] ++ (c ∷ [])) ≡ longest (is_row R) (get_or R at [] ++ (c ∷ []))
  pub counts : asked_by (is_row R) (get_or R row []) c ≡ asked + asked_by (is_row R) (get_or R at []) c

pub falling_none : {R : List (List ℕ)} {d row : ℕ} {ws : List ℕ} → Ready R d row ws → (c : ℕ) → Falling R row c row 0
falling_none ready c = record { within = ready.within; shorter = omega arith; leads = refl; counts = omega arith }

module _ {R : List (List ℕ)} (rowed : Rowed R) where
  -- the tests of a row
  pub closed_row : Closed (is_row R)
  closed_row = rowed.closed

  pub is-row : (i : ℕ) → i < length R → is_row R (get_or R i []) ≡ true
  is-row i q = row_at R i (get_or R i []) q refl

  pub nil_row : is_row R [] ≡ true
  nil_row = root_row rowed

  behind_row : (i : ℕ) → any (same (longest_behind (is_row R) (get_or R i []))) R ≡ true
  behind_row i = behind_passes (is_row R) nil_row (get_or R i [])

-- the failure of a row: a shorter row
module _ {R : List (List ℕ)} {d row : ℕ} {ws : List ℕ} (ready : Ready R d row ws) where
  pub fall_within : (i : ℕ) → i < length R → length (get_or R i []) ≤ d → get_or ws (row_cells * i + 3) 0 < length R
  fall_within i q h =
      rw (ready.falls i q h) (row_of_is R (longest_behind (is_row R) (get_or R i [])) (behind_row ready.tree.rowed i)).0

  pub fall_reads : (i : ℕ) → i < length R → length (get_or R i []) ≤ d → get_or R (get_or ws (row_cells * i + 3) 0) [] ≡ longest_behind (is_row R) (get_or R i [])
  fall_reads i q h =
      rw (ready.falls i q h) (row_of_is R (longest_behind (is_row R) (get_or R i [])) (behind_row ready.tree.rowed i)).1

  -- the question at a row of the chain, and what its answer tells
  module _ {c at asked : ℕ} (f : Falling R row c at asked) {found : Asked} (answer : Answered R (get_or R at []) c found) where
    pub falling_more : found.child ≡ None → (at ≡ 0 → ⊥) → Falling R row c (get_or ws (row_cells * at + 3) 0) (asked + 1)
    falling_more gone some =
        let rowed = ready.tree.rowed in
        let s = get_or R at [] in
        let short : length (get_or R at []) ≤ d = omega (arith, f.shorter, ready.shallow) in
        let pos : 1 ≤ at = omega arith in
        let filled : 1 ≤ length (get_or R at []) = row_filled rowed at pos f.within in
        let fails : is_row R (get_or R at [] ++ (c ∷ [])) ≡ false = (answered_none rowed answer gone).0 in
        let reads : get_or R (get_or ws (row_cells * at + 3) 0) [] ≡ longest_behind (is_row R) (get_or R at []) = fall_reads at f.within short in
        record {
          within = fall_within at f.within short;
          shorter = omega (arith, f.shorter, ap length reads, behind-length (is_row R) s filled);
          leads = rw reads (f.leads ∙ longest_falls (is_row R) (closed_row rowed) s c filled fails);
          counts = rw reads (omega (arith, f.counts, asked_falls (is_row R) s c filled (is-row rowed at f.within) fails));
        }

    pub falling_child : {next : ℕ} → found.child ≡ Some next → Moved R (get_or R row []) c (record { row = next; asked = asked + 1 })
    unfolding asked_by
    falling_child some =
        let rowed = ready.tree.rowed in
        let s = get_or R at [] in
        let goes : is_row R (get_or R at [] ++ (c ∷ [])) ≡ true = (answered_child rowed answer some).2 in
        record {
          row = rw (f.leads, longest_of (is_row R) (s ++ (c ∷ [])) goes) (answered_row rowed answer some);
          asked = omega (arith, f.counts, asked_extends (is_row R) s c (is-row rowed at f.within) goes);
        }

    pub falling-root : found.child ≡ None → at ≡ 0 → Moved R (get_or R row []) c (record { row = 0; asked = asked + 1 })
    unfolding asked_by
    falling-root gone root =
        let rowed = ready.tree.rowed in
        let empty : get_or R at [] ≡ [] = rw root rowed.first in
        let fails : is_row R (c ∷ []) ≡ false = rw empty at ((answered_none rowed answer gone).0) in
        record {
          row = rw (f.leads, empty, longest_one (is_row R) c fails) (sym (row_of-nil rowed));
          asked = omega (arith, rw empty at f.counts, asked-nil (is_row R) (nil_row rowed) c);
        }
