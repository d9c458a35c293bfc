-- A record is compared with the one that names its row, then number with number: the first fault decides.
use Prim.Native.Nat.{ℕ, ◌+◌, ◌-◌, ◌*◌}
use mathlib.Core.Path.{◌≡◌, sym}
use mathlib.Core.Bool.{true, false, not}
use mathlib.Core.List.{List}
use lib.ListN.{take, drop, get_or}
use lib.Pointwise.{pointwise}
use lib.Dec.{eqb}
use native.Mathlib.Omega.{arith}
use Rattle.rules.specs.sets.Limits.{row_record}
use Rattle.rules.specs.answers.Refusals.{pass, refuse, refuse_if, or_else, faulty}
use Rattle.rules.proofs.strings.Strings.{or_right, same_listed}
use Rattle.skips.specs.Judging.{fault_of}

-- the record of that row in the file, as the code cuts it out
abbrev pub row_record_at : List ℕ → ℕ → List ℕ
row_record_at file row = take row_record (drop (row_record * row) file)

pub cut : (file : List ℕ) (row : ℕ) → take (row_record * row + row_record - row_record * row) (drop (row_record * row) file) ≡ row_record_at file row
cut file row = let size : row_record * row + row_record - row_record * row ≡ row_record = omega arith in rw size

-- row i's record f beside the best one: another name, a number that is not allowed, or no fault
module _ (i : ℕ) (best f : List ℕ) where
  pub fault_name : true ≡ not (pointwise eqb (take 16 f) (take 16 best)) → refuse 11 i ≡ fault_of i best f
  unfolding fault_of refuse_if or_else
  fault_name e = rw (same_listed, ← e)

  module _ (named : false ≡ not (pointwise eqb (take 16 f) (take 16 best))) where
    pub fault-inner : true ≡ faulty (get_or best 16 0) (get_or f 16 0) → refuse 12 i ≡ fault_of i best f
    unfolding fault_of refuse_if or_else
    fault-inner e = rw (same_listed, ← named, ← e)

    pub fault-edge : true ≡ faulty (get_or best 17 0) (get_or f 17 0) → refuse 12 i ≡ fault_of i best f
    unfolding fault_of refuse_if or_else
    fault-edge e = rw (same_listed, ← named, or_right (faulty (get_or best 16 0) (get_or f 16 0)) (sym e))

    pub fault_none : false ≡ faulty (get_or best 16 0) (get_or f 16 0) → false ≡ faulty (get_or best 17 0) (get_or f 17 0) → pass ≡ fault_of i best f
    unfolding fault_of refuse_if or_else
    fault_none p q = rw (same_listed, ← named, ← p, ← q)
