-- What the tests of a table ask of a record.
use Rattle.std.specs.Prelude.{ℕ, ◌||◌, List, not, take, get_or}
use Rattle.rules.specs.strings.Strings.{same}
use Rattle.rules.specs.answers.Refusals.{Verdict, refuse_if, or_else, faulty}

-- the fault of row i's record f beside the best one, which has the largest numbers: 11 where it names another suffix,
-- 12 where a number is 0 or above the largest
unfoldable pub fault_of : ℕ → List ℕ → List ℕ → Verdict
fault_of i best f =
    or_else (refuse_if (not (same (take 16 f) (take 16 best))) 11 i)
    (refuse_if (faulty (get_or best 16 0) (get_or f 16 0) || faulty (get_or best 17 0) (get_or f 17 0)) 12 i)
