-- Files of records that have one size.
use Rattle.std.specs.Prelude.{ℕ, ◌+◌, List, ◌++◌, length, take, drop}

-- a part of a buffer written over from a place on
unfoldable pub put_at : List ℕ → ℕ → List ℕ → List ℕ
put_at old place new = take place old ++ new ++ drop (place + length new) old
