-- The numbers of a byte file are judged by place: the verdict of the file is that of the places from p on, once those
-- before passed.
use Prim.Native.Nat.{ℕ, suc, ◌+◌, ◌-◌, ◌/◌, ◌%◌, ◌≤◌, ◌<◌}
use native.Mathlib.Omega.{arith}
use native.Mathlib.Numerals.{add-one}
use mathlib.Core.Path.{◌≡◌, refl, ◌∙◌}
use mathlib.Core.Bool.{true, false}
use mathlib.Core.List.{List}
use lib.ListN.{drop, get_or}
use lib.Seq.{drop-drop, get_or-drop}
use Rattle.rules.specs.sets.Limits.{byte_file_size, depths}
use Rattle.rules.specs.sets.Sets.{Keyword}
use Rattle.rules.specs.skips.Skips.{far}
use Rattle.rules.specs.answers.Refusals.{pass, refuse, refuse_if, or_else, faulty, far_verdicts}

-- the numbers before place p passed
pub record FarsPassed (ks : List Keyword) (file : List ℕ) (p : ℕ) : Type 0 where
  pub few : p ≤ byte_file_size
  pub left : far_verdicts ks byte_file_size 0 file ≡ far_verdicts ks (byte_file_size - p) p (drop p file)

pub fars_none : (ks : List Keyword) (file : List ℕ) → FarsPassed ks file 0
fars_none ks file = record { few = omega arith; left = refl }

module _ {ks : List Keyword} {file : List ℕ} {p : ℕ} (known : FarsPassed ks file p) where
  -- the test at place p, and those behind it
  step : p < byte_file_size → far_verdicts ks byte_file_size 0 file ≡ or_else (refuse_if (faulty (far ks (p / depths) (p % depths)) (get_or file p 0)) 14 p) (far_verdicts ks (byte_file_size - suc p) (suc p) (drop (suc p) file))
  unfolding far_verdicts
  step h =
      let more : byte_file_size - p ≡ suc (byte_file_size - suc p) = omega arith in
      let here : p + 0 ≡ p = omega arith in
      known.left ∙ rw (more, get_or-drop p file 0 0, drop-drop 1 p file, here, add-one p)

  pub fars_stop : p < byte_file_size → faulty (far ks (p / depths) (p % depths)) (get_or file p 0) ≡ true → far_verdicts ks byte_file_size 0 file ≡ refuse 14 p
  unfolding or_else refuse_if
  fars_stop h t = step h ∙ rw t

  pub fars_more : p < byte_file_size → faulty (far ks (p / depths) (p % depths)) (get_or file p 0) ≡ false → FarsPassed ks file (p + 1)
  unfolding or_else refuse_if
  fars_more h t = record { few = omega arith; left = rw (add-one p) (step h ∙ rw t) }

  pub fars_all : byte_file_size ≤ p → far_verdicts ks byte_file_size 0 file ≡ pass
  unfolding far_verdicts
  fars_all h = let none : byte_file_size - p ≡ 0 = omega arith in known.left ∙ rw none
