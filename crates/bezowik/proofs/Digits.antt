-- A number's low bytes are what `to_le_bytes` gives, and the five of an answer, each laid behind those before it, are
-- its twenty bytes.
use Prim.Native.Nat.{ℕ, zero, suc, ◌+◌, ◌/◌, ◌%◌, ◌^◌}
use native.Mathlib.Omega.{arith}
use mathlib.Core.Path.{◌≡◌, refl, sym, ◌∙◌, ap}
use mathlib.Core.List.{List, [], ◌∷◌, ◌++◌, append_assoc}
use lib.ListN.{length, take, drop, length-append}
use lib.Seq.{drop-drop}
use borrow.Rule.Slice.PartMut.{put_mid}
use Rattle.std.specs.Int.{w16, w32, w64, bytes_low_first, to_le_bytes}
use Rattle.std.proofs.Math.Nat.{div-div-eq-div-mul, pow-suc}
use Rattle.rules.specs.scans.Hits.{over}
use Rattle.rules.specs.answers.Answers.{Told, low_first, answer_bytes}
use Rattle.rules.proofs.scans.Buffers.{over_none, over-front, over_rest}

-- k bytes from byte i + 1 on are the low bytes of what is left of the number
bytes_behind : (i k n : ℕ) → bytes_low_first (suc i) k n ≡ low_first k (n / 256 ^ suc i)
unfolding low_first
bytes_behind i zero n = refl
bytes_behind i (suc k) n =
    let rest : n / 256 ^ suc (suc i) ≡ n / 256 ^ suc i / 256 = rw (pow-suc, ← div-div-eq-div-mul) in
    ap (λ (l : List ℕ). n / 256 ^ suc i % 256 ∷ l) (bytes_behind (suc i) k n ∙ ap (low_first k) rest)

pub bytes_low : (k n : ℕ) → bytes_low_first 0 k n ≡ low_first k n
unfolding low_first
bytes_low zero n = refl
bytes_low (suc k) n = ap (λ (l : List ℕ). n % 256 ∷ l) (bytes_behind 0 k n)

-- what is laid behind `new` at the front of a buffer
put_behind : (n k : ℕ) (new more old s : List ℕ)
    → length new ≡ n
    → length more ≡ k
    → s ≡ over new old
    → put_mid n k s more ≡ over (new ++ more) old
unfolding over
put_behind n k new more old s e f known =
    let front : take n s ≡ new = rw (known, ← e) (over-front new old) in
    let rest : drop n s ≡ drop n old = rw (known, ← e) (over_rest new old) in
    let behind : drop k (drop n s) ≡ drop (n + k) old = ap (drop k) rest ∙ drop-drop k n old in
    let size : length (new ++ more) ≡ n + k = omega (arith, length-append new more) in
    rw (front, behind, size) (sym (append_assoc new more (drop (n + k) old)))

pub put_all : (old : List ℕ) (a : Told) (number place count questions energy : List ℕ)
    → number ≡ to_le_bytes w16 a.number
    → place ≡ to_le_bytes w16 a.place
    → count ≡ to_le_bytes w32 a.count
    → questions ≡ to_le_bytes w32 a.questions
    → energy ≡ to_le_bytes w64 a.energy
    → put_mid 12 8 (put_mid 8 4 (put_mid 4 4 (put_mid 2 2 (put_mid 0 2 old number) place) count) questions) energy ≡ over (answer_bytes a) old
unfolding answer_bytes
put_all old a number place count questions energy n p c q e =
    let bytes : number ++ place ++ count ++ questions ++ energy ≡ answer_bytes a =
    rw (n ∙ bytes_low 2 a.number, p ∙ bytes_low 2 a.place, c ∙ bytes_low 4 a.count, q ∙ bytes_low 4 a.questions, e ∙ bytes_low 8 a.energy) in
    rw (← bytes)
    (put_behind 12 8 _ energy old _ (rw (n, p, c, q)) (rw e)
    (put_behind 8 4 _ questions old _ (rw (n, p, c)) (rw q)
    (put_behind 4 4 _ count old _ (rw (n, p)) (rw c)
    (put_behind 2 2 _ place old _ (rw n) (rw p)
    (put_behind 0 2 [] number old old refl (rw n) (sym (over_none old)))))))
