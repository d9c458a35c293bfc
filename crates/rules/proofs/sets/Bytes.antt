-- Numbers that are below a bound at every place of a list are so as its members: so a set of bytes that passed is
-- sound.
use Prim.Native.Nat.{ℕ, suc, ◌<◌}
use mathlib.Core.Path.{◌≡◌}
use mathlib.Core.List.{List, Memᴰ}
use lib.ListN.{get_or}
use Rattle.rules.specs.sets.Limits.{opcodes}
use Rattle.rules.specs.sets.Sets.{keywords}
use Rattle.rules.specs.answers.Refusals.{pass, file_verdict}
use Rattle.rules.specs.Beside.{Sound}
use Rattle.rules.proofs.sets.Sets.{file_sound}

pub mem_below : (n : ℕ) {b : ℕ} {s : List ℕ} → Memᴰ b s → ((i : ℕ) → get_or s i 0 < n) → b < n
mem_below n (Memᴰ.head e) small = rw e (small 0)
mem_below n (Memᴰ.tail m) small = mem_below n m (λ i. small (suc i))

pub bytes_sound : (s : List ℕ) → ((i : ℕ) → get_or s i 0 < opcodes) → file_verdict s ≡ pass → Sound (keywords s)
bytes_sound s small v = file_sound s (λ b m. mem_below opcodes m small) v
