-- What stands in order stays so under append, map, flat_map and keep, holds nothing twice, and is the only such list
-- of its members: by recursion along the list.
use Prim.Native.Nat.{ℕ, zero, suc, ◌-◌, ◌≤◌, ◌<◌}
use native.Mathlib.Omega.{arith}
use native.Mathlib.Nat.{not-suc-le-zero, le_of_suc-le-suc}
use mathlib.Core.Path.{◌≡◌, refl, sym, ◌∙◌}
use mathlib.Core.Logic.{◌⊎◌, inl, inr, ⊎_elim}
use mathlib.Core.Bool.{Bool, true, false, cond}
use mathlib.Core.List.Memᴰ
use mathlib.Core.List.{List, [], ◌∷◌, ◌++◌, map, flat_map, Memᴰ}
use lib.ListN.{length, get_or}
use Rattle.rules.specs.strings.Strings.{keep}
use Rattle.rules.specs.scans.Audit.{Ordered, none, next}
use Rattle.rules.proofs.strings.Strings.{keep_mem}

-- flat_map: the element that it came from is the witness
pub flat_map_mem {ℓ κ} : {A : Type ℓ} {B : Type κ} (f : A → List B) {b : B} (l : List A) → Memᴰ b (flat_map f l) → (a : A) × Memᴰ a l × Memᴰ b (f a)
unfolding flat_map
flat_map_mem f [] m = absurd (Memᴰ.not-nil m)
flat_map_mem {A = A} f {b} (x ∷ l) m = go (Memᴰ.append_cases (f x) m) (flat_map_mem f l)
  where
    go : Memᴰ b (f x) ⊎ Memᴰ b (flat_map f l)
        → (Memᴰ b (flat_map f l) → (a : A) × Memᴰ a l × Memᴰ b (f a))
        → (a : A) × Memᴰ a (x ∷ l) × Memᴰ b (f a)
    go (inl m') below = (x, Memᴰ.head refl, m')
    go (inr m') below = let w = below m' in (w.0, Memᴰ.tail w.1, w.2)

pub mem-flat_map {ℓ κ} : {A : Type ℓ} {B : Type κ} (f : A → List B) {a : A} {b : B} {l : List A} → Memᴰ a l → Memᴰ b (f a) → Memᴰ b (flat_map f l)
unfolding flat_map
mem-flat_map f (Memᴰ.head {xs = xs} e) m = rw (← e) (Memᴰ.append_left (flat_map f xs) m)
mem-flat_map f (Memᴰ.tail {x = x} m') m = Memᴰ.append_right (f x) (mem-flat_map f m' m)

-- an order gives another where it implies that one between members
pub ordered_weaken : {A : Type 0} {R S : A → A → Type 0} {l : List A} → ((a b : A) → Memᴰ a l → Memᴰ b l → R a b → S a b) → Ordered R l → Ordered S l
ordered_weaken h none = none
ordered_weaken h (next first rest) =
    next (λ b m. h _ b (Memᴰ.head refl) (Memᴰ.tail m) (first b m))
    (ordered_weaken (λ a b m m'. h a b (Memᴰ.tail m) (Memᴰ.tail m')) rest)

pub ordered-append : {A : Type 0} {R : A → A → Type 0} {k l : List A} → Ordered R k → Ordered R l → ((a b : A) → Memᴰ a k → Memᴰ b l → R a b) → Ordered R (k ++ l)
ordered-append none o across = o
ordered-append {A} {R} {l = l} (next {a = x} {l = k} first rest) o across =
    next (λ b m. go b (Memᴰ.append_cases k m))
    (ordered-append rest o (λ a b m. across a b (Memᴰ.tail m)))
  where
    go : (b : A) → Memᴰ b k ⊎ Memᴰ b l → R x b
    go b (inl m) = first b m
    go b (inr m) = across x b (Memᴰ.head refl) m

pub ordered-map : {A B : Type 0} {R : B → B → Type 0} (f : A → B) {l : List A} → Ordered (λ (a b : A). R (f a) (f b)) l → Ordered R (map f l)
ordered-map f none = none
ordered-map f (next {a = x} {l = l} first rest) =
    next {a = f x}
    (λ b m.
    let w = Memᴰ.of_map f l m in
    rw (← w.2) (first w.0 w.1))
    (ordered-map f rest)

pub ordered-flat_map : {A B : Type 0} {R : B → B → Type 0} (f : A → List B) {l : List A}
    → ((a : A) → Memᴰ a l → Ordered R (f a))
    → Ordered (λ (a b : A). (c d : B) → Memᴰ c (f a) → Memᴰ d (f b) → R c d) l
    → Ordered R (flat_map f l)
unfolding flat_map
ordered-flat_map f each none = none
ordered-flat_map f each (next {a = x} {l = l} first rest) =
    ordered-append (each x (Memᴰ.head refl))
    (ordered-flat_map f (λ a m. each a (Memᴰ.tail m)) rest)
    (λ c d m m'.
    let w = flat_map_mem f l m' in
    first w.0 w.1 c d m w.2)

pub ordered-keep : {A : Type 0} {R : A → A → Type 0} (p : A → Bool) {l : List A} → Ordered R l → Ordered R (keep p l)
unfolding keep
ordered-keep p none = none
ordered-keep {A} {R} p (next {a = x} {l = l} first rest) = go (p x) (ordered-keep p rest)
  where
    go : (t : Bool) → Ordered R (keep p l) → Ordered R (cond t (x ∷ keep p l) (keep p l))
    go true o = next (λ b m. first b (keep_mem p l m).0) o
    go false o = o

-- the elements by their places
pub get_or_mem : {A : Type 0} (l : List A) (d : A) (i : ℕ) → i < length l → Memᴰ (get_or l i d) l
get_or_mem [] d i h = absurd (not-suc-le-zero h)
get_or_mem (x ∷ l) d zero h = Memᴰ.head refl
get_or_mem (x ∷ l) d (suc i) h = Memᴰ.tail (get_or_mem l d i (le_of_suc-le-suc h))

pub mem_at : {A : Type 0} {a : A} {l : List A} → Memᴰ a l → (i : ℕ) × (i < length l) × ((d : A) → get_or l i d ≡ a)
mem_at (Memᴰ.head e) = (0, omega arith, λ d. sym e)
mem_at (Memᴰ.tail m) = let w = mem_at m in (suc w.0, omega (arith, w.1), w.2)

pub ordered_at : {A : Type 0} {R : A → A → Type 0} {l : List A} → Ordered R l → (d : A) (i j : ℕ) → i < j → j < length l → R (get_or l i d) (get_or l j d)
ordered_at none d i j h k = absurd (not-suc-le-zero k)
ordered_at (next first rest) d i zero h k = absurd (not-suc-le-zero h)
ordered_at (next {l = l} first rest) d zero (suc j) h k = first (get_or l j d) (get_or_mem l d j (le_of_suc-le-suc k))
ordered_at (next first rest) d (suc i) (suc j) h k = ordered_at rest d i j (le_of_suc-le-suc h) (le_of_suc-le-suc k)

-- where nothing is before itself, nothing stands twice
pub ordered_once : {A : Type 0} {R : A → A → Type 0} {l : List A} → ((a : A) → R a a → ⊥) → Ordered R l → (d : A) (i j : ℕ) → i < j → j < length l → get_or l i d ≡ get_or l j d → ⊥
ordered_once {l = l} strict o d i j h k e = strict (get_or l j d) (rw e at (ordered_at o d i j h k))

-- where no two are each before the other, a list is the only one in that order with its members: each of two heads is a
-- member of the other list, so they are the same, or each is before the other
module _ {A : Type 0} {R : A → A → Type 0} (apart : (a b : A) → R a b → R b a → ⊥) where
  one-head : {a b : A} {k l : List A}
      → ((c : A) → Memᴰ c k → R a c)
      → ((c : A) → Memᴰ c l → R b c)
      → Memᴰ a (b ∷ l)
      → Memᴰ b (a ∷ k)
      → a ≡ b
  one-head {a} {b} first other m m' =
      ⊎_elim (λ (e : a ≡ b). e)
      (λ n. ⊎_elim (λ (e : b ≡ a). sym e) (λ n'. absurd (apart a b (first b n') (other a n))) (Memᴰ.cases_cons m'))
      (Memᴰ.cases_cons m)

  -- what is behind the head is no head
  behind-head : {a b : A} {k l : List A}
      → a ≡ b
      → ((c : A) → Memᴰ c k → R a c)
      → ((c : A) → Memᴰ c (a ∷ k) → Memᴰ c (b ∷ l))
      → (c : A)
      → Memᴰ c k
      → Memᴰ c l
  behind-head {a} {b} e first there c m =
      ⊎_elim (λ (q : c ≡ b). let itself : R a a = rw (q ∙ sym e) at (first c m) in absurd (apart a a itself itself)) (λ m'. m')
      (Memᴰ.cases_cons (there c (Memᴰ.tail m)))

  pub ordered-only : {k l : List A}
      → Ordered R k
      → Ordered R l
      → ((a : A) → Memᴰ a k → Memᴰ a l)
      → ((a : A) → Memᴰ a l → Memᴰ a k)
      → k ≡ l
  ordered-only none none there back = refl
  ordered-only none (next {a = b} first rest) there back =
      absurd (Memᴰ.not-nil (back b (Memᴰ.head refl)))
  ordered-only (next {a = a} first rest) none there back =
      absurd (Memᴰ.not-nil (there a (Memᴰ.head refl)))
  ordered-only (next {a = a} {l = k} first rest) (next {a = b} {l = l} other more) there back =
      let head : a ≡ b = one-head first other (there a (Memᴰ.head refl)) (back b (Memᴰ.head refl)) in
      let tail : k ≡ l = ordered-only rest more (behind-head head first there) (behind-head (sym head) other back) in
      rw (head, tail)

-- where a measure falls and stays from 1 to n, there are no more than n
pub falling_few : {A : Type 0} (f : A → ℕ) (n : ℕ) {l : List A}
    → Ordered (λ (a b : A). f b < f a) l
    → ((a : A) → Memᴰ a l → 1 ≤ f a)
    → ((a : A) → Memᴰ a l → f a ≤ n)
    → length l ≤ n
falling_few f n none low high = omega arith
falling_few f n (next {a = x} {l = l} first rest) low high =
    let here : 1 ≤ f x = low x (Memᴰ.head refl) in
    let most : f x ≤ n = high x (Memᴰ.head refl) in
    let below : length l ≤ f x - 1 =
    falling_few f (f x - 1) rest (λ a m. low a (Memᴰ.tail m)) (λ a m. omega (arith, first a m)) in
    omega arith
