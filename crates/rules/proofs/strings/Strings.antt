-- Each test of strings is the fact that it tests: by recursion along the strings.
use Prim.Native.Nat.{ℕ}
use mathlib.Core.Path.{◌≡◌, refl, sym, ◌∙◌, ap}
use mathlib.Core.Logic.{◌⊎◌, inl, inr}
use mathlib.Core.Bool.{Bool, true, false, ◌&&◌, ◌||◌, cond, true≢false, or_assoc}
use mathlib.Core.List.Memᴰ
use mathlib.Core.List.{List, [], ◌∷◌, ◌++◌, append-nil, Memᴰ}
use lib.ListN.{length}
use lib.Dec.{eqb}
use lib.Pointwise.{pointwise}
use Rattle.std.specs.List.{list_any}
use borrow.Author.Tests.{eqb-true, eq-eqb}
use Rattle.rules.specs.strings.Strings.{same, begins, suffixes, any, ends, keep}

-- cases on a test that keep its outcome as an equation
pub either {ℓ} : {C : Type ℓ} (b : Bool) → (b ≡ true → C) → (b ≡ false → C) → C
either true f g = f refl
either false f g = g refl

-- no test both passes and fails
pub never {ℓ} : {C : Type ℓ} → {b : Bool} → b ≡ true → b ≡ false → C
never p q = absurd (true≢false (sym p ∙ q))

-- a test that cannot fail passes, and one that cannot pass fails
pub passes : (b : Bool) → (b ≡ false → ⊥) → b ≡ true
passes true f = refl
passes false f = absurd (f refl)

pub fails : (b : Bool) → (b ≡ true → ⊥) → b ≡ false
fails true f = absurd (f refl)
fails false f = refl

-- two tests that imply each other are equal
pub same_outcome : (a b : Bool) → (a ≡ true → b ≡ true) → (b ≡ true → a ≡ true) → a ≡ b
same_outcome true b f g = sym (f refl)
same_outcome false true f g = g refl
same_outcome false false f g = refl

pub and_left : (a b : Bool) → (a && b) ≡ true → a ≡ true
and_left true b h = refl
and_left false b h = h

pub and_right : (a b : Bool) → (a && b) ≡ true → b ≡ true
and_right true b h = h
and_right false b h = never {b = true} refl (sym h)

pub and_both : {a b : Bool} → a ≡ true → b ≡ true → (a && b) ≡ true
and_both p q = rw (p, q)

pub or_cases : (a b : Bool) → (a || b) ≡ true → (a ≡ true) ⊎ (b ≡ true)
or_cases true b h = inl refl
or_cases false b h = inr h

pub or_left : {a : Bool} (b : Bool) → a ≡ true → (a || b) ≡ true
or_left b p = rw p

pub or_right : (a : Bool) {b : Bool} → b ≡ true → (a || b) ≡ true
or_right true q = refl
or_right false q = q

pub or_fails_left : (a b : Bool) → (a || b) ≡ false → a ≡ false
or_fails_left true b h = h
or_fails_left false b h = refl

pub or_fails_right : (a b : Bool) → (a || b) ≡ false → b ≡ false
or_fails_right true b h = never {b = true} refl h
or_fails_right false b h = h

-- same
pub same_true : (a b : List ℕ) → same a b ≡ true → a ≡ b
unfolding same
same_true [] [] h = refl
same_true [] (y ∷ b) h = never {b = true} refl (sym h)
same_true (x ∷ a) [] h = never {b = true} refl (sym h)
same_true (x ∷ a) (y ∷ b) h =
    let head : x ≡ y = eqb-true x y (and_left (eqb x y) (same a b) h) in
    let tail : a ≡ b = same_true a b (and_right (eqb x y) (same a b) h) in
    cc

-- strings of two lengths never are
pub same_unlike : (a b : List ℕ) → (length a ≡ length b → ⊥) → same a b ≡ false
same_unlike a b h = fails (same a b) (λ t. h (ap length (same_true a b t)))

pub same_refl : (a : List ℕ) → same a a ≡ true
unfolding same
same_refl [] = refl
same_refl (x ∷ a) = and_both (eq-eqb x x refl) (same_refl a)

pub eq-same : (a b : List ℕ) → a ≡ b → same a b ≡ true
eq-same a b e = rw (← e) (same_refl a)

pub same_sym : (a b : List ℕ) → same a b ≡ same b a
same_sym a b =
    same_outcome (same a b) (same b a)
    (λ h. eq-same b a (sym (same_true a b h)))
    (λ h. eq-same a b (sym (same_true b a h)))

-- begins: the rest is the witness
pub begins_true : (p s : List ℕ) → begins p s ≡ true → (r : List ℕ) × (s ≡ p ++ r)
unfolding begins
begins_true [] s h = (s, refl)
begins_true (x ∷ p) [] h = never {b = true} refl (sym h)
begins_true (x ∷ p) (y ∷ s) h =
    let below : (r : List ℕ) × (s ≡ p ++ r) = begins_true p s (and_right (eqb x y) (begins p s) h) in
    let head : x ≡ y = eqb-true x y (and_left (eqb x y) (begins p s) h) in
    let rest : s ≡ p ++ below.0 = below.1 in
    (below.0, cc)

pub begins-append : (p r : List ℕ) → begins p (p ++ r) ≡ true
unfolding begins
begins-append [] r = refl
begins-append (x ∷ p) r = and_both (eq-eqb x x refl) (begins-append p r)

pub begins_by : (p s r : List ℕ) → s ≡ p ++ r → begins p s ≡ true
begins_by p s r e = rw e (begins-append p r)

pub begins_refl : (p : List ℕ) → begins p p ≡ true
begins_refl p = begins_by p p [] (sym (append-nil p))

-- any: a member that passes is the witness
pub any_true {ℓ} : {A : Type ℓ} (p : A → Bool) (l : List A) → any p l ≡ true → (a : A) × Memᴰ a l × (p a ≡ true)
unfolding any
any_true p [] h = never {b = true} refl (sym h)
any_true {A = A} p (a ∷ l) h = go (or_cases (p a) (any p l) h) (any_true p l)
  where
    go : (p a ≡ true) ⊎ (any p l ≡ true)
        → (any p l ≡ true → (b : A) × Memᴰ b l × (p b ≡ true))
        → (b : A) × Memᴰ b (a ∷ l) × (p b ≡ true)
    go (inl q) below = (a, Memᴰ.head refl, q)
    go (inr q) below = let w = below q in (w.0, Memᴰ.tail w.1, w.2)

pub any_mem {ℓ} : {A : Type ℓ} (p : A → Bool) {a : A} {l : List A} → Memᴰ a l → p a ≡ true → any p l ≡ true
unfolding any
any_mem p {a} (Memᴰ.head {x = x} {xs = xs} e) q = or_left (any p xs) (sym (ap p e) ∙ q)
any_mem p (Memᴰ.tail {x = x} m) q = or_right (p x) (any_mem p m q)

-- each is the library's word for what its slices and iterators answer
pub same_listed : (a b : List ℕ) → same a b ≡ pointwise eqb a b
unfolding same
same_listed [] [] = refl
same_listed [] (y ∷ b) = refl
same_listed (x ∷ a) [] = refl
same_listed (x ∷ a) (y ∷ b) = ap (λ t. eqb x y && t) (same_listed a b)

pub any_listed : {A : Type 0} (p : A → Bool) (l : List A) → any p l ≡ list_any p l
unfolding any
any_listed p [] = refl
any_listed p (a ∷ l) = ap (λ b. p a || b) (any_listed p l)

pub any_append {ℓ} : {A : Type ℓ} (p : A → Bool) (a b : List A) → any p (a ++ b) ≡ (any p a || any p b)
unfolding any
any_append p [] b = refl
any_append p (x ∷ a) b = rw (any_append p a b) (sym (or_assoc (p x) (any p a) (any p b)))

-- two ways to cut one string: one of the cuts stands within the other
pub data Cut {ℓ} {A : Type ℓ} (a b c d : List A) : Type ℓ where
  within : (m : List A) → a ++ m ≡ c → b ≡ m ++ d → Cut a b c d
  beyond : (m : List A) → a ≡ c ++ m → m ++ b ≡ d → Cut a b c d

pub cuts {ℓ} : {A : Type ℓ} (a b c d : List A) → a ++ b ≡ c ++ d → Cut a b c d
cuts [] b c d e = within c refl e
cuts (x ∷ a) b [] d e = beyond (x ∷ a) refl e
cuts {A = A} (x ∷ a) b (y ∷ c) d e =
    let heads : x ≡ y = cc in
    let tails : a ++ b ≡ c ++ d = cc in
    go heads (cuts a b c d tails)
  where
    go : x ≡ y → Cut a b c d → Cut (x ∷ a) b (y ∷ c) d
    go h (within m p q) = let full : ◌≡◌ {A = List A} (x ∷ (a ++ m)) (y ∷ c) = cc in within m full q
    go h (beyond m p q) = let full : ◌≡◌ {A = List A} (x ∷ a) (y ∷ (c ++ m)) = cc in beyond m full q

-- suffixes: those that stand behind some front
pub suffixes-append : (r s : List ℕ) → Memᴰ s (suffixes (r ++ s))
unfolding suffixes
suffixes-append [] [] = Memᴰ.head refl
suffixes-append [] (x ∷ s) = Memᴰ.head refl
suffixes-append (x ∷ r) s = Memᴰ.tail (suffixes-append r s)

pub suffixes_mem : (s e : List ℕ) → Memᴰ e (suffixes s) → (r : List ℕ) × (s ≡ r ++ e)
unfolding suffixes
suffixes_mem [] e m = ([], sym (Memᴰ.eq_of_singleton m))
suffixes_mem (x ∷ s) e m = go (Memᴰ.cases_cons m) (suffixes_mem s e)
  where
    go : (e ≡ x ∷ s) ⊎ Memᴰ e (suffixes s) → (Memᴰ e (suffixes s) → (r : List ℕ) × (s ≡ r ++ e)) → (r : List ℕ) × (x ∷ s ≡ r ++ e)
    go (inl q) below = ([], sym q)
    go (inr q) below = let w = below q in (x ∷ w.0, ap (λ (l : List ℕ). x ∷ l) w.1)

-- ends: the front is the witness
pub ends_true : (e s : List ℕ) → ends e s ≡ true → (r : List ℕ) × (s ≡ r ++ e)
unfolding ends
ends_true e s h =
    let w = any_true (same e) (suffixes s) h in
    let v = suffixes_mem s w.0 w.1 in
    let at : e ≡ w.0 = same_true e w.0 w.2 in
    (v.0, v.1 ∙ ap (λ (l : List ℕ). v.0 ++ l) (sym at))

pub ends-append : (r e : List ℕ) → ends e (r ++ e) ≡ true
unfolding ends
ends-append r e = any_mem (same e) (suffixes-append r e) (same_refl e)

pub ends_by : (e s r : List ℕ) → s ≡ r ++ e → ends e s ≡ true
ends_by e s r q = rw q (ends-append r e)

-- keep: the members that pass
pub keep_mem {ℓ} : {A : Type ℓ} (p : A → Bool) {a : A} (l : List A) → Memᴰ a (keep p l) → Memᴰ a l × (p a ≡ true)
unfolding keep
keep_mem p [] m = absurd (Memᴰ.not-nil m)
keep_mem {A = A} p {a} (x ∷ l) m = go (p x) refl m (keep_mem p l)
  where
    here : p x ≡ true → (a ≡ x) ⊎ Memᴰ a (keep p l) → (Memᴰ a (keep p l) → Memᴰ a l × (p a ≡ true)) → Memᴰ a (x ∷ l) × (p a ≡ true)
    here q (inl e) below = (Memᴰ.head e, ap p e ∙ q)
    here q (inr m') below = let w = below m' in (Memᴰ.tail w.0, w.1)

    go : (t : Bool)
        → p x ≡ t
        → Memᴰ a (cond t (x ∷ keep p l) (keep p l))
        → (Memᴰ a (keep p l) → Memᴰ a l × (p a ≡ true))
        → Memᴰ a (x ∷ l) × (p a ≡ true)
    go true q m' below = here q (Memᴰ.cases_cons m') below
    go false q m' below = let w = below m' in (Memᴰ.tail w.0, w.1)

pub mem-keep {ℓ} : {A : Type ℓ} (p : A → Bool) {a : A} {l : List A} → Memᴰ a l → p a ≡ true → Memᴰ a (keep p l)
unfolding keep
mem-keep {A = A} p {a} (Memᴰ.head {x = x} {xs = xs} e) q =
    let here : p x ≡ true = ap p (sym e) ∙ q in
    rw here (Memᴰ.head e)
mem-keep {A = A} p {a} (Memᴰ.tail {x = x} {xs = xs} m) q = go (p x) (mem-keep p m q)
  where
    go : (t : Bool) → Memᴰ a (keep p xs) → Memᴰ a (cond t (x ∷ keep p xs) (keep p xs))
    go true m' = Memᴰ.tail m'
    go false m' = m'
