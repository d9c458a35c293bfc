-- The hits of a window are listed from the keyword that it met last to the one that it met first: each turn lists the
-- last of those that are left.
use Prim.Native.Nat.{ℕ, ◌*◌, ◌≤◌}
use native.Mathlib.Omega.{arith}
use mathlib.Core.Path.{◌≡◌, sym, ◌∙◌}
use mathlib.Core.List.{List, [], ◌∷◌, ◌++◌, map, map-append, reverse, reverse-cons, append_assoc, append-nil}
use lib.ListN.{length, length-append, length-map, length-reverse}
use lib.Seq.{get_or-append_seam}
use Rattle.std.specs.declared.iter.Rev.{Rev}
use Rattle.std.specs.Iterator.Adapters.{rev_source}
use Rattle.std.specs.declared.slice.Iter.{Iter}
use Rattle.std.specs.Slice.Iter.{iter_rest}
use Rattle.rules.specs.sets.Limits.{most_energy}
use Rattle.rules.specs.scans.Hits.{Hit, energy}
use Rattle.rules.proofs.scans.Hits.{energy-append}
use Rattle.rules.specs.Beside.{Sound}
use Rattle.words.specs.Items.{keywords_in}
use Rattle.hits.specs.declared.Tally.{Tally}
use Rattle.hits.specs.Tallies.{Tallied, Hitting, hit_of}
use Rattle.hits.proofs.Tallying.{hitting_figure}
use Rattle.backward.specs.Windowed.{Closing, window_of}

-- the numbers that a loop over them from behind has left
abbrev pub left_in : Rev (Iter ℕ) → List ℕ
left_in numbers = iter_rest (rev_source numbers)

-- the numbers `left` are those still to list: the hits of the others are listed behind `done`
pub record Closed (l : List ℕ) (end : ℕ) (met left : List ℕ)
    (done : List Hit) (old : List ℕ) (tally : Tally) (hs : List ℕ) : Type 0 where
  pub listed : List ℕ
  pub joined : met ≡ left ++ listed
  pub little : energy (done ++ window_of (keywords_in l) end listed)
      ≤ most_energy * length (done ++ window_of (keywords_in l) end listed)
  pub tallied : Tallied (done ++ window_of (keywords_in l) end listed) old tally hs

module _ {l : List ℕ} {end : ℕ} {met : List ℕ} {done : List Hit} {old : List ℕ} {tally : Tally} {hs : List ℕ}
    (sound : Sound (keywords_in l)) (closing : Closing l end met done old tally hs) where
  -- none is listed yet
  pub closed_none : Closed l end met met done old tally hs
  unfolding window_of
  closed_none =
      record {
        listed = [];
        joined = sym (append-nil met);
        little = rw append-nil closing.little;
        tallied = rw append-nil closing.tallied;
      }

  module _ {left : List ℕ} {next : Tally} {hs' : List ℕ} (closed : Closed l end met left done old next hs') where
    -- the hits so far
    abbrev pub so_far : List Hit
    so_far = done ++ window_of (keywords_in l) end closed.listed

    -- the number k next, which stands behind the others left
    module _ (left' : List ℕ) (k : ℕ) (last : left ≡ left' ++ (k ∷ [])) where
      parted : met ≡ left' ++ (k ∷ closed.listed)
      parted = closed.joined ∙ rw last (append_assoc left' (k ∷ []) closed.listed)

      pub closed_hit : Hitting l end k so_far old next hs'
      unfolding window_of
      closed_hit =
          let within = length-append left' (k ∷ closed.listed) in
          record {
            named =
                rw get_or-append_seam
                at ((rw parted at closing.known) (length left') 0 (omega (arith, within)));
            near = closing.near;
            few =
                omega (
                  arith,
                  rw parted at closing.few,
                  within,
                  length-append done (map (hit_of (keywords_in l) end) (reverse closed.listed)),
                  length-map (reverse closed.listed) (hit_of (keywords_in l) end),
                  length-reverse closed.listed,
                );
            little = closed.little;
            tallied = closed.tallied;
          }

      longer : done ++ window_of (keywords_in l) end (k ∷ closed.listed)
          ≡ so_far ++ (hit_of (keywords_in l) end k ∷ [])
      unfolding window_of
      longer =
          let hits_of = map (hit_of (keywords_in l) end) in
          rw (reverse-cons, map-append)
          (sym (append_assoc done (hits_of (reverse closed.listed)) (hits_of (k ∷ []))))

      pub closed_more : {r : Tally} {hs'' : List ℕ}
          → Tallied (so_far ++ (hit_of (keywords_in l) end k ∷ [])) old r hs''
          → Closed l end met left' done old r hs''
      unfolding energy hit_of
      closed_more tallied =
          let h = hit_of (keywords_in l) end k in
          let figure : h.keyword.energy ≤ most_energy = hitting_figure sound closed_hit in
          record {
            listed = k ∷ closed.listed;
            joined = parted;
            little =
                rw longer
                (omega (arith, energy-append so_far (h ∷ []), length-append so_far (h ∷ []), closed.little, figure));
            tallied = rw longer tallied;
          }

  -- none is left
  pub closed_all : {r : Tally} {hs' : List ℕ}
      → Closed l end met [] done old r hs'
      → Tallied (done ++ window_of (keywords_in l) end met) old r hs'
  closed_all closed = rw (← closed.joined) at closed.tallied
