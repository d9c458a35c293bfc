-- The hits at an end are listed along the dictionary rows: what is listed and what still ends the row's string are
-- always all the hits, and each row's string is shorter than the one before.
use Prim.Native.Nat.{ℕ, suc, ◌+◌, ◌-◌, ◌*◌, ◌≤◌, ◌<◌}
use native.Mathlib.Omega.{arith}
use native.Mathlib.Numerals.{add-one}
use mathlib.Core.Path.{◌≡◌, refl, sym, ◌∙◌, ap}
use mathlib.Core.Logic.{◌⊎◌, inl, inr, ⊎_elim}
use mathlib.Core.Bool.{true}
use mathlib.Core.List.Memᴰ
use mathlib.Core.List.{List, [], ◌∷◌, ◌++◌, append_assoc, append-nil, Memᴰ}
use lib.ListN.{length, take, get_or, length-append}
use Rattle.std.specs.Prelude.{Some, None}
use Rattle.std.proofs.lemmas.List.{take_more, length-take-le}
use Rattle.rules.specs.sets.Limits.{row_cells}
use Rattle.rules.specs.strings.Strings.{same, any, longest_behind}
use Rattle.rules.specs.sets.Sets.{Keyword, is_keyword}
use Rattle.rules.specs.rows.Rows.{forward, read_by, row_of, key_of, dictionary_cell}
use Rattle.rules.specs.scans.Hits.{Hit, ending_at, hits_at, hits}
use Rattle.rules.proofs.rows.Rows.{rowed_rows, row_of_is, row_of-nil, root_row, keyword_row}
use Rattle.rules.proofs.scans.State.{behind_or, behind-length}
use Rattle.rules.proofs.scans.Dictionary.{is_keyword_true, ending_state, ending-nil, ending_behind}
use Rattle.rules.proofs.rows.KeyNumbers.{KeyAt, key_at, key_none, numbered_is}
use Rattle.rules.proofs.scans.Hits.{hits_snoc, hits_few, hits_occur, energy_most}
use Rattle.rules.specs.Beside.{Sound, numbered}
use Rattle.words.specs.Items.{keywords_in}
use Rattle.rows.specs.Tree.{own}
use Rattle.rows.specs.Laid.{Laid}
use Rattle.rows.proofs.Links.{owned, unowned}
use Rattle.hits.specs.declared.Tally.{Tally}
use Rattle.hits.specs.Tallies.{Tallied, Hitting, hit_of}
use Rattle.forward.specs.Progress.{AllFound, Course, Ending, Listing, string_at, dictionary_in, ending_in}
use Rattle.forward.proofs.States.{rows_for, state_within, state_reads}

-- a row's own keyword number plus one
abbrev pub key_in : List ℕ → ℕ → ℕ
key_in ws at = get_or ws (row_cells * at + 4) 0

filled_or : (s : List ℕ) → (1 ≤ length s) ⊎ (s ≡ [])
filled_or [] = inr refl
filled_or (x ∷ s) = inl (omega arith)

module _ {ks : List Keyword} {ws : List ℕ} (sound : Sound ks) (laid : Laid forward ks ws) (at : ℕ)
    (q : at < length (rows_for ks)) where
  -- the dictionary row's string: a keyword or the empty string
  behind : List ℕ
  behind = longest_behind (is_keyword ks) (string_at ks at)

  behind_row : any (same behind) (rows_for ks) ≡ true
  unfolding read_by behind
  behind_row =
      ⊎_elim
      (λ t.
      let w = is_keyword_true ks behind t in
      rw w.2 at (keyword_row forward ks w.0 w.1))
      (λ e. rw e (root_row (rowed_rows forward ks)))
      (behind_or (is_keyword ks) (string_at ks at))

  dictionary_is : dictionary_in ws at ≡ row_of (rows_for ks) behind
  unfolding dictionary_cell behind
  dictionary_is = laid.dictionaries at q

  dictionary_within : dictionary_in ws at < length (rows_for ks)
  dictionary_within = rw dictionary_is (row_of_is (rows_for ks) behind behind_row).0

  dictionary_reads : string_at ks (dictionary_in ws at) ≡ longest_behind (is_keyword ks) (string_at ks at)
  unfolding behind
  dictionary_reads = rw dictionary_is (row_of_is (rows_for ks) behind behind_row).1

  -- it is shorter, or the empty string's
  pub dictionary_shorter : (dictionary_in ws at ≡ 0 → ⊥)
      → length (string_at ks (dictionary_in ws at)) < length (string_at ks at)
  unfolding behind longest_behind
  dictionary_shorter some =
      let filled : 1 ≤ length (string_at ks at) =
      ⊎_elim
      (λ h. h)
      (λ (e : string_at ks at ≡ []). absurd (some (dictionary_is ∙ rw e (row_of-nil (rowed_rows forward ks)))))
      (filled_or (string_at ks at)) in
      rw dictionary_reads (behind-length (is_keyword ks) (string_at ks at) filled)

  -- what ends the row's string: its own keyword where it is one, then what ends the dictionary row's
  ending_none : (e : ℕ) → own (key_in ws at) ≡ None → ending_in ks e at ≡ ending_in ks e (dictionary_in ws at)
  unfolding read_by
  ending_none e z =
      let key : key_of forward ks (string_at ks at) ≡ 0 = sym (laid.keys at q) ∙ unowned (key_in ws at) z in
      rw (ending_behind ks sound.filled (string_at ks at), key_none forward ks (string_at ks at) key, ← dictionary_reads)

  ending_own : (e : ℕ) (k : Keyword)
      → KeyAt forward ks (string_at ks at) k
      → ending_in ks e at ≡ record { end = e; keyword = k } ∷ ending_in ks e (dictionary_in ws at)
  unfolding read_by
  ending_own e k w =
      rw (ending_behind ks sound.filled (string_at ks at), w.alone, ← dictionary_reads)

-- before the first
module _ {ks : List Keyword} {course : Course} {hs : List ℕ} {row end : ℕ} {tally : Tally} (sound : Sound ks)
    (ending : Ending ks course row end tally hs) where
  all-hits : hits ks (take (end - 1) course.whole) ++ ending_in ks end row ≡ hits ks (take end course.whole)
  unfolding hits_at
  all-hits =
      let v : List ℕ = take end course.whole in
      let last : end - 1 < length course.whole = omega (arith, ending.some, ending.within) in
      let e : end - 1 + 1 ≡ end = omega (arith, ending.some) in
      let read : v ≡ take (end - 1) course.whole ++ (get_or course.whole (end - 1) 0 ∷ []) =
      rw e at (take_more course.whole (end - 1) 0 last) in
      let snoc : hits ks v ≡ hits ks (take (end - 1) course.whole) ++ hits_at ks v =
      rw read (hits_snoc ks (take (end - 1) course.whole) (get_or course.whole (end - 1) 0)) in
      let long : length v ≡ end = length-take-le end course.whole ending.within in
      let same : hits_at ks v ≡ ending_in ks end row =
      rw (long, state_reads sound v row ending.state, ← (ending_state ks v)) in
      ap (λ (left : List Hit). hits ks (take (end - 1) course.whole) ++ left) (sym same) ∙ sym snoc

  pub listing_none : Listing ks course row end tally hs
  listing_none =
      record {
        near = ending.near;
        before = ending.within;
        within = state_within sound (take end course.whole) row ending.state;
        done = hits ks (take (end - 1) course.whole);
        tallied = ending.found;
        joined = all-hits;
      }

-- a row of the chain: its own keyword, where it is one, is one hit more, and the dictionary row is next
module _ (l : List ℕ) {course : Course} {ws hs : List ℕ} {at end : ℕ} {tally : Tally} (sound : Sound (keywords_in l))
    (laid : Laid forward (keywords_in l) ws) (listing : Listing (keywords_in l) course at end tally hs) where
  pub listing_passed : own (key_in ws at) ≡ None → Listing (keywords_in l) course (dictionary_in ws at) end tally hs
  listing_passed none =
      record {
        near = listing.near;
        before = listing.before;
        within = dictionary_within sound laid at listing.within;
        done = listing.done;
        tallied = listing.tallied;
        joined = rw (← (ending_none sound laid at listing.within end none)) listing.joined;
      }

  -- the keyword's number as the code has it
  module _ {n : ℕ} (some : own (key_in ws at) ≡ Some n) where
    key : key_of forward (keywords_in l) (string_at (keywords_in l) at) ≡ suc n
    key = sym (laid.keys at listing.within) ∙ owned (key_in ws at) _ some ∙ add-one _

    here : (k : Keyword) × KeyAt forward (keywords_in l) (string_at (keywords_in l) at) k
    here = key_at forward (string_at (keywords_in l) at) sound (λ z. omega (arith, key, z))

    named : here.0.number ≡ n
    named = omega (arith, here.1.number, key)

    pub listing_hit : Hitting l end n listing.done course.old tally hs
    listing_hit =
        let left : List Hit = ending_in (keywords_in l) end at in
        let v : List ℕ = take end course.whole in
        let long : length v ≡ end = length-take-le end course.whole listing.before in
        record {
          named = (here.0, here.1.listed, named);
          near = omega (arith, listing.near, listing.before);
          few =
              omega (
                arith,
                ap length listing.joined,
                length-append listing.done left,
                hits_few sound v,
                long,
                listing.near,
                listing.before,
              );
          little =
              energy_most listing.done
              (λ h m.
              let found : Memᴰ h (hits (keywords_in l) v) = rw listing.joined at (Memᴰ.append_left left m) in
              sound.figures h.keyword (hits_occur (keywords_in l) v h found).listed);
          tallied = listing.tallied;
        }

    hit_is : hit_of (keywords_in l) end n ≡ record { end = end; keyword = here.0 }
    unfolding hit_of
    hit_is =
        let at_end : Keyword → Hit = λ k. record { end = end; keyword = k } in
        ap at_end (ap (numbered (keywords_in l)) (sym named) ∙ numbered_is sound.numbered here.1.listed)

    pub listing_more : {next : Tally} {hs' : List ℕ}
        → Tallied (listing.done ++ (hit_of (keywords_in l) end n ∷ [])) course.old next hs'
        → Listing (keywords_in l) course (dictionary_in ws at) end next hs'
    listing_more tallied =
        let h : Hit = hit_of (keywords_in l) end n in
        let rest : List Hit = ending_in (keywords_in l) end (dictionary_in ws at) in
        let first : ending_in (keywords_in l) end at ≡ h ∷ rest =
        rw hit_is (ending_own sound laid at listing.within end here.0 here.1) in
        record {
          near = listing.near;
          before = listing.before;
          within = dictionary_within sound laid at listing.within;
          done = listing.done ++ (h ∷ []);
          tallied = tallied;
          joined =
              append_assoc listing.done (h ∷ []) rest
              ∙ ap (λ (left : List Hit). listing.done ++ left) (sym first)
              ∙ listing.joined;
        }

-- row 0 is the empty string, which no keyword ends: all are listed
pub listing_all : {ks : List Keyword} {course : Course} {hs : List ℕ} {end : ℕ} {tally : Tally}
    → Sound ks
    → Listing ks course 0 end tally hs
    → AllFound ks (take end course.whole) course.old tally hs
listing_all {ks} {course} {end = end} sound listing =
    let none : ending_at ks (string_at ks 0) ≡ [] =
    rw (rowed_rows forward ks).first (ending-nil ks sound.filled) in
    let all : listing.done ≡ hits ks (take end course.whole) =
    sym (append-nil listing.done) ∙ (rw none at listing.joined) in
    rw all at listing.tallied
