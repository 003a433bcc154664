-- Where a search ends, how far `start` and `run` reach, and when the part that is found is empty. Assumes nothing.
use Rattle.std.proofs.Common.{Option, Some, None, unwrap_or}
use Rattle.std.specs.Option.{MatchOption}
use Rattle.std.specs.List.{prefix_len}
use Rattle.std.proofs.lemmas.List.{get_or-drop}
use Rattle.std.proofs.lemmas.List.Sums.{prefix_len_is, prefix_len_stops, prefix_len-le-length, prefix_len-drop_all, prefix_len-drop_yes}
use mathlib.Core.Bool.{Bool, true, false, not}
use mathlib.Core.List.{List}
use mathlib.Core.Path.{◌≡◌, sym, ap, ap₂, ◌∙◌}
use Prim.Native.Nat.{ℕ, ◌+◌, ◌-◌, ◌*◌, ◌≤◌, ◌<◌}
use native.Mathlib.Nat.{zero-add, lt_of_not-le, le_of_suc-le-suc}
use native.Mathlib.Omega.{arith}
use borrow.Author.Tests.{not-false, eqb-true, eqb-false, lt-ltb, le-ltb}
use lib.Dec.{eqb}
use lib.ListN.{length, get_or, take, drop, length-drop}
use lib.Seq.{length-take-le}
use Rattle.sets.specs.Bits.{size}
use Rattle.sets.specs.Lists.{words, sets_in, words_of}
use Rattle.sets.proofs.Lists.{sets-room, sets-drop, words_are, words-between, words-none, words-some}
use Rattle.lookup.specs.Lookup.{start, run, some?, Lent, sets, part, found, of_size}

-- ---- where a search ends that goes on from set `from` while the sets pass: at the first that does not, or at the end

pub ends_at : (p : ℕ → Bool) (l : List ℕ) (from : ℕ) {n : ℕ} (r : Option ℕ) → n ≡ length l → from ≤ n
    → MatchOption r ((k : ℕ) → from ≤ k → k < n → p (get_or l k 0) ≡ true)
    (λ i. (from ≤ i) × (i < n) × (p (get_or l i 0) ≡ false) × ((k : ℕ) → from ≤ k → k < i → p (get_or l k 0) ≡ true))
    → unwrap_or r n ≡ from + prefix_len p (drop from l)
ends_at p l from {n} None all few passes =
    omega (
      arith,
      prefix_len_is p (drop from l) (n - from) 0 (omega (arith, length-drop from l))
          (λ k h. rw (get_or-drop from l k 0) (passes (from + k) (omega arith) (omega arith)))
          (λ h. absurd (omega (arith, length-drop from l))),
    )
ends_at p l from (Some i) all few found =
    let (low, within, stops, passes) = found in
    let at : from + (i - from) ≡ i = omega arith in
    omega (
      arith,
      prefix_len_is p (drop from l) (i - from) 0 (omega (arith, length-drop from l))
          (λ k h. rw (get_or-drop from l k 0) (passes (from + k) (omega arith) (omega arith)))
          (λ h. rw (get_or-drop from l (i - from) 0, at) stops),
    )

-- ---- how far they reach

module _ (n : ℕ) (l : List ℕ) where
  -- the first set with n bonds stands at the end at most
  pub start-le : start n l ≤ length l
  unfolding start
  start-le = prefix_len-le-length _ l

  -- the run is no longer than the list
  run-le : run n l ≤ length l
  unfolding run
  run-le = prefix_len-le-length _ l

  -- where a set has n bonds the run from the first such set is not empty
  run-found : start n l < length l → 0 < run n (drop (start n l) l)
  unfolding start run
  run-found h =
      let here : eqb (size (get_or l (start n l) 0)) n ≡ true = not-false _ (prefix_len_stops (λ s. not (eqb (size s) n)) l 0 h) in
      omega (arith, prefix_len-drop_yes (λ s. eqb (size s) n) l (start n l) 0 h here)

  -- and where none has, there is none
  run-none : length l ≤ start n l → run n (drop (start n l) l) ≡ 0
  unfolding run
  run-none h = prefix_len-drop_all _ l (start n l) h

-- ---- the part that is found, where the search ends at a and the run at e

-- the part of a lent list that begins `from` words behind its start and is `count` words long
abbrev pub stretch : Lent → ℕ → ℕ → Lent
stretch l from count = record { place = (l.place.0, from * 8 + l.place.1); words = take count (drop from l.words) }

-- it ends within the list
pub found-room : (n : ℕ) (ws : List ℕ) {a e : ℕ} → a ≡ start n (sets_in ws) → e ≡ a + run n (drop a (sets_in ws)) → e * words ≤ length ws
found-room n ws {a} {e} at-start at-end =
    let l = sets_in ws in
    omega (arith, words_are e, sets-room e ws (omega (arith, start-le n l, run-le n (drop a l), length-drop a l)))

-- it is the part from a to e
pub part-found : (n : ℕ) (l : Lent) {a e : ℕ} → a ≡ start n (sets l) → e ≡ a + run n (drop a (sets l))
    → stretch l (a * words) (e * words - a * words) ≡ found n l
part-found n l {a} {e} at-start at-end =
    let count : e - a ≡ run n (drop a (sets l)) = omega arith in
    ap₂ (stretch l) (sym (words_are a)) (ap₂ ◌-◌ (sym (words_are e)) (sym (words_are a)) ∙ words-between a e ∙ ap words_of count) ∙ ap (λ (k : ℕ). part l k (run n (drop k (sets l)))) at-start

module _ (n : ℕ) (l : Lent) {q : Lent} (is : q ≡ found n l) where
  -- it has the words of as many sets as the run
  found-length : length q.words ≡ words_of (run n (drop (start n (sets l)) (sets l)))
  found-length =
      let a = start n (sets l) in
      let rest = sets-drop a l.words (start-le n (sets l)) in
      let few : run n (drop a (sets l)) ≤ length (sets_in (drop (words_of a) l.words)) = rw rest (run-le n (drop a (sets l))) in
      ap (λ (p : Lent). length p.words) is ∙ length-take-le _ _ (sets-room _ _ few)

  -- where it is not empty a set of the list has n bonds
  pub found_some : false ≡ eqb (length q.words) 0 → some? n (sets l) ≡ true
  found_some h =
      lt-ltb _ _ (lt_of_not-le (λ (past : length (sets l) ≤ start n (sets l)).
      absurd (eqb-false (length q.words) 0 (sym h) (omega (arith, found-length, ap words_of (run-none n (sets l) past), words-none)))))

  -- where it is empty none has
  pub found_none : true ≡ eqb (length q.words) 0 → some? n (sets l) ≡ false
  found_none h =
      le-ltb _ _ (le_of_suc-le-suc (lt_of_not-le (λ (inside : start n (sets l) < length (sets l)).
      absurd (omega (arith, eqb-true (length q.words) 0 (sym h), found-length, words-some _ (run-found n (sets l) inside))))))

-- ---- which list's part is handed back, where q is found in the first and r in the second

module _ (n : ℕ) (first second : Lent) {q : Lent} (in-first : q ≡ found n first) where
  -- what is found in the first, where it is not empty
  pub of_first : false ≡ eqb (length q.words) 0 → q ≡ of_size n first second
  unfolding of_size
  of_first some = rw (found_some n first in-first some) in-first

  module _ (none : true ≡ eqb (length q.words) 0) {r : Lent} (in-second : r ≡ found n second) where
    -- else what is found in the second, where it is not empty
    pub of_second : false ≡ eqb (length r.words) 0 → r ≡ of_size n first second
    unfolding of_size
    of_second some = rw (found_none n first in-first none, found_some n second in-second some) in-second

    -- else no words, at the place where the first list begins
    pub of_neither : true ≡ eqb (length r.words) 0 → record { place = first.place; words = take 0 first.words } ≡ of_size n first second
    unfolding of_size
    of_neither none-either =
        rw (found_none n first in-first none, found_none n second in-second none-either)
        (ap (λ (at : ℕ). record { place = (first.place.0, at); words = take 0 first.words }) (sym (zero-add first.place.1)) ∙ ap (λ (k : ℕ). stretch first k k) (sym words-none))
