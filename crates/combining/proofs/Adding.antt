-- The sums of a group are gone through one by one, and those that pass the test follow the rings found. Assumes nothing.
use mathlib.Core.Path.{◌≡◌, sym, ap, ap₂, ◌∙◌}
use mathlib.Core.Bool.{Bool, true, false}
use mathlib.Core.List.{List, [], ◌∷◌, ◌++◌}
use Prim.Native.Nat.{ℕ, ◌+◌, ◌-◌, ◌*◌, ◌<◌, ◌≤◌}
use native.Mathlib.Numerals.{add-one}
use native.Mathlib.Omega.{arith}
use lib.ListN.{length, take, drop, get_or, set, length-append, length-drop, take-append-drop}
use lib.Seq.{take-suc, take-length, length-take-le, drop-drop}
use Rattle.std.proofs.lemmas.List.{drop-take}
use Rattle.sets.specs.Lists.{sets_in, words, words_of}
use Rattle.sets.proofs.Lists.{sets-append, sets-drop, sets-length, sets-take, words_are, words-between}
use Rattle.definitions.proofs.Lists.{keep-nil, keep-take, keep_skip, keep_append}
use Rattle.lent.specs.Appended.{between, Room, Appended}
use Rattle.lent.proofs.Appending.{appended_none, appended_byte, appended_as, appended_more, appended_length}
use Rattle.combining.specs.Gibbs.{clear?, rings_among}

-- where there is room for all, there is room for those that follow the first of them
pub appended_room : {new start : List ℕ} {n : ℕ} {mid : List ℕ} {m : ℕ} (more all : List ℕ) → Appended start n new mid m → Room all start n
    → length new + length more ≤ length all → Room more mid m
appended_room more all a o h = omega (arith, a.end, appended_length (omega arith) a (omega (arith, a.end)))

-- the sets of the part of a list that code lends from one place up to another
pub sets_between : (from to : ℕ) (ws : List ℕ) → from ≤ to → to ≤ length (sets_in ws)
    → sets_in (take (to * words - from * words) (drop (from * words) ws)) ≡ between from to (sets_in ws)
sets_between from to ws h few =
    ap₂ (λ m k. sets_in (take m (drop k ws))) (ap₂ ◌-◌ (sym (words_are to)) (sym (words_are from)) ∙ words-between from to) (sym (words_are from))
    ∙ sets-take (to - from) (drop (words_of from) ws) (rw rest (omega (arith, length-drop from (sets_in ws))))
    ∙ ap (take (to - from)) rest
    ∙ sym (drop-take from (to - from) (sets_in ws))
    ∙ ap (λ k. drop from (take k (sets_in ws))) (let e : from + (to - from) ≡ to = omega arith in e)
  where
    rest : sets_in (drop (words_of from) ws) ≡ drop from (sets_in ws)
    rest = sets-drop from ws (omega arith)

-- ---- the loop over a group: those of its first j sums that are rings are put from the start of a list on

-- a sum is a ring where none of the rings olds lies inside it
pub record Adding (olds sums start found : List ℕ) (n j : ℕ) : Type 0 where
  pub lent : Room (rings_among olds sums) start 0
  pub appended : Appended start 0 (rings_among olds (take j sums)) found n

-- before the first sum
pub adding_none : (olds sums start : List ℕ) → Room (rings_among olds sums) start 0 → Adding olds sums start start 0 0
adding_none olds sums start o = record { lent = o; appended = appended_as (sym (keep-nil (clear? olds))) (appended_none start 0) }

module _ {olds sums start found : List ℕ} {n j : ℕ} (a : Adding olds sums start found n j) (h : j < length sums) {w : ℕ} {b : Bool}
    (is : w ≡ get_or sums j 0) (test : b ≡ clear? olds w) where
  -- one sum more
  next : rings_among olds (take j sums) ++ rings_among olds (w ∷ []) ≡ rings_among olds (take (j + 1) sums)
  next =
      sym (keep_append (clear? olds) (take j sums) (w ∷ []))
      ∙ ap (rings_among olds) (rw (add-one, is) (sym (take-suc sums j 0 h)))

  -- with what follows it
  more : {end : List ℕ} {r : ℕ} → Appended found n (rings_among olds (w ∷ [])) end r → Adding olds sums start end r (j + 1)
  more t = record { lent = a.lent; appended = appended_as next (appended_more (omega arith) a.appended t) }

  -- where it passes the test it is kept
  kept : b ≡ true → rings_among olds (w ∷ []) ≡ w ∷ []
  kept e = keep-take (clear? olds) w [] (sym test ∙ e) ∙ ap (λ l. w ∷ l) (keep-nil (clear? olds))

  -- so there is room for it
  pub adding_room : b ≡ true → n < length found
  adding_room e =
      let left = appended_room (rings_among olds (w ∷ [])) (rings_among olds sums) a.appended a.lent
      (omega (
        arith,
        ap length next,
        length-append (rings_among olds (take j sums)) (rings_among olds (w ∷ [])),
        ap (λ l. length (rings_among olds l)) (take-append-drop (j + 1) sums),
        ap length (keep_append (clear? olds) (take (j + 1) sums) (drop (j + 1) sums)),
        length-append (rings_among olds (take (j + 1) sums)) (rings_among olds (drop (j + 1) sums)),
      )) in
      omega (arith, left, ap length (kept e))

  -- and it follows
  pub adding_taken : {end : List ℕ} → b ≡ true → end ≡ set found n w → Adding olds sums start end (n + 1) (j + 1)
  adding_taken e put = rw put (more (appended_as (sym (kept e)) (appended_byte found n w (adding_room e))))

  -- where it does not pass nothing follows
  pub adding_left : b ≡ false → Adding olds sums start found n (j + 1)
  adding_left e = more (appended_as (sym (keep_skip (clear? olds) w [] (sym test ∙ e) ∙ keep-nil (clear? olds))) (appended_none found n))

-- ---- the list of the rings found in two parts: the first r, and what is behind them

module _ (r : ℕ) (ws : List ℕ) (few : r ≤ length (sets_in ws)) {front back : List ℕ} (is_front : front ≡ take (r * words) ws) (is_back : back ≡ drop (r * words) ws) where
  sets_front : sets_in front ≡ take r (sets_in ws)
  sets_front = rw (is_front, ← (words_are r)) (sets-take r ws few)

  sets_back : sets_in back ≡ drop r (sets_in ws)
  sets_back = rw (is_back, ← (words_are r)) (sets-drop r ws few)

  long_front : length front ≡ r * words
  long_front = rw is_front (length-take-le (r * words) ws (omega (arith, few, sets-length ws)))

  -- the first of them from one place on
  pub sets_found : (n : ℕ) → n ≤ r → sets_in (take (length front - n * words) (drop (n * words) front)) ≡ between n r (sets_in ws)
  sets_found n h =
      ap sets_in (ap (λ k. take k (drop (n * words) front)) (sym (length-drop (n * words) front)) ∙ take-length (drop (n * words) front))
      ∙ ap (λ k. sets_in (drop k front)) (sym (words_are n))
      ∙ sets-drop n front (omega (arith, h, ap length sets_front, length-take-le r (sets_in ws) few))
      ∙ ap (drop n) sets_front

  -- there is the same room
  pub room_behind : (new : List ℕ) → Room new (sets_in ws) r → Room new (sets_in back) 0
  room_behind new h = omega (arith, h, ap length sets_back, length-drop r (sets_in ws))

  -- what is put from the start of the second part on follows the first
  pub appended_behind : {new : List ℕ} (end : List ℕ) {k : ℕ} → Appended (sets_in back) 0 new (sets_in end) k → Appended (sets_in ws) r new (sets_in (front ++ end)) (r + k)
  appended_behind {new} end {k} a = record {
    end = omega (arith, a.end);
    list =
        sets-append r front end (long_front ∙ sym (words_are r))
        ∙ ap₂ (λ l m. l ++ m) sets_front (a.list ∙ ap (λ m. new ++ m) (ap (drop k) sets_back ∙ drop-drop k r (sets_in ws)));
  }
