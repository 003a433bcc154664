-- The basis rings of an assembly in turn: each doubles the sums, and the rings of its group follow those found. Assumes nothing.
use mathlib.Core.Path.{◌≡◌, refl, sym, ap, ap₂, ◌∙◌}
use mathlib.Core.List.{List, [], ◌∷◌, ◌++◌, map, append_assoc, append-nil}
use Prim.Native.Nat.{ℕ, suc, ◌+◌, ◌-◌, ◌*◌, ◌^◌, ◌<◌, ◌≤◌}
use native.Mathlib.Numerals.{add-one}
use native.Mathlib.Nat.{two-pow-succ, add-mul, mul-add}
use native.Mathlib.Omega.{arith}
use lib.ListN.{length, take, drop, get_or, set, take-append-drop, length-append, length-map, length-set}
use lib.Seq.{take-suc-set, drop_at, length-take-le}
use lib.Bits.{bit_xor}
use lib.Pow.{pow_mono, pow_pos}
use lib.Dec.{ltb}
use Rattle.sets.specs.Bits.{has, size}
use Rattle.sets.specs.Ring.{room}
use Rattle.sets.specs.Rising.{rising}
use Rattle.sets.proofs.Size.{size-sub}
use Rattle.sets.proofs.Upward.{Turn}
use Rattle.definitions.specs.Search.{count, set_of, listed, picked}
use Rattle.definitions.proofs.Tests.{and_both}
use Rattle.definitions.proofs.Lists.{listed-take, length-listed, has-set_of, size-set_of, length-keep}
use Rattle.definitions.proofs.Over.{listed_rising, map_more, turn_listed}
use Rattle.cycles.proofs.Sums.{take-listed}
use Rattle.lent.specs.Appended.{between, Room, Appended}
use Rattle.lent.proofs.Appending.{appended_none, appended_as, appended_more}
use Rattle.lent.proofs.Between.{appended_new}
use Rattle.combining.specs.Gibbs.{group, clear?, rings_among, rings_from, combined, Doubled}
use Rattle.combining.proofs.Adding.{appended_room}

-- the sums of some of the basis rings, where the sums of those before them are given
unfoldable pub sums_from : List ℕ → List ℕ → List ℕ
sums_from olds [] = olds
sums_from olds (r ∷ rs) = sums_from (olds ++ group r olds) rs

-- ---- one basis ring more

-- the sums are those before, and those with it
sums_snoc : (olds l : List ℕ) (r : ℕ) → sums_from olds (l ++ r ∷ []) ≡ sums_from olds l ++ group r (sums_from olds l)
unfolding sums_from
sums_snoc olds [] r = refl
sums_snoc olds (x ∷ l) r = sums_snoc (olds ++ group x olds) l r

-- what is found is what was found before, and what is found of the others
rings-append : (olds found l m : List ℕ) → rings_from olds found (l ++ m) ≡ rings_from olds found l ++ rings_from (sums_from olds l) (found ++ rings_from olds found l) m
unfolding sums_from rings_from
rings-append olds found [] m = ap (λ f. rings_from olds f m) (sym (append-nil found))
rings-append olds found (x ∷ l) m =
    let new = rings_among found (group x olds) in
    let sums = olds ++ group x olds in
    let others = rings_from sums (found ++ new) l in
    ap (λ r. new ++ r) (rings-append sums (found ++ new) l m ∙ ap (λ f. others ++ rings_from (sums_from sums l) f m) (append_assoc found new others))
    ∙ sym (append_assoc new others (rings_from (sums_from sums l) (found ++ (new ++ others)) m))

-- of one more it is what its group has
pub rings_snoc : (olds found l : List ℕ) (r : ℕ)
    → rings_from olds found (l ++ r ∷ []) ≡ rings_from olds found l ++ rings_among (found ++ rings_from olds found l) (group r (sums_from olds l))
unfolding rings_from
rings_snoc olds found l r =
    rings-append olds found l (r ∷ [])
    ∙ ap (λ m. rings_from olds found l ++ m) (append-nil (rings_among (found ++ rings_from olds found l) (group r (sums_from olds l))))

-- the first group and the others
rings-cons : (olds found : List ℕ) (r : ℕ) (l : List ℕ)
    → rings_from olds found (r ∷ l) ≡ rings_among found (group r olds) ++ rings_from (olds ++ group r olds) (found ++ rings_among found (group r olds)) l
unfolding rings_from
rings-cons olds found r l = refl

-- each basis ring doubles the sums, so no more are found than there are sums, but for the old sets
rings-few : (olds found l : List ℕ) → length (rings_from olds found l) + length olds ≤ length olds * 2 ^ length l
unfolding rings_from
rings-few olds found [] = omega arith
rings-few olds found (r ∷ l) =
    let new = rings_among found (group r olds) in
    let sums = olds ++ group r olds in
    let doubled : length sums ≡ length olds + length olds = length-append olds (group r olds) ∙ ap (λ k. length olds + k) (length-map olds (bit_xor r)) in
    omega (
      arith,
      ap length (rings-cons olds found r l),
      length-append new (rings_from sums (found ++ new) l),
      length-keep (clear? found) (group r olds),
      length-map olds (bit_xor r),
      doubled,
      rings-few sums (found ++ new) l,
      ap (λ k. k * 2 ^ length l) doubled ∙ add-mul (length olds) (length olds) (2 ^ length l),
      ap (λ k. length olds * k) (two-pow-succ (length l)) ∙ mul-add (length olds) (2 ^ length l) (2 ^ length l),
    )

-- k basis rings have 2 ^ k - 1 sums that are not empty
combined-few : (l : List ℕ) → length (combined l) ≤ 2 ^ length l - 1
combined-few l = omega (arith, rings-few (0 ∷ []) [] l)

-- ---- the basis rings that a set of places has

-- no more places are looked at than a set has
places_few : (s : ℕ) → count room (has s) ≤ size s
places_few s =
    omega (arith, size-set_of room (has s), size-sub (set_of room (has s)) s (λ k e. (and_both (ltb k room) (has s k) (sym (has-set_of room (has s) k) ∙ e)).1))

-- so no more basis rings stand at them
picked-few : (rings : List ℕ) (s : ℕ) → length (picked rings s) ≤ size s
picked-few rings s = omega (arith, length-listed room (has s) (λ i. get_or rings i 0), places_few s)

-- and fewer rings are found of them than they have sums
pub found-few : (rings : List ℕ) (s : ℕ) → length (combined (picked rings s)) < 2 ^ size s
found-few rings s = omega (arith, combined-few (picked rings s), pow_mono (picked-few rings s), pow_pos (size s))

-- ---- the loop: the basis rings at the places taken so far are combined

-- the basis ring at a place
abbrev ring_at : List ℕ → ℕ → ℕ
ring_at rings k = get_or rings k 0

-- their sums are the first half sets of a list, and what is found of them follows the first n of another, which are then the first r
pub record Turned (rings : List ℕ) (s : ℕ) (start : List ℕ) (n : ℕ) (sums : List ℕ) (half : ℕ) (found : List ℕ) (r : ℕ) (xs : List ℕ) : Type 0 where
  pub small : 2 ^ size s ≤ length sums
  pub lent : Room (combined (picked rings s)) start n
  pub power : half ≡ 2 ^ length (map (ring_at rings) xs)
  pub list : take half sums ≡ sums_from (0 ∷ []) (map (ring_at rings) xs)
  pub appended : Appended start n (combined (map (ring_at rings) xs)) found r

-- before the first basis ring the empty set is the only sum
pub turned_none : {s : ℕ} {start : List ℕ} {n x : ℕ} (rings sums : List ℕ) {put : List ℕ} → 2 ^ size s ≤ length sums → Room (combined (picked rings s)) start n
    → x ≡ 0 → put ≡ set sums 0 x → Turned rings s start n put 1 start n []
unfolding sums_from rings_from
turned_none {s} {start} {n} {x} rings sums {put} m o z e =
    record {
      small = omega (arith, ap length e, length-set sums 0 x);
      lent = o;
      power = refl;
      list = ap (take 1) e ∙ take-suc-set sums 0 x (omega (arith, pow_pos (size s))) ∙ ap (λ y. y ∷ []) z;
      appended = appended_none start n;
    }

module _ {rings : List ℕ} {s : ℕ} {start : List ℕ} {n : ℕ} {sums : List ℕ} {half : ℕ} {found : List ℕ} {r : ℕ} {xs : List ℕ}
    (t : Turned rings s start n sums half found r xs) where
  -- the basis rings so far
  abbrev before : List ℕ
  before = map (ring_at rings) xs

  module _ {i : ℕ} (h : Turn room s xs i) where
    -- those after the next
    abbrev after : List ℕ
    after = drop (count (i + 1) (has s)) (picked rings s)

    -- they follow those so far and the next
    parted : (before ++ ring_at rings i ∷ []) ++ after ≡ picked rings s
    parted =
        ap (λ l. l ++ after) (so_far ∙ sym (take-listed (i + 1) room (has s) (ring_at rings) (omega (arith, h.below))))
        ∙ take-append-drop (count (i + 1) (has s)) (picked rings s)
      where
        so_far : before ++ ring_at rings i ∷ [] ≡ listed (i + 1) (has s) (ring_at rings)
        so_far =
            ap (λ l. l ++ ring_at rings i ∷ []) (turn_listed (ring_at rings) h)
            ∙ sym (listed-take (has s) (ring_at rings) i refl h.member)

    -- there is room for the group
    pub turned_few : half + half ≤ length sums
    turned_few =
        omega (
          arith,
          t.power,
          t.small,
          two-pow-succ (length before),
          pow_mono {i = suc (length before)} {j = size s} (omega (
            arith,
            ap length parted,
            length-append (before ++ ring_at rings i ∷ []) after,
            length-append before (ring_at rings i ∷ []),
            picked-few rings s,
          )),
        )

    module _ {sums' : List ℕ} {ring : ℕ} (is : ring ≡ get_or rings i 0) (made : Doubled sums half ring sums') where
      -- the group is there
      pub turned_held : half + half ≤ length sums'
      turned_held = omega (arith, turned_few, made.long)

      -- and stands after the old sets
      its_group : between half (half + half) sums' ≡ group (ring_at rings i) (sums_from (0 ∷ []) before)
      its_group =
          ap (drop half) made.list
          ∙ drop_at (take half sums) (group ring (take half sums)) half (length-take-le half sums (omega (arith, turned_few)))
          ∙ ap₂ group is t.list

      module _ {olds sum : List ℕ} (found_before : olds ≡ between n r found) (part : sum ≡ between half (half + half) sums') where
        -- the rings that are found in it
        abbrev new : List ℕ
        new = rings_among olds sum

        -- what is found with it
        found-with : combined before ++ new ≡ combined (before ++ ring_at rings i ∷ [])
        found-with =
            ap₂ (λ l g. combined before ++ rings_among l g) (found_before ∙ appended_new (omega (arith, t.lent)) t.appended) (part ∙ its_group)
            ∙ sym (rings_snoc (0 ∷ []) [] before (ring_at rings i))

        -- there is room for what is found in it
        pub turned_room : Room new found r
        turned_room =
            let with = before ++ ring_at rings i ∷ [] in
            appended_room new (combined (picked rings s)) t.appended t.lent
            (omega (
              arith,
              ap length found-with,
              length-append (combined before) new,
              ap (λ l. length (combined l)) parted,
              ap length (rings-append (0 ∷ []) [] with after),
              length-append (combined with) (rings_from (sums_from (0 ∷ []) with) (combined with) after),
            ))

        -- the next basis ring
        pub turned_more : {end : List ℕ} {r' : ℕ} → Appended found r new end r' → Turned rings s start n sums' (half + half) end r' (xs ++ (i ∷ []))
        turned_more {end} {r'} a =
            record {
              small = omega (arith, t.small, made.long);
              lent = t.lent;
              power =
                  ap₂ ◌+◌ t.power t.power
                  ∙ sym (two-pow-succ (length before))
                  ∙ ap (λ k. 2 ^ k) (sym (ap length more ∙ length-append before (ring_at rings i ∷ []) ∙ add-one (length before)));
              list = made.list ∙ ap₂ (λ x l. l ++ group x l) is t.list ∙ sym (sums_snoc (0 ∷ []) before (ring_at rings i)) ∙ ap (sums_from (0 ∷ [])) (sym more);
              appended = appended_as (found-with ∙ ap combined (sym more)) (appended_more (omega (arith, t.lent)) t.appended a);
            }
          where
            more : map (ring_at rings) (xs ++ (i ∷ [])) ≡ before ++ ring_at rings i ∷ []
            more = map_more (ring_at rings) xs i

-- after the last basis ring all are combined
pub turned_all : {rings : List ℕ} {s : ℕ} {start : List ℕ} {n : ℕ} {sums : List ℕ} {half : ℕ} {found : List ℕ} {r : ℕ} {xs : List ℕ}
    → Turned rings s start n sums half found r xs → xs ≡ rising room s → Appended start n (combined (picked rings s)) found r
turned_all {rings} {s} t h = appended_as (ap combined (ap (map (ring_at rings)) h ∙ sym (listed_rising (ring_at rings) room s))) t.appended
