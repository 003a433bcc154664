-- The rings counted by size, assembly by assembly: what is found in one assembly, what is taken of it, and the counts of one assembly after
-- another. No ring has bonds of two assemblies, so what is taken of all is what is taken of each. Assumes nothing.
use mathlib.Core.Path.{◌≡◌, refl, sym, ap, subst, subst⁻¹, ◌∙◌}
use mathlib.Core.Logic.{◌≢◌}
use mathlib.Core.Bool.{false}
use mathlib.Core.List.Memᴰ.{eq_of_singleton}
use mathlib.Core.List.Memᴰ.{head as here}
use mathlib.Core.List.{List, [], ◌∷◌, map, map-append, Memᴰ as In}
use Prim.Native.Nat.{ℕ, ◌+◌, ◌^◌, ◌/◌, ◌<◌, ◌≤◌, max}
use native.Mathlib.Nat.{le_refl, le_antisymm}
use native.Mathlib.Omega.{arith}
use lib.ListN.{length, take, get_or, set, length-map, get_or-eq_default}
use lib.Bits.{xor_zero_r}
use lib.Pow.{pow_mono}
use lib.Dec.{ltb}
use borrow.Author.Tests.{ltb-true, ltb-false}
use Rattle.sets.specs.Bits.{has, size, meet, IsNext}
use Rattle.sets.specs.Ring.{bits, room}
use Rattle.sets.specs.Bond as bond
use Rattle.sets.specs.Lists.{sets_in, words}
use Rattle.sets.proofs.Lists.{sets-length}
use Rattle.definitions.specs.Table.{all_sizes}
use Rattle.definitions.specs.Search.{every, keep, sort, insert, picked}
use Rattle.definitions.specs.AllRings.{before}
use Rattle.definitions.specs.Smallest.{chosen, taking}
use Rattle.definitions.specs.Label.{occurs}
use Rattle.definitions.proofs.Tests.{by}
use Rattle.definitions.proofs.Passing.{passed_next, passed_first, passed_all}
use Rattle.definitions.proofs.Lists.{length-listed, listed_has, set_of_is, size-set_of, gather_step, gather-zero, gather_in}
use Rattle.definitions.proofs.Sorting.{occurs-nil, occurs-append, length-sort, sort_in}
use Rattle.spans.proofs.Spans.{span_in}
use Rattle.spans.proofs.Choice.{span→sum}
use Rattle.spans.proofs.Taking.{taking-nil, taking-keep, taking-length-le}
use Rattle.spans.proofs.Apart.{taken_apart}
use Rattle.lent.specs.Appended.{Appended}
use Rattle.lent.proofs.Between.{appended_take}
use Rattle.combining.specs.Gibbs.{clear?, rings_from, combined, found_at, found_in}
use Rattle.combining.proofs.Turns.{found-few}
use Rattle.combining.proofs.Exactly.{combined-sum}
use Rattle.ordering.specs.Sizes.{Countable, Tallied}
use Rattle.ordering.proofs.Sizing.{occurs-le, Tallying, tallying_none, tallying_more, bound_above}
use Rattle.choosing.specs.Elimination.{Choosable, Selected}
use Rattle.rings.specs.Tally.{most_in_one, most_in_all, own_rings, Open, Both, Single, Alone, Separate}
use Rattle.rings.specs.declared.assembly.Assembly.{Assembly}
use Rattle.rings.specs.declared.histograms.Histograms.{Histograms}
use Rattle.perception.proofs.Perceiving.{all_found-most}

-- as many basis rings are picked as the set of places has
pub length-picked : (rings : List ℕ) (s : ℕ) → s < 2 ^ room → length (picked rings s) ≡ size s
length-picked rings s h =
    length-listed room (has s) (λ i. get_or rings i 0) ∙ sym (size-set_of room (has s)) ∙ ap size (sym (set_of_is room (has s) s h (λ k l. refl)))

-- ---- what is taken

-- no more is taken than there is
taken_few : (l : List ℕ) → length (taking [] (sort before l)) ≤ length l
taken_few l = omega (arith, taking-length-le (sort before l) (sort before l) (λ x i. span→sum (span_in i)), length-sort before l)

-- of nothing nothing is taken
taken_nil : taking [] (sort before []) ≡ []
unfolding sort
taken_nil = taking-nil []

-- of one set, which is not empty, that one is taken
taken_alone : (l : List ℕ) → length l ≡ 1 → ((x : ℕ) → In x l → x ≢ 0) → taking [] (sort before l) ≡ l
unfolding sort insert taking chosen
taken_alone [] e some = absurd (omega arith)
taken_alone (x ∷ []) e some = taking-keep [] x (λ s. some x (here refl) (sym s.2))
taken_alone (x ∷ y ∷ l) e some = absurd (omega arith)

-- ---- counts

-- fewer can be counted
pub countable_less : {counts : List ℕ} {m n : ℕ} → Countable counts m → n ≤ m → Countable counts n
countable_less c h = record { long = c.long; fits = λ z. omega (arith, c.fits z) }

-- before any set is counted
tallied_none : (start : List ℕ) (top : ℕ) → Tallied [] start top start top
tallied_none start top = record {
  long = refl;
  told = λ z l. omega (arith, occurs-nil z);
  higher = le_refl top;
  within = λ l. l;
  none = λ z l. occurs-nil z;
}

-- a higher bound does, where it is no less than a possible size only if the first is
tallied_raised : {sets start counts : List ℕ} {top r r' : ℕ} → r ≤ r' → (r ≤ all_sizes → r' ≤ all_sizes) → Tallied sets start top counts r
    → Tallied sets start top counts r'
tallied_raised h w t = record {
  long = t.long;
  told = t.told;
  higher = omega (arith, t.higher);
  within = λ l. w (t.within l);
  none = λ z l. t.none z (omega arith);
}

-- so does a lower start
tallied_lowered : {sets start counts : List ℕ} {low top r : ℕ} → low ≤ top → (low ≤ all_sizes → top ≤ all_sizes) → Tallied sets start top counts r
    → Tallied sets start low counts r
tallied_lowered h w t = record { long = t.long; told = t.told; higher = omega (arith, t.higher); within = λ l. t.within (w l); none = t.none }

module _ {sets start counts : List ℕ} {top r : ℕ} (t : Tallied sets start top counts r) where
  -- of so many that can be counted these are taken away, and the others still can
  tallied_countable : {m k : ℕ} → Countable start m → length sets + k ≤ m → Countable counts k
  tallied_countable {m} {k} c h = record {
    long = t.long ∙ c.long;
    fits = λ z. by (ltb z all_sizes)
        (λ l. omega (arith, t.told z (ltb-true z all_sizes l), occurs-le z (map size sets), length-map sets size, c.fits z))
        (λ l. omega (arith, get_or-eq_default {A = ℕ} counts 0 {n = z} (omega (arith, ltb-false z all_sizes l, t.long, c.long)), c.fits z));
  }

  -- more sets are counted on top
  tallied_more : {more both counts' : List ℕ} {mid : ℕ} → Tallied more counts mid counts' r
      → ((z : ℕ) → occurs z (map size both) ≡ occurs z (map size sets) + occurs z (map size more)) → Tallied both start top counts' r
  tallied_more u e = record {
    long = u.long ∙ t.long;
    told = λ z l. omega (arith, u.told z l, t.told z l, e z);
    higher = t.higher;
    within = t.within;
    none = λ z l. omega (arith, e z, u.none z l, t.none z l);
  }

-- ---- the sets of a list and what is taken of them in order

-- the sets stand at the start of a list and are counted
module _ {sets start found : List ℕ} {n : ℕ} (g : Appended start 0 sets found n) where
  -- they are its first
  first : take n found ≡ sets
  first = appended_take (omega arith) g

  -- they are counted, what is taken of them in order is chosen, and that is counted too
  pub both_chosen : {start end : Histograms} {mid : ℕ} {counted ordered lent taken chosen : List ℕ} {k : ℕ} → counted ≡ take n found
      → Tallied counted start.all start.top end.all mid → ordered ≡ sort before (take n found) → Selected ordered lent taken k → chosen ≡ take k taken
      → Tallied chosen start.smallest mid end.smallest end.top → Both sets start end
  both_chosen {start} {end} f t e s d u = record {
    all = subst (λ l. Tallied l start.all start.top end.all end.top) (f ∙ first) (tallied_raised u.higher u.within t);
    smallest = subst (λ l. Tallied l start.smallest start.top end.smallest end.top) (d ∙ s.list ∙ ap (taking []) (e ∙ ap (sort before) first))
        (tallied_lowered t.higher t.within u);
  }

-- ---- a ring that is alone in its assembly, given by its place

-- one set is counted under its size
tallied_one : {start : List ℕ} {top : ℕ} (x : ℕ) {z r : ℕ} → Countable start most_in_one → z ≡ size x → z < all_sizes → r ≡ max top (z + 1)
    → Tallied (x ∷ []) start top (set start z (get_or start z 0 + 1)) r
tallied_one {start} {top} x {z = z} {r} c e h is =
    let none : Tallying (x ∷ []) start top start top 0 = tallying_none top (countable_less c (omega arith)) in
    let one : Tallying (x ∷ []) start top (set start z (get_or start z 0 + 1)) r 1 = tallying_more none (omega arith) e h (bound_above is h) in
    record { long = one.places; told = one.told; higher = one.higher; within = one.low; none = one.none }

module _ {assembly : Assembly} {i : ℕ} (s : Single assembly) (b : bits assembly.members < 2 ^ room) (n : IsNext room (bits assembly.members) 0 i) where
  abbrev rings : List ℕ
  rings = sets_in assembly.rings.now

  abbrev places : ℕ
  places = bits assembly.members

  -- there is such a place
  pub single_inside : i < room
  single_inside =
      by (ltb i room) (ltb-true i room)
      (λ t. absurd (omega (
        arith,
        s.one,
        length-picked rings places b,
        ap length (sym (passed_all (λ k. get_or rings k 0) (passed_next n) (ltb-false i room t)) ∙ passed_first (λ k. get_or rings k 0) n),
      )))

  -- what is found is the ring there
  single_found : combined (picked rings places) ≡ get_or rings i 0 ∷ []
  unfolding rings_from keep clear? every
  single_found =
      ap combined (only (picked rings places) (length-picked rings places b ∙ s.one) (listed_has room (has places) (λ k. get_or rings k 0) i single_inside (n.member single_inside)))
      ∙ ap (λ x. x ∷ []) (xor_zero_r (get_or rings i 0))
    where
      only : {x : ℕ} (l : List ℕ) → length l ≡ 1 → In x l → l ≡ x ∷ []
      only [] e m = absurd (omega arith)
      only (y ∷ []) e m = ap (λ z. z ∷ []) (sym (eq_of_singleton m))
      only (y ∷ z ∷ l) e m = absurd (omega arith)

  -- and it is counted, and taken
  pub both_single : {h : Histograms} {z r : ℕ} → Open h most_in_one → z ≡ size (get_or rings i 0) → z < all_sizes → r ≡ max h.top (z + 1)
      → Both (own_rings assembly) h (record { all = set h.all z (get_or h.all z 0 + 1); smallest = set h.smallest z (get_or h.smallest z 0 + 1); top = r })
  both_single {h} {z} {r} c e l is = record {
    all = subst⁻¹ (λ sets. Tallied sets h.all h.top (set h.all z (get_or h.all z 0 + 1)) r) single_found (tallied_one (get_or rings i 0) c.all e l is);
    smallest = subst⁻¹ (λ sets. Tallied sets h.smallest h.top (set h.smallest z (get_or h.smallest z 0 + 1)) r)
        (taken_alone (own_rings assembly) (ap length single_found) s.some ∙ single_found)
        (tallied_one (get_or rings i 0) c.smallest e l is);
  }

-- ---- one assembly

-- in lists with room for its sums
pub alone_fits : {rings : List ℕ} {places m : ℕ} (k : ℕ) → Alone rings places m → 2 ^ size places ≤ k → Alone rings places k
alone_fits k h e = record { small = h.small; room = e; some = h.some }

-- a list of so many sets has room for what is found in it
pub alone_room : {rings : List ℕ} {places m : ℕ} → Alone rings places m → 0 + length (combined (picked rings places)) ≤ m
alone_room {rings} {places} h = omega (arith, h.room, found-few rings places)

module _ {rings : List ℕ} {places m : ℕ} (h : Alone rings places m) {start found : List ℕ} {n : ℕ} (g : Appended start 0 (combined (picked rings places)) found n) where
  -- where it stands at the start of a list, any list of so many sets is as long
  pub alone_within : {k : ℕ} → k ≡ m → n ≤ k
  alone_within e = omega (arith, g.end, alone_room h)

  -- it is no more than can be counted
  pub alone_few : n ≤ most_in_one
  alone_few = omega (arith, g.end, found-few rings places, pow_mono h.small)

  -- each set found is a sum of its basis rings, so a smallest basis can be chosen from them in order
  pub alone_choosable : {ordered taken : List ℕ} {want : ℕ} → places < 2 ^ room → want ≡ size places → ordered ≡ sort before (take n found)
      → length taken ≡ bond.room → Choosable ordered want taken
  alone_choosable b is e lent =
      let basis = picked rings places in
      record {
        lent = lent;
        few = omega (arith, is, h.small);
        spanned = (
          basis,
          length-picked rings places b ∙ sym is,
          λ x i. combined-sum basis x ((sort_in before (combined basis) x).0 (subst (In x) (e ∙ ap (sort before) (first g)) i)),
        );
      }

-- ---- one assembly after another

-- the assemblies below a are counted
pub record CountedTo (rings members : List ℕ) (n : ℕ) (start h : Histograms) (a : ℕ) : Type 0 where
  pub within : a ≤ n
  pub both : Both (found_in rings members a) start h

-- before the first
pub counted_none : (rings members : List ℕ) (n : ℕ) (h : Histograms) → CountedTo rings members n h h 0
counted_none rings members n h = record {
  within = omega arith;
  both = subst⁻¹ (λ l. Both l h h) (gather-zero (found_at rings members)) (record {
    all = tallied_none h.all h.top;
    smallest = subst⁻¹ (λ l. Tallied l h.smallest h.top h.smallest h.top) taken_nil (tallied_none h.smallest h.top);
  });
}

-- a list of as many words holds as many sets
pub as_many-sets : (ws : List ℕ) {n : ℕ} → length ws ≡ n → length (sets_in ws) ≡ n / words
as_many-sets ws e = sets-length ws ∙ ap (λ (n : ℕ). n / words) e

module _ {rings members : List ℕ} {n m : ℕ} (s : Separate rings members n m) {a : ℕ} (l : a < n) where
  -- assembly a is one by itself
  pub alone_at : {places k : ℕ} → get_or members a 0 ≡ places → k ≡ m → Alone rings places k
  alone_at {places} {k} is e = subst (λ p. Alone rings p k) is (subst⁻¹ (Alone rings (get_or members a 0)) e (s.each a l))

  module _ {start h : Histograms} (t : CountedTo rings members n start h a) where
    -- what is found in this one is no more than can still be counted
    counted-few : length (found_in rings members a) + most_in_one ≤ most_in_all
    counted-few = omega (arith, all_found-most rings members a (λ b h. (s.each b (omega arith)).small), s.counted)

    -- so its rings can, and those of its smallest basis
    pub counted_open : Open start most_in_all → Open h most_in_one
    counted_open c = record {
      all = tallied_countable t.both.all c.all counted-few;
      smallest = tallied_countable t.both.smallest c.smallest (omega (arith, counted-few, taken_few (found_in rings members a)));
    }

    -- this one is counted
    pub counted_more : {places : ℕ} {h' : Histograms} → get_or members a 0 ≡ places → Both (combined (picked rings places)) h h'
        → CountedTo rings members n start h' (a + 1)
    counted_more {places} {h'} is e =
        let u : Both (found_at rings members a) h h' = subst⁻¹ (λ p. Both (combined (picked rings p)) h h') is e in
        record {
          within = omega arith;
          both = subst⁻¹ (λ l. Both l start h') (gather_step a (found_at rings members)) (record {
            all = tallied_more (tallied_raised u.all.higher u.all.within t.both.all) u.all (λ z. ap (occurs z) (map-append size old new) ∙ occurs-append z (map size old) (map size new));
            smallest = tallied_more (tallied_raised u.smallest.higher u.smallest.within t.both.smallest) u.smallest (taken_apart old new apart);
          });
        }
      where
        old : List ℕ
        old = found_in rings members a

        new : List ℕ
        new = found_at rings members a

        -- each set found before is found in one assembly before, so it shares no bond with what is found in this one
        apart : (x y : ℕ) → In x (found_in rings members a) → In y (found_at rings members a) → meet x y ≡ false
        apart x y i j = let (b, h, k) = (gather_in a (found_at rings members) x).0 i in s.apart b a h l x y k j

-- after the last all are counted
pub counted_all : {rings members : List ℕ} {n : ℕ} {start h : Histograms} {a : ℕ} → CountedTo rings members n start h a → n ≤ a
    → Both (found_in rings members n) start h
counted_all {rings} {members} {start = start} {h} t l = subst (λ k. Both (found_in rings members k) start h) (le_antisymm t.within l) t.both
