-- Each ring has one walk, which the function gives; the sets with a walk are the rings; and walking tells a ring, whatever number the set
-- is. Assumes nothing.
use mathlib.Core.Path.{◌≡◌, refl, sym, ap, ◌∙◌}
use mathlib.Core.Logic.{◌↔◌, ⊎_elim}
use mathlib.Core.Bool.{true, ◌&&◌}
use mathlib.Core.List.{List}
use Prim.Native.Nat.{ℕ, suc, ◌%◌, ◌<◌, min}
use native.Mathlib.Nat.{pos_of_ne-zero, lt_of_not-le}
use native.Mathlib.Omega.{arith}
use lib.ListN.{get_or}
use Rattle.sets.specs.Bits.{has, size}
use Rattle.sets.proofs.Laws.{lowest, member_below}
use Rattle.definitions.specs.Table.{Table, bonds, tail, head, meets?, refusal}
use Rattle.definitions.specs.Ring.{degree, Ring}
use Rattle.definitions.specs.Walk.{after, Walk, walk_start, walk_atoms, walk_bonds}
use Rattle.definitions.proofs.Tests.{clashes, some_of, and_both}
use Rattle.definitions.proofs.Lists.{count_find}
use Rattle.definitions.proofs.Refusals.{Valid, accepted}
use Rattle.walking.specs.Closing.{walks?}
use Rattle.walking.specs.OneWalk.{OneWalk}
use Rattle.walking.proofs.Bonds.{joins_inside, two-bonds}
use Rattle.walking.proofs.Rounds.{Round, trail_reached, after-lt, after-at, whole-after, whole_near, whole-degree, whole-ring}
use Rattle.walking.proofs.Returns.{ring_round, two_round}
use Rattle.walking.proofs.Walks.{walk-ring, walk-atoms_once, walk-bonds_once, walk-bonds_all, walk_unique}
use Rattle.walking.proofs.Steps.{First, first_that_lem, start-at, place, atom_at, bond_at, places_trail, atoms-length, bonds-length, atoms-at, bonds-at, closes_test}

module _ {M : Table} (valid : Valid M) (s : ℕ) where
  -- the atoms and the bonds of the walk from the start
  abbrev A : ℕ → ℕ
  A = atom_at M s (walk_start M s)

  abbrev B : ℕ → ℕ
  B = bond_at M s (walk_start M s)

  -- ---- the walk of a ring

  -- in a ring the walk from the start is a round
  walked_round : Ring M s → Round M s A B (size s)
  walked_round ring =
      let (k, h, _) = lowest s (pos_of_ne-zero ring.some) in
      let g = start-at M s (some_of (bonds M) (has s) k (member_below (bonds M) k ring.even.within h) h) in
      ring_round valid ring (λ n. places_trail M s (walk_start M s) g n (λ i l j b. ring.even.evenly (A (suc i)) (joins_inside valid b j)))

  module _ (r : Round M s A B (size s)) where
    -- its first bond is the first of the set
    first : First (bonds M) (has s) (B 0)
    unfolding place walk_start
    first = let (b, h, _) = r.trail.at 0 (omega arith) in first_that_lem (bonds M) (has s) (some_of (bonds M) (has s) (B 0) b h)

    -- its first atom is the lower one
    lower : A 0 ≡ min (tail M (B 0)) (head M (B 0))
    unfolding place walk_start
    lower = refl

    -- at the place after place i the lists have the next atom
    atom-after : (i : ℕ) → i < size s → get_or (walk_atoms M s) (after (size s) i) 0 ≡ A (suc i)
    atom-after i l = atoms-at M s (after (size s) i) (after-lt (size s) i l) ∙ sym (after-at A (size s) r.closed i)

    -- and the next bond
    bond-after : (i : ℕ) → i < size s → get_or (walk_bonds M s) (after (size s) i) 0 ≡ B (suc i)
    bond-after i l = bonds-at M s (after (size s) i) (after-lt (size s) i l) ∙ sym (whole-after valid r i l)

    -- the lists are a walk
    round_walk : Walk M s (walk_atoms M s) (walk_bonds M s)
    round_walk = record {
      as_many-atoms = atoms-length M s;
      as_many-bonds = bonds-length M s;
      first = rw (bonds-at M s 0 r.some) (first.passes, λ k h. omega (arith, lt_of_not-le {n = suc k} {m = B 0} (λ l. clashes h (first.none k l))));
      start = rw (atoms-at M s 0 r.some, bonds-at M s 0 r.some) lower;
      leads = λ i l. rw (bonds-at M s i l, atoms-at M s i l, atom-after i l) (r.trail.joins i l);
      other = λ i l k. rw (bonds-at M s i l, atom-after i l, bond-after i l) (
        λ m. ⊎_elim (λ e. absurd (m.1 e)) (λ e. e) (whole_near valid r i l k m.0),
        λ e. rw e (r.trail.at (suc i) (omega arith), r.trail.turns i l),
      );
      not-before = λ i l m. rw (atoms-at M s i m, atoms-at M s 0 r.some) (λ e. r.apart 0 i l m (sym e));
    }

  -- ---- the test

  -- a round passes it
  round_test : Round M s A B (size s) → walks? M s ≡ true
  unfolding walks? place
  round_test r = (closes_test M s (walk_start M s).0 (size s) (walk_start M s)).1 (record {
    some = r.some;
    twos = whole-degree valid r;
    closed = r.closed;
    not-before = λ i l m e. r.apart 0 i l m (sym e);
  })

  -- and what passes it is one
  test_round : walks? M s ≡ true → Round M s A B (size s)
  unfolding walks? place degree
  test_round h =
      let c = (closes_test M s (walk_start M s).0 (size s) (walk_start M s)).0 h in
      let (k, l, m, _) = count_find (λ k. has s k && meets? M (A 1) k) (bonds M) 0 (omega (arith, c.twos 0 c.some)) in
      let g = start-at M s (some_of (bonds M) (has s) k l (and_both (has s k) _ m).0) in
      let t = places_trail M s (walk_start M s) g (size s) (λ i b _ _. ap (λ (x : ℕ). x % 2) (c.twos i b)) in
      two_round valid t (λ i b. two-bonds M s (A (suc i)) (trail_reached t i b) (t.at (suc i) (omega arith)) (λ e. t.turns i b (sym e)) (c.twos i b))
      c.some c.closed c.not-before

-- ---- for a table that the check accepts

-- each ring has one walk, and the function gives it
pub each-ring-one-walk : (M : Table) → refusal M ≡ 0 → (s : ℕ) → Ring M s → OneWalk M s (walk_atoms M s) (walk_bonds M s)
each-ring-one-walk M z s ring =
    let valid = (accepted M).0 z in
    let w = round_walk valid s (walked_round valid s ring) in
    record {
      walk = w;
      one = λ visited crossed v. walk_unique valid v w;
      bonds_all = walk-bonds_all valid w;
      bonds_once = walk-bonds_once valid w;
      atoms_once = walk-atoms_once valid w;
    }

-- the rings are the sets that have a walk
pub rings_are_walks : (M : Table) → refusal M ≡ 0 → (s : ℕ) → Ring M s ↔ ((visited : List ℕ) × (crossed : List ℕ) × Walk M s visited crossed)
rings_are_walks M z s = (λ r. (walk_atoms M s, walk_bonds M s, (each-ring-one-walk M z s r).walk), λ w. walk-ring ((accepted M).0 z) w.2)

-- a set is a ring exactly where, walking from its lowest bond over atoms with two of its bonds each, one is back after as many bonds as it has
pub ring-by_walking : (M : Table) → refusal M ≡ 0 → (s : ℕ) → (walks? M s ≡ true) ↔ Ring M s
ring-by_walking M z s =
    let valid = (accepted M).0 z in
    (λ h. whole-ring valid (test_round valid s h), λ r. round_test valid s (walked_round valid s r))
