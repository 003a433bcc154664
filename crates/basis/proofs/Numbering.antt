-- Why the assemblies are in order. The first ring left has the lowest number that is not yet used, and the cluster collected from it is
-- the assembly of that number; where no ring is left all assemblies are found. Assumes nothing.
use mathlib.Core.Path.{◌≡◌, refl, sym, ap, ap₂, ◌∙◌}
use mathlib.Core.Bool.{Bool, true, false, ◌&&◌, not, and-true}
use mathlib.Core.List.{List, [], ◌∷◌, ◌++◌, map}
use Prim.Native.Nat.{ℕ, ◌+◌, ◌≤◌, ◌<◌, min}
use native.Mathlib.Omega.{arith}
use borrow.Author.Tests.{eqb-true, eqb-false, eq-eqb, ltb-true, lt-ltb, leb-true, leb-false, le-leb, ne_eqb, not-true}
use lib.Dec.{eqb, ltb, leb}
use lib.ListN.{length, get_or, length-append, get_or-append}
use Rattle.std.proofs.lemmas.List.{get_or_push}
use Rattle.sets.specs.Bits.{has, all_below}
use Rattle.sets.specs.Ring.{bits, no_rings, room}
use Rattle.sets.specs.Rising.{rising}
use Rattle.sets.specs.declared.ring.RingSet.{RingSet}
use Rattle.sets.proofs.Laws.{ext, has-all_below}
use Rattle.sets.proofs.Upward.{Turn}
use Rattle.sets.proofs.Members.{common, meet_of}
use Rattle.definitions.specs.Search.{set_of}
use Rattle.definitions.specs.Assembly.{share?, assembly_count, Linked}
use Rattle.definitions.specs.Assembly.Linked.{same, by as shares}
use Rattle.definitions.proofs.Tests.{by, clashes, and_both, both_and, not_passed, not_failed, same_test}
use Rattle.definitions.proofs.Lists.{has-set_of, count-le}
use Rattle.definitions.proofs.Linking.{number, first?, assembly_count_lem, number_below, number_next, number_all, linked_test, linked_trans, linked_closed}
use Rattle.basis.specs.Held.{held_sets, AssembliesOf}
use Rattle.basis.specs.declared.found.Assemblies.{Assemblies}
use Rattle.basis.specs.Clusters.{Group, Grouped, Apart}
use Rattle.basis.proofs.Taken.{none_below}
use Rattle.basis.proofs.Holding.{members-at}

-- not below n and not n is above n
above : (t : Bool) (n x : ℕ) → t && leb n x && not (t && eqb x n) ≡ t && leb (n + 1) x
above false n x = refl
above true n x =
    same_test (leb n x && not (eqb x n)) (leb (n + 1) x)
    (λ e. let (p, q) = and_both (leb n x) (not (eqb x n)) e in le-leb (n + 1) x (omega (arith, leb-true n x p, eqb-false x n (not-true (eqb x n) q))))
    (λ e. let p = leb-true (n + 1) x e in both_and (le-leb n x (omega arith)) (ap not (ne_eqb x n (omega arith))))

-- the sets of the first assemblies are found, and the rings of the others are left
pub record Divided (rs : List ℕ) (sets : List RingSet) (left : ℕ) : Type 0 where
  pub few : length rs ≤ room
  pub low : length sets ≤ assembly_count rs
  pub found : (a : ℕ) → a < length sets → bits (get_or sets a no_rings) ≡ set_of (length rs) (λ i. eqb (number rs i) a)
  pub rest : (i : ℕ) → has left i ≡ ltb i (length rs) && leb (length sets) (number rs i)

-- at the start all rings are left
pub divided_none : (rs : List ℕ) {left : ℕ} → length rs ≤ room → left ≡ all_below (min (length rs) room) → Divided rs [] left
divided_none rs few l = record {
  few = few;
  low = omega arith;
  found = λ a h. absurd (omega arith);
  rest = λ i.
      let short : min (length rs) room ≡ length rs = omega arith in
      rw (l, short, le-leb 0 (number rs i) (omega arith)) (has-all_below (length rs) i ∙ sym (and-true (ltb i (length rs))));
}

module _ {rs : List ℕ} {sets : List RingSet} {left : ℕ} (d : Divided rs sets left) where
  -- so many are found
  abbrev n : ℕ
  n = length sets

  -- a ring that is left has a number that is not used
  left-number : (i : ℕ) → has left i ≡ true → (i < length rs) × (n ≤ number rs i)
  left-number i h =
      let (l, m) = and_both (ltb i (length rs)) (leb n (number rs i)) (sym (d.rest i) ∙ h) in
      (ltb-true i (length rs) l, leb-true n (number rs i) m)

  number-left : (i : ℕ) → i < length rs → n ≤ number rs i → has left i ≡ true
  number-left i l h = d.rest i ∙ both_and (lt-ltb i (length rs) l) (le-leb n (number rs i) h)

  used : (i : ℕ) → i < length rs → has left i ≡ false → number rs i < n
  used i l e = leb-false n (number rs i) (not_passed (leb n (number rs i)) (λ t. clashes (number-left i l (leb-true n (number rs i) t)) e))

  -- every ring left is one of the list
  pub left_below : (i : ℕ) → has left i ≡ true → i < length rs
  left_below i h = (left-number i h).0

  -- where no ring is left all assemblies are found
  pub divided_all : {s : Assemblies} → held_sets s ≡ sets → [] ≡ rising room left → AssembliesOf rs s
  divided_all held none =
      let e = number_all rs n d.low (λ j l. used j l (none_below room left none j (omega (arith, d.few)))) in
      record {
        count = ap length held ∙ e;
        counted = omega (arith, ap length held, e, assembly_count_lem rs, count-le (first? rs) (length rs));
        members = λ a l. ap (λ xs. get_or (map bits xs) a 0) held ∙ members-at sets a ∙ d.found a (omega (arith, ap length held));
      }

  module _ {first : ℕ} (next : Turn room left [] first) where
    -- the first ring left has the next number
    next_number : number rs first ≡ n
    next_number =
        let (l, m) = left-number first next.member in
        number_next rs n first l (λ j i. used j (omega arith) (none_below first left next.before j i)) m

    first_below : first < length rs
    first_below = left_below first next.member

    -- there is room for it
    pub divided_room : n < room
    divided_room = omega (arith, next_number, number_below rs first first_below, assembly_count_lem rs, count-le (first? rs) (length rs))

    module _ {g : Group} (q : Grouped rs first left g) (a : Apart rs g) where
      member-number : (i : ℕ) → has g.members i ≡ true → (i < length rs) × (number rs i ≡ n)
      member-number i m =
          let (o, p, _) = q.member i m in
          let l = q.inside i o in
          (l, sym ((linked_test rs first i first_below l).1 p) ∙ next_number)

      -- a ring that shares a bond with a member is a member
      shares_member : (i j : ℕ) → i < length rs → j < length rs → has g.members i ≡ true → share? rs i j ≡ true → has g.members j ≡ true
      shares_member i j l m p e =
          let (_, linked, part) = q.member i p in
          let to : Linked rs first j = linked_trans linked (shares l m e same) in
          let there = number-left j m (omega (arith, (linked_test rs first j first_below m).1 to, next_number)) in
          let (k, u, v) = common (get_or rs i 0) (get_or rs j 0) e in
          not_failed (has g.members j) (λ z.
          clashes (meet_of (get_or rs j 0) g.bonds k v (part k u))
          (a j (q.other j ∙ ap₂ (λ (x y : Bool). x && not y) there z)))

      number-member : (i : ℕ) → i < length rs → number rs i ≡ n → has g.members i ≡ true
      number-member i l e = linked_closed (has g.members) shares_member ((linked_test rs first i first_below l).0 (next_number ∙ sym e)) q.start

      members_are : (i : ℕ) → has g.members i ≡ ltb i (length rs) && eqb (number rs i) n
      members_are i =
          same_test _ _ (λ m. let (l, e) = member-number i m in both_and (lt-ltb i (length rs) l) (eq-eqb (number rs i) n e))
          (λ t. let (l, e) = and_both (ltb i (length rs)) (eqb (number rs i) n) t in number-member i (ltb-true i (length rs) l) (eqb-true (number rs i) n e))

      assembly : g.members ≡ set_of (length rs) (λ i. eqb (number rs i) n)
      assembly = ext _ _ (λ i. members_are i ∙ sym (has-set_of (length rs) (λ i. eqb (number rs i) n) i))

      rest_are : (i : ℕ) → has g.left i ≡ ltb i (length rs) && leb (n + 1) (number rs i)
      rest_are i = q.other i ∙ ap₂ (λ (x y : Bool). x && not y) (d.rest i) (members_are i) ∙ above (ltb i (length rs)) n (number rs i)

      pub divided_more : {x : RingSet} → bits x ≡ g.members → Divided rs (sets ++ x ∷ []) g.left
      divided_more {x} e = record {
        few = d.few;
        low = omega (arith, more, next_number, number_below rs first first_below);
        found = λ b l.
            by (eqb b n)
            (λ t. rw (eqb-true b n t) (ap bits (get_or_push sets x no_rings n refl) ∙ e ∙ assembly))
            (λ t.
            let l : b < n = omega (arith, more, eqb-false b n t) in
            ap bits (get_or-append sets (x ∷ []) no_rings b l) ∙ d.found b l);
        rest = λ i. rw more (rest_are i);
      }
        where
          more : length (sets ++ x ∷ []) ≡ n + 1
          more = length-append sets (x ∷ [])
