-- Why the clusters are the assemblies. A ring that joins shares a bond with a member, so it is linked with the first ring. Where a pass
-- adds nothing, no ring left shares a bond with a member, so the rings linked with the first are all members: a ring that shares a
-- bond with a member is of the same assembly, so it was looked at, and is not left. Assumes nothing.
use mathlib.Core.Path.{◌≡◌, refl, sym, ap, ◌∙◌}
use mathlib.Core.Logic.{⊎_elim}
use mathlib.Core.Bool.{Bool, true, false, ◌&&◌, ◌||◌, not, cond, and-false, or-true}
use mathlib.Core.List.Memᴰ
use mathlib.Core.List.{List, [], ◌∷◌, ◌++◌, Memᴰ as In}
use Prim.Native.Nat.{ℕ, ◌^◌, ◌<◌}
use native.Mathlib.Omega.{arith}
use borrow.Author.Tests.{eqb-true, eq-eqb, ne_eqb}
use lib.Bits.{bit_or}
use lib.Dec.{eqb}
use lib.ListN.{length, get_or}
use Rattle.sets.specs.Bits.{has, Sub, meet, put, without, size}
use Rattle.sets.specs.Ring.{room}
use Rattle.sets.specs.Rising.{rising}
use Rattle.sets.proofs.Laws.{has-or, has-zero, has-with, has-without, member_below}
use Rattle.sets.proofs.Size.{size-sub, sub_same}
use Rattle.sets.proofs.Members.{common, meet_of}
use Rattle.sets.proofs.Machine.{put_below}
use Rattle.sets.proofs.Upward.{Turn}
use Rattle.definitions.specs.Assembly.{Linked}
use Rattle.definitions.specs.Assembly.Linked.{same, by as shares}
use Rattle.definitions.proofs.Tests.{by, clashes, eqb_self, and_both, both_and, same_test, or-one}
use Rattle.definitions.proofs.Lists.{in_snoc, in_last}
use Rattle.definitions.proofs.Linking.{linked_trans}
use Rattle.basis.specs.Clusters.{Group, joined_by, Grouped, Apart, Pass}
use Rattle.basis.proofs.Taken.{in_rising, turn_new}
use Rattle.basis.proofs.Putting.{put_new, put_old, put_from}

-- a ring that is left is one of those looked at, and no member
left_all : {rs : List ℕ} {first all : ℕ} {g : Group} → Grouped rs first all g → (i : ℕ) → has g.left i ≡ true → has all i ≡ true
left_all {all = all} {g = g} q i h = (and_both (has all i) (not (has g.members i)) (sym (q.other i) ∙ h)).0

-- a ring of a set less one is one of the set
pub without_old : (s k j : ℕ) → has (without s k) j ≡ true → has s j ≡ true
without_old s k j e = (and_both (has s j) (not (eqb k j)) (sym (has-without s k j) ∙ e)).0

-- ---- one ring starts a group

pub grouped_one : (rs : List ℕ) (first all : ℕ) {m b l : ℕ} → ((i : ℕ) → has all i ≡ true → i < length rs) → has all first ≡ true → first < room
    → m ≡ put room 0 first → b ≡ get_or rs first 0 → l ≡ without all first → Grouped rs first all (record { members = m; bonds = b; left = l })
grouped_one rs first all inside h l em eb el = rw (em, eb, el) (record {
  inside = inside;
  start = put_new room 0 first l;
  member = λ i o. rw (only i o) (h, same, λ k t. t);
  bond = λ k t. (first, put_new room 0 first l, t);
  other = λ i. has-without all first i ∙ ap (λ (x : Bool). has all i && not x) (alone i);
})
  where
    only : (i : ℕ) → has (put room 0 first) i ≡ true → i ≡ first
    only i m = ⊎_elim (λ z. clashes z (has-zero i)) (λ (q, _). q) (put_from room 0 first i m)

    alone : (i : ℕ) → eqb first i ≡ has (put room 0 first) i
    alone i =
        same_test (eqb first i) (has (put room 0 first) i)
        (λ t. rw (← (eqb-true first i t)) (put_new room 0 first l))
        (λ t. eq-eqb first i (sym (only i t)))

-- ---- a ring joins

neither : (a b c : Bool) → a && not b && not c ≡ a && not (b || c)
neither true true c = refl
neither true false c = refl
neither false b c = refl

-- a ring that shares a bond is taken in, any other leaves the group as it is
pub joined_takes : (g : Group) (i s : ℕ) {m b l : ℕ} {t : Bool} → t ≡ meet s g.bonds → t ≡ true
    → m ≡ put room g.members i → b ≡ bit_or g.bonds s → l ≡ without g.left i
    → ◌≡◌ {A = Group} (record { members = m; bonds = b; left = l }) (joined_by g i s)
joined_takes g i s e h em eb el = rw (sym e ∙ h, em, eb, el)

pub joined_leaves : (g : Group) (i s : ℕ) {t : Bool} → t ≡ meet s g.bonds → t ≡ false → g ≡ joined_by g i s
joined_leaves g i s e h = rw (sym e ∙ h)

-- a ring that is left and shares a bond with the group is linked with the first
joins_linked : {rs : List ℕ} {first all : ℕ} {g : Group} → Grouped rs first all g
    → (i : ℕ) → has g.left i ≡ true → meet (get_or rs i 0) g.bonds ≡ true → Linked rs first i
joins_linked {rs} {first} {all} {g} q i h e =
    let (k, a, b) = common (get_or rs i 0) g.bonds e in
    let (j, m, c) = q.bond k b in
    let (in_all, linked, _) = q.member j m in
    linked_trans linked (shares (q.inside j in_all) (q.inside i (left_all q i h)) (meet_of (get_or rs j 0) (get_or rs i 0) k c a) same)

pub grouped_join : {rs : List ℕ} {first all : ℕ} {g : Group} → Grouped rs first all g
    → (i : ℕ) → i < room → has g.left i ≡ true → meet (get_or rs i 0) g.bonds ≡ true
    → Grouped rs first all (record { members = put room g.members i; bonds = bit_or g.bonds (get_or rs i 0); left = without g.left i })
grouped_join {rs} {first} {all} {g} q i l h e = record {
  inside = q.inside;
  start = put_old room g.members i first q.start;
  member = λ j m.
      ⊎_elim (λ o. old j (q.member j o)) (λ (z, _). rw z (left_all q i h, joins_linked q i h e, λ k t. or_right k t))
      (put_from room g.members i j m);
  bond = λ k t. ⊎_elim (λ o. let (j, m, c) = q.bond k o in (j, put_old room g.members i j m, c)) (λ c. (i, put_new room g.members i l, c))
      (or-one (has g.bonds k) (has (get_or rs i 0) k) (sym (has-or g.bonds (get_or rs i 0) k) ∙ t));
  other = λ j. has-without g.left i j ∙ ap (λ (b : Bool). b && not (eqb i j)) (q.other j) ∙ neither (has all j) (has g.members j) (eqb i j)
      ∙ ap (λ (b : Bool). has all j && not b) (sym (ap (λ (s : ℕ). has s j) (put_below room g.members i l) ∙ has-with g.members i j));
}
  where
    or_left : (k : ℕ) → has g.bonds k ≡ true → has (bit_or g.bonds (get_or rs i 0)) k ≡ true
    or_left k t = has-or g.bonds (get_or rs i 0) k ∙ ap (λ (b : Bool). b || has (get_or rs i 0) k) t

    or_right : (k : ℕ) → has (get_or rs i 0) k ≡ true → has (bit_or g.bonds (get_or rs i 0)) k ≡ true
    or_right k t = has-or g.bonds (get_or rs i 0) k ∙ ap (λ (b : Bool). has g.bonds k || b) t ∙ or-true (has g.bonds k)

    old : (j : ℕ) → (has all j ≡ true) × Linked rs first j × Sub (get_or rs j 0) g.bonds
        → (has all j ≡ true) × Linked rs first j × Sub (get_or rs j 0) (bit_or g.bonds (get_or rs i 0))
    old j (a, p, b) = (a, p, λ k t. or_left k (b k t))

-- ---- a pass over the rings left

-- g is the group before the pass and h the group now; of the rings that were left, those at the places taken so far were looked at
pub record Passing (rs : List ℕ) (g h : Group) (xs : List ℕ) : Type 0 where
  pub kept : (first all : ℕ) → Grouped rs first all g → Grouped rs first all h
  pub fewer : Sub h.left g.left
  pub still : (j : ℕ) → has g.left j ≡ true → (In j xs → ⊥) → has h.left j ≡ true
  pub seen : h.left ≡ g.left → (j : ℕ) → In j xs → has h.left j ≡ true → meet (get_or rs j 0) h.bonds ≡ false

module _ {rs : List ℕ} {g h : Group} {xs : List ℕ} {i : ℕ} (p : Passing rs g h xs) (turn : Turn room g.left xs i) where
  -- ring i is still left
  here_left : has h.left i ≡ true
  here_left = p.still i turn.member (turn_new turn)

  -- ring i joins: the rings left are not those before the pass
  passing_joins : meet (get_or rs i 0) h.bonds ≡ true
      → Passing rs g (record { members = put room h.members i; bonds = bit_or h.bonds (get_or rs i 0); left = without h.left i }) (xs ++ (i ∷ []))
  passing_joins e = record {
    kept = λ first all o. grouped_join (p.kept first all o) i turn.below here_left e;
    fewer = λ j t. p.fewer j (without_old h.left i j t);
    still = λ j t n. has-without h.left i j ∙ both_and (p.still j t (λ m. n (Memᴰ.append_left (i ∷ []) m))) (ap not (ne_eqb i j (λ is. n (rw (← is) (in_last xs i)))));
    seen = λ z. clashes turn.member (ap (λ (s : ℕ). has s i) (sym z) ∙ gone);
  }
    where
      gone : has (without h.left i) i ≡ false
      gone = has-without h.left i i ∙ ap (λ (b : Bool). has h.left i && not b) (eqb_self i) ∙ and-false (has h.left i)

  -- ring i does not join
  passing_stays : meet (get_or rs i 0) h.bonds ≡ false → Passing rs g h (xs ++ (i ∷ []))
  passing_stays e = record {
    kept = p.kept;
    fewer = p.fewer;
    still = λ j t n. p.still j t (λ m. n (Memᴰ.append_left (i ∷ []) m));
    seen = λ z j m t. ⊎_elim (λ o. p.seen z j o t) (λ is. rw is e) (in_snoc xs m);
  }

  pub passing_turn : {h' : Group} {s : ℕ} → s ≡ get_or rs i 0 → h' ≡ joined_by h i s → Passing rs g h' (xs ++ (i ∷ []))
  passing_turn {h'} {s} es eh =
      by (meet (get_or rs i 0) h.bonds) (λ e. rw (to e) (passing_joins e)) (λ e. rw (to e) (passing_stays e))
    where
      to : {b : Bool} → meet (get_or rs i 0) h.bonds ≡ b
          → h' ≡ cond b (record { members = put room h.members i; bonds = bit_or h.bonds (get_or rs i 0); left = without h.left i }) h
      to e = eh ∙ rw (es, e)

-- all rings that were left were looked at
pub passing_all : {rs : List ℕ} {g h : Group} {xs : List ℕ} → g.left < 2 ^ room → xs ≡ rising room g.left → Passing rs g h xs → Pass rs g h
passing_all {g = g} b done p = record {
  kept = p.kept;
  fewer = p.fewer;
  done = λ z j e. let o = p.fewer j e in p.seen z j (rw done ((in_rising room g.left j).1 (member_below room j b o, o))) e;
}

-- ---- passes until one adds nothing

module _ {rs : List ℕ} {g h : Group} (p : Pass rs g h) where
  -- a pass that leaves as many rings has left all as they were
  pub pass_apart : size h.left ≡ size g.left → Apart rs h
  pass_apart e = p.done (sub_same h.left g.left p.fewer (omega arith))

  -- any other leaves fewer
  pub pass_falls : (size h.left ≡ size g.left → ⊥) → size h.left < size g.left
  pass_falls ne = omega (arith, size-sub h.left g.left p.fewer)
