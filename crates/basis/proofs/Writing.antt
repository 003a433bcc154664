-- The assembly of each basis ring, written assembly after assembly: before each turn of either loop the places of the rings that are passed
-- have their numbers, and the others are as lent. Assumes nothing.
use mathlib.Core.Path.{◌≡◌, refl, sym, ap, ◌∙◌}
use mathlib.Core.Logic.{⊎_elim}
use mathlib.Core.Bool.{Bool, true, false, ◌&&◌, cond}
use mathlib.Core.List.Memᴰ
use mathlib.Core.List.{List, [], ◌∷◌, ◌++◌, Memᴰ as In}
use Prim.Native.Nat.{ℕ, ◌+◌, ◌-◌, ◌^◌, ◌≤◌, ◌<◌}
use native.Mathlib.Omega.{arith}
use borrow.Author.Tests.{eqb-true, eqb-false, ltb-true, ltb-false, lt-ltb, le-ltb}
use lib.Dec.{eqb, ltb}
use lib.ListN.{length, get_or, drop, set, length-set, get_or-append}
use lib.Seq.{get_or-append-add, get_or-drop, get_or-set_same, get_or-set_other, ext_get_or}
use Rattle.sets.specs.Bits.{has}
use Rattle.sets.specs.Ring.{bits, no_rings, room}
use Rattle.sets.specs.Rising.{rising}
use Rattle.sets.proofs.Laws.{member_below}
use Rattle.definitions.specs.Table.{Table}
use Rattle.definitions.specs.Basis.{basis_rings}
use Rattle.definitions.specs.Assembly.{assemblies_of, assemblies}
use Rattle.definitions.specs.Answer.{over}
use Rattle.definitions.proofs.Tests.{by, clashes}
use Rattle.definitions.proofs.Lists.{in_snoc, in_last}
use Rattle.definitions.proofs.Linking.{number, length-assemblies, number_below}
use Rattle.lent.proofs.Appending.{over-length}
use Rattle.basis.specs.Held.{rings_of, Holds, members_of, held_sets, held_count, AssembliesOf}
use Rattle.basis.specs.declared.found.Assemblies.{Assemblies}
use Rattle.basis.specs.Clusters.{Numbered}
use Rattle.basis.specs.declared.basis.Basis.{Basis}
use Rattle.basis.proofs.Taken.{in_rising}
use Rattle.basis.proofs.Holding.{held_assemblies, members-at, members-has, members_below}

-- ---- the rings of one assembly

-- the places taken so far have the number a
pub record Marked (a : ℕ) (xs before after : List ℕ) : Type 0 where
  pub long : length after ≡ length before
  pub taken : (j : ℕ) → In j xs → get_or after j 0 ≡ a
  pub other : (j : ℕ) → (In j xs → ⊥) → get_or after j 0 ≡ get_or before j 0

module _ {a : ℕ} {xs l out : List ℕ} (q : Marked a xs l out) where
  -- one more
  pub marked_more : {k : ℕ} → k < length out → Marked a (xs ++ (k ∷ [])) l (set out k a)
  marked_more {k} h = record {
    long = length-set out k a ∙ q.long;
    taken = λ j i.
        by (eqb j k) (λ e. rw (eqb-true j k e) (get_or-set_same out k a 0 h))
        (λ e. get_or-set_other out k j a 0 (eqb-false j k e) ∙ q.taken j (⊎_elim (λ t. t) (λ is. absurd (eqb-false j k e is)) (in_snoc xs i)));
    other = λ j n. get_or-set_other out k j a 0 (λ is. n (rw is (in_last xs k))) ∙ q.other j (λ i. n (Memᴰ.append_left (k ∷ []) i));
  }

  -- after the last each member has it
  pub marked_all : {s : ℕ} → s < 2 ^ room → xs ≡ rising room s → Numbered (has s) (λ j. a) l out
  marked_all {s} b done = record {
    long = q.long;
    at = λ j.
        by (has s j) (λ e. rw e (q.taken j (rw done ((in_rising room s j).1 (member_below room j b e, e)))))
        (λ e. rw e (q.other j (λ i. clashes ((in_rising room s j).0 (rw done at i)).1 e)));
  }

-- ---- the assemblies in order

-- the rings of the assemblies below a are passed
abbrev pub Assigned : List ℕ → ℕ → List ℕ → List ℕ → Type 0
Assigned rs a before after = Numbered (λ j. ltb j (length rs) && ltb (number rs j) a) (number rs) before after

-- a number is below a + 1 where it is a or below a
turn : (t : Bool) (x a y : ℕ) → cond (t && eqb x a) a (cond (t && ltb x a) x y) ≡ cond (t && ltb x (a + 1)) x y
turn false x a y = refl
turn true x a y =
    by (eqb x a) (λ e. let q = eqb-true x a e in rw (e, lt-ltb x (a + 1) (omega arith)) (sym q))
    (λ e. let ne = eqb-false x a e in rw e
    (by (ltb x a) (λ u. rw (u, lt-ltb x (a + 1) (omega (arith, ltb-true x a u)))) (λ u. rw (u, le-ltb x (a + 1) (omega (arith, ltb-false x a u))))))

-- the rings of the next assembly have its number
pub assigned_more : {rs : List ℕ} {s : Assemblies} {a : ℕ} {l out new : List ℕ} → AssembliesOf rs s → a < held_count s → Assigned rs a l out
    → Numbered (has (bits (get_or (held_sets s) a no_rings))) (λ j. a) out new → Assigned rs (a + 1) l new
assigned_more {rs} {s} {a} {l} {out} o h q w = record {
  long = w.long ∙ q.long;
  at = λ j.
      w.at j ∙ rw (ap (λ (t : ℕ). has t j) (sym (members-at (held_sets s) a)) ∙ members-has o a j h, q.at j)
      (turn (ltb j (length rs)) (number rs j) a (get_or l j 0));
}

-- after the last assembly each ring has its number
pub assigned_all : {rs : List ℕ} {s : Assemblies} {a : ℕ} {l out : List ℕ} → AssembliesOf rs s → length rs ≤ length l → held_count s ≤ a → Assigned rs a l out → out ≡ over (assemblies_of rs) l
unfolding over
assigned_all {rs} {s} {a} {l} {out} o room h q =
    ext_get_or 0 out (over (assemblies_of rs) l) (q.long ∙ sym (over-length (assemblies_of rs) l (omega (arith, long))))
    (λ j i. by (ltb j (length rs)) (λ t. q.at j ∙ here j (ltb-true j (length rs) t)) (λ t. q.at j ∙ rw t (past j (ltb-false j (length rs) t))))
  where
    long : length (assemblies_of rs) ≡ length rs
    long = length-assemblies rs

    here : (j : ℕ) → j < length rs → cond (ltb j (length rs) && ltb (number rs j) a) (number rs j) (get_or l j 0) ≡ get_or (over (assemblies_of rs) l) j 0
    here j e =
        rw (lt-ltb j (length rs) e, lt-ltb (number rs j) a (omega (arith, number_below rs j e, o.count)))
        (sym (get_or-append (assemblies_of rs) (drop (length (assemblies_of rs)) l) 0 j (omega (arith, long))))

    past : (j : ℕ) → length rs ≤ j → get_or l j 0 ≡ get_or (over (assemblies_of rs) l) j 0
    past j e =
        let n = length (assemblies_of rs) in
        let k : n + (j - n) ≡ j = omega (arith, long) in
        sym (ap (λ (i : ℕ). get_or (over (assemblies_of rs) l) i 0) (sym k) ∙ get_or-append-add (assemblies_of rs) (drop n l) (j - n) 0 ∙ get_or-drop n l (j - n) 0
        ∙ ap (λ (i : ℕ). get_or l i 0) k)

-- ---- the assemblies of a table

module _ {M : Table} {b : Basis} {s : Assemblies} (h : Holds M b) (o : AssembliesOf (rings_of b) s) (lent : List ℕ) (room : b.count ≤ length lent) where
  -- there is a place for each ring of an assembly
  pub assemblies_places : (a i : ℕ) → has (get_or (members_of s) a 0) i ≡ true → i < length lent
  assemblies_places a i e = omega (arith, members_below (held_assemblies h o) a i e, h.count)

  -- what stands over the list are the assemblies of the table
  pub assemblies-over : {out : List ℕ} → ((rs : List ℕ) → length rs ≤ length lent → AssembliesOf rs s → out ≡ over (assemblies_of rs) lent) → out ≡ over (assemblies M) lent
  unfolding assemblies
  assemblies-over w = w (basis_rings M) (omega (arith, h.count)) (held_assemblies h o)
