-- The rings of the assemblies, listed one assembly after another and then in order. Assumes nothing.
use mathlib.Core.Path.{◌≡◌, subst⁻¹, ap, ◌∙◌}
use mathlib.Core.List.{List, []}
use Prim.Native.Nat.{ℕ, ◌+◌, ◌^◌, ◌/◌, ◌≤◌, ◌<◌}
use native.Mathlib.Omega.{arith}
use lib.ListN.{length, get_or, take}
use lib.Pow.{pow_mono}
use Rattle.sets.specs.Bits.{size}
use Rattle.sets.specs.Lists.{sets_in, words}
use Rattle.sets.proofs.Lists.{sets-length}
use Rattle.definitions.specs.Search.{sort, gather}
use Rattle.definitions.specs.Table.{Table}
use Rattle.definitions.specs.AllRings.{before, all_rings}
use Rattle.definitions.specs.Smallest.{taking, smallest_basis}
use Rattle.definitions.specs.Answer.{Outcome, written_sets, refusal_of_rings}
use Rattle.definitions.proofs.Sorting.{sort_in}
use Rattle.lent.specs.Appended.{Appended}
use Rattle.lent.proofs.Between.{appended_take}
use Rattle.answers.proofs.Answers.{sets-accepted}
use Rattle.basis.specs.Held.{members_of, held_count}
use Rattle.combining.specs.Gibbs.{found_at, found_in}
use Rattle.choosing.specs.Elimination.{Spanned}
use Rattle.perception.specs.Perceiving.{Perceives}
use Rattle.std.proofs.Common.{Ok}
use Rattle.perception.specs.declared.Perceived.{Perceived}
use Rattle.perception.proofs.Perceiving.{all_found-few, perceived, perceived_small, perceived_found, perceived_room, perceived_most}
use Rattle.lists.specs.Listed.{Listable, Ordered, Workable}

-- ---- one assembly after another

-- a list has room for what is found in all of them
pub listable_room : (rings members : List ℕ) {n m : ℕ} → Listable members n m → 0 + length (gather n (found_at rings members)) ≤ m
listable_room rings members {n} h = omega (arith, all_found-few rings members n, h.found)

-- any list as long has room for the sums of each
pub listable_sums : {members : List ℕ} {n m k a s : ℕ} → Listable members n m → a < n → get_or members a 0 ≡ s → k ≡ m → 2 ^ size s ≤ k
listable_sums {a = a} h l is e = omega (arith, h.sums a l, ap (λ (t : ℕ). 2 ^ size t) is)

-- a list of words has room where one of as many sets as it holds has
pub listable_held : {members : List ℕ} {n : ℕ} (ws : List ℕ) → Listable members n (length ws / words) → Listable members n (length (sets_in ws))
listable_held {members} {n} ws h = subst⁻¹ (Listable members n) (sets-length ws) h

-- what is found is no more than any list holds that is as long
pub listable_within : {members start found : List ℕ} {n m k r : ℕ} (rings : List ℕ) → Listable members n m → Appended start 0 (found_in rings members n) found r → k ≡ m → r ≤ k
listable_within {members} rings h g e = omega (arith, listable_room rings members h, g.end)

-- in order they are the first of a list
pub listed-ordered : {rings start found sets : List ℕ} {r : ℕ} → Appended start 0 rings found r → r ≤ length sets → take r sets ≡ sort before (take r found) → Ordered rings sets r
listed-ordered g h e = record { few = h; list = e ∙ ap (sort before) (appended_take (omega arith) g) }

-- ---- the rings in order

-- as they are sums of so many basis rings, so are they in order
pub spanned_sorted : {n : ℕ} {rings : List ℕ} → Spanned n rings → Spanned n (sort before rings)
spanned_sorted {n} {rings} spanned = (spanned.0, spanned.1, λ x i. spanned.2 x ((sort_in before rings x).0 i))

-- ---- what is worked out of an accepted table

module _ {M : Table} {p : Perceived} (seen : Perceives M (Ok p)) where
  -- the longest lists have room for its rings, and so have shorter ones that hold more sets than its assemblies have sums
  pub perceived_workable : Workable (members_of p.assemblies) (held_count p.assemblies) p.sums
  perceived_workable =
      let small = perceived_small seen in
      record {
        longest = record { counted = small.counted; found = perceived_most seen; sums = λ a l. omega (arith, pow_mono (small.small a l)) };
        shorter = λ m h. record { counted = small.counted; found = omega (arith, (perceived seen).sums); sums = perceived_room seen h };
      }

  -- an answer that holds what is found of it in order holds all rings
  pub perceived_all : (lent : List ℕ) {o : Outcome (List ℕ)}
      → o ≡ written_sets 0 (sort before (found_in (sets_in p.basis.rings) (members_of p.assemblies) (held_count p.assemblies))) lent
      → o ≡ written_sets (refusal_of_rings M) (all_rings M) lent
  perceived_all lent h = sets-accepted (all_rings M) lent seen.number (perceived_found seen) h

  -- one that holds what is taken of that holds the smallest basis
  pub perceived_smallest : (lent : List ℕ) {o : Outcome (List ℕ)}
      → o ≡ written_sets 0 (taking [] (sort before (found_in (sets_in p.basis.rings) (members_of p.assemblies) (held_count p.assemblies)))) lent
      → o ≡ written_sets (refusal_of_rings M) (smallest_basis M) lent
  unfolding smallest_basis
  perceived_smallest lent h = sets-accepted (smallest_basis M) lent seen.number (ap (taking []) (perceived_found seen)) h
