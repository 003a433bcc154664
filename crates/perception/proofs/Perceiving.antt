-- What is worked out of a table. Its assemblies have so many sums, and no more rings are found in them. Found one assembly after another
-- and put in order, they are all rings.
--     Added members m n a    a loop over m assemblies that adds up their sums: none below a has too many basis rings, and they have n sums
-- Assumes nothing.
use mathlib.Core.Path.{◌≡◌, refl, sym, ap, ap₂, subst, ◌∙◌}
use mathlib.Core.Bool.{Bool, true, false, cond}
use mathlib.Core.List.{List, Memᴰ as In}
use Prim.Native.Nat.{ℕ, zero, suc, ◌+◌, ◌-◌, ◌*◌, ◌%◌, ◌^◌, ◌<◌, ◌≤◌}
use native.Mathlib.Numerals.{add-one}
use native.Mathlib.Nat.{le_antisymm}
use native.Mathlib.Decide.{le_ind}
use native.Mathlib.Omega.{arith}
use lib.ListN.{length, get_or}
use lib.Pow.{pow_mono}
use lib.Dec.{ltb}
use borrow.Author.Tests.{ltb-true, ltb-false}
use Rattle.sets.specs.Bits.{size}
use Rattle.sets.specs.Lists.{sets_in}
use Rattle.sets.proofs.Machine.{one_shl}
use Rattle.definitions.specs.Search.{Each, Some, some?, listed, total, sort}
use Rattle.definitions.specs.Table.{Table, max_bonds, TANGLED}
use Rattle.definitions.specs.Basis.{basis_rings}
use Rattle.definitions.specs.Assembly.{rings_in, max_assembly, tangled?}
use Rattle.definitions.specs.AllRings.{before, all_rings}
use Rattle.definitions.specs.Answer.{refusal_of_rings}
use Rattle.definitions.proofs.Tests.{by, some_ext, Tells, true_of, false_of, tells_ltb, tells_some}
use Rattle.definitions.proofs.Lists.{listed_ext, length-gather}
use Rattle.definitions.proofs.Refusals.{Valid, accepted, rings-kept, rings-free, rings-accepted}
use Rattle.definitions.proofs.Linking.{rings-total}
use Rattle.cycles.proofs.BasisList.{even-sums}
use Rattle.cycles.proofs.Bound.{most_rings, total-last, total_share, sums_share}
use Rattle.std.proofs.Common.{Result, Ok, Err, IfOk}
use Rattle.std.specs.Result.{IsErrAnd}
use Rattle.std.proofs.lemmas.Result.{err_from_is_err_and}
use Rattle.answers.specs.Told.{number_of, code_of}
use Rattle.answers.specs.declared.refusal.Refusal.{Refusal}
use Rattle.answers.specs.declared.refusal.Refusal.TheVariants.{Tangled}
use Rattle.answers.proofs.Answers.{number-some}
use Rattle.basis.specs.declared.found.Assemblies.{Assemblies}
use Rattle.basis.specs.declared.basis.Basis.{Basis}
use Rattle.basis.specs.Held.{rings_of, BasisOf, members_of, held_count, AssembliesOf}
use Rattle.basis.proofs.Holding.{SameRings, SameAssemblies, holds_same, assemblies-same, held_assemblies, members-length, members-size, picked_all}
use Rattle.combining.specs.Gibbs.{combined, found_at, found_in}
use Rattle.combining.proofs.Turns.{found-few}
use Rattle.combining.proofs.Exactly.{all_combined, all_combined_in, all_combined_lem}
use Rattle.choosing.specs.Elimination.{Spanned}
use Rattle.perception.specs.Perceiving.{sums_in, Accepted, Perceives}
use Rattle.perception.specs.declared.Perceived.{Perceived}

-- ---- too many of them

-- some of the first n assemblies, whose sets of basis rings are given, has too many
abbrev pub tangled_in : List ℕ → ℕ → Bool
tangled_in members n = some? n (λ a. ltb max_assembly (size (get_or members a 0)))

-- there are no more assemblies than bonds, and none has too many basis rings
pub record Small (members : List ℕ) (n : ℕ) : Type 0 where
  pub counted : n ≤ max_bonds
  pub small : (a : ℕ) → a < n → size (get_or members a 0) ≤ max_assembly

-- some of the first n assemblies has too many basis rings, or none has
tells_too_many : (members : List ℕ) (n : ℕ)
    → Tells (tangled_in members n) (Some n (λ a. max_assembly < size (get_or members a 0))) (Each n (λ a. size (get_or members a 0) ≤ max_assembly))
tells_too_many members n = tells_some (λ a. tells_ltb _ _) n

-- the test of the assemblies is that of the table
tangled_test : (M : Table) {s : Assemblies} → AssembliesOf (basis_rings M) s → tangled_in (members_of s) (held_count s) ≡ tangled? M
unfolding tangled?
tangled_test M {s} h =
    some_ext (held_count s) _ (λ a. ltb max_assembly (length (rings_in (basis_rings M) a))) (λ a l. ap (ltb max_assembly) (members-size h a l))
    ∙ ap (λ (n : ℕ). some? n (λ a. ltb max_assembly (length (rings_in (basis_rings M) a)))) h.count

-- ---- how many sums the assemblies have

-- the sums of assembly a that are not empty
abbrev sums_at : List ℕ → ℕ → ℕ
sums_at members a = 2 ^ size (get_or members a 0) - 1

-- one assembly more adds its own
pub sums_next : (members : List ℕ) (n : ℕ) → sums_in members (n + 1) ≡ sums_in members n + (2 ^ size (get_or members n 0) - 1)
sums_next members n = rw add-one (total-last n (sums_at members))

-- more of them have no fewer
pub sums_mono : (members : List ℕ) (a n : ℕ) → a ≤ n → sums_in members a ≤ sums_in members n
sums_mono members a n h =
    le_ind (λ m. sums_in members a ≤ sums_in members m) (omega arith) (λ m (l : a ≤ m) ih. omega (arith, total-last m (sums_at members))) n h

-- the first n have no more than as many of the largest
sums-few : (members : List ℕ) (n : ℕ) → ((a : ℕ) → a < n → size (get_or members a 0) ≤ max_assembly) → sums_in members n ≤ (2 ^ max_assembly - 1) * n
unfolding listed total
sums-few members zero small = omega arith
sums-few members (suc n) small =
    omega (arith, total-last n (sums_at members), sums-few members n (λ a l. small a (omega arith)), pow_mono (small n (omega arith)))

-- no assembly below a has too many basis rings, and n is how many sums these have
pub record Added (members : List ℕ) (m n a : ℕ) : Type 0 where
  pub within : a ≤ m
  pub small : Each a (λ b. size (get_or members b 0) ≤ max_assembly)
  pub sum : n ≡ sums_in members a

-- before the first
pub added_none : (members : List ℕ) (m : ℕ) → Added members m 0 0
unfolding listed total
added_none members m = record { within = omega arith; small = λ b l. absurd (omega arith); sum = refl }

module _ {members : List ℕ} {m n a k : ℕ} (d : Added members m n a) (l : a < m) (is : k ≡ size (get_or members a 0)) where
  -- the next has too many
  pub added_tangled : max_assembly < k → tangled_in members m ≡ true
  added_tangled h = true_of (tells_too_many members m) (a, l, omega (arith, is))

  module _ (few : k ≤ max_assembly) where
    -- 1 moved up by as many digits fits in a word
    moved : (1 * 2 ^ k) % 2 ^ 64 ≡ 2 ^ k
    moved = one_shl 64 k (omega arith)

    -- so many are the others, and the number is no more than a word holds
    pub added_fits : m ≤ max_bonds → n + ((1 * 2 ^ k) % 2 ^ 64 - 1) < 2 ^ 64
    added_fits counted = omega (arith, moved, pow_mono few, d.sum, sums-few members a d.small)

    -- they are added
    pub added_more : Added members m (n + ((1 * 2 ^ k) % 2 ^ 64 - 1)) (a + 1)
    added_more = record {
      within = omega arith;
      small = λ b h. by (ltb b a) (λ t. d.small b (ltb-true b a t)) (λ t. omega (arith, is, ap (λ (i : ℕ). size (get_or members i 0)) (at b h t)));
      sum = rw (moved, is) (omega (arith, d.sum, sums_next members a));
    }
      where
        at : (b : ℕ) → b < a + 1 → ltb b a ≡ false → b ≡ a
        at b h t = omega (arith, ltb-false b a t)

module _ {members : List ℕ} {m n a : ℕ} (d : Added members m n a) (h : m ≤ a) where
  -- none has too many
  pub added_untangled : tangled_in members m ≡ false
  added_untangled = false_of (tells_too_many members m) (λ b l. d.small b (omega arith))

  -- these are all sums
  pub added_all : n ≡ sums_in members m
  added_all = d.sum ∙ ap (sums_in members) (le_antisymm d.within h)

-- ---- what the combination finds in them

-- no more than they have sums that are not empty
pub all_found-few : (rings members : List ℕ) (n : ℕ) → length (found_in rings members n) ≤ sums_in members n
all_found-few rings members n =
    omega (
      arith,
      length-gather n (found_at rings members),
      total_share 1 1 n (λ a. length (found_at rings members a)) (sums_at members) (λ a l. omega (arith, found-few rings (get_or members a 0))),
    )

-- and no more than as many assemblies of the largest have
pub all_found-most : (rings members : List ℕ) (n : ℕ) → ((a : ℕ) → a < n → size (get_or members a 0) ≤ max_assembly)
    → length (found_in rings members n) ≤ (2 ^ max_assembly - 1) * n
all_found-most rings members n small = omega (arith, all_found-few rings members n, sums-few members n small)

-- ---- the answers

-- the table is refused, and that is passed on
pub perceives_refused : {M : Table} (r : Result Perceived Refusal) (e : Refusal) → BasisOf M (Err e) → IsErrAnd r (λ d. d ≡ e) → Perceives M r
perceives_refused {M} r e basis same =
    let p = err_from_is_err_and r same in
    let kept : number_of e ≡ refusal_of_rings M = basis.number ∙ sym (rings-kept M (λ z. absurd (omega (arith, basis.number, number-some e)))) in
    rw (p.1, p.2) (let told : Perceives M (Err e) = record { number = kept; worked = tt } in told)

module _ {M : Table} {b : Basis} {s : Assemblies} (basis : BasisOf M (Ok b)) (h : AssembliesOf (rings_of b) s)
  where
    -- the assemblies alone decide
    decided : {c : Bool} → tangled_in (members_of s) (held_count s) ≡ c → refusal_of_rings M ≡ cond c TANGLED 0
    decided e = rings-free M (sym basis.number) ∙ ap (λ c. cond c TANGLED 0) (sym (tangled_test M (held_assemblies basis.rings h)) ∙ e)

    -- an assembly has too many basis rings
    pub perceives_tangled : tangled_in (members_of s) (held_count s) ≡ true → Perceives M (Err Tangled)
    perceives_tangled q = record { number = sym (decided q); worked = tt }

    -- none has
    pub perceives_all : {n : ℕ} → tangled_in (members_of s) (held_count s) ≡ false → n ≡ sums_in (members_of s) (held_count s) → Perceives M (Ok (record { basis = b; assemblies = s; sums = n }))
    perceives_all q e = record {
      number = sym (decided q);
      worked = record { basis = basis.rings; assemblies = held_assemblies basis.rings h; sums = e };
    }

-- ---- one outcome only

-- two of which nothing differs
pub record Same (p q : Perceived) : Type 0 where
  pub basis : SameRings p.basis q.basis
  pub assemblies : SameAssemblies p.assemblies q.assemblies
  pub sums : p.sums ≡ q.sums

-- as many assemblies with the same sets have as many sums
sums_same : (s t : Assemblies) → SameAssemblies s t → sums_in (members_of s) (held_count s) ≡ sums_in (members_of t) (held_count t)
sums_same s t same = ap₂ sums_in same (sym (members-length s) ∙ ap length same ∙ members-length t)

-- what two calls work out of one table differs in nothing
pub perceives_same : {M : Table} {p : Result Perceived Refusal} {q : Result Perceived Refusal} → Perceives M p → Perceives M q
    → (code_of p ≡ code_of q) × IfOk p (λ a. IfOk q (Same a))
perceives_same {M = M} {p = Ok a} {q = Ok b} h k = (h.number ∙ sym k.number, both)
  where
    parts : SameAssemblies a.assemblies b.assemblies
    parts = assemblies-same h.worked.assemblies k.worked.assemblies

    both : Same a b
    both = record {
      basis = holds_same h.worked.basis k.worked.basis;
      assemblies = parts;
      sums = h.worked.sums ∙ sums_same a.assemblies b.assemblies parts ∙ sym k.worked.sums;
    }
perceives_same {M = M} {p = Ok a} {q = Err e} h k = (h.number ∙ sym k.number, tt)
perceives_same {M = M} {p = Err d} {q = q} h k = (h.number ∙ sym k.number, tt)

-- ---- what is worked out of an accepted table

module _ {M : Table} {p : Perceived} (seen : Perceives M (Ok p)) where
  -- nothing is refused
  pub unrefused : refusal_of_rings M ≡ 0
  unrefused = sym seen.number

  -- it is worked out
  pub perceived : Accepted M p
  perceived = seen.worked

  -- the table is valid
  pub perceived_valid : Valid M
  perceived_valid = (accepted M).0 ((rings-accepted M).0 unrefused).0

  -- the assemblies are small
  pub perceived_small : Small (members_of p.assemblies) (held_count p.assemblies)
  perceived_small = record {
    counted = perceived.assemblies.counted;
    small = (tells_too_many (members_of p.assemblies) (held_count p.assemblies)).no_says (tangled_test M perceived.assemblies ∙ ((rings-accepted M).0 unrefused).1);
  }

  -- what the combination finds in them
  abbrev found : List ℕ
  found = found_in (sets_in p.basis.rings) (members_of p.assemblies) (held_count p.assemblies)

  -- it finds in those of the basis rings of the table
  found_all : found ≡ all_combined (basis_rings M)
  unfolding all_combined
  found_all = picked_all perceived.basis perceived.assemblies combined

  -- in order it is all rings
  pub perceived_found : sort before (found_in (sets_in p.basis.rings) (members_of p.assemblies) (held_count p.assemblies)) ≡ all_rings M
  perceived_found = ap (sort before) found_all ∙ all_combined_lem perceived_valid

  -- each of it is a sum of the basis rings
  pub perceived_spanned : Spanned p.basis.count (found_in (sets_in p.basis.rings) (members_of p.assemblies) (held_count p.assemblies))
  perceived_spanned = (
    basis_rings M,
    sym perceived.basis.count,
    λ x i. (even-sums perceived_valid x).1 ((all_combined_in perceived_valid x).0 (subst (In x) found_all i)).even,
  )

  -- a list that is longer than they have sums which are not empty has room for the sums of each
  pub perceived_room : {n : ℕ} → p.sums < n → (a : ℕ) → a < held_count p.assemblies → 2 ^ size (get_or (members_of p.assemblies) a 0) ≤ n
  perceived_room h a l =
      let members = members_of p.assemblies in
      omega (arith, perceived.sums, sums_next members a, sums_mono members (a + 1) (held_count p.assemblies) (omega arith))

  -- they have no more sums than those of any table
  pub perceived_most : sums_in (members_of p.assemblies) (held_count p.assemblies) ≤ most_rings
  perceived_most =
      omega (
        arith,
        total_share max_assembly (2 ^ max_assembly - 1) (held_count p.assemblies) (sums_at members) (λ a. size (get_or members a 0))
            (λ a l. sums_share (size (get_or members a 0)) (perceived_small.small a l)),
        held,
        perceived.basis.count,
        perceived.basis.counted,
      )
    where
      members : List ℕ
      members = members_of p.assemblies

      held : total (listed (held_count p.assemblies) (λ a. true) (λ a. size (get_or members a 0))) ≡ length (basis_rings M)
      held =
          ap total (listed_ext (held_count p.assemblies) (λ a. true) (λ a. true) (λ a. size (get_or members a 0)) (λ a. length (rings_in (basis_rings M) a)) (λ a l. refl) (λ a l t. members-size perceived.assemblies a l))
          ∙ ap (λ n. total (listed n (λ a. true) (λ a. length (rings_in (basis_rings M) a)))) perceived.assemblies.count
          ∙ rings-total (basis_rings M)
