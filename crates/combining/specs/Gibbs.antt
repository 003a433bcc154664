-- Gibbs' combination of a list of basis rings (000): each basis ring in turn is summed with the sums of those before it, the old sets, and
-- of these sums, its group, those are kept inside which no ring lies that is found already. Assumes nothing.
use Rattle.std.specs.Prelude.{◌≡◌, Bool, not, List, [], ◌∷◌, ◌++◌, map, ℕ, ◌+◌, length, get_or, take}
use Rattle.std.specs.Int.Bits.{bit_xor}
use Rattle.sets.specs.Bits.{sub}
use Rattle.definitions.specs.Search.{every, gather, keep, picked}

-- the group of a basis ring: its sums with the old sets
abbrev pub group : ℕ → List ℕ → List ℕ
group ring olds = map (bit_xor ring) olds

-- no set of a list lies inside s
unfoldable pub clear? : List ℕ → ℕ → Bool
clear? found s = every (length found) (λ j. not (sub (get_or found j 0) s))

-- the sums of a list inside which no ring lies that is found already
abbrev pub rings_among : List ℕ → List ℕ → List ℕ
rings_among found sums = keep (clear? found) sums

-- the rings that are found more, group after group, where those of the groups before are given
unfoldable pub rings_from : List ℕ → List ℕ → List ℕ → List ℕ
rings_from olds found [] = []
rings_from olds found (r ∷ rs) =
    let new = rings_among found (group r olds) in
    new ++ rings_from (olds ++ group r olds) (found ++ new) rs

-- what the combination finds
abbrev pub combined : List ℕ → List ℕ
combined rs = rings_from (0 ∷ []) [] rs

-- what it finds in assembly a, where the sets of basis rings are given
abbrev pub found_at : List ℕ → List ℕ → ℕ → List ℕ
found_at rings members a = combined (picked rings (get_or members a 0))

-- what it finds in the first n assemblies, one after another
abbrev pub found_in : List ℕ → List ℕ → ℕ → List ℕ
found_in rings members n = gather n (found_at rings members)

-- the old sets of a list are followed by the group of a basis ring
pub record Doubled (start : List ℕ) (half ring : ℕ) (sums : List ℕ) : Type 0 where
  pub long : length sums ≡ length start
  pub list : take (half + half) sums ≡ take half start ++ group ring (take half start)
