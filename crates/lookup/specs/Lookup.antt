-- The size lookup: which part of which of two lists of sets it hands back. Assumes nothing.
use Rattle.std.specs.Prelude.{Bool, cond, List, ℕ, ◌+◌, ◌*◌, eqb, ltb, length, take, drop}
use Rattle.std.specs.List.{position_or_len, prefix_len}
use Rattle.std.specs.Borrow.{Bor}
use Rattle.sets.specs.Bits.{size}
use Rattle.sets.specs.Lists.{sets_in, words_of}

-- where the first set with n bonds stands, by the number of sets before it; at the end where no set has n bonds
unfoldable pub start : ℕ → List ℕ → ℕ
start n l = position_or_len (λ s. eqb (size s) n) l

-- some set of the list has n bonds
abbrev pub some? : ℕ → List ℕ → Bool
some? n l = ltb (start n l) (length l)

-- for how many sets from the front on the size is n
unfoldable pub run : ℕ → List ℕ → ℕ
run n l = prefix_len (λ s. eqb (size s) n) l

-- a lent list: where it lies, as a block of memory and an offset in bytes, and its words
pub record Lent : Type 0 where
  pub place : ℕ × ℕ
  pub words : List ℕ

-- what a reference lends: where it points and what it finds there, which is all that it is
abbrev pub lent : Bor (List ℕ) → Lent
lent r = record { place = r.ref_ptr; words = r.now }

-- the sets of a lent list
abbrev pub sets : Lent → List ℕ
sets l = sets_in l.words

-- the part of a lent list that begins `from` sets behind its start and is `count` sets long; a word has 8 bytes
abbrev pub part : Lent → ℕ → ℕ → Lent
part l from count = record { place = (l.place.0, words_of from * 8 + l.place.1); words = take (words_of count) (drop (words_of from) l.words) }

-- the first sets in a row of one list that have n bonds, up to the next set with another number
abbrev pub found : ℕ → Lent → Lent
found n l = part l (start n (sets l)) (run n (drop (start n (sets l)) (sets l)))

-- what is found in the first list; where no set of it has n bonds, what is found in the second; where none of that has n either, no sets, at
-- the place where the first list begins
unfoldable pub of_size : ℕ → Lent → Lent → Lent
of_size n first second = cond (some? n (sets first)) (found n first) (cond (some? n (sets second)) (found n second) (part first 0 0))
