-- A list of sets as a flat list of words: each set takes `words` of them, low one first. Assumes nothing.
use Rattle.std.specs.Prelude.{List, [], ◌∷◌, ◌++◌, ◌≡◌, ℕ, zero, suc, ◌+◌, ◌*◌, ◌/◌, ◌%◌, ◌^◌, length, take, drop, set}

-- how many words a set takes
abbrev pub words : ℕ
words = 1

-- the number whose digits of 64 bits are these words, low one first
unfoldable pub value_of : List ℕ → ℕ
value_of [] = 0
value_of (w ∷ ws) = value_of ws * 2 ^ 64 + w

-- the first k groups of n words, each as its number
unfoldable pub groups : ℕ → ℕ → List ℕ → List ℕ
groups n zero ws = []
groups n (suc k) ws = value_of (take n ws) ∷ groups n k (drop n ws)

-- the sets in a list of words; words at the end that are too few for a set are passed over
unfoldable pub sets_in : List ℕ → List ℕ
sets_in ws = groups words (length ws / words) ws

-- how many words k sets take
unfoldable pub words_of : ℕ → ℕ
words_of k = k * words

-- the n lowest words of a number, low one first
unfoldable pub spread : ℕ → ℕ → List ℕ
spread zero s = []
spread (suc n) s = s % 2 ^ 64 ∷ spread n (s / 2 ^ 64)

-- each number of a list in n words
unfoldable pub spread_all : ℕ → List ℕ → List ℕ
spread_all n [] = []
spread_all n (s ∷ l) = spread n s ++ spread_all n l

-- the words of a list of sets, one set after another
unfoldable pub in_words : List ℕ → List ℕ
in_words l = spread_all words l

-- `after` is `before` with the set s put at place i: as sets, and word by word
pub record Put (before : List ℕ) (i s : ℕ) (after : List ℕ) : Type 0 where
  pub sets : sets_in after ≡ set (sets_in before) i s
  pub long : length after ≡ length before
  pub list : after ≡ take (words_of i) before ++ (in_words (s ∷ []) ++ drop (words_of (suc i)) before)
