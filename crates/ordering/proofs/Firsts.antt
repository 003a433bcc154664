-- The first n sets of a list, which code lends as the part that has their words. Assumes nothing.
use mathlib.Core.Path.{◌≡◌, sym, ap, ◌∙◌}
use mathlib.Core.List.{List}
use Prim.Native.Nat.{ℕ, ◌*◌, ◌≤◌}
use native.Mathlib.Omega.{arith}
use lib.ListN.{length, take}
use lib.Seq.{length-take-le}
use Rattle.sets.specs.Lists.{sets_in, words}
use Rattle.sets.proofs.Lists.{sets-room, sets-take, words_are}
use Rattle.definitions.specs.Search.{sort}
use Rattle.definitions.specs.AllRings.{before}

module _ (n : ℕ) (ws : List ℕ) (few : n ≤ length (sets_in ws)) where
  -- the part has these sets
  pub firsts : sets_in (take (n * words) ws) ≡ take n (sets_in ws)
  firsts = ap (λ m. sets_in (take m ws)) (sym (words_are n)) ∙ sets-take n ws few

  -- and no more
  pub firsts_long : length (sets_in (take (n * words) ws)) ≡ n
  firsts_long = ap length firsts ∙ length-take-le n (sets_in ws) few

  -- its words are there
  pub firsts_room : n * words ≤ length ws
  firsts_room = omega (arith, words_are n, sets-room n ws few)

  pub firsts_words : n * words ≡ length (take (n * words) ws)
  firsts_words = sym (length-take-le (n * words) ws firsts_room)

  -- put in order over the start of another list, they are the first n of that one
  pub firsts_ordered : (sets : List ℕ) → take (length (sets_in (take (n * words) ws))) sets ≡ sort before (sets_in (take (n * words) ws))
      → take n sets ≡ sort before (take n (sets_in ws))
  firsts_ordered sets e = ap (λ k. take k sets) (sym firsts_long) ∙ e ∙ ap (sort before) firsts
