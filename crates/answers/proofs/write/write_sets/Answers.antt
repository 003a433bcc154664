-- The words of the first sets are the first words of the list. Assumes nothing.
use mathlib.Core.Path.{◌≡◌, refl, sym, ap, ap₂, ◌∙◌}
use native.Mathlib.Omega.{arith}
use lib.ListN.{length, take, drop, length-take}
use lib.Seq.{length-take-le}
use Rattle.std.proofs.Common.{List, ℕ, ◌++◌, ◌*◌, ◌≤◌}
use Rattle.sets.specs.Lists.{sets_in, in_words, words_of}
use Rattle.sets.proofs.Lists.{in_words-take, in_words-length, take_min, sets-room, sets_lack, words_are}
use Rattle.definitions.specs.Answer.{over}
use Rattle.answers.proofs.Answers.{sets_short, sets_full}
use Rattle.answers.proofs.write.write_sets.Goals as goal
use Rattle.answers.proofs.write.write_sets.Goals.{After-sets_up_to-wanted, Else-sets_in-wanted}

-- as many are wanted as there are of the first
counted : (c : After-sets_up_to-wanted) → c.sets_up_to-wanted.result ≡ length (take c.args.count (sets_in c.args.sets.now))
counted c = c.sets_up_to-wanted.ensures ∙ sym (length-take c.args.count (sets_in c.args.sets.now))

-- both lists have their words
read : (c : Else-sets_in-wanted) → c.sets_up_to-wanted.result * 1 ≤ length c.args.sets.now
read c = omega (arith, words_are c.sets_up_to-wanted.result, sets-room c.sets_up_to-wanted.result c.args.sets.now (omega (arith, c.sets_up_to-wanted.ensures)))

room : (c : Else-sets_in-wanted) → c.sets_up_to-wanted.result * 1 ≤ length c.args.out.now
room c = omega (arith, words_are c.sets_up_to-wanted.result, sets-room c.sets_up_to-wanted.result c.args.out.now (omega arith))

pub returns-then-sets_in-wanted : goal.returns-then-sets_in-wanted
returns-then-sets_in-wanted c =
    sets_short _ _ refl (counted (goal.at.returns-then-sets_in-wanted c).After-sets_up_to-wanted)
    (sets_lack c.sets_up_to-wanted.result c.args.out.now (omega arith))

pub slice_bounds-copy_from_slice-end : goal.slice_bounds-copy_from_slice-end
slice_bounds-copy_from_slice-end c = room c

pub slice_bounds-copy_from_slice-end-2 : goal.slice_bounds-copy_from_slice-end-2
slice_bounds-copy_from_slice-end-2 c = sym (length-take-le _ _ (room (goal.at.slice_bounds-copy_from_slice-end-2 c).Else-sets_in-wanted))

pub slice_bounds-copy_from_slice-end-3 : goal.slice_bounds-copy_from_slice-end-3
slice_bounds-copy_from_slice-end-3 c = sym (length-take-le _ _ (read (goal.at.slice_bounds-copy_from_slice-end-3 c).Else-sets_in-wanted))

pub copy_from_slice-requires : goal.copy_from_slice-requires
copy_from_slice-requires c = let p = (goal.at.copy_from_slice-requires c).Else-sets_in-wanted in length-take-le _ _ (room p) ∙ sym (length-take-le _ _ (read p))

pub returns : goal.returns
unfolding over
returns c =
    let n = c.sets_up_to-wanted.result in
    let sets = c.args.sets.now in
    let first = ap (λ (k : ℕ). take k (sets_in sets)) c.sets_up_to-wanted.ensures ∙ take_min c.args.count (sets_in sets) in
    let spelt = ap (λ (m : ℕ). take m sets) (sym (words_are n)) ∙ sym (in_words-take n sets (λ i. omega (arith, c.type_inv.sets i)) (omega (arith, c.sets_up_to-wanted.ensures))) ∙ ap in_words first in
    let long : n * 1 ≡ length (in_words (take c.args.count (sets_in sets))) =
    sym (words_are n) ∙ ap words_of (counted (goal.at.returns c).After-sets_up_to-wanted) ∙ sym (in_words-length _) in
    sets_full _ _ refl (counted (goal.at.returns c).After-sets_up_to-wanted) (omega (arith, words_are n, room (goal.at.returns c).Else-sets_in-wanted))
    (ap₂ (λ (words : List ℕ) (m : ℕ). words ++ drop m c.args.out.now) (c.copy_from_slice.ensures.after ∙ spelt) long)
