-- Each set that is passed has that size, and that at which the search ends has another. Assumes nothing.
use Rattle.std.proofs.Common.{◌≡◌, ℕ, Bool, true, false, eqb, get_or, rules, arith, tests}
use Rattle.std.proofs.lemmas.Iterator.{first_from_Range}
use Rattle.sets.specs.Bits.{size}
use Rattle.sets.specs.Lists.{sets_in}
use Rattle.lookup.specs.Lookup.{run}
use Rattle.lookup.proofs.Laws.{ends_at}
use Rattle.lookup.proofs.run_end.Goals as goal

pub returns : goal.returns
unfolding run
returns c =
    let l = sets_in c.args.list.now in
    let same : ℕ → Bool = λ s. eqb (size s) c.args.size in
    omega (
      arith,
      c.unwrap_or.ensures,
      ends_at same l c.args.start c.find.result c.sets_in-n.ensures (omega (arith, c.sets_in-n.ensures, c.requires))
          (first_from_Range _ _ _ _ (λ (i : ℕ). same (get_or l i 0) ≡ false) (λ (i : ℕ). same (get_or l i 0) ≡ true) c.find.ensures.ran (λ x q k. grind (arith, tests)) (λ x q k. (search rules, grind (arith, tests)))),
    )
