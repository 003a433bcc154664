-- Each set that is passed has another size, and that at which the search ends has it. Assumes nothing.
use Rattle.std.proofs.Common.{◌≡◌, ℕ, Bool, true, false, not, eqb, get_or, rules, arith, tests}
use Rattle.std.proofs.lemmas.Iterator.{first_from_Range}
use Rattle.sets.specs.Bits.{size}
use Rattle.sets.specs.Lists.{sets_in}
use Rattle.lookup.specs.Lookup.{start}
use Rattle.lookup.proofs.Laws.{ends_at}
use Rattle.lookup.proofs.run_start.Goals as goal

pub returns : goal.returns
unfolding start
returns c =
    let l = sets_in c.args.list.now in
    let other : ℕ → Bool = λ s. not (eqb (size s) c.args.size) in
    omega (
      arith,
      c.unwrap_or.ensures,
      ends_at other l 0 c.find.result c.sets_in-n.ensures (omega arith)
          (first_from_Range _ _ _ _ (λ (i : ℕ). other (get_or l i 0) ≡ false) (λ (i : ℕ). other (get_or l i 0) ≡ true) c.find.ensures.ran (λ x q k. grind (arith, tests)) (λ x q k. (search rules, grind (arith, tests)))),
    )
