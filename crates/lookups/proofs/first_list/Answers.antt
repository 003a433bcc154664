-- A list is whole where it has no more words than come after their number. Assumes nothing.
use mathlib.Core.Path.{◌≡◌, refl, sym, ap, ◌∙◌}
use mathlib.Core.Bool.{Bool, true, false}
use mathlib.Core.List.{List}
use Prim.Native.Nat.{ℕ, suc, ◌≤◌}
use native.Mathlib.Omega.{arith}
use lib.Dec.{ltb}
use lib.ListN.{length, get_or}
use borrow.Author.Tests.{lt-ltb, ltb-true}
use Rattle.std.specs.Prelude.{Option, Some, None, IsSome, is_some, ◌↔◌}
use Rattle.lookups.proofs.first_list.Goals as goal

-- so many of the m words after the number, where there are n in all
enough : {T : Type 0} (r : Option T) (a m n : ℕ) → (IsSome r ↔ (a ≤ m)) → n ≡ suc m → is_some r ≡ ltb a n
enough None a m n v e = go (ltb a n) refl
  where
    go : (b : Bool) → ltb a n ≡ b → false ≡ ltb a n
    go true t = let few : a ≤ m = omega (arith, ltb-true a n t) in cc (v.1 few)
    go false t = sym t
enough (Some x) a m n v e = let few : a ≤ m = v.0 refl in sym (lt-ltb a n (omega arith))

pub returns-clause-whole : goal.returns-clause-whole
returns-clause-whole c =
    let first = c.in_ok-count.ensures.cases.0 in
    enough c.split_at_checked.result _ _ _ c.split_at_checked.ensures.variant (omega (arith, ap length first))
    ∙ ap (λ (l : List ℕ). ltb (get_or l 0 0) (length c.args.words.now)) (sym first)
