-- A refusal is passed on; else the sets that are written are the reduced basis. Assumes nothing.
use mathlib.Core.Path.{◌≡◌, ap, ◌∙◌}
use mathlib.Core.List.{List}
use Prim.Native.Nat.{ℕ}
use native.Mathlib.Omega.{arith}
use lib.ListN.{length}
use borrow.Author.Rules.{rules}
use Rattle.sets.specs.Lists.{words_of}
use Rattle.sets.proofs.Lists.{sets-take, sets-length}
use Rattle.definitions.specs.Label.{bytes_of_all, field, sidecar_tag, set_bytes, sidecar_of}
use Rattle.answers.proofs.Answers.{passed, is_refused, is_accepted}
use Rattle.reduced.proofs.Reducing.{reduces_room, reduces_sets}
use Rattle.sidecar.proofs.sidecar.Goals as goal

pub returns-in_err-found-clause-answer : goal.returns-in_err-found-clause-answer
returns-in_err-found-clause-answer c = passed _ _ _ c.from_residual.ensures.1 ∙ is_refused _ _ _ c.in_err-found.ensures.number

pub shared_ref_as_front-write_sidecar : goal.shared_ref_as_front-write_sidecar
shared_ref_as_front-write_sidecar c =
    let sets : List ℕ = c.in_ok-found.found.sets in
    let long : length sets ≡ 64 = search rules in
    omega (arith, reduces_room c.in_ok-found.ensures, sets-length sets)

pub returns-clause-answer : goal.returns-clause-answer
unfolding sidecar_of words_of
returns-clause-answer c =
    let found = c.in_ok-found.ensures in
    let sets = sets-take _ _ (reduces_room found) ∙ reduces_sets found in
    is_accepted _ _ found.number (ap (λ (l : List ℕ). field sidecar_tag (bytes_of_all set_bytes l)) sets) c.write_sidecar.ensures
