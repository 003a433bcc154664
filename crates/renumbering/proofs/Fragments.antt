-- Renumbered tables have as many fragments, since paths are carried to paths. Assumes nothing.
use mathlib.Core.Path.{◌≡◌, refl, sym, ap, ◌∙◌}
use mathlib.Core.Bool.{true}
use mathlib.Core.List.Memᴰ
use mathlib.Core.List.{List, map}
use Prim.Native.Nat.{ℕ, ◌<◌}
use lib.ListN.{length-map}
use Rattle.definitions.specs.Table.{Table}
use Rattle.definitions.specs.Basis.{Path, Path.stay, Path.go}
use Rattle.definitions.specs.Fragment.{OneFragment, fragment_count}
use Rattle.definitions.specs.Label.{frerejacque}
use Rattle.definitions.proofs.Lists.{fresh_map}
use Rattle.definitions.proofs.Refusals.{Valid}
use Rattle.definitions.proofs.Paths.{way_step}
use Rattle.definitions.proofs.Fragments.{OneOfEach, firsts, first_of-each, fragments-counted}
use Rattle.renumbering.specs.Renumbered.{Renumbered, InRange}
use Rattle.renumbering.proofs.Images.{renames_one}
use Rattle.renumbering.proofs.Tables.{same-bonds, joins_carried, renumbered_back}
use Rattle.renumbering.proofs.Assemblies.{valid_carried}

-- a path is carried to a path between the new numbers of its ends
path_carried : {M N : Table} (r : Renumbered M N) {a b s : ℕ} → Path M (λ j. true) a b s → OneFragment N (r.atom a) (r.atom b)
path_carried r stay = (0, stay)
path_carried r (go {j = j} l e n w rest) =
    way_step (rw (same-bonds r) at (r.bonds_renamed.forth j l)) refl (joins_carried r l w) (path_carried r rest)

-- of a list with one atom of each fragment the new numbers are one of each too
one_of_each_carried : {M N : Table} (r : Renumbered M N) → InRange M → {l : List ℕ} → OneOfEach M l → OneOfEach N (map r.atom l)
unfolding renumbered_back
one_of_each_carried {M} {N} r inside {l} o = record {
  fresh = fresh_map r.atom o.fresh (λ a b i j. renames_one r.atoms_renamed a b (o.atoms a i) (o.atoms b j));
  atoms = λ x i. let (a, k, e) = Memᴰ.of_map r.atom l i in rw (← e, ← r.atoms) (r.atoms_renamed.forth a (o.atoms a k));
  each = λ x h.
      let old : x < M.atoms = rw r.atoms h in
      let (b, k, path) = o.each (r.atom⁻¹ x) (r.atoms_renamed.back x old) in
      (r.atom b, Memᴰ.map r.atom k, rw (r.atoms_renamed.redone x old) at (path_carried r path.1));
  one = λ x y i j path.
      let (a, k, e) = Memᴰ.of_map r.atom l i in
      let (b, m, f) = Memᴰ.of_map r.atom l j in
      let back = path_carried (renumbered_back r inside) (rw (← e, ← f) at path.1) in
      sym e ∙ ap r.atom (o.one a b k m (rw (r.atoms_renamed.undone a (o.atoms a k), r.atoms_renamed.undone b (o.atoms b m)) at back)) ∙ f;
}

module _ {M N : Table} (r : Renumbered M N) (v : Valid M) where
  -- there are as many fragments
  pub fragments_of_renumbered : fragment_count M ≡ fragment_count N
  fragments_of_renumbered =
      sym (fragments-counted v (firsts M) (first_of-each v)) ∙ sym (length-map (firsts M) r.atom)
      ∙ fragments-counted (valid_carried r v) _ (one_of_each_carried r v.inside (first_of-each v))

  -- so the Frerejacque numbers agree
  pub frerejacque_of_renumbered : frerejacque M ≡ frerejacque N
  unfolding frerejacque
  frerejacque_of_renumbered = rw (same-bonds r, fragments_of_renumbered, r.atoms)
