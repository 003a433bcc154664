-- A `for` over the members of a set, which puts f of each over the start of a lent list of sets. Assumes nothing.
use mathlib.Core.Path.{◌≡◌, sym, ap, ◌∙◌}
use mathlib.Core.List.{List, [], ◌∷◌, ◌++◌, map}
use Prim.Native.Nat.{ℕ, ◌+◌, ◌≤◌, ◌<◌}
use native.Mathlib.Omega.{arith}
use lib.ListN.{length}
use Rattle.sets.specs.Bits.{has}
use Rattle.sets.specs.Lists.{sets_in, Put}
use Rattle.sets.specs.Rising.{rising}
use Rattle.sets.proofs.Lists.{sets-long}
use Rattle.sets.proofs.Upward.{Turn}
use Rattle.definitions.specs.Search.{listed}
use Rattle.definitions.specs.Answer.{over}
use Rattle.definitions.proofs.Over.{listed_rising, map_more, turn_fewer}
use Rattle.lent.specs.Appended.{Appended}
use Rattle.lent.proofs.Appending.{appended_none, appended_byte, appended_as, appended_more, appended_over}

-- f of the members xs of s below m is put, n of them
pub record Picking (m s : ℕ) (f : ℕ → ℕ) (lent out : List ℕ) (n : ℕ) (xs : List ℕ) : Type 0 where
  pub room : length (listed m (has s) f) ≤ length (sets_in lent)
  pub put : Appended (sets_in lent) 0 (map f xs) (sets_in out) n

-- before the first member
pub picking_none : (m s : ℕ) (f : ℕ → ℕ) (lent : List ℕ) → length (listed m (has s) f) ≤ length (sets_in lent) → Picking m s f lent lent 0 []
picking_none m s f lent room = record { room = room; put = appended_none (sets_in lent) 0 }

module _ {m s : ℕ} {f : ℕ → ℕ} {lent out : List ℕ} {n : ℕ} {xs : List ℕ} (p : Picking m s f lent out n xs) where
  -- a member has a place in the list
  pub picking_room : {k : ℕ} → length out ≡ length lent → Turn m s xs k → n < length (sets_in out)
  picking_room long t = omega (arith, p.put.end, p.room, turn_fewer f t, sets-long out lent long)

  -- one member more
  pub picking_more : {k x : ℕ} {out' : List ℕ} → length out ≡ length lent → Turn m s xs k → x ≡ f k → Put out n x out' → Picking m s f lent out' (n + 1) (xs ++ (k ∷ []))
  picking_more {k} {x} {out'} long t e w = record {
    room = p.room;
    put = appended_as (sym (map_more f xs k)) (appended_more (omega arith) p.put last);
  }
    where
      last : Appended (sets_in out) n (f k ∷ []) (sets_in out') (n + 1)
      last = rw (w.sets, e) (appended_byte (sets_in out) n (f k) (picking_room long t))

  -- after the last member
  pub picking_all : xs ≡ rising m s → (n ≡ length (listed m (has s) f)) × (sets_in out ≡ over (listed m (has s) f) (sets_in lent))
  picking_all h =
      let all : map f xs ≡ listed m (has s) f = ap (map f) h ∙ sym (listed_rising f m s) in
      (p.put.end ∙ omega (arith, ap length all), appended_over (appended_as all p.put))
