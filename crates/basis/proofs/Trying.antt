-- The bonds tried in order: what holds of the fragments, of the ways and of the rings after each. Assumes nothing.
use mathlib.Core.Path.{◌≡◌, sym, ap, ◌∙◌}
use mathlib.Core.Bool.{false}
use mathlib.Core.List.{List}
use Prim.Native.Nat.{ℕ, ◌+◌, ◌≤◌, ◌<◌, min, max}
use native.Mathlib.Nat.{le_antisymm}
use native.Mathlib.Omega.{arith}
use borrow.Author.Tests.{eqb-true, eqb-false, eq-eqb, ne_eqb, ltb-true, ltb-false}
use lib.Bits.{bit_xor}
use lib.Dec.{eqb, ltb}
use lib.ListN.{length, get_or, take, set, replicate, length-set, length-replicate}
use lib.Seq.{get_or-set_same, get_or-set_other}
use Rattle.sets.specs.Bits.{put}
use Rattle.sets.specs.Bond.{room}
use Rattle.sets.specs.Lists.{sets_in}
use Rattle.definitions.specs.Search.{listed}
use Rattle.definitions.specs.Table.{Table, bonds, tail, head, max_atoms, max_bonds}
use Rattle.definitions.specs.Basis.{fragments, closure?, basis_ring, basis_rings}
use Rattle.definitions.proofs.Tests.{by}
use Rattle.definitions.proofs.Lists.{get_or-same}
use Rattle.definitions.proofs.Classes.{merged, merged_same}
use Rattle.definitions.proofs.Paths.{fragments_more}
use Rattle.definitions.proofs.Refusals.{Valid}
use Rattle.basis.specs.Climbing.{Climbed, Climbs}
use Rattle.basis.specs.Climbing.Climbed.{start, on}
use Rattle.basis.specs.Held.{Holds}
use Rattle.basis.proofs.Leading.{Leads, leads-same, own_leads, climbed_low, climbs_number, settled_last, settled_leads, joined_leads}
use Rattle.basis.proofs.Ways.{Between, between_none, between_turn, between-sum, between_more, round_between, round_ring}
use Rattle.basis.proofs.Collecting.{Collected, collected_none, collected_skip, collected_take, collected_count}

-- for each atom there is a way to the atom that it leads to
abbrev pub Ways : Table → ℕ → List ℕ → List ℕ → Type 0
Ways M k lower ways = (a : ℕ) → a < M.atoms → Between M k a (get_or lower a 0) (get_or ways a 0)

-- so a climb from it sums to a way
climbed-way : {M : Table} {k : ℕ} {lower ways : List ℕ} {atom a w : ℕ} → Ways M k lower ways → atom < M.atoms → Climbed lower ways atom a w → Between M k atom a w
climbed-way {M} {k} {atom = atom} s l start = between_none M k atom
climbed-way s l (on {a = a} c h) = between-sum (climbed-way s l c) (s a (omega (arith, climbed_low c)))

-- the bonds below k are tried: `lower` leads by them, `ways` are made of them, and the rings of the closure bonds among them are found
pub record Tried (M : Table) (lower ways rings : List ℕ) (n k : ℕ) : Type 0 where
  pub within : k ≤ bonds M
  pub atoms : length lower ≡ max_atoms
  pub places : length ways ≡ max_atoms
  pub leads : Leads M.atoms lower (fragments M k)
  pub known : Ways M k lower ways
  pub found : Collected (closure? M) (basis_ring M) rings n k

-- before the first bond each atom leads to itself
pub tried_none : (M : Table) (lower : List ℕ) {ways rings : List ℕ} → length lower ≡ max_atoms → ((a : ℕ) → a < M.atoms → get_or lower a 0 ≡ a)
    → ways ≡ replicate max_atoms 0 → rings ≡ replicate max_bonds 0 → Tried M lower ways rings 0 0
tried_none M lower e own ew er = rw (ew, er) (record {
  within = omega arith;
  atoms = e;
  places = length-replicate {A = ℕ} max_atoms 0;
  leads = own_leads M lower own;
  known = λ a h. rw (own a h, get_or-same {A = ℕ} max_atoms a 0) (between_none M 0 a);
  found = collected_none (closure? M) (basis_ring M) (length-replicate {A = ℕ} max_bonds 0) (λ i. get_or-same max_bonds i 0);
})

-- from atom a a climb came to x, the first of its fragment, by a way
pub record Reached (M : Table) (lower : List ℕ) (k a x w : ℕ) : Type 0 where
  pub low : x ≤ a
  pub number : x ≡ get_or (fragments M k) a 0
  pub last : get_or lower x 0 ≡ x
  pub way : Between M k a x w

module _ {M : Table} {lower ways rings : List ℕ} {n k : ℕ} (t : Tried M lower ways rings n k) where
  pub climbs_reached : {a x w : ℕ} → a < M.atoms → Climbs lower ways a x w → Reached M lower k a x w
  climbs_reached l c = record { low = climbed_low c.climbed; number = climbs_number t.leads l c; last = c.last; way = climbed-way t.known l c.climbed }

  -- the atom may lead straight there
  module _ (valid : Valid M) {a x w : ℕ} (l : a < M.atoms) (r : Reached M lower k a x w) where
    below : (a < length lower) × (a < length ways)
    below = omega (arith, t.atoms, t.places, valid.few-atoms)

    settled : Tried M (set lower a x) (set ways a w) rings n k
    settled = record {
      within = t.within;
      atoms = simp length-set t.atoms;
      places = simp length-set t.places;
      leads = settled_leads t.leads below.0 (omega (arith, r.low)) r.last r.number;
      known = λ i h. by (eqb i a) (λ z. own i (eqb-true i a z)) (λ z. other i h (eqb-false i a z));
      found = t.found;
    }
      where
        own : (i : ℕ) → i ≡ a → Between M k i (get_or (set lower a x) i 0) (get_or (set ways a w) i 0)
        own i z = rw (z, get_or-set_same lower a x 0 below.0, get_or-set_same ways a w 0 below.1) r.way

        other : (i : ℕ) → i < M.atoms → (i ≡ a → ⊥) → Between M k i (get_or (set lower a x) i 0) (get_or (set ways a w) i 0)
        other i h z = rw (get_or-set_other lower a i x 0 z, get_or-set_other ways a i w 0 z) (t.known i h)

    -- what was reached stays so
    stays : (b y v : ℕ) → b < M.atoms → Reached M lower k b y v → Reached M (set lower a x) k b y v
    stays b y v m q = record {
      low = q.low;
      number = q.number;
      last = settled_last t.leads below.0 (omega (arith, r.low)) r.last r.number y (omega (arith, q.low)) q.last;
      way = q.way;
    }

    pub tried_settled : {lower' ways' : List ℕ} → lower' ≡ set lower a x → ways' ≡ set ways a w
        → Tried M lower' ways' rings n k × ((b y v : ℕ) → b < M.atoms → Reached M lower k b y v → Reached M lower' k b y v)
    tried_settled el ew = rw (el, ew) (settled, stays)

-- ---- one bond more, where climbs from its ends came to x and to y

module _ {M : Table} {lower ways rings : List ℕ} {n k : ℕ} (t : Tried M lower ways rings n k) (valid : Valid M) (l : k < bonds M)
    {a b x y v w u r : ℕ} (ea : a ≡ tail M k) (eb : b ≡ head M k) (cx : Reached M lower k a x v) (cy : Reached M lower k b y w)
    (es : u ≡ bit_xor v w) (er : r ≡ put room u k) where
  -- they are atoms of the table
  low : (x < M.atoms) × (y < M.atoms)
  low = omega (arith, cx.low, cy.low, valid.inside k l)

  -- the numbers of the ends
  tail-number : x ≡ get_or (fragments M k) (tail M k) 0
  tail-number = cx.number ∙ ap (λ (i : ℕ). get_or (fragments M k) i 0) ea

  head-number : y ≡ get_or (fragments M k) (head M k) 0
  head-number = cy.number ∙ ap (λ (i : ℕ). get_or (fragments M k) i 0) eb

  -- it is a closure bond where they are one
  closes : eqb x y ≡ closure? M k
  unfolding closure?
  closes = rw (← tail-number, ← head-number)

  -- the bond with the ways there
  whole : r ≡ put room (bit_xor v w) k
  whole = er ∙ ap (λ (s : ℕ). put room s k) es

  tail-way : Between M k (tail M k) x v
  tail-way = rw ea at cx.way

  head-way : Between M k (head M k) y w
  head-way = rw eb at cy.way

  -- the fragments after it
  next : (i : ℕ) → get_or (fragments M (k + 1)) i 0 ≡ merged x y (get_or (fragments M k) i 0)
  next i = fragments_more M k i ∙ rw (← tail-number, ← head-number)

  -- a bond within one fragment is a closure bond, and gives its basis ring
  tried_ring : x ≡ y → Tried M lower ways (set rings n r) (n + 1) (k + 1)
  tried_ring same = record {
    within = omega arith;
    atoms = t.atoms;
    places = t.places;
    leads = leads-same (fragments M (k + 1)) t.leads (λ i. next i ∙ merged_same x y _ same);
    known = λ i h. between_more (t.known i h);
    found = collected_take t.found (omega (arith, valid.few-bonds)) (sym closes ∙ eq-eqb x y same) (round_ring valid l tail-way head-way whole same);
  }

  -- a bond between two fragments makes them one
  tried_join : (x ≡ y → ⊥) → Tried M (set lower (max x y) (min x y)) (set ways (max x y) r) rings n (k + 1)
  tried_join apart = record {
    within = omega arith;
    atoms = simp length-set t.atoms;
    places = simp length-set t.places;
    leads = joined_leads lower x y (omega (arith, below)) t.leads low.0 low.1 cx.last cy.last (fragments M (k + 1)) next;
    known = λ i h. by (eqb i (max x y)) (λ z. own i (eqb-true i (max x y) z)) (λ z. other i h (eqb-false i (max x y) z));
    found = collected_skip t.found two;
  }
    where
      two : closure? M k ≡ false
      two = sym closes ∙ ne_eqb x y apart

      below : (max x y < length lower) × (max x y < length ways)
      below = omega (arith, low, t.atoms, t.places, valid.few-atoms)

      -- the way between the first atoms
      across : Between M (k + 1) (max x y) (min x y) r
      across =
          by (ltb x y)
          (λ z. ends (omega (arith, ltb-true x y z)) (omega (arith, ltb-true x y z)) (between_turn there))
          (λ z. ends (omega (arith, ltb-false x y z)) (omega (arith, ltb-false x y z)) there)
        where
          there : Between M (k + 1) x y r
          there = round_between valid l tail-way head-way whole two

          ends : {p q : ℕ} → p ≡ max x y → q ≡ min x y → Between M (k + 1) p q r → Between M (k + 1) (max x y) (min x y) r
          ends i j way = rw (i, j) at way

      own : (i : ℕ) → i ≡ max x y → Between M (k + 1) i (get_or (set lower (max x y) (min x y)) i 0) (get_or (set ways (max x y) r) i 0)
      own i z = rw (z, get_or-set_same lower (max x y) (min x y) 0 (omega (arith, below)), get_or-set_same ways (max x y) r 0 (omega (arith, below))) across

      other : (i : ℕ) → i < M.atoms → (i ≡ max x y → ⊥) → Between M (k + 1) i (get_or (set lower (max x y) (min x y)) i 0) (get_or (set ways (max x y) r) i 0)
      other i h z = rw (get_or-set_other lower (max x y) i (min x y) 0 z, get_or-set_other ways (max x y) i r 0 z) (between_more (t.known i h))

  -- so the turn ends in one of two ways
  pub tried_turn : (x ≡ y → Tried M lower ways (set rings n r) (n + 1) (k + 1))
      × ((x ≡ y → ⊥) → Tried M (set lower (max x y) (min x y)) (set ways (max x y) r) rings n (k + 1))
  tried_turn = (tried_ring, tried_join)

-- after the last bond the rings are the basis rings
pub tried_all : {M : Table} {lower ways rings : List ℕ} {n k : ℕ} → Valid M → Tried M lower ways (sets_in rings) n k → bonds M ≤ k
    → Holds M (record { rings = rings; count = n })
unfolding basis_rings
tried_all {M} {rings = rings} {n = n} valid t h =
    let whole : take n (sets_in rings) ≡ listed (bonds M) (closure? M) (basis_ring M) = t.found.list ∙ ap (λ (i : ℕ). listed i (closure? M) (basis_ring M)) (le_antisymm t.within h) in
    record {
      rings = whole;
      count = sym (collected_count t.found (omega (arith, t.within, valid.few-bonds))) ∙ ap length whole;
      counted = omega (arith, t.found.few, t.within, valid.few-bonds);
      blank = t.found.blank;
    }
