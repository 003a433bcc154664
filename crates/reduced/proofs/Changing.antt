-- Whether the list has changed: an exchange says so by its two tests, and steps one after another by either's word, because no step
-- raises the total size. Assumes nothing.
use mathlib.Core.Bool.{Bool, true, false, ◌||◌, not, cond}
use mathlib.Core.List.{List}
use mathlib.Core.Logic.{inl, inr}
use mathlib.Core.Path.{◌≡◌, sym, ap, ◌∙◌}
use Prim.Native.Nat.{ℕ, ◌<◌}
use native.Mathlib.Omega.{arith}
use lib.Bits.{bit_xor}
use lib.Dec.{ltb}
use lib.ListN.{length, get_or, set}
use Rattle.sets.specs.Bits.{size}
use Rattle.sets.specs.Lists.{sets_in, Put}
use Rattle.sets.proofs.Lists.{sets-long}
use Rattle.definitions.specs.Reduced.{exchange, weight}
use Rattle.definitions.proofs.Lists.{lists_same}
use Rattle.definitions.proofs.Tests.{by}
use Rattle.definitions.proofs.Sweeping.{Falls, lower_differs, exchanges?, exchange_lowers, exchange_stays}
use Rattle.reduced.specs.Change.{changed?}

-- a list that is the same has not changed
pub changed_none : (l m : List ℕ) → m ≡ l → changed? l m ≡ false
changed_none l m e = ap not (lists_same m l e)

-- a list of a lower total has
changed_lower : (l m : List ℕ) → weight m < weight l → changed? l m ≡ true
changed_lower l m h = ap not (lower_differs l m h)

-- a list is changed by two steps where one of them changes it
pub changed_both : (l m n : List ℕ) → Falls l m → Falls m n → changed? m n || changed? l m ≡ changed? l n
changed_both l m n (inl e) (inl f) = simp (changed_none l m e, changed_none m n f, changed_none l n (f ∙ e))
changed_both l m n (inl e) (inr k) = simp (changed_none l m e, changed_lower m n k, changed_lower l n (omega (arith, ap weight e)))
changed_both l m n (inr h) (inl f) = simp (changed_lower l m h, changed_none m n f, changed_lower l n (omega (arith, ap weight f)))
changed_both l m n (inr h) (inr k) = simp (changed_lower l m h, changed_lower m n k, changed_lower l n (omega arith))

-- an exchange changes the list where one of its tests passes
exchange_changed : (l : List ℕ) (J I : ℕ) → J < I → I < length l → exchanges? l J I ≡ changed? l (exchange l J I)
exchange_changed l J I h k =
    by (exchanges? l J I)
    (λ e. e ∙ sym (changed_lower l (exchange l J I) (exchange_lowers l J I h k e)))
    (λ e. e ∙ sym (changed_none l (exchange l J I) (exchange_stays l J I e)))

-- where a set is put the list has as many places
pub put-inside : {ws vs : List ℕ} {i s k : ℕ} → Put ws i s vs → k < length (sets_in ws) → k < length (sets_in vs)
put-inside {ws} {vs} w h = omega (arith, sets-long vs ws w.long)

-- an exchange set by set: f and s are sets J and I, x their sum, p and q the two tests, y what is left over; a is put at I, and b at J
pub exchange-done : (ws : List ℕ) (J I : ℕ) → (J < I) × (I < length (sets_in ws))
    → {vs us : List ℕ} {f s x a y b : ℕ} {p q : Bool} → f ≡ get_or (sets_in ws) J 0 → s ≡ get_or (sets_in ws) I 0 → x ≡ bit_xor f s
    → p ≡ ltb (size x) (size s) → a ≡ cond p x s → Put ws I a vs → y ≡ cond p s x → q ≡ ltb (size y) (size f) → b ≡ cond q y f → Put vs J b us
    → (length us ≡ length ws) × ((sets_in us ≡ exchange (sets_in ws) J I) × (p || q ≡ changed? (sets_in ws) (sets_in us)))
unfolding exchange exchanges?
exchange-done ws J I h {a = a} {b = b} ef es ex ep ea one ey eq eb other =
    let l = sets_in ws in
    let put : set (set l I a) J b ≡ exchange l J I = simp (eb, eq, ey, ea, ep, ex, ef, es) in
    let made = other.sets ∙ ap (λ (m : List ℕ). set m J b) one.sets ∙ put in
    (other.long ∙ one.long, (made, simp (eq, ey, ep, ex, ef, es) (exchange_changed l J I h.0 h.1) ∙ ap (changed? l) (sym made)))
