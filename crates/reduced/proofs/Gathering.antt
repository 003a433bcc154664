-- Lists of sets that are reduced one by one, one after another over the start of a lent list: the parts of a list that are lent on, and the
-- loop. Assumes nothing.
use mathlib.Core.Path.{◌≡◌, refl, sym, ap, ap₂, ◌∙◌}
use mathlib.Core.Bool.{true}
use mathlib.Core.List.{List, [], ◌++◌, append-nil}
use Prim.Native.Nat.{ℕ, ◌+◌, ◌-◌, ◌*◌, ◌≤◌, ◌<◌}
use native.Mathlib.Omega.{arith}
use lib.ListN.{length, take, drop, length-append, length-drop, drop_of_length-le}
use lib.Seq.{take-append_seam, drop-append_seam, drop-drop, take_all, length-take-le}
use Rattle.sets.specs.Lists.{words, sets_in, words_of}
use Rattle.sets.proofs.Lists.{sets-room, sets-take, sets-drop, sets-append, words_are}
use Rattle.definitions.specs.Search.{gather, total}
use Rattle.definitions.specs.Answer.{over}
use Rattle.definitions.specs.Reduced.{reduced}
use Rattle.definitions.proofs.Lists.{gather_mono, length-gather, listed_ext}
use Rattle.definitions.proofs.Sweeping.{reduced-length}
use Rattle.lent.specs.Appended.{Appended}
use Rattle.lent.proofs.Appending.{over-length, Strung, strung_none, strung_length, strung_room, strung_more, strung_all, appended_over}

-- ---- the first sets of a list, which are lent on and reduced in their place

-- the items stand over the start of the sets lent, n of them
abbrev Front : List ℕ → List ℕ → List ℕ → ℕ → Type 0
Front items lent ws n = (n ≡ length items) × ((length ws ≡ length lent) × (sets_in ws ≡ over items (sets_in lent)))

module _ (items lent ws : List ℕ) {n : ℕ} (few : length items ≤ length (sets_in lent)) (f : Front items lent ws n) where
  inside : n ≤ length (sets_in ws)
  inside = omega (arith, f.0, ap length f.1.1, over-length items (sets_in lent) few)

  -- their words are within the list
  pub front_room : n * words ≤ length ws
  front_room = omega (arith, sets-room n ws inside, words_are n)

  -- and are so many
  pub front_long : length (take (n * words) ws) ≡ n * words
  front_long = length-take-le (n * words) ws front_room

  -- they are the items
  front_own : sets_in (take (n * words) ws) ≡ items
  unfolding over
  front_own =
      ap (λ (m : ℕ). sets_in (take m ws)) (sym (words_are n))
      ∙ sets-take n ws inside ∙ ap₂ take f.0 f.1.1 ∙ take-append_seam items (drop (length items) (sets_in lent))

  -- after them the list is as lent
  front_rest : sets_in (drop (n * words) ws) ≡ drop (length (reduced items)) (sets_in lent)
  unfolding over
  front_rest =
      ap (λ (m : ℕ). sets_in (drop m ws)) (sym (words_are n))
      ∙ sets-drop n ws inside ∙ ap₂ drop f.0 f.1.1 ∙ drop-append_seam items (drop (length items) (sets_in lent))
      ∙ ap (λ (k : ℕ). drop k (sets_in lent)) (sym (reduced-length items))

  -- the reduced items in the place of the items
  pub front_reduced : (v : List ℕ) → (length v ≡ length (take (n * words) ws)) × (sets_in v ≡ reduced (sets_in (take (n * words) ws)))
      → (n ≡ length items) × ((length (v ++ drop (n * words) ws) ≡ length lent) × (sets_in (v ++ drop (n * words) ws) ≡ over (reduced items) (sets_in lent)))
  unfolding over
  front_reduced v e = (
    f.0,
    (
      length-append v (drop (n * words) ws) ∙ omega (arith, e.0, front_long, front_room, length-drop (n * words) ws, f.1.0),
      sets-append n v (drop (n * words) ws) (e.0 ∙ front_long ∙ sym (words_are n)) ∙ ap₂ (λ (a b : List ℕ). a ++ b) (e.1 ∙ ap reduced front_own) front_rest,
    ),
  )

-- ---- the sets of a list from place k on, which are lent on

-- what is lent on
abbrev pub rest : ℕ → List ℕ → List ℕ
rest k ws = take (length ws - k * words) (drop (k * words) ws)

-- the list where v comes back
abbrev pub back : ℕ → List ℕ → List ℕ → List ℕ
back k ws v = take (k * words) ws ++ (v ++ drop (length ws - k * words) (drop (k * words) ws))

module _ (k : ℕ) (ws : List ℕ) (inside : k ≤ length (sets_in ws)) where
  -- nothing of the list is after what is lent on
  none_after : drop (length ws - k * words) (drop (k * words) ws) ≡ []
  none_after = drop_of_length-le (drop (k * words) ws) {i = length ws - k * words} (omega (arith, length-drop (k * words) ws))

  -- all of the words from k on are lent on
  rest-whole : rest k ws ≡ drop (words_of k) ws
  rest-whole =
      take_all (length ws - k * words) (drop (k * words) ws) (omega (arith, length-drop (k * words) ws)) ∙ ap (λ (m : ℕ). drop m ws) (sym (words_are k))

  -- their sets are those from k on
  rest-sets : sets_in (rest k ws) ≡ drop k (sets_in ws)
  rest-sets = ap sets_in rest-whole ∙ sets-drop k ws inside

  back_is : (v : List ℕ) → back k ws v ≡ take (words_of k) ws ++ v
  back_is v = ap₂ (λ (m : ℕ) (l : List ℕ). take m ws ++ l) (sym (words_are k)) (ap (λ (l : List ℕ). v ++ l) none_after ∙ append-nil v)

  -- the list keeps its length
  back_long : (v : List ℕ) → length v ≡ length (rest k ws) → length (back k ws v) ≡ length ws
  back_long v long =
      ap length (back_is v) ∙ length-append (take (words_of k) ws) v
      ∙ omega (arith, long, ap length rest-whole, length-drop (words_of k) ws, length-take-le (words_of k) ws (sets-room k ws inside), sets-room k ws inside)

  -- where v has items over its start, they are appended at k
  back-sets : (v items : List ℕ) {next : ℕ} → sets_in v ≡ over items (sets_in (rest k ws)) → next ≡ k + length items
      → Appended (sets_in ws) k items (sets_in (back k ws v)) next
  unfolding over
  back-sets v items e end = record {
    end = end;
    list =
        ap sets_in (back_is v)
        ∙ sets-append k (take (words_of k) ws) v (length-take-le (words_of k) ws (sets-room k ws inside))
        ∙ ap₂ (λ (a b : List ℕ). a ++ b) (sets-take k ws inside)
        (e ∙ ap (λ (l : List ℕ). items ++ l) (ap (drop (length items)) rest-sets ∙ drop-drop (length items) k (sets_in ws) ∙ ap (λ (n : ℕ). drop n (sets_in ws)) (sym end)));
  }

-- ---- the lists one after another

-- reduced, the lists are as long
pub gather-reduced-length : (n : ℕ) (f : ℕ → List ℕ) → length (gather n (λ a. reduced (f a))) ≡ length (gather n f)
gather-reduced-length n f =
    length-gather n (λ a. reduced (f a))
    ∙ ap total (listed_ext n (λ a. true) (λ a. true) _ _ (λ a h. refl) (λ a h e. reduced-length (f a)))
    ∙ sym (length-gather n f)

-- of N lists those before a, each reduced, stand over the start of the sets lent, up to the place `at`
pub record Gathered (f : ℕ → List ℕ) (N : ℕ) (lent out : List ℕ) (at a : ℕ) : Type 0 where
  pub long : length out ≡ length lent
  pub strung : Strung (λ b. reduced (f b)) N (sets_in lent) (sets_in out) 0 at a

-- before the first list
pub gathered_none : (f : ℕ → List ℕ) (N : ℕ) (lent : List ℕ) → length (gather N f) ≤ length (sets_in lent) → Gathered f N lent lent 0 0
gathered_none f N lent h = record { long = refl; strung = strung_none (λ b. reduced (f b)) N (sets_in lent) 0 (omega (arith, gather-reduced-length N f)) }

module _ {f : ℕ → List ℕ} {N : ℕ} {lent out : List ℕ} {at a : ℕ} (s : Gathered f N lent out at a) where
  module _ (h : a < N) {g : List ℕ} (is : g ≡ f a) where
    -- the next list has room after the place reached
    pub gathered_room : at + length g ≤ length (sets_in out)
    gathered_room = omega (arith, strung_room s.strung h, ap length is, reduced-length (f a))

    -- what is lent on has room for it
    pub gathered_rest : length g ≤ length (sets_in (rest at out))
    gathered_rest = omega (arith, gathered_room, ap length (rest-sets at out (omega (arith, gathered_room))), length-drop at (sets_in out))

    -- one list more
    pub gathered_more : (v : List ℕ) {r : ℕ} → (r ≡ length g) × ((length v ≡ length (rest at out)) × (sets_in v ≡ over (reduced g) (sets_in (rest at out))))
        → Gathered f N lent (back at out v) (at + r) (a + 1)
    gathered_more v e =
        let inside : at ≤ length (sets_in out) = omega (arith, gathered_room) in
        record {
          long = back_long at out inside v e.1.0 ∙ s.long;
          strung =
              strung_more s.strung h
              (back-sets at out inside v (reduced (f a)) (e.1.1 ∙ ap (λ (l : List ℕ). over (reduced l) (sets_in (rest at out))) is)
              (omega (arith, e.0, ap length is, reduced-length (f a))));
        }

  -- the words of the sets before the place reached are within the list
  pub gathered_low : at * words ≤ length out
  gathered_low =
      omega (
        arith,
        words_are at,
        sets-room at out (omega (arith, s.strung.room, s.strung.text.end, strung_length s.strung, gather_mono (λ b. reduced (f b)) a N s.strung.within)),
      )

  -- after the last list
  pub gathered_all : N ≤ a → (length out ≡ length lent) × (sets_in out ≡ over (gather N (λ b. reduced (f b))) (sets_in lent))
  gathered_all h = (s.long, appended_over (strung_all s.strung h))
