-- What is written into a lent list from a place on: what is appended, and the invariants of those who append.
--     over                              items over the start of a list: over-length
--     Appended                          nothing, a byte, one text after another; what is appended from the start stands over the list
--     Strung f N lent out at next k     a loop that appends N texts f 0, f 1, ..: k are appended
-- Each has laws `-none` at the start, `-more` for one turn, `-room` and `-length` at any, `-all` at the end. Assumes nothing.
use mathlib.Core.Path.{◌≡◌, refl, sym, ap, ◌∙◌}
use mathlib.Core.List.{List, [], ◌∷◌, ◌++◌, append_assoc}
use Prim.Native.Nat.{ℕ, ◌+◌, ◌<◌, ◌≤◌}
use native.Mathlib.Numerals.{add-one}
use native.Mathlib.Omega.{arith}
use lib.ListN.{length, take, drop, set, length-append, length-drop, take-append-drop}
use lib.Seq.{set_split, take_at, drop_at, drop-drop, length-take-le}
use Rattle.definitions.specs.Search.{gather}
use Rattle.definitions.specs.Answer.{over}
use Rattle.definitions.proofs.Lists.{gather_step, gather-zero, gather_mono}
use Rattle.lent.specs.Appended.{Appended}

-- ---- items over the start of a list

-- its length stays
pub over-length : (items l : List ℕ) → length items ≤ length l → length (over items l) ≡ length l
unfolding over
over-length items l h = simp (length-append, length-drop) (omega arith)

-- ---- one text after another

-- nothing appended leaves the list as it is
pub appended_none : (l : List ℕ) (at : ℕ) → Appended l at [] l at
appended_none l at = record { end = omega arith; list = sym (take-append-drop at l) }

-- a store appends one byte
pub appended_byte : (l : List ℕ) (at x : ℕ) → at < length l → Appended l at (x ∷ []) (set l at x) (at + 1)
appended_byte l at x h = record { end = refl; list = rw add-one (set_split l at x h) }

module _ {l m : List ℕ} {i j : ℕ} {s : List ℕ} where
  -- the same text said otherwise
  pub appended_as : {t : List ℕ} → s ≡ t → Appended l i s m j → Appended l i t m j
  appended_as e a = rw (← e) a

  module _ (within : i ≤ length l) (a : Appended l i s m j) where
    -- the text ends where the next begins
    start : length (take i l ++ s) ≡ j
    start = length-append (take i l) s ∙ ap (λ (n : ℕ). n + length s) (length-take-le i l within) ∙ sym a.end

    -- before it stands the text, after it the list as it was
    parted : m ≡ (take i l ++ s) ++ drop j l
    parted = a.list ∙ sym (append_assoc (take i l) s (drop j l))

    -- a text appended after a text is their text together
    pub appended_more : {r t : List ℕ} {k : ℕ} → Appended m j t r k → Appended l i (s ++ t) r k
    appended_more {r} {t} {k} b = record {
      end = b.end ∙ omega (arith, a.end, length-append s t);
      list =
          b.list
          ∙ ap (λ (x : List ℕ). x ++ (t ++ drop k m)) (ap (take j) parted ∙ take_at (take i l ++ s) (drop j l) j start)
          ∙ ap (λ (x : List ℕ). (take i l ++ s) ++ (t ++ x)) rest
          ∙ append_assoc (take i l) s (t ++ drop k l)
          ∙ ap (λ (x : List ℕ). take i l ++ x) (sym (append_assoc s t (drop k l)));
    }
      where
        later : (x : List ℕ) → drop k x ≡ drop (length t) (drop j x)
        later x = ap (λ (n : ℕ). drop n x) b.end ∙ sym (drop-drop (length t) j x)

        rest : drop k m ≡ drop k l
        rest = later m ∙ ap (drop (length t)) (ap (drop j) parted ∙ drop_at (take i l ++ s) (drop j l) j start) ∙ sym (later l)

    -- the list keeps its length
    pub appended_length : j ≤ length l → length m ≡ length l
    appended_length h = ap length parted ∙ length-append (take i l ++ s) (drop j l) ∙ omega (arith, start, length-drop j l)

-- three texts one after another
pub appended_three : {l m n o s t u : List ℕ} {i j k q : ℕ} → i ≤ length l → Appended l i s m j → Appended m j t n k → Appended n k u o q → Appended l i (s ++ (t ++ u)) o q
appended_three {s = s} {t} {u} h a b c = appended_as (append_assoc s t u) (appended_more h (appended_more h a b) c)

-- four texts one after another
pub appended_four : {l m n o p s t u v : List ℕ} {i j k q r : ℕ} → i ≤ length l → Appended l i s m j → Appended m j t n k → Appended n k u o q → Appended o q v p r → Appended l i (s ++ (t ++ (u ++ v))) p r
appended_four {s = s} {t} {u} {v} h a b c d = appended_as (simp append_assoc) (appended_more h (appended_more h (appended_more h a b) c) d)

-- what is appended from the start stands over the list
pub appended_over : {l m s : List ℕ} {n : ℕ} → Appended l 0 s m n → m ≡ over s l
unfolding over
appended_over {l} {m} {s} {n} a = let e : n ≡ length s = omega (arith, a.end) in a.list ∙ ap (λ (k : ℕ). s ++ drop k l) e

-- ---- texts one after another

pub record Strung (f : ℕ → List ℕ) (N : ℕ) (lent out : List ℕ) (at next k : ℕ) : Type 0 where
  pub within : k ≤ N
  pub room : at + length (gather N f) ≤ length lent
  pub text : Appended lent at (gather k f) out next

-- before the first text the list is as lent
pub strung_none : (f : ℕ → List ℕ) (N : ℕ) (lent : List ℕ) (at : ℕ) → at + length (gather N f) ≤ length lent → Strung f N lent lent at at 0
strung_none f N lent at h = record { within = omega arith; room = h; text = appended_as (sym (gather-zero f)) (appended_none lent at) }

module _ {f : ℕ → List ℕ} {N : ℕ} {lent out : List ℕ} {at next k : ℕ} (s : Strung f N lent out at next k) where
  -- the list keeps its length
  pub strung_length : length out ≡ length lent
  strung_length = appended_length (omega (arith, s.room)) s.text (omega (arith, s.room, s.text.end, gather_mono f k N s.within))

  -- there is room for the next text
  pub strung_room : k < N → next + length (f k) ≤ length out
  strung_room h =
      omega (arith, s.room, strung_length, s.text.end, gather_mono f (k + 1) N (omega arith), ap length (gather_step k f), length-append (gather k f) (f k))

  -- the next text is appended
  pub strung_more : {out' : List ℕ} {next' : ℕ} → k < N → Appended out next (f k) out' next' → Strung f N lent out' at next' (k + 1)
  strung_more h a = record {
    within = omega arith;
    room = s.room;
    text = appended_as (sym (gather_step k f)) (appended_more (omega (arith, s.room)) s.text a);
  }

  -- after the last text all are appended
  pub strung_all : N ≤ k → Appended lent at (gather N f) out next
  strung_all h = let e : k ≡ N = omega (arith, s.within) in rw (← e) s.text
