-- What a writer writes, one text after another. Assumes nothing.
use mathlib.Core.Path.{◌≡◌, refl, sym, ap, ◌∙◌}
use mathlib.Core.List.{List, [], ◌++◌}
use Prim.Native.Nat.{ℕ, ◌+◌, ◌<◌, ◌≤◌}
use native.Mathlib.Omega.{arith}
use lib.ListN.{length, length-append}
use Rattle.definitions.specs.Search.{gather}
use Rattle.definitions.specs.Answer.{over}
use Rattle.definitions.proofs.Lists.{gather_step, gather-zero, gather_mono}
use Rattle.lent.specs.declared.Writer.{Writer}
use Rattle.lent.specs.Appended.{Appended}
use Rattle.lent.specs.Writes.{Fits, Writes}
use Rattle.lent.proofs.Appending.{appended_none, appended_more, appended_length, appended_over}

-- nothing is written where nothing happens
pub writes_none : (a : Writer) → a.at ≤ length a.out.now → Writes [] a a
writes_none a h = record { same = refl; room = omega arith; appended = appended_none a.out.now a.at }

module _ {s : List ℕ} {a b : Writer} (first : Writes s a b) where
  -- the same text said otherwise
  pub writes_as : {t : List ℕ} → s ≡ t → Writes t a b
  writes_as e = rw (← e) first

  -- the list keeps its length
  pub writes_length : length b.out.now ≡ length a.out.now
  writes_length = appended_length (omega (arith, first.room)) first.appended (omega (arith, first.room, first.appended.end))

  -- there is room for what is left of a text
  pub writes_room : (t : List ℕ) → Fits (s ++ t) a → Fits t b
  writes_room t h = omega (arith, h, writes_length, first.appended.end, length-append s t)

  -- a text after a text is their text together
  pub writes_more : {t : List ℕ} {c : Writer} → Writes t b c → Writes (s ++ t) a c
  writes_more {t} {c} then = record {
    same = then.same ∙ first.same;
    room = omega (arith, first.appended.end, then.room, writes_length, length-append s t);
    appended = appended_more (omega (arith, first.room)) first.appended then.appended;
  }

-- ---- a loop that writes f 0, f 1, .., after k turns

-- before the first turn nothing is written
pub strings_none : (f : ℕ → List ℕ) (a : Writer) → a.at ≤ length a.out.now → Writes (gather 0 f) a a
strings_none f a h = writes_as (writes_none a h) (sym (gather-zero f))

module _ (f : ℕ → List ℕ) {k : ℕ} {a b : Writer} (so_far : Writes (gather k f) a b) where
  -- there is room for the next text
  pub strings_room : {n : ℕ} {text : List ℕ} → k < n → text ≡ gather n f → Fits text a → Fits (f k) b
  strings_room {n} h all room =
      omega (
        arith,
        room,
        ap length all,
        writes_length so_far,
        so_far.appended.end,
        gather_mono f (k + 1) n (omega arith),
        ap length (gather_step k f),
        length-append (gather k f) (f k),
      )

  -- the next text is written
  pub strings_more : {c : Writer} → Writes (f k) b c → Writes (gather (k + 1) f) a c
  strings_more next = writes_as (writes_more so_far next) (sym (gather_step k f))

  -- after n turns all are written
  pub strings_all : {n : ℕ} {text : List ℕ} → k ≡ n → text ≡ gather n f → Writes text a b
  strings_all e all = rw (all, ← e) so_far

-- what is written from the start of a list stands over it
pub writes_over : {a b : Writer} {text l : List ℕ} → a.at ≡ 0 → a.out.now ≡ l → Writes text a b → b.out.now ≡ over text l
writes_over {b = b} {text} start list all = appended_over (let m : Appended _ 0 text b.out.now b.at = rw (start, list) at all.appended in m)
