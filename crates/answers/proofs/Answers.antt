-- The ways to return an answer: each turns what a function has shown into the outcome that its contract names. c is what the check of the
-- table gives by the definitions.
--     outcome-..    of anything that is handed back or left
--     is-..         of items over the start of a lent list
--     sets-..       of sets as words over the start of a lent list
-- with -numbered (any number above 0 is told), -refused (the table is refused), -short (there is too little room), -given or -full (there is
-- room), and -accepted (what is answered where nothing is refused). Assumes nothing.
use mathlib.Core.Path.{◌≡◌, refl, sym, ap, ap₂, ◌∙◌}
use mathlib.Core.Bool.{Bool, true, false}
use mathlib.Core.List.{List, []}
use Prim.Native.Nat.{ℕ, zero, suc, ◌<◌, ◌≤◌}
use native.Mathlib.Omega.{arith}
use lib.ListN.{length}
use lib.Dec.{lit<}
use borrow.Author.Tests.{le-leb, lt-leb}
use Rattle.std.proofs.Common.{Result, Ok, Err}
use Rattle.std.specs.Result.{IsErrAnd}
use Rattle.std.proofs.lemmas.Result.{err_from_is_err_and}
use Rattle.sets.specs.Lists.{in_words, words_of}
use Rattle.sets.proofs.Lists.{in_words-length}
use Rattle.definitions.specs.Answer.{Outcome, outcome_of, outcome, over, written, written_sets, counted}
use Rattle.answers.specs.Told.{number_of, told, AnswerOf}
use Rattle.answers.specs.declared.answer.Answer.{Answer}
use Rattle.answers.specs.declared.refusal.Refusal.{Refusal}
use Rattle.answers.specs.declared.refusal.Refusal.TheVariants.{Odd, Atoms, Bonds, End, SelfBond, Twice, Tangled, Room, NotRing}

-- no refusal has the number 0
pub number-some : (e : Refusal) → 0 < number_of e
number-some Odd = lit< tt
number-some Atoms = lit< tt
number-some Bonds = lit< tt
number-some End = lit< tt
number-some SelfBond = lit< tt
number-some Twice = lit< tt
number-some Tangled = lit< tt
number-some Room = lit< tt
number-some NotRing = lit< tt

-- a refusal that is passed on is told
pub passed : {A : Type 0} (r : Result ℕ Refusal) (e : Refusal) (left : A) → IsErrAnd r (λ d. d ≡ e) → told r left ≡ told (Err e) left
passed r e left same = let p = err_from_is_err_and r same in ap (λ (t : Result ℕ Refusal). told t left) (p.1 ∙ ap (λ (d : Refusal). Err d) p.2)

-- an answer has the numbers of what is told
pub numbered : {A : Type 0} (r : Result ℕ Refusal) (a : Answer) (left : A) {o : Outcome A} → AnswerOf r a → told r left ≡ o → outcome_of a.number a.count left ≡ o
numbered r a left n e = ap₂ (λ (m k : ℕ). outcome_of m k left) n.0 n.1 ∙ e

-- a number above 0 comes after one
above_zero : (c : ℕ) → 0 < c → (d : ℕ) × (c ≡ suc d)
above_zero zero h = absurd (omega arith)
above_zero (suc d) h = (d, refl)

module _ {A : Type 0} {c : ℕ} (room : Bool) (n : ℕ) (new lent : A) where
  -- what is refused has count 0, and what was lent is left
  pub outcome-numbered : {r : ℕ} → r ≡ c → 0 < r → outcome_of r 0 lent ≡ outcome c room n new lent
  unfolding outcome
  outcome-numbered given above = rw (given, (above_zero c (omega arith)).1)

  pub outcome-refused : (e : Refusal) → number_of e ≡ c → told (Err e) lent ≡ outcome c room n new lent
  outcome-refused e given = outcome-numbered given (number-some e)

  -- too little room is refusal 8
  pub outcome_short : 0 ≡ c → room ≡ false → told (Err Room) lent ≡ outcome c room n new lent
  unfolding outcome
  outcome_short none e = rw (sym none, e)

  -- what is given is counted and left
  pub outcome-given : {k : ℕ} {left : A} → 0 ≡ c → room ≡ true → k ≡ n → left ≡ new → told (Ok k) left ≡ outcome c room n new lent
  unfolding outcome
  outcome-given none e q w = rw (sym none, e, q, w)

module _ (wanted lent : List ℕ) {c : ℕ} where
  pub is_numbered : {r : ℕ} → r ≡ c → 0 < r → outcome_of r 0 lent ≡ written c wanted lent
  unfolding written
  is_numbered given above = outcome-numbered _ _ _ lent given above

  pub is_refused : (e : Refusal) → number_of e ≡ c → told (Err e) lent ≡ written c wanted lent
  is_refused e given = is_numbered given (number-some e)

  pub is_accepted : 0 ≡ c → {found : List ℕ} {o : Outcome (List ℕ)} → found ≡ wanted → o ≡ written 0 found lent → o ≡ written c wanted lent
  is_accepted none e w = w ∙ ap₂ (λ (d : ℕ) (l : List ℕ). written d l lent) none e

  module _ {n : ℕ} (none : 0 ≡ c) (count : n ≡ length wanted) where
    pub is_short : length lent < n → told (Err Room) lent ≡ written c wanted lent
    unfolding written
    is_short h = outcome_short _ _ _ lent none (lt-leb (length wanted) (length lent) (omega arith))

    pub is_full : {left : List ℕ} → n ≤ length lent → left ≡ over wanted lent → told (Ok n) left ≡ written c wanted lent
    unfolding written
    is_full h e = outcome-given _ _ _ lent none (le-leb (length wanted) (length lent) (omega arith)) count e

module _ (wanted lent : List ℕ) {c : ℕ} where
  pub sets-numbered : {r : ℕ} → r ≡ c → 0 < r → outcome_of r 0 lent ≡ written_sets c wanted lent
  unfolding written_sets
  sets-numbered given above = outcome-numbered _ _ _ lent given above

  pub sets-refused : (e : Refusal) → number_of e ≡ c → told (Err e) lent ≡ written_sets c wanted lent
  sets-refused e given = sets-numbered given (number-some e)

  pub sets-accepted : 0 ≡ c → {found : List ℕ} {o : Outcome (List ℕ)} → found ≡ wanted → o ≡ written_sets 0 found lent → o ≡ written_sets c wanted lent
  sets-accepted none e w = w ∙ ap₂ (λ (d : ℕ) (l : List ℕ). written_sets d l lent) none e

  module _ {n : ℕ} (none : 0 ≡ c) (count : n ≡ length wanted) where
    pub sets_short : length lent < words_of n → told (Err Room) lent ≡ written_sets c wanted lent
    unfolding written_sets
    sets_short h =
        outcome_short _ _ _ lent none
        (lt-leb (length (in_words wanted)) (length lent) (rw (in_words-length wanted ∙ ap words_of (sym count)) h))

    pub sets_full : {left : List ℕ} → words_of n ≤ length lent → left ≡ over (in_words wanted) lent → told (Ok n) left ≡ written_sets c wanted lent
    unfolding written_sets
    sets_full h e =
        outcome-given _ _ _ lent none
        (le-leb (length (in_words wanted)) (length lent) (rw (in_words-length wanted ∙ ap words_of (sym count)) h)) count e

module _ (n : ℕ) {c : ℕ} where
  -- a refusal of the table check has count 0
  pub check_numbered : {r : ℕ} → r ≡ c → 0 < r → outcome_of r 0 [] ≡ counted c n
  unfolding counted
  check_numbered given above = outcome-numbered _ _ _ _ given above

  pub check_refused : (e : Refusal) → number_of e ≡ c → told (Err e) [] ≡ counted c n
  check_refused e given = check_numbered given (number-some e)

  -- an accepted table's count is what is counted
  pub check_counted : {k : ℕ} → 0 ≡ c → k ≡ n → told (Ok k) [] ≡ counted c n
  unfolding counted
  check_counted none e = outcome-given _ _ _ _ none refl e refl
