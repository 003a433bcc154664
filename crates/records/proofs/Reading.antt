-- A loop that reads an input into a list. Assumes nothing.
use mathlib.Core.Path.{◌≡◌, refl, sym, ap, ◌∙◌}
use mathlib.Core.List.{List, [], ◌++◌, append_assoc}
use Prim.Native.Nat.{ℕ, ◌+◌, ◌-◌, ◌≤◌}
use native.Mathlib.Omega.{arith}
use lib.ListN.{length, take, drop, length-append}
use lib.Seq.{take-append-add, take-append-le, length-take-le}
use borrow.Rule.Slice.PartMut.{put_mid}
use Rattle.std.specs.Prelude.{Option, Some, None}
use Rattle.std.specs.Io.KnownBytes.{Consumes, IsAtEnd}
use Rattle.records.specs.Filled.{Filled}

-- the first n of the list came next in the input
pub record Reading (before now : Option (List ℕ)) (list : List ℕ) (n : ℕ) : Type 0 where
  pub within : n ≤ length list
  pub bytes : Consumes before now (take n list)

-- before the first read nothing came
pub reading_none : (o : Option (List ℕ)) (list : List ℕ) → Reading o o list 0
reading_none o list = record { within = omega arith; bytes = nothing o }
  where
    nothing : (o : Option (List ℕ)) → Consumes o o []
    nothing None = tt
    nothing (Some xs) = refl

-- what came, and what came after it
consumes_more : (a b c : Option (List ℕ)) (xs ys : List ℕ) → Consumes a b xs → Consumes b c ys → Consumes a c (xs ++ ys)
consumes_more None b c xs ys p q = tt
consumes_more (Some l) None c xs ys p q = absurd p
consumes_more (Some l) (Some m) None xs ys p q = absurd q
consumes_more (Some l) (Some m) (Some r) xs ys p q = p ∙ ap (λ (t : List ℕ). xs ++ t) q ∙ sym (append_assoc xs ys r)

-- a read puts k bytes in their part of the list
pub reading_more : {before now next : Option (List ℕ)} {list : List ℕ} {n k : ℕ} (part : List ℕ) → Reading before now list n → length part ≡ length list - n → k ≤ length part → Consumes now next (take k part)
    → Reading before next (put_mid n (length list - n) list part) (n + k)
reading_more {before} {now} {next} {list} {n} {k} part r long h q = record {
  within = omega (arith, r.within, length-append (take n list) (part ++ rest), length-append part rest, length-take-le n list r.within);
  bytes = rw first (consumes_more before now next (take n list) (take k part) r.bytes q);
}
  where
    rest : List ℕ
    rest = drop (length list - n) (drop n list)

    first : take (n + k) (take n list ++ (part ++ rest)) ≡ take n list ++ take k part
    first =
        ap (λ (i : ℕ). take (i + k) (take n list ++ (part ++ rest))) (sym (length-take-le n list r.within))
        ∙ take-append-add (take n list) (part ++ rest) k
        ∙ ap (λ (t : List ℕ). take n list ++ t) (take-append-le k part rest h)

-- a read that puts no bytes where there is room comes at the end of the input
pub reading_all : {before now : Option (List ℕ)} {list : List ℕ} {n k : ℕ} → Reading before now list (n + k) → k ≡ 0 → IsAtEnd now → Filled before now list n
reading_all {before} {now} {list} {n} {k} r z e = let same : n + k ≡ n = omega arith in record { bytes = rw same at r.bytes; ended = λ h. e }
