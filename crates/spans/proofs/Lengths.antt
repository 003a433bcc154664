-- Independent lists that span each other are equally long: neither is longer than the other. Assumes nothing.
use mathlib.Core.Path.{◌≡◌}
use mathlib.Core.List.{List, Memᴰ as In}
use Prim.Native.Nat.{ℕ}
use native.Mathlib.Nat.{le_antisymm}
use lib.ListN.{length}
use Rattle.spans.proofs.Spans.{Span, Indep}
use Rattle.spans.proofs.Exchange.{exchange}

-- two independent lists that span each other are equally long
pub same_length : (us vs : List ℕ) → Indep us → Indep vs → ((x : ℕ) → In x us → Span vs x) → ((x : ℕ) → In x vs → Span us x) → length us ≡ length vs
same_length us vs d e up down = le_antisymm (exchange vs us up d) (exchange us vs down e)
