-- How many records come before the first that asks for nothing: a loop that looks for it, what each of them is, and that both runs have room for as many.
use Rattle.std.specs.Prelude.{None, Option, Some}
use Prim.Native.Nat.{ℕ, ◌+◌, ◌*◌, ◌/◌, ◌≤◌, ◌<◌, min}
use mathlib.Core.Path.{◌≡◌, refl, sym, ap, ◌∙◌}
use mathlib.Core.Bool.{Bool, true, false, not}
use mathlib.Core.List.{List, map}
use native.Mathlib.Omega.{arith}
use lib.ListN.{length}
use Rattle.lists.specs.Lists.{range, place}
use Rattle.lists.specs.Runs.{from}
use Rattle.lists.proofs.Loops.{place-start, place_hit, place_miss, place_end}
use Rattle.lists.proofs.Places.{Placed, placed}
use Rattle.call_lists.specs.Records.{call_size, call_at}
use Rattle.call_lists.specs.Calls.{is_asked, before, call_count}
use Rattle.call_lists.specs.Playing.{told_size}

-- w holds the records; n is how many are looked at
module _ (w : List ℕ) (lists_size names_size n : ℕ) where
  abbrev asks_at : ℕ → Bool
  asks_at i = is_asked lists_size names_size i (call_at w i)

  -- no record before i is the one
  abbrev pub Looking : ℕ → Type 0
  Looking i = place not 0 (map asks_at (range 0 n)) ≡ place not i (from asks_at i n)

  pub looking_start : Looking 0
  looking_start = place-start asks_at not n

  pub looking_next : (i : ℕ) {b : Bool} → i < n → b ≡ asks_at i → b ≡ true → Looking i → Looking (i + 1)
  looking_next i h e q l = l ∙ place_miss asks_at not i n h (ap not (sym e ∙ q))

  pub looking_hit : (i : ℕ) {b : Bool} → i < n → b ≡ asks_at i → b ≡ false → Looking i → i ≡ call_count w lists_size names_size n
  unfolding call_count
  looking_hit i h e q l = rw (l ∙ place_hit asks_at not i n h (ap not (sym e ∙ q))) refl

  pub looking_end : (i : ℕ) → n ≤ i → Looking i → n ≡ call_count w lists_size names_size n
  unfolding call_count
  looking_end i h l = rw (l ∙ place_end asks_at not i n h) refl

  counted : (r : Option ℕ) → Placed asks_at not 0 (0 + n) r → (before r n ≤ n) × ((i : ℕ) → i < before r n → not (asks_at i) ≡ false)
  counted (Some j) p = (omega (arith, p.1), λ i h. p.3 i (omega arith) h)
  counted None p = (omega arith, λ i h. p i (omega arith) (omega (arith, h)))

  pub counted_most : call_count w lists_size names_size n ≤ n
  unfolding call_count
  counted_most = (counted (place not 0 (map asks_at (range 0 n))) (placed asks_at not n 0)).0

  -- each record that is counted asks for something
  pub counted_asks : (i : ℕ) → i < call_count w lists_size names_size n → asks_at i ≡ true
  unfolding call_count
  counted_asks i h = so (asks_at i) ((counted (place not 0 (map asks_at (range 0 n))) (placed asks_at not n 0)).1 i h)
    where
      so : (b : Bool) → not b ≡ false → b ≡ true
      so true e = refl
      so false e = sym e

-- as many records as both runs have room for
pub played_fit : (calls told : List ℕ) {m : ℕ} → m ≡ min (length calls / call_size) (length told / told_size) → (call_size * m ≤ length calls) × (told_size * m ≤ length told)
played_fit calls told e = (omega (arith, e), omega (arith, e))
