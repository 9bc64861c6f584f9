-- Where positions lie: those of a delete file begin where those of the one before it end.
use Prim.Native.Nat.{ℕ, ◌+◌, ◌*◌, ◌-◌, ◌≤◌, ◌<◌}
use mathlib.Core.Path.{◌≡◌, refl, ap}
use mathlib.Core.List.{List}
use native.Mathlib.Omega.{arith}
use native.Mathlib.Numerals.{add-one}
use lib.ListN.{length, get_or, take, drop}
use Rattle.lists.proofs.Runs.{record_fits}
use Rattle.lists.proofs.Places.{taken_at}
use Rattle.layout.specs.Fields.{delete_file_size}
use Rattle.layout.specs.Words.{positions_before, positions_then, delete_count, positions_at}
use Rattle.layout.proofs.RoundTrip.{positions_end}
use Rattle.lookup.specs.Positions.{PositionsLocated, PositionsFrom}

-- the k positions of the delete file i, from a on
module _ (run : List ℕ) (i : ℕ) {a k : ℕ} (e : a ≡ positions_before run i) (f : k ≡ delete_count run i) where
  -- the next one's begin where they end
  pub positions_next : a + k ≡ positions_before run (i + 1)
  positions_next = omega (arith, positions_then run i, ap (positions_before run) (add-one i))

  -- they lie before the end of those of more files
  pub positions_room : {n : ℕ} → i < n → a + k ≤ positions_before run n
  positions_room {n} h = omega (arith, positions_end run i n h)

  -- as a part of the run
  pub positions_part : (positions : List ℕ) → take (a + k - a) (drop a positions) ≡ positions_at run positions i
  positions_part positions = let n : a + k - a ≡ delete_count run i = omega arith in rw (n, e) refl

-- one of n delete files, with its place in `starts`
pub located_from : (run positions starts : List ℕ) {n : ℕ} (i : ℕ) → PositionsLocated run positions starts n → i < n
    → (i < length starts) × PositionsFrom run positions i (get_or starts i 0)
located_from run positions starts {n} i l h =
    let t = taken_at (positions_before run) 0 starts n i l.located h in (
      t.0,
      record {
        lent = record_fits delete_file_size h l.held.lent;
        begin = t.1;
        held = omega (arith, l.held.within, positions_room run i t.1 refl h);
      },
    )
