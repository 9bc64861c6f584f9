-- The loop lays the two words of each file that is read behind those of the files before it.
use Prim.Native.Nat.{◌≤◌, ◌+◌}
use mathlib.Core.Path.{refl}
use native.Mathlib.Omega.{arith}
use lib.ListN.{length}
use Rattle.scans.specs.Filters.{listed_size}
use Rattle.scans.proofs.FileLists.{place-within, listed_is, listing_room, listing_pass, listing_fail, listing_end}
use Rattle.scans.proofs.files.list_files.Goals as goal
use Rattle.scans.proofs.files.list_files.Goals.{then-is_read, else-is_read}

pub loop-i-init : goal.loop-i-init
loop-i-init c = record { long = refl; room = c.requires.table_in_bounds; same = λ positions. refl }

pub bounds-places-i : goal.bounds-places-i
bounds-places-i c = omega (arith, c.requires.files_selectable.1.room, c.loop-i-test.true)

-- the next file that is read has room behind those laid
pub write_listed-requires : goal.write_listed-requires
write_listed-requires c =
    let room : c.loop-i.k + listed_size ≤ length c.loop-i.area =
    listing_room _ _ _ _ _ _ _ _ _ c.loop-i.invariant c.loop-i-test.true c.is_read.ensures c.if-is_read.true in
    let p = c.requires.files_selectable in
    (omega (arith, p.0.lent, c.loop-i-test.true), omega (arith, p.2, place-within _ _ _ _ _ _ p.1 _ c.loop-i-test.true), room)

pub overflow_add-k : goal.overflow_add-k
overflow_add-k c =
    let room : c.loop-i.k + listed_size ≤ length c.loop-i.area =
    listing_room _ _ _ _ _ _ _ _ _ c.loop-i.invariant c.loop-i-test.true c.is_read.ensures c.if-is_read.true in
    omega (arith, room, c.loop-i.auto.area)

pub loop-i-preserved : goal.loop-i-preserved
loop-i-preserved c =
    let t = c.loop-i-test.true in
    elim c.if-is_read.branch [
      | then-is_read w ↦ rw (w.area-is, w.k-is)
          (listing_pass _ _ _ _ _ _ _ _ _ c.loop-i.invariant t c.is_read.ensures _ w.if-is_read.true w.write_listed.auto.area w.write_listed.ensures
          (λ positions. listed_is _ _ _ _ _ _ c.requires.files_selectable.1 positions _ t))
      | else-is_read w ↦ rw (w.area-is, w.k-is) (listing_fail _ _ _ _ _ _ _ _ _ c.loop-i.invariant t c.is_read.ensures w.if-is_read.false)
    ]

pub returns : goal.returns
returns c positions = listing_end _ _ _ _ _ _ _ _ _ c.loop-i.invariant c.loop-i-test.false positions
