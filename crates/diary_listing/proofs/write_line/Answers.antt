-- `write_line` meets its contract: each part is written behind the one before, and there is room for it.
use native.Mathlib.Omega.{arith}
use Rattle.diary_listing.proofs.Lines.{line_room, comma_room, delete_room, line_feed_room, line_written}
use Rattle.diary_listing.proofs.write_line.Goals as goal

pub write_file_path-comma-requires : goal.write_file_path-comma-requires
write_file_path-comma-requires c =
    let l = c.requires.0 in
    (l, omega (arith, line_room _ _ _ _ (c.requires.1 l)))

pub write_bytes-second-requires : goal.write_bytes-second-requires
write_bytes-second-requires c =
    let l = c.requires.0 in
    comma_room _ _ _ _ (c.requires.1 l) (c.write_file_path-comma.ensures l)

pub write_delete_path-end-requires : goal.write_delete_path-end-requires
write_delete_path-end-requires c =
    (c.requires.0, λ l. delete_room _ _ _ _ (c.requires.1 l) (c.write_file_path-comma.ensures l) c.write_bytes-second.ensures)

pub write_bytes-requires : goal.write_bytes-requires
write_bytes-requires c =
    let l = c.requires.0 in
    line_feed_room _ _ _ _ (c.requires.1 l) (c.write_file_path-comma.ensures l) c.write_bytes-second.ensures (c.write_delete_path-end.ensures l)

pub returns : goal.returns
returns c l =
    line_written _ _ _ _ (c.requires.1 l) (c.write_file_path-comma.ensures l) c.write_bytes-second.ensures (c.write_delete_path-end.ensures l)
    c.write_bytes.ensures
