-- `write_listing` meets its contract: the reading leaves its answer in the area, the header is written first and the lines of the answer behind it.
use mathlib.Core.Path.{sym}
use lib.Seq.{length-take-le}
use Rattle.call_laws.proofs.Areas.{reading_area, outcome_fits}
use Rattle.file_lookup.proofs.Places as lookup
use Rattle.scans.proofs.Lent.{files_lent}
use Rattle.diary_listing.proofs.Lines.{header_room, lines_room, listing_written}
use Rattle.diary_listing.proofs.write_listing.Goals as goal

pub list_table_files-listed-requires : goal.list_table_files-listed-requires
list_table_files-listed-requires c = files_lent _ _ c.check-checked.ensures

pub write_bytes-first-requires : goal.write_bytes-first-requires
write_bytes-first-requires c =
    header_room _ _ _ c.requires (c.list_table_files-listed.ensures (files_lent _ _ c.check-checked.ensures))

pub slice_bounds-write_lines-end : goal.slice_bounds-write_lines-end
slice_bounds-write_lines-end c =
    outcome_fits (reading_area _ _ _ _) (c.list_table_files-listed.ensures (files_lent _ _ c.check-checked.ensures))

pub slice_bounds-write_lines-end-2 : goal.slice_bounds-write_lines-end-2
slice_bounds-write_lines-end-2 c =
    sym (length-take-le _ _ (outcome_fits (reading_area _ _ _ _) (c.list_table_files-listed.ensures (files_lent _ _ c.check-checked.ensures))))

pub write_lines-requires : goal.write_lines-requires
write_lines-requires c = (
  lookup.files_lent _ _ c.check-checked.ensures,
  λ l. lines_room _ _ _ c.requires (c.list_table_files-listed.ensures (files_lent _ _ c.check-checked.ensures)) c.write_bytes-first.ensures l.words,
)

pub returns : goal.returns
returns c =
    listing_written _ _ _ c.requires (c.list_table_files-listed.ensures (files_lent _ _ c.check-checked.ensures)) c.write_bytes-first.ensures
    (c.write_lines.ensures (lookup.files_lent _ _ c.check-checked.ensures))
