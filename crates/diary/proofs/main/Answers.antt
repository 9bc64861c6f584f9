-- `main` lends the text more bytes than it takes, and writes as many as it takes.
use mathlib.Core.Path.{sym}
use native.Mathlib.Omega.{arith}
use lib.Seq.{length-take-le}
use Rattle.diary_session.proofs.Printed.{text_fits, text_ends}
use Rattle.diary.proofs.main.Goals as goal

pub write_diary-n-requires : goal.write_diary-n-requires
write_diary-n-requires c = text_fits (omega arith)

pub slice_bounds-text-end : goal.slice_bounds-text-end
slice_bounds-text-end c = text_ends (omega arith) c.write_diary-n.ensures

pub slice_bounds-write_all-end : goal.slice_bounds-write_all-end
slice_bounds-write_all-end c = sym (length-take-le _ _ (text_ends (omega arith) c.write_diary-n.ensures))
