-- What the check of the tables gives, and the number of a reading before its answer's length is known.
use Rattle.std.specs.Prelude.{ℕ, ◌∷◌}
use Rattle.layout.specs.declared.outcome.Counts.{Counts}
use Rattle.layout.specs.Words.{Words, load, capacity}
use Rattle.ducklake.specs.Soundness.{sound}
use Rattle.ducklake.specs.Refusals.{accepted, not_sound, first}
use Rattle.ducklake.specs.Calls.{Reading, reading_refusals}
use Rattle.refusals.specs.declared.checked.Checked.{Checked}

abbrev pub checked_of : Words → Counts → Checked
checked_of w c = record { sound = sound w c; room = capacity w }

-- all refusals of a reading but 3: 1, then 5 to 7
unfoldable pub unanswered : Words → Counts → Reading → ℕ
unanswered w c r = first ((not_sound, sound w c) ∷ reading_refusals (load w c) r) accepted
