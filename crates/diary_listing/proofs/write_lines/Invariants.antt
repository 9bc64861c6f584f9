-- `write_lines` meets its contract: a turn writes the line of two words, and the lines of the words behind them are still to be written.
use Prim.Native.Nat.{◌*◌}
use lib.ListN.{drop}
use Rattle.diary_session.specs.Listing.{lines}
use Rattle.diary_listing.specs.Files.{Lent}
use Rattle.diary_listing.proofs.Lines.{StillToWrite}
use Rattle.diary_listing.proofs.write_lines.Given as goal

abbrev pub invariant-loop-k : goal.invariant-loop-k
invariant-loop-k l =
    (f : Lent l.files)
    → StillToWrite l.initial.text l.at (lines f.words l.files.counts l.listed) l.text l.end (lines f.words l.files.counts (drop (2 * l.k) l.listed))
