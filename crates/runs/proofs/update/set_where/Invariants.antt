-- `set_where` meets its contract: a turn sets the word that the definition sets in the record, or leaves the record as the definition does.
use Rattle.std.proofs.Common.{◌≡◌, length}
use Rattle.lists.specs.Runs.{set_where, each_record}
use Rattle.lists.proofs.Updates.{changing}
use Rattle.runs.proofs.update.set_where.Given as goal

abbrev pub invariant-loop-i : goal.invariant-loop-i
invariant-loop-i l =
    (length l.w ≡ length l.initial.w) × (each_record l.size (set_where l.key l.at l.k l.old l.new) l.initial.w l.n ≡ changing l.size (set_where l.key l.at l.k l.old l.new) l.n l.w l.i)
