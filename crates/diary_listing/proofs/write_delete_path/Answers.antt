-- `write_delete_path` meets its contract: nothing where the id is ABSENT, and else the file's path.
use mathlib.Core.Path.{sym, ◌∙◌}
use borrow.Author.Tests.{eqb-true, eqb-false}
use Rattle.layout.specs.Catalog.{absent}
use Rattle.diary_listing.proofs.Lines.{nothing_written, delete_path_room, delete_path_written}
use Rattle.diary_listing.proofs.write_delete_path.Goals as goal

pub returns-then-eq : goal.returns-then-eq
returns-then-eq c l = nothing_written _ _ _ _ (eqb-true _ absent (sym c.eq.ensures ∙ c.if-eq.true))

pub write_file_path-requires : goal.write_file_path-requires
write_file_path-requires c =
    let l = c.requires.0 in
    (l, delete_path_room _ _ (eqb-false _ absent (sym c.eq.ensures ∙ c.if-eq.false)) (c.requires.1 l))

pub returns : goal.returns
returns c l =
    delete_path_written _ _ (eqb-false _ absent (sym c.eq.ensures ∙ c.if-eq.false)) (c.write_file_path.ensures l)
