-- `is_named` meets its contract: a name that is too long is the name of no place.
use mathlib.Core.Path.{sym}
use Rattle.layout.proofs.Names.{too_long}
use Rattle.names.proofs.is_named.Goals as goal

pub returns-then-name-gt-NAME_SIZE : goal.returns-then-name-gt-NAME_SIZE
returns-then-name-gt-NAME_SIZE c =
    sym (too_long c.args.names.now c.args.i c.args.name.now c.if-name-gt-NAME_SIZE.true)
