-- `columns_fit` meets its contract: a whole argument is judged column by column, then name against name.
use mathlib.Core.Path.{sym, ◌∙◌}
use Rattle.table_creation.proofs.Fits.{whole_lent, columns_ragged, columns_judged}
use Rattle.table_creation.proofs.columns.columns_fit.Goals as goal

pub returns-then-not-whole : goal.returns-then-not-whole
returns-then-not-whole c table = columns_ragged table _ _ (sym c.columns_are_whole-whole.ensures ∙ c.if-not-whole.true)

pub each_column_fits-formed-requires : goal.each_column_fits-formed-requires
each_column_fits-formed-requires c = whole_lent _ _ (sym c.columns_are_whole-whole.ensures ∙ c.if-not-whole.false) c.column_count-n.ensures

pub names_are_apart-apart-requires : goal.names_are_apart-apart-requires
names_are_apart-apart-requires c =
    (whole_lent _ _ (sym c.columns_are_whole-whole.ensures ∙ c.if-not-whole.false) c.column_count-n.ensures).named

pub returns : goal.returns
returns c table =
    columns_judged table _ _ (sym c.columns_are_whole-whole.ensures ∙ c.if-not-whole.false) c.column_count-n.ensures (c.each_column_fits-formed.ensures table)
    (c.names_are_apart-apart.ensures table c.args.columns.now)
