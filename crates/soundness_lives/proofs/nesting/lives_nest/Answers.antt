-- `lives_nest` meets its contract: it is the test of each table.
use mathlib.Core.Path.{ap₂}
use mathlib.Core.Bool.{◌&&◌}
use Rattle.layout.specs.Words.{load}
use Rattle.ducklake.specs.Soundness.{lives_nest}
use Rattle.soundness_lives.proofs.nesting.lives_nest.Goals as goal

pub returns : goal.returns
unfolding lives_nest load
returns c w e₁ e₂ e₃ e₄ e₅ =
    rw (e₁, e₂, e₃, e₄, e₅)
    (ap₂ ◌&&◌ (ap₂ ◌&&◌ (ap₂ ◌&&◌ (c.tables_nest-a.ensures w.schema_names w.table_names) (c.columns_nest-b.ensures w.table_names w.column_names))
    (c.data_files_nest-c.ensures w.table_names)) (c.delete_files_nest-d.ensures w.positions))
